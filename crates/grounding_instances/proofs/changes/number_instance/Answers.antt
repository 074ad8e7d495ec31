use Rattle.std.proofs.Common.{◌≡◌, ◌∙◌, ◌++◌, ◌∷◌, ◌-◌, [], ap, map, length, length-append, subst, arith}
use Rattle.std.specs.Prelude.{filter}
use Rattle.std.proofs.lemmas.List.{length-map}
use Rattle.task.specs.Task.{task_of}
use Rattle.task.specs.TaskParts.{atom_of}
use Rattle.formulas.specs.State.{instance_of}
use Rattle.formulas.specs.Effects.{change_of}
use Rattle.model.specs.Meaning.{changes_of_instance}
use Rattle.model.specs.StaticallyFalse.{counts}
use Rattle.model.specs.NumberedAtoms.{with_atoms, touched_by}
use Rattle.grounding_instances.specs.Atoms.{atoms_changed}
use Rattle.grounding_instances.specs.NumberedEffects.{counted_effects}
use Rattle.grounding_instances.specs.KeptChanges.{effect_of}
use Rattle.grounding_instances.proofs.ChangesFit.{all-fit}
use Rattle.grounding_instances.proofs.KeptLemmas.{kept-more}
use Rattle.grounding_instances.proofs.changes.number_instance.Goals as goal

pub number_counting-requires-clause-fit : goal.number_counting-requires-clause-fit
number_counting-requires-clause-fit c =
    all-fit (task_of c.args.statics.now.task.now) c.args.statics.now.task.now.well_typed (instance_of c.args.instance.now) c.requires.instance (map change_of c.as_slice.result.now)
    (ap (map change_of) c.as_slice.ensures.value ∙ c.in_ok-changes.ensures)

-- there are at least as many changes as before
pub end_instance-requires : goal.end_instance-requires
end_instance-requires c =
    omega (
      arith,
      ap length (c.in_ok-number_counting.ensures.found []),
      length-append (map effect_of c.args.kept.now.changes.items) (counted_effects (task_of c.args.statics.now.task.now) (with_atoms (map atom_of c.number_counting.new.atoms.keys) []) (map change_of c.as_slice.result.now)),
      length-map c.number_counting.new.found.items effect_of,
      length-map c.args.kept.now.changes.items effect_of,
      c.len-begin.ensures,
      c.args.kept.now.changes.ok.0,
    )

pub returns-clause-kept : goal.returns-clause-kept
returns-clause-kept c keeps before kept =
    let t = task_of c.args.statics.now.task.now in
    let i = instance_of c.args.instance.now in
    let old = c.args.kept.now in
    let found = c.number_counting.new.found.items in
    let first = map atom_of c.args.atoms.now.keys in
    let same : map change_of c.as_slice.result.now ≡ changes_of_instance t i = ap (map change_of) c.as_slice.ensures.value ∙ c.in_ok-changes.ensures in
    let long : c.len-begin.result ≡ length old.changes.items = omega (arith, c.len-begin.ensures, old.changes.ok.0) in
    let numbered : map atom_of c.number_counting.new.atoms.keys ≡ with_atoms first (touched_by t i) = c.in_ok-number_counting.ensures.numbered ∙ ap (λ l. with_atoms first (atoms_changed (filter (counts t) l))) same in
    let counted = subst (λ n. c.end_instance.new.self.counts.items ≡ old.counts.items ++ (length found - n) ∷ []) long (c.in_ok-end_instance.ensures.counts keeps) in
    kept-more t first (map atom_of c.number_counting.new.atoms.keys) (touched_by t i) before i (map change_of c.as_slice.result.now) old c.end_instance.new.self found
    numbered same c.in_ok-number_counting.ensures.found (c.in_ok-end_instance.ensures.changes keeps) counted kept
