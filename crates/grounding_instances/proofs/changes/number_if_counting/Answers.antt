use Rattle.std.proofs.Common.{◌∙◌, refl, map, sym, subst}
use Rattle.task.specs.Task.{task_of}
use Rattle.task.specs.TaskParts.{atom_of}
use Rattle.formulas.specs.Effects.{change_of}
use Rattle.grounding_instances.specs.KeptNumbers.{IsNumberOf}
use Rattle.grounding_instances.proofs.KeptLemmas.{adds-one, adds-none}
use Rattle.grounding_instances.proofs.changes.number_if_counting.Goals as goal

pub returns-then-not-counts-clause-found : goal.returns-then-not-counts-clause-found
returns-then-not-counts-clause-found c =
    adds-none (task_of c.args.statics.now.task.now) (change_of c.args.change.now) (map atom_of c.args.atoms.now.keys) c.args.found.now.items c.args.found.now.items (sym c.counts.ensures ∙ c.if-not-counts.true) refl

pub returns-clause-found : goal.returns-clause-found
returns-clause-found c =
    let atoms = map atom_of c.number.new.atoms.keys in
    adds-one (task_of c.args.statics.now.task.now) (change_of c.args.change.now) atoms
    (record { atom = c.in_ok-atom.atom; value = c.is_addition-value.result; guard = c.in_ok-guard.guard }) c.args.found.now.items c.push.new.self.items (sym c.counts.ensures ∙ c.if-not-counts.false)
    (subst (λ a. IsNumberOf atoms a c.in_ok-atom.atom) c.changed_atom.ensures c.in_ok-atom.ensures.number) c.is_addition-value.ensures c.in_ok-guard.ensures c.in_ok-push.ensures.items
