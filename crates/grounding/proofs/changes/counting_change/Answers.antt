use Rattle.std.proofs.Common.{◌≡◌, ◌∙◌, None, Some, ap, map, subst, sym}
use Rattle.task.specs.TaskParts.{object_of, formula_of}
use Rattle.formulas.specs.State.{FitsFormula}
use Rattle.grounding_instances.specs.Numbering.{task_in, atoms_in}
use Rattle.grounding_instances.specs.declared.changes.Guard as code
use Rattle.grounding_instances.specs.KeptChanges.{guard_in}
use Rattle.grounding.specs.NumberedEffects.{Guard}
use Rattle.grounding.specs.Changes.{IsCompiled}
use Rattle.grounding.proofs.changes.counting_change.Goals.{in-Some+in_ok-compiled-in-Some, in-None}
use Rattle.grounding.proofs.changes.counting_change.Goals as goal

pub compiled-requires : goal.compiled-requires
compiled-requires c =
    let t = task_in c.args.numbering.now in
    let guard = c.in-Some.guard in
    let fits : FitsFormula t (formula_of guard.value.formula.now) (map object_of guard.value.binding.items) =
    c.requires (record { formula = formula_of guard.value.formula.now; binding = map object_of guard.value.binding.items }) (ap guard_in c.in-Some.is) in
    subst (λ (u : code.Guard). FitsFormula t (formula_of u.formula.now) (map object_of c.deref-in-Some.result.now.binding.items)) (sym c.deref.ensures)
    (subst (λ (u : code.Guard). FitsFormula t (formula_of guard.value.formula.now) (map object_of u.binding.items)) (sym c.deref-in-Some.ensures) fits)

pub returns-clause-compiled : goal.returns-clause-compiled
returns-clause-compiled c =
    let n = c.args.numbering.now in
    elim c.match-change.branch [
      | in-Some+in_ok-compiled-in-Some w ↦ subst (IsCompiled (task_in n) (atoms_in n)) (sym w.condition-is) w.in_ok-compiled-in-Some.ensures.compiled
      | in-None w ↦ λ d is. let never : None ≡ Some d = sym w.condition-is ∙ is in absurd (cc)
    ]
