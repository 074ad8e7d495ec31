use Rattle.std.proofs.Common.{ap, map, subst, sym}
use Rattle.task.specs.TaskParts.{object_of, formula_of}
use Rattle.formulas.specs.State.{FitsFormula}
use Rattle.grounding.specs.declared.changes.ChangeCondition.{ChangeCondition}
use Rattle.grounding.specs.Changes.{guard_of_condition, guard_in}
use Rattle.grounding.specs.Ground.{task_in}
use Rattle.grounding.proofs.ground.Ground.is_met.Goals as goal

pub holds_in-requires-clause-fits : goal.holds_in-requires-clause-fits
holds_in-requires-clause-fits c =
    let t = task_in c.args.self.now in
    let under = c.in-Some.under in
    let fits : FitsFormula t (formula_of under.value.formula.now) (map object_of under.value.binding.items) = c.requires.fits (guard_of_condition under) (ap guard_in c.in-Some.is) in
    subst (λ (u : ChangeCondition). FitsFormula t (formula_of u.formula.now) (map object_of c.deref-in-Some-2.result.now.binding.items)) (sym c.deref-in-Some.ensures)
    (subst (λ (u : ChangeCondition). FitsFormula t (formula_of under.value.formula.now) (map object_of u.binding.items)) (sym c.deref-in-Some-2.ensures) fits)
