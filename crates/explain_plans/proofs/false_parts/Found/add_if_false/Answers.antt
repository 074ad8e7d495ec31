use Rattle.std.proofs.Common.{arith, List, sym, ◌∙◌, ap, subst, map, length, ◌≡◌, true, refl}
use Rattle.task.specs.declared.atoms.ObjectId.{ObjectId}
use Rattle.explain_plans.specs.declared.false_parts.Part as part
use Rattle.task.specs.Task.{task_of}
use Rattle.task.specs.TaskParts.{object_of, formula_of}
use Rattle.formulas.specs.State.{state_of, FitsFormula}
use Rattle.task.specs.Names.{names_in}
use Rattle.explain_plans.proofs.FoundLemmas.{as_part, finds_no_room, finds_itself}
use Rattle.explain_plans.proofs.false_parts.Found.add_if_false.Goals as goal

pub returns-then-len-eq-MOST_REPORTED : goal.returns-then-len-eq-MOST_REPORTED
returns-then-len-eq-MOST_REPORTED c =
    let old = c.args.self.now in
    let count : c.len.result ≡ length old.parts.items = omega (arith, c.len.ensures, old.parts.ok.0) in
    finds_no_room (task_of c.args.context.task.now) (state_of c.args.context.state.now) (formula_of c.args.formula.now) (map object_of c.args.context.objects.now.items) (names_in c.args.context.names.now)
    old (record { parts = old.parts; more = true }) (sym c.holds.ensures ∙ c.if-holds.false) refl refl (sym count ∙ c.if-len-eq-MOST_REPORTED.true)

pub returns : goal.returns
returns c =
    let task = task_of c.args.context.task.now in
    let formula = formula_of c.args.formula.now in
    let old = c.args.self.now in
    let count : c.len.result ≡ length old.parts.items = omega (arith, c.len.ensures, old.parts.ok.0) in
    let p : part.Part = record { formula = c.args.formula; objects = c.copied.result; names = c.args.context.names } in
    finds_itself task (state_of c.args.context.state.now) formula (map object_of c.args.context.objects.now.items) (names_in c.args.context.names.now)
    p old (record { parts = c.push.new.self; more = old.more }) (sym c.holds.ensures ∙ c.if-holds.false)
    (ap (λ (l : List ObjectId). as_part formula (map object_of l) (names_in c.args.context.names.now)) c.copied.ensures)
    c.in_ok-push.ensures.items refl (λ e. c.if-len-eq-MOST_REPORTED.false (count ∙ e))
    (subst (λ (l : List ObjectId). FitsFormula task formula (map object_of l)) (sym c.copied.ensures) c.requires)
