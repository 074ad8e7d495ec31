use Rattle.std.proofs.Common.{◌≡◌, ◌∙◌, ap, subst, sym}
use Rattle.typing.specs.Task.{file_of}
use Rattle.typing.specs.declared.scope.Globals.{Globals}
use Rattle.std.proofs.lemmas.Result.{IfOk-weaker}
use Rattle.typing.specs.declared.formulas.FormulaWithNames.{FormulaWithNames}
use Rattle.typing.specs.QuantifiedNames.{quantified_names}
use Rattle.typing.specs.Resolver.{file_in, known_to}
use Rattle.typing.specs.Scope.{known_outside, known_over, names_in}
use Rattle.typing.specs.Walk.{found, found_by, nothing}
use Rattle.task.specs.TaskParts as parts
use Rattle.pddl_tree.specs.Tree as read
use Rattle.model.specs.Typing as typing
use Rattle.typing.proofs.Reports as printing
use Rattle.typing.proofs.statements.goal.Goals as goal

pub returns : goal.returns
returns c =
    let g = c.args.globals.now in let file = file_of g.file in let known = known_outside g in
    let is_file : file_in c.new-resolver.result ≡ file = ap (λ (x : Globals). file_of x.file) c.new-resolver.ensures.globals in
    let is : known_to c.new-resolver.result ≡ known = λ i. known_over (c.new-resolver.ensures.globals i) (c.new-resolver.ensures.outside i) in
    let read_goal = read.formula_of c.args.problem.now.goal in
    let faults = typing.formula_faults file known read_goal in
    let total : found_by c.condition.new.resolver.walk ≡ found nothing faults =
    c.in_ok-goal.ensures.finds ∙ (λ i. found ((c.new-resolver.ensures.found ∙ c.in_ok-walk.ensures) i) (typing.formula_faults (is_file i) (is i) read_goal)) in
    record {
      ok = printing.given (λ (made : FormulaWithNames). parts.formula_of made.formula ≡ typing.formula_in file known read_goal) c.in_ok-goal.goal faults _ total (λ _. c.in_ok-goal.ensures.value ∙ (λ i. typing.formula_in (is_file i) (is i) read_goal)) c.finish.result c.finish.ensures.none;
      names = IfOk-weaker c.finish.result _ _ (λ (made : FormulaWithNames) is. subst (λ (one : FormulaWithNames). names_in one.names.items ≡ quantified_names read_goal) (sym is.0) c.in_ok-goal.ensures.names) c.finish.ensures.none;
      err = printing.reports_result faults _ total c.finish.result c.finish.ensures.some;
    }
