use Rattle.std.proofs.Common.{◌≡◌, ◌∙◌, [], ◌∷◌, ap, sym, subst}
use Rattle.std.specs.List.{flat_map}
use Rattle.pddl_tree.specs.Tree.{problem_of}
use Rattle.typing.specs.Task.{file_of, ReportsAll}
use Rattle.typing.specs.Scope.{known_outside, known_over, narrow_atoms_in}
use Rattle.typing.specs.Declarations.{stated_faults_in}
use Rattle.model.specs.Typing.{init_faults, formula_faults, first_filled, values_after}
use Rattle.typing.proofs.Reports.{reports_here, reports_later}
use Rattle.faults.proofs.Results.{passed_on}
use Rattle.typing.proofs.names.Start.stated_in.Goals.{After-new-variables}
use Rattle.typing.proofs.names.Start.stated_in.Goals as goal

-- no variable is in scope
outside : (c : After-new-variables) → known_over c.args.globals.now c.new-variables.result.entries ≡ known_outside c.args.globals.now
outside c = ap (known_over c.args.globals.now) c.new-variables.ensures.empty

pub returns-in_err-init-clause-err : goal.returns-in_err-init-clause-err
returns-in_err-init-clause-err c =
    let p = problem_of c.args.problem.now in let file = file_of c.args.globals.now.file in let known = known_outside c.args.globals.now in let e = c.in_err-init.field-0.0 in
    let is = outside (goal.at.returns-in_err-init-clause-err c).After-new-variables in
    passed_on (ReportsAll (stated_faults_in file known p)) c.from_residual.result e c.from_residual.ensures.1
    (reports_here (init_faults file known p.init) _ e (subst (λ k. ReportsAll (init_faults file k p.init) e) is c.in_err-init.ensures.err))

pub returns-in_err-goal-clause-err : goal.returns-in_err-goal-clause-err
returns-in_err-goal-clause-err c =
    let p = problem_of c.args.problem.now in let file = file_of c.args.globals.now.file in let known = known_outside c.args.globals.now in let e = c.in_err-goal.field-0.0 in
    let is = outside (goal.at.returns-in_err-goal-clause-err c).After-new-variables in
    let none = ap (λ k. init_faults file k p.init) (sym is) ∙ c.in_ok-init.ensures.ok.0 in
    passed_on (ReportsAll (stated_faults_in file known p)) c.from_residual-in_err-goal.result e c.from_residual-in_err-goal.ensures.1
    (reports_later (init_faults file known p.init) _ none e (reports_here (formula_faults file known p.goal) [] e c.in_err-goal.ensures.err))

pub returns-clause-ok : goal.returns-clause-ok
returns-clause-ok c =
    let p = problem_of c.args.problem.now in let file = file_of c.args.globals.now.file in
    let is = outside (goal.at.returns-clause-ok c).After-new-variables in
    let none = ap (λ k. init_faults file k p.init) (sym is) ∙ c.in_ok-init.ensures.ok.0 in
    record {
      right = λ i. first_filled (none i ∷ c.in_ok-goal.ensures.ok.0 i ∷ []);
      init = c.in_ok-init.ensures.ok.1.0 ∙ ap (λ k. flat_map (narrow_atoms_in k) p.init) is;
      values = c.in_ok-init.ensures.ok.1.1 ∙ ap (λ k. values_after k [] p.init) is;
      goal = c.in_ok-goal.ensures.ok.1;
      goal_names = c.in_ok-goal.ensures.names;
    }
