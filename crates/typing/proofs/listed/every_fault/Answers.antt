use Rattle.std.proofs.Common.{◌∙◌, [], ◌∷◌, sym, subst}
use Rattle.std.proofs.lemmas.Result.{IfErr-weaker, on_ok_weaker}
use Rattle.faults.proofs.Results.{passed_on}
use Rattle.pddl_tree.specs.Tree.{domain_of, problem_of}
use Rattle.typing.proofs.Reports.{reports_here, reports_later}
use Rattle.typing.specs.Declarations.{declared_faults}
use Rattle.typing.specs.Listed.{faults_listed, use_faults}
use Rattle.typing.specs.Task.{ReportsAll}
use Rattle.typing.proofs.ListedLemmas.{listed_by_parts}
use Rattle.model.specs.Typing.{first_filled}
use Rattle.typing.proofs.listed.every_fault.Goals as goal

pub returns-in_err-names-clause-reported : goal.returns-in_err-names-clause-reported
returns-in_err-names-clause-reported c =
    let d = domain_of c.args.domain.now in let p = problem_of c.args.problem.now in let e = c.in_err-names.field-0.0 in
    passed_on (ReportsAll (faults_listed d p)) c.from_residual.result e c.from_residual.ensures.1
    (subst (λ fs. ReportsAll fs e) (sym (listed_by_parts d p)) (reports_here (declared_faults d p) _ e c.in_err-names.ensures.err))

pub uses-requires : goal.uses-requires
uses-requires c = c.in_ok-names.ensures.ok.1

pub returns-clause-none : goal.returns-clause-none
returns-clause-none c =
    let d = domain_of c.args.domain.now in let p = problem_of c.args.problem.now in
    on_ok_weaker c.uses.result (λ none. listed_by_parts d p ∙ (λ i. first_filled (c.in_ok-names.ensures.ok.0 i ∷ none i ∷ []))) c.uses.ensures.none

pub returns-clause-reported : goal.returns-clause-reported
returns-clause-reported c =
    let d = domain_of c.args.domain.now in let p = problem_of c.args.problem.now in
    IfErr-weaker c.uses.result _ (ReportsAll (faults_listed d p))
    (λ e reported.
    subst (λ fs. ReportsAll fs e) (sym (listed_by_parts d p)) (reports_later (declared_faults d p) _ c.in_ok-names.ensures.ok.0 e (reports_here (use_faults d p) [] e reported)))
    c.uses.ensures.reported
