use Rattle.std.proofs.Common.{◌≡◌, ◌∙◌, [], ◌∷◌, map, ap, sym, subst}
use Rattle.faults.proofs.Results.{passed_on}
use Rattle.pddl_tree.specs.Tree.{domain_of, problem_of}
use Rattle.typing.proofs.Reports.{reports_here, reports_later}
use Rattle.typing.specs.Declarations.{declared_faults, type_faults_of}
use Rattle.typing.specs.Task.{ReportsAll}
use Rattle.typing.proofs.ListedLemmas.{no_object, objects_named}
use Rattle.model.specs.Typing.{declaration_faults, declared_objects, first_filled, function_faults, object_faults, objects_faults, predicate_in, type_names}
use Rattle.typing.proofs.names.Names.declared.Goals.{In_ok-predicates}
use Rattle.typing.proofs.names.Names.declared.Goals as goal

no_predicate : (c : In_ok-predicates) → declaration_faults (type_names (domain_of c.args.domain.now)) (domain_of c.args.domain.now).predicates ≡ []
no_predicate c = sym (ap (λ ns. declaration_faults ns (domain_of c.args.domain.now).predicates) c.in_ok-types.ensures.ok.1.names) ∙ c.in_ok-predicates.ensures.ok.0

pub returns-in_err-types-clause-err : goal.returns-in_err-types-clause-err
returns-in_err-types-clause-err c =
    let d = domain_of c.args.domain.now in let p = problem_of c.args.problem.now in let e = c.in_err-types.field-0.0 in
    passed_on (ReportsAll (declared_faults d p)) c.from_residual.result e c.from_residual.ensures.1 (reports_here (type_faults_of d p) _ e c.in_err-types.ensures.err)

pub returns-in_err-objects-clause-err : goal.returns-in_err-objects-clause-err
returns-in_err-objects-clause-err c =
    let d = domain_of c.args.domain.now in let p = problem_of c.args.problem.now in let e = c.in_err-objects.field-0.0 in
    let reported = subst (λ ns. ReportsAll (objects_faults ns (declared_objects d p)) e) c.in_ok-types.ensures.ok.1.names c.in_err-objects.ensures.err in
    passed_on (ReportsAll (declared_faults d p)) c.from_residual-in_err-objects.result e c.from_residual-in_err-objects.ensures.1
    (reports_later (type_faults_of d p) _ c.in_ok-types.ensures.ok.0 e (reports_here (object_faults d p) _ e reported))

pub returns-in_err-predicates-clause-err : goal.returns-in_err-predicates-clause-err
returns-in_err-predicates-clause-err c =
    let d = domain_of c.args.domain.now in let p = problem_of c.args.problem.now in let e = c.in_err-predicates.field-0.0 in
    let names = c.in_ok-types.ensures.ok.1.names in
    let reported = subst (λ ns. ReportsAll (declaration_faults ns d.predicates) e) names c.in_err-predicates.ensures.err in
    passed_on (ReportsAll (declared_faults d p)) c.from_residual-in_err-predicates.result e c.from_residual-in_err-predicates.ensures.1
    (reports_later (type_faults_of d p) _ c.in_ok-types.ensures.ok.0 e
    (reports_later (object_faults d p) _ (no_object c.in_ok-objects.ensures.ok names) e (reports_here (declaration_faults (type_names d) d.predicates) _ e reported)))

pub functions-requires : goal.functions-requires
functions-requires c = c.in_ok-types.ensures.ok.1.names

pub returns-in_err-functions-clause-err : goal.returns-in_err-functions-clause-err
returns-in_err-functions-clause-err c =
    let s = (goal.at.returns-in_err-functions-clause-err c).In_ok-predicates in
    let d = domain_of c.args.domain.now in let p = problem_of c.args.problem.now in let e = c.in_err-functions.field-0.0 in
    let names = c.in_ok-types.ensures.ok.1.names in
    passed_on (ReportsAll (declared_faults d p)) c.from_residual-in_err-functions.result e c.from_residual-in_err-functions.ensures.1
    (reports_later (type_faults_of d p) _ c.in_ok-types.ensures.ok.0 e
    (reports_later (object_faults d p) _ (no_object c.in_ok-objects.ensures.ok names) e
    (reports_later (declaration_faults (type_names d) d.predicates) _ (no_predicate s) e (reports_here (function_faults d p) [] e c.in_err-functions.ensures.err))))

pub returns-clause-ok : goal.returns-clause-ok
returns-clause-ok c =
    let s = (goal.at.returns-clause-ok c).In_ok-predicates in
    let d = domain_of c.args.domain.now in
    let types = c.in_ok-types.ensures.ok.1 in (
      λ i. first_filled (c.in_ok-types.ensures.ok.0 i ∷ no_object c.in_ok-objects.ensures.ok types.names i ∷ no_predicate s i ∷ c.in_ok-functions.ensures.ok.0 i ∷ []),
      record {
        types = types;
        objects = objects_named c.in_ok-objects.ensures.ok types.names;
        predicates = c.in_ok-predicates.ensures.ok.1 ∙ ap (λ ns. map (predicate_in ns) d.predicates) types.names;
        functions = c.in_ok-functions.ensures.ok.1;
      },
    )
