use Rattle.std.proofs.Common.{◌≡◌, ◌∙◌, [], map, ap, sym, subst}
use Rattle.pddl_tree.specs.Tree.{domain_of, problem_of, name_of}
use Rattle.task.specs.TaskParts.{task_of_parts}
use Rattle.task.specs.declared.parts.TaskParts.{TaskParts}
use Rattle.typing.specs.Task.{ReportsFaults, ReportsAll}
use Rattle.typing.specs.Declarations.{declared_faults, stated_faults_in, Starts}
use Rattle.typing.specs.Scope.{known_outside}
use Rattle.model.specs.Trees.{TaskFile, problem_file}
use Rattle.model.specs.Typing.{Known, action_faults, known_in_domain, known_in_problem, schema_in}
use Rattle.typing.proofs.Reports.{reports_here, reports_later}
use Rattle.typing.proofs.Tasks.{faults_by_parts, made_by_phases, names_in_domain, names_in_problem, IsMade}
use Rattle.typing.proofs.Costs.{is_some-map}
use Rattle.faults.proofs.Results.{passed_on}
use Rattle.typing.proofs.from_trees.made.Goals.{After-in_domain, In_ok-schemas, After-in_problem, After-is_some}
use Rattle.typing.proofs.from_trees.made.Goals as goal

-- the names visible in the domain
in_domain : (c : After-in_domain) → known_outside c.in_domain.result ≡ known_in_domain (domain_of c.args.domain.now)
in_domain c = c.in_domain.ensures.known ∙ names_in_domain (domain_of c.args.domain.now) (problem_of c.args.problem.now) c.in_ok-names.names c.in_ok-names.ensures.ok.1

no_action : (c : In_ok-schemas) → action_faults (known_in_domain (domain_of c.args.domain.now)) (domain_of c.args.domain.now).actions ≡ []
no_action c =
    ap (λ k. action_faults k (domain_of c.args.domain.now).actions)
    (sym (c.in_domain.ensures.known ∙ names_in_domain (domain_of c.args.domain.now) (problem_of c.args.problem.now) c.in_ok-names.names c.in_ok-names.ensures.ok.1))
    ∙ c.in_ok-schemas.ensures.ok.0

-- and in the problem
in_problem : (c : After-in_problem) → known_outside c.in_problem.result ≡ known_in_problem (domain_of c.args.domain.now) (problem_of c.args.problem.now)
in_problem c = c.in_problem.ensures.known ∙ names_in_problem (domain_of c.args.domain.now) (problem_of c.args.problem.now) c.in_ok-names.names c.in_ok-names.ensures.ok.1

pub returns-in_err-names-clause-reported : goal.returns-in_err-names-clause-reported
returns-in_err-names-clause-reported c =
    let d = domain_of c.args.domain.now in let p = problem_of c.args.problem.now in let e = c.in_err-names.field-0.0 in
    passed_on (ReportsFaults d p) c.from_residual.result e c.from_residual.ensures.1
    (subst (λ fs. ReportsAll fs e) (sym (faults_by_parts d p)) (reports_here (declared_faults d p) _ e c.in_err-names.ensures.err))

pub schemas-requires : goal.schemas-requires
schemas-requires c = c.in_domain.ensures.file

pub returns-in_err-schemas-clause-reported : goal.returns-in_err-schemas-clause-reported
returns-in_err-schemas-clause-reported c =
    let d = domain_of c.args.domain.now in let p = problem_of c.args.problem.now in let e = c.in_err-schemas.field-0.0 in
    let reported = subst (λ k. ReportsAll (action_faults k d.actions) e) (in_domain (goal.at.returns-in_err-schemas-clause-reported c).After-in_domain) c.in_err-schemas.ensures.err in
    passed_on (ReportsFaults d p) c.from_residual-in_err-schemas.result e c.from_residual-in_err-schemas.ensures.1
    (subst (λ fs. ReportsAll fs e) (sym (faults_by_parts d p))
    (reports_later (declared_faults d p) _ c.in_ok-names.ensures.ok.0 e (reports_here (action_faults (known_in_domain d) d.actions) _ e reported)))

pub returns-in_err-start-clause-reported : goal.returns-in_err-start-clause-reported
returns-in_err-start-clause-reported c =
    let d = domain_of c.args.domain.now in let p = problem_of c.args.problem.now in let e = c.in_err-start.field-0.0 in
    let known = in_problem (goal.at.returns-in_err-start-clause-reported c).After-in_problem in
    let none = no_action (goal.at.returns-in_err-start-clause-reported c).In_ok-schemas in
    let reported = subst (λ (v : TaskFile × Known). ReportsAll (stated_faults_in v.0 v.1 p) e) (λ i. (c.in_problem.ensures.file i, known i)) c.in_err-start.ensures.err in
    passed_on (ReportsFaults d p) c.from_residual-in_err-start.result e c.from_residual-in_err-start.ensures.1
    (subst (λ fs. ReportsAll fs e) (sym (faults_by_parts d p))
    (reports_later (declared_faults d p) _ c.in_ok-names.ensures.ok.0 e
    (reports_later (action_faults (known_in_domain d) d.actions) _ none e (reports_here (stated_faults_in problem_file (known_in_problem d p) p) [] e reported))))

abbrev parts_of : After-is_some → TaskParts
parts_of c = record {
  types = c.in_ok-names.names.types.by_name;
  objects = c.in_ok-names.names.objects.all;
  predicates = c.in_ok-names.names.predicates;
  functions = c.in_ok-names.names.functions;
  schemas = c.in_ok-schemas.schemas;
  init = c.in_ok-start.start.init;
  values = c.in_ok-start.start.values;
  goal = c.in_ok-start.start.goal.formula;
  goal_names = c.in_ok-start.start.goal.names;
  has_metric = c.is_some.result;
}

made : (c : After-is_some) → IsMade (domain_of c.args.domain.now) (problem_of c.args.problem.now) (task_of_parts (parts_of c))
made c =
    let d = domain_of c.args.domain.now in let p = problem_of c.args.problem.now in
    let names = c.in_ok-names.ensures.ok.1 in
    let domain = c.in_domain.ensures.known ∙ names_in_domain d p c.in_ok-names.names names in
    let problem = c.in_problem.ensures.known ∙ names_in_problem d p c.in_ok-names.names names in
    let start = subst (λ (v : TaskFile × Known). Starts v.0 v.1 p c.in_ok-start.start) (λ i. (c.in_problem.ensures.file i, problem i)) c.in_ok-start.ensures.ok in
    made_by_phases d p (parts_of c)
    (record {
      types = names.types.all;
      objects = names.objects.all;
      predicates = names.predicates;
      functions = names.functions;
      schemas = c.in_ok-schemas.ensures.ok.1 ∙ ap (λ k. map (schema_in k) d.actions) domain;
      init = start.init;
      values = start.values;
      goal = start.goal;
      metric = c.is_some.ensures ∙ sym (is_some-map name_of c.args.problem.now.metric);
    })
    c.in_ok-names.ensures.ok.0 (ap (λ k. action_faults k d.actions) (sym domain) ∙ c.in_ok-schemas.ensures.ok.0) start.right

pub from_parts-requires : goal.from_parts-requires
from_parts-requires c = record { few_types = c.in_ok-names.names.types.few; few_objects = c.in_ok-names.names.objects.few; well_typed = (made (goal.at.from_parts-requires c).After-is_some).typed }

pub returns-clause-well_typed : goal.returns-clause-well_typed
returns-clause-well_typed c = (made (goal.at.returns-clause-well_typed c).After-is_some).well_typed

pub returns-clause-task : goal.returns-clause-task
returns-clause-task c = c.from_parts.ensures.task ∙ (made (goal.at.returns-clause-task c).After-is_some).same

pub returns-clause-names : goal.returns-clause-names
returns-clause-names c = c.from_parts.ensures.names ∙ (λ i. record { actions = c.in_ok-schemas.ensures.names i; goal = c.in_ok-start.ensures.ok.goal_names i })
