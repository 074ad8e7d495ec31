use Rattle.std.proofs.Common.{◌≡◌, ◌∙◌, [], ◌++◌, if◌then◌else◌, map, fold, ap}
use Rattle.std.specs.List.{list_any}
use Rattle.std.specs.Option.{option_map_or}
use Rattle.typing.specs.Scope.{keys_in}
use Rattle.typing.specs.Walk.{found, found_by, nothing}
use Rattle.task.specs.TaskParts as parts
use Rattle.pddl_tree.specs.Tree as read
use Rattle.model.specs.Trees as tree
use Rattle.model.specs.Trees.{problem_file}
use Rattle.model.specs.Typing as typing
use Rattle.typing.proofs.Empty as empty
use Rattle.typing.proofs.Found as finding
use Rattle.typing.proofs.Reports as printing
use Rattle.typing.proofs.Costs.{cost_declared, metric_faults, metric_reported}
use Rattle.typing.proofs.functions.functions.Goals as goal

pub returns : goal.returns
returns c =
    let d = read.domain_of c.args.domain.now in let p = read.problem_of c.args.problem.now in
    let functions = c.in_ok-functions.functions in let has = list_any (typing.is_same typing.total_cost) (typing.names_of_predicates (map parts.predicate_of functions.entries)) in
    -- the declarations, with the names of the types
    let declared : typing.declaration_faults _ (map read.predicate_of c.deref.result.now) ≡ typing.declaration_faults (typing.type_names d) d.functions =
    λ i. typing.declaration_faults (c.requires i) (map read.predicate_of (c.deref.ensures.value i)) in
    let is : has ≡ typing.declares_cost d =
    ap (list_any (typing.is_same typing.total_cost)) c.in_ok-functions.ensures.names
    ∙ ap (λ zs. list_any (typing.is_same typing.total_cost) (fold typing.with_name [] (map (λ (q : tree.Predicate). q.name) (map read.predicate_of zs)))) c.deref.ensures.value
    ∙ cost_declared (typing.type_names d) d.functions in
    let metric = metric_reported has c.as_ref.result c.args.problem.now.metric c.as_ref.ensures.value ∙ ap (λ b. metric_faults b p.metric) is in
    let total : found_by c.check_metric.new.walk ≡ found nothing (typing.function_faults d p) =
    finding.found_after (found_by c.in_ok-walk.walk) (found_by c.declared.new.walk) _
    (typing.declaration_faults (keys_in c.args.types.now.by_name.entries) (map read.predicate_of c.deref.result.now))
    (option_map_or (λ n. if has then [] else typing.refused_word problem_file 22 (read.name_of n.now)) c.as_ref.result []) c.in_ok-functions.ensures.finds c.check_metric.ensures
    ∙ (λ i. found (c.in_ok-walk.ensures i) (declared i ++ metric i)) in
    let table : typing.function_faults d p ≡ [] → map parts.predicate_of functions.entries ≡ typing.functions_of d =
    λ none. c.in_ok-functions.ensures.table (declared ∙ empty.nil_left (typing.declaration_faults (typing.type_names d) d.functions) (metric_faults (typing.declares_cost d) p.metric) none)
    ∙ (λ i. map (typing.predicate_in (c.requires i)) (map read.predicate_of (c.deref.ensures.value i))) in
    record {
      ok = printing.given (λ m. map parts.predicate_of m.entries ≡ typing.functions_of d) functions (typing.function_faults d p) _ total table c.finish.result c.finish.ensures.none;
      err = printing.reports_result (typing.function_faults d p) _ total c.finish.result c.finish.ensures.some;
    }
