use Rattle.std.proofs.Common.{◌≡◌, ◌∙◌, [], map, ap}
use Rattle.typing.specs.Walk.{found, found_by, nothing}
use Rattle.task.specs.TaskParts as parts
use Rattle.typing.specs.Scope.{keys_in}
use Rattle.pddl_tree.specs.Tree as read
use Rattle.model.specs.Typing as typing
use Rattle.typing.proofs.Reports as printing
use Rattle.typing.proofs.declarations.predicates.Goals as goal

pub returns : goal.returns
returns c =
    let ys = c.args.domain.now.predicates.items in
    let names = keys_in c.args.types.now.by_name.entries in
    let predicates = c.in_ok-predicates.predicates in
    let faults = typing.declaration_faults names (map read.predicate_of ys) in
    let whole = map (typing.predicate_in names) (map read.predicate_of ys) in
    let total : found_by c.declared.new.walk ≡ found nothing faults =
    c.in_ok-predicates.ensures.finds ∙ (λ i. found (c.in_ok-walk.ensures i) (typing.declaration_faults names (map read.predicate_of (c.deref.ensures.value i)))) in
    let table : faults ≡ [] → map parts.predicate_of predicates.entries ≡ whole =
    λ none. c.in_ok-predicates.ensures.table (ap (λ zs. typing.declaration_faults names (map read.predicate_of zs)) c.deref.ensures.value ∙ none)
    ∙ ap (λ zs. map (typing.predicate_in names) (map read.predicate_of zs)) c.deref.ensures.value in
    record {
      ok = printing.given (λ m. map parts.predicate_of m.entries ≡ whole) predicates faults _ total table c.finish.result c.finish.ensures.none;
      err = printing.reports_result faults _ total c.finish.result c.finish.ensures.some;
    }
