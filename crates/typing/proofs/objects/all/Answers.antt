use Rattle.std.proofs.Common.{◌≡◌, ◌≤◌, ◌∙◌, [], ◌++◌, map, length, ap, arith}
use Rattle.typing.specs.Walk.{found, found_by, nothing}
use Rattle.task.specs.TaskParts as parts
use Rattle.typing.specs.TypedLists.{declared_of}
use Rattle.typing.specs.Scope.{keys_in}
use Rattle.model.specs.Typing as typing
use Rattle.std.proofs.lemmas.List.{length-map}
use Rattle.typing.proofs.Found as finding
use Rattle.typing.proofs.Reports as printing
use Rattle.typing.proofs.Empty as empty
use Rattle.typing.proofs.objects.all.Goals as goal

pub returns : goal.returns
returns c =
    let ys = map declared_of c.args.declared.now in
    let names = keys_in c.args.types.now.by_name.entries in
    let objects = c.in_ok-objects.objects in
    let faults = typing.objects_faults names ys in
    let unknown = typing.type_faults names ys in
    let twice = typing.refused 16 (typing.repeated (typing.words_of ys)) in
    let many = typing.refused 25 (typing.one_after 65535 (typing.words_of ys)) in
    let whole = map (typing.object_in names) ys in
    let total : found_by c.limit.new.walk ≡ found nothing faults =
    finding.found_after nothing (found_by c.table.new.walk) _ (unknown ++ twice) many
    (finding.found_after nothing (found_by c.check_all.new.walk) _ unknown twice (c.in_ok-check_all.ensures ∙ ap (λ o. found o unknown) c.in_ok-walk.ensures) c.in_ok-objects.ensures.finds) c.limit.ensures in
    let table : faults ≡ [] → map parts.object_entry_of objects.entries ≡ whole =
    λ none. c.in_ok-objects.ensures.table (empty.not_refused 16 (typing.repeated (typing.words_of ys)) (empty.nil_right unknown twice (empty.nil_left (unknown ++ twice) many none))) in
    let few : faults ≡ [] → length objects.entries ≤ 65535 =
    λ none. let low = empty.within 25 65535 (typing.words_of ys) (empty.nil_right (unknown ++ twice) many none) in
    let count = ap length (table none) in
    omega (arith, count, low, length-map objects.entries parts.object_entry_of, length-map ys (typing.object_in names), length-map ys (λ (y : typing.Declared). typing.placed y.file y.name)) in
    record {
      ok = printing.given (λ m. (map parts.object_entry_of m.entries ≡ whole) × (length m.entries ≤ 65535)) objects faults _ total (λ none. (table none, few none)) c.finish.result c.finish.ensures.none;
      err = printing.reports_result faults _ total c.finish.result c.finish.ensures.some;
    }
