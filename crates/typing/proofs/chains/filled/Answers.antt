use Rattle.std.proofs.Common.{◌≡◌, ◌∙◌, map, ap}
use Rattle.std.proofs.lemmas.Result.{IfOk-weaker}
use Rattle.task.specs.TaskParts as parts
use Rattle.typing.specs.TypedLists.{declared_of}
use Rattle.typing.specs.Scope.{keys_in}
use Rattle.typing.specs.Walk.{found, found_by, nothing}
use Rattle.model.specs.Typing as typing
use Rattle.typing.specs.Chains.{AreTypes, cycles}
use Rattle.typing.proofs.Reports as printing
use Rattle.typing.proofs.chains.filled.Goals as goal

pub fill-requires : goal.fill-requires
fill-requires c = c.args.names.few

pub returns : goal.returns
returns c =
    let names = keys_in c.args.names.by_name.entries in
    let xs = map declared_of c.args.declared.now in
    let parents = ap (map parts.type_of) c.as_slice-parents.ensures.value ∙ c.in_ok-list.ensures in
    let faults = cycles names xs in
    let total : found_by c.check_cycles.new.walk ≡ found nothing faults =
    c.in_ok-check_cycles.ensures ∙ ap (λ o. found o (typing.cycle_faults_from (map parts.type_of c.as_slice-parents.result.now) 1 xs)) c.in_ok-walk.ensures
    ∙ ap (λ ps. found nothing (typing.cycle_faults_from ps 1 xs)) parents in
    let types = c.in_ok-fill.ensures.types ∙ ap (λ ps. typing.types_from ps 0 names) parents in
    record {
      ok = IfOk-weaker c.finish.result _ (λ t. AreTypes names xs t.by_name.entries) (λ t h. record { right = h.0; names_are = h.1.0; types = h.1.1 })
          (printing.given (λ t. (keys_in t.by_name.entries ≡ names) × (map parts.type_entry_of t.by_name.entries ≡ typing.types_from (typing.parents_in names xs) 0 names)) _ faults _ total (λ none. (c.in_ok-fill.ensures.names, types)) c.finish.result c.finish.ensures.none);
      err = printing.reports_result faults _ total c.finish.result c.finish.ensures.some;
    }
