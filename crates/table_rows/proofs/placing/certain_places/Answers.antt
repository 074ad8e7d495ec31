use Rattle.std.proofs.Common.{◌∙◌, ap, sym, map, Some}
use Rattle.std.specs.List.{filter_map}
use Rattle.std.proofs.lemmas.List.{take_all}
use Rattle.std.proofs.lemmas.Option.{slice_get-get_or}
use Rattle.grounding.specs.Changes.{counting_of}
use Rattle.table_rows.specs.Afters.{certain_place}
use Rattle.table_rows.proofs.PlacingLemmas.{more-at, certain-append}
use Rattle.table_rows.proofs.placing.certain_places.Goals as goal

pub loop-change-preserved : goal.loop-change-preserved
loop-change-preserved c =
    let at = slice_get-get_or c.args.changes.now c.loop-change.change-index c.change-item.result c.loop-change-test.true ∙ ap Some (sym c.change-item.is) in
    more-at (filter_map (certain_place c.args.scope.now c.args.value)) (certain-append c.args.scope.now c.args.value) counting_of c.args.changes.now c.loop-change.change-index c.change-item.result
    c.loop-change.found.items c.add_certain.new.found.items at c.loop-change.invariant c.in_ok-add_certain.ensures

pub returns : goal.returns
returns c =
    c.loop-change.invariant ∙ ap (λ l. filter_map (certain_place c.args.scope.now c.args.value) (map counting_of l)) (take_all c.loop-change.change-index c.args.changes.now c.loop-change-test.false)
