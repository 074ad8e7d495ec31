use Rattle.std.proofs.Common.{◌∙◌, ap, sym, map, Some}
use Rattle.std.proofs.lemmas.List.{take_all}
use Rattle.std.proofs.lemmas.Option.{slice_get-get_or}
use Rattle.grounding.specs.Changes.{conditional_of}
use Rattle.table_rows.specs.PlacedChanges.{when_of}
use Rattle.table_rows.proofs.PlacingLemmas.{more-at, other_whens, whens-append}
use Rattle.table_rows.proofs.placing.whens.Goals as goal

pub loop-change-preserved : goal.loop-change-preserved
loop-change-preserved c =
    let at = slice_get-get_or c.args.changes.now c.loop-change.change-index c.change-item.result c.loop-change-test.true ∙ ap Some (sym c.change-item.is) in
    more-at (other_whens c.args.scope.now c.args.added.now) (whens-append c.args.scope.now c.args.added.now) conditional_of c.args.changes.now c.loop-change.change-index c.change-item.result
    (map when_of c.loop-change.found.items) (map when_of c.add_when.new.found.items) at c.loop-change.invariant c.in_ok-add_when.ensures

pub returns : goal.returns
returns c =
    c.loop-change.invariant ∙ ap (λ l. other_whens c.args.scope.now c.args.added.now (map conditional_of l)) (take_all c.loop-change.change-index c.args.changes.now c.loop-change-test.false)
