use Rattle.std.proofs.Common.{◌∙◌, ap, map}
use Rattle.std.specs.List.{filter_map}
use Rattle.std.proofs.lemmas.List.{take_all}
use Rattle.grounding.specs.Views.{numbered_of}
use Rattle.table_rows.specs.Placed.{placed_of, placed_in}
use Rattle.table_rows.proofs.PlacedLemmas.{one-more}
use Rattle.table_rows.proofs.placed.placed.Goals as goal

pub loop-literal-preserved : goal.loop-literal-preserved
loop-literal-preserved c =
    one-more (placed_in c.args.scope.now) numbered_of c.args.literals.now c.loop-literal.literal-index _
    (map placed_of c.loop-literal.found.items) (map placed_of c.add_placed.new.found.items) c.loop-literal-test.true c.loop-literal.invariant c.in_ok-add_placed.ensures

pub returns : goal.returns
returns c =
    c.loop-literal.invariant ∙ ap (λ l. filter_map (placed_in c.args.scope.now) (map numbered_of l)) (take_all c.loop-literal.literal-index c.args.literals.now c.loop-literal-test.false)
