use Rattle.std.proofs.Common.{rules, ◌≡◌, ◌∙◌, ◌<◌, [], length, map, refl, sym, ap, subst, arith, to_z, of_z, w64}
use Rattle.std.specs.Prelude.{All}
use Rattle.std.specs.List.{filter_map}
use Rattle.std.proofs.lemmas.List.{take_all}
use Rattle.grounding.specs.Views.{numbered_of}
use Rattle.packed_state.specs.Packed.{bits_of}
use Rattle.packed_state.proofs.PackedLemmas.{length-set_of}
use Rattle.lower_bounds.specs.FairTables.{agreeing}
use Rattle.lower_bounds.specs.TableFunctions.{weight_at}
use Rattle.table_rows.specs.Fates.{IsLoss}
use Rattle.table_rows.specs.Placed.{PlacedLiteral, placed_of, placed_in}
use Rattle.table_rows.specs.Tables.{table_of}
use Rattle.table_rows.proofs.FateLemmas.{row-there}
use Rattle.table_rows.proofs.GivingLemmas.{most_given, given-more, given-range}
use Rattle.table_rows.proofs.MostLemmas.{or_nothing, greatest-is}
use Rattle.table_rows.proofs.PlacedLemmas.{all-within}
use Rattle.table_rows.proofs.indexed.IndexedTable.gives.Goals as goal

pub loop-row-init : goal.loop-row-init
loop-row-init c = record { wide = ap length c.in_ok-set.ensures ∙ length-set_of c.width.result [] ∙ c.width.ensures; most = refl }

pub overflow_cast-row : goal.overflow_cast-row
overflow_cast-row c =
    omega (arith, c.loop-row-test.true, c.row_count-row-end.ensures.rows, c.row_count-row-end.ensures.few)

pub raised_by-most-requires-clause-below : goal.raised_by-most-requires-clause-below
raised_by-most-requires-clause-below c =
    let t = c.args.self.now.table.now in
    let literals = map numbered_of c.args.literals.now in
    let placed : map placed_of c.as_slice.result.now ≡ filter_map (placed_in t.scope.items) literals =
    ap (map placed_of) c.as_slice.ensures.value ∙ c.in_ok-placed.ensures ∙ ap (λ scope. filter_map (placed_in scope) literals) c.scope.ensures in
    subst (All (λ (l : PlacedLiteral). l.place < length t.scope.items)) (sym placed) (all-within t.scope.items literals)

pub loop-row-preserved : goal.loop-row-preserved
loop-row-preserved c =
    let t = c.args.self.now.table.now in
    let table = table_of t in
    let literals = map numbered_of c.args.literals.now in
    let placed : map placed_of c.as_slice.result.now ≡ filter_map (placed_in t.scope.items) literals =
    ap (map placed_of) c.as_slice.ensures.value ∙ c.in_ok-placed.ensures ∙ ap (λ scope. filter_map (placed_in scope) literals) c.scope.ensures in
    let it = row-there table.rows c.loop-row.row (omega (arith, c.loop-row-test.true, c.row_count-row-end.ensures.rows)) in
    record {
      wide = c.raised_by-most.ensures.width;
      most = given-more t.scope.items t.rising table.rows literals c.args.place c.loop-row.row it.0 (bits_of c.raised_by-most.new.set) (map placed_of c.as_slice.result.now) c.loop-row.most c.raised_by-most.result
          placed it.1 (c.raised_by-most.ensures.set it.0 it.1) c.raised_by-most.ensures.width c.loop-row.invariant.most (c.raised_by-most.ensures.most it.0 it.1);
    }

pub returns-clause-value : goal.returns-clause-value
returns-clause-value c =
    let t = c.args.self.now.table.now in
    let table = table_of t in
    let literals = map numbered_of c.args.literals.now in
    let same : to_z w64 (of_z w64 c.or_nothing.result) ≡ c.or_nothing.result = search rules in
    same ∙ c.or_nothing.ensures ∙ ap or_nothing (c.loop-row.invariant.most
    ∙ ap (most_given t.scope.items t.rising table.rows literals c.args.place) (take_all c.loop-row.row table.rows (omega (arith, c.loop-row-test.false, c.row_count-row-end.ensures.rows))))
    ∙ sym (greatest-is (map (weight_at c.args.place) (agreeing literals table)))

pub returns-clause-range : goal.returns-clause-range
returns-clause-range c =
    let t = c.args.self.now.table.now in
    let table = table_of t in
    let literals = map numbered_of c.args.literals.now in
    let same : to_z w64 (of_z w64 c.or_nothing.result) ≡ c.or_nothing.result = search rules in
    let is = same ∙ c.or_nothing.ensures ∙ ap or_nothing (c.loop-row.invariant.most
    ∙ ap (most_given t.scope.items t.rising table.rows literals c.args.place) (take_all c.loop-row.row table.rows (omega (arith, c.loop-row-test.false, c.row_count-row-end.ensures.rows))))
    ∙ sym (greatest-is (map (weight_at c.args.place) (agreeing literals table))) in
    subst IsLoss (sym is) (given-range table literals c.args.place c.args.self.now.in_range)
