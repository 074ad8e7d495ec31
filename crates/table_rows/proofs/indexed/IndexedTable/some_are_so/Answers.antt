use Rattle.std.proofs.Common.{◌∙◌, ◌<◌, List, Bool, map, sym, subst, arith}
use Rattle.std.specs.Prelude.{All}
use Rattle.std.specs.List.{list_all}
use Rattle.std.proofs.lemmas.List.{take_all}
use Rattle.model.proofs.ListLemmas.{Contains-got}
use Rattle.packed_state.specs.Packed.{bits_of}
use Rattle.packed_state.specs.PooledView.{pooled_states}
use Rattle.table_rows.proofs.RowLemmas.{length-rows}
use Rattle.table_rows.specs.Candidates.{candidates_of}
use Rattle.table_rows.specs.Placed.{PlacedLiteral, placed_of, is_so}
use Rattle.table_rows.proofs.AgreeingLemmas.{some-here}
use Rattle.table_rows.proofs.FateLemmas.{Contains-among}
use Rattle.table_rows.proofs.GivingLemmas.{NoneAreSo, none-yet, none-next, none-at-all}
use Rattle.table_rows.proofs.indexed.IndexedTable.some_are_so.Goals as goal

pub loop-k-init : goal.loop-k-init
loop-k-init c = record { wide = c.requires.width; none = none-yet (pooled_states c.args.self.now.table.now.rows.sets) (map placed_of c.args.literals.now) }

pub get-requires-clause-there : goal.get-requires-clause-there
get-requires-clause-there c =
    let t = c.args.self.now.table.now in
    let rows = candidates_of c.candidates-candidates.result in
    let below = c.candidates-candidates.ensures.within c.at.result (Contains-among rows c.at.result (Contains-got rows c.loop-k.k c.at.result c.at.ensures)) in
    omega (arith, below, length-rows t.count t.scope.items (pooled_states t.rows.sets) t.rows.weights.items)

pub all_are_so-requires : goal.all_are_so-requires
all_are_so-requires c = subst (λ width. All (λ (l : PlacedLiteral). l.place < width) (map placed_of c.args.literals.now)) (sym c.get.ensures.width) c.requires.below

pub returns-then-all_are_so : goal.returns-then-all_are_so
returns-then-all_are_so c =
    let test = λ (bits : List Bool). list_all (is_so bits) (map placed_of c.args.literals.now) in
    sym (some-here test (pooled_states c.args.self.now.table.now.rows.sets) c.at.result (bits_of c.get.new.set) c.get.ensures.set (sym c.all_are_so.ensures ∙ c.if-all_are_so.true))

pub loop-k-preserved : goal.loop-k-preserved
loop-k-preserved c = record {
  wide = c.get.ensures.width;
  none = none-next (pooled_states c.args.self.now.table.now.rows.sets) (map placed_of c.args.literals.now) (candidates_of c.candidates-candidates.result) c.loop-k.k c.at.result (bits_of c.get.new.set) c.at.ensures c.get.ensures.set
      (sym c.all_are_so.ensures ∙ c.if-all_are_so.false) c.loop-k.invariant.none;
}

pub returns : goal.returns
returns c =
    let sets = pooled_states c.args.self.now.table.now.rows.sets in
    let literals = map placed_of c.args.literals.now in
    let rows = candidates_of c.candidates-candidates.result in
    sym (none-at-all sets literals rows c.candidates-candidates.ensures
    (subst (NoneAreSo sets literals) (take_all c.loop-k.k rows (omega (arith, c.loop-k-test.false, c.len-k-end.ensures))) c.loop-k.invariant.none))
