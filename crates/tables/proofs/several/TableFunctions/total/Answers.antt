use Rattle.std.proofs.Common.{◌≡◌, ◌<◌, ◌^◌, ◌≤ℤ◌, neg_ℤ, length, pos, get_or, refl, arith}
use Rattle.std.proofs.lemmas.Int.{ints}
use Rattle.std.proofs.lemmas.Option.{slice_get_read, get_or_from_slice_get}
use Rattle.tables.specs.AllTables.{tables_of, count_of}
use Rattle.tables.specs.Several.{state_of}
use Rattle.tables.proofs.RowSumsLemmas.{all-ranged, few-tables, totals-range}
use Rattle.tables.proofs.ValueLemmas.{scores-small}
use Rattle.tables.proofs.several.TableFunctions.total.Goals as goal
use Rattle.tables.proofs.several.TableFunctions.total.Goals.{After-index-2}

score-is : (c : After-index-2) → get_or c.args.known.now.scores.items c.args.place (pos 0) ≡ c.index.result.now
score-is c =
    let scores = c.args.known.now.scores.items in
    let within : c.args.place < length scores = omega (arith, c.requires.place, c.requires.known.scores.long, c.args.self.now.together.counts) in
    get_or_from_slice_get scores c.args.place c.index.result.now (pos 0) (slice_get_read scores (length scores) c.args.place c.index.result.now refl within c.index.ensures)

total-is : (c : After-index-2) → get_or c.args.known.now.rows.sums.totals.items c.args.place (pos 0) ≡ c.index-2.result.now
total-is c =
    let totals = c.args.known.now.rows.sums.totals.items in
    let within : c.args.place < length totals = omega (arith, c.requires.place, c.requires.known.rows.sums.long) in
    get_or_from_slice_get totals c.args.place c.index-2.result.now (pos 0) (slice_get_read totals (length totals) c.args.place c.index-2.result.now refl within c.index-2.ensures)

ranges : (c : After-index-2) → (neg_ℤ (pos 36028797018963968) ≤ℤ c.index.result.now) × (c.index.result.now ≤ℤ pos 36028797018963968) × (neg_ℤ (pos 36028797018963968) ≤ℤ c.index-2.result.now) × (c.index-2.result.now ≤ℤ pos 36028797018963968)
ranges c =
    let self = c.args.self.now in
    let known = c.args.known.now in
    let few : length (state_of known) < 2 ^ 24 = omega (arith, c.requires.known.width, self.together.few) in
    let scored = scores-small self (state_of known) known.scores.items c.args.place few c.requires.place c.requires.known.scores in
    let low = scored.0 in
    let high = scored.1 in
    let range = totals-range (tables_of self.tables) (count_of self.tables) c.args.place known.rows.sums (all-ranged self.tables) (few-tables self.tables) c.requires.place c.requires.known.rows.sums in
    let least = range.0 in
    let most = range.1 in
    let one = score-is c in
    let two = total-is c in
    (omega (arith, ints), omega (arith, ints), omega (arith, ints), omega (arith, ints))

pub overflow_add-result : goal.overflow_add-result
overflow_add-result c = let (low, high, least, most) = ranges (goal.at.overflow_add-result c).After-index-2 in omega (arith, ints)

pub returns-clause-total : goal.returns-clause-total
returns-clause-total c =
    let here = (goal.at.returns-clause-total c).After-index-2 in
    let (low, high, least, most) = ranges here in
    let one = score-is here in
    let two = total-is here in
    omega (arith, ints)

pub returns-clause-most : goal.returns-clause-most
returns-clause-most c = let (low, high, least, most) = ranges (goal.at.returns-clause-most c).After-index-2 in omega (arith, ints)
