use mir.Facts.{Fits-lt-pow}
use Rattle.std.proofs.Common.{◌≡◌, ap, arith, pos, neg_ℤ, to_z, of_z, ◌+ℤ◌, ◌≤ℤ◌, ◌∙◌}
use Rattle.std.specs.Int.{w64}
use Rattle.std.proofs.lemmas.Int.{ints}
use Rattle.packed_state.proofs.NumberLemmas.{without_lowest, without_lowest_smaller}
use Rattle.potentials.specs.Words.{gained_in_word}
use Rattle.potentials.proofs.WordLemmas.{none_gained, lowest_gained, word-range}
use Rattle.potentials.proofs.words.gained_in_word.Goals.{After-gained_by-total}
use Rattle.potentials.proofs.words.gained_in_word.Goals as goal

pub rest-smaller : goal.rest-smaller
rest-smaller c = without_lowest_smaller c.rest.rest (omega (arith, c.rest-test.true)) (Fits-lt-pow c.rest.auto.rest-fits)

-- the range of the total after the next bit, and the gain of that bit
next_in : (c : After-gained_by-total) → (neg_ℤ (pos 277025390463) ≤ℤ (to_z w64 c.rest.total-bits +ℤ c.gained_by-total.result))
    × ((to_z w64 c.rest.total-bits +ℤ c.gained_by-total.result) ≤ℤ pos 277025390463) × (neg_ℤ (pos 2147483647) ≤ℤ c.gained_by-total.result) × (c.gained_by-total.result ≤ℤ pos 2147483647)
next_in c =
    let weights = c.args.weights.now in
    let whole = word-range weights c.args.first c.args.changed c.args.after c.requires.range in
    let rest = word-range weights c.args.first c.rest.rest c.args.after c.requires.range in
    let whole_low = whole.0 in
    let whole_high = whole.1 in
    let rest_low = rest.0 in
    let rest_high = rest.1 in
    let is = c.rest.invariant in
    let r = c.gained_by-total.ensures.range in
    let least = r.least in
    let most = r.most in
    (omega (arith, ints), omega (arith, ints), omega (arith, ints), omega (arith, ints))

pub overflow_add-total : goal.overflow_add-total
overflow_add-total c =
    let (low, high, least, most) = next_in (goal.at.overflow_add-total c).After-gained_by-total in
    omega (arith, ints)

pub rest-preserved : goal.rest-preserved
rest-preserved c =
    let weights = c.args.weights.now in
    let (low, high, least, most) = next_in (goal.at.rest-preserved c).After-gained_by-total in
    let more = lowest_gained weights c.args.first c.rest.rest c.args.after c.gained_by-total.result (omega (arith, c.rest-test.true)) (Fits-lt-pow c.rest.auto.rest-fits) c.gained_by-total.ensures.value in
    let sum : to_z w64 (of_z w64 (to_z w64 c.rest.total-bits +ℤ to_z w64 (of_z w64 c.gained_by-total.result))) ≡ (to_z w64 c.rest.total-bits +ℤ c.gained_by-total.result) = omega (arith, ints) in
    let left = gained_in_word weights c.args.first (without_lowest c.rest.rest) c.args.after in
    let is = c.rest.invariant in
    ap (λ z. z +ℤ left) sum ∙ omega (arith, ints)

pub returns : goal.returns
returns c =
    let none = none_gained c.args.weights.now c.args.first c.args.after in
    let left = ap (λ word. gained_in_word c.args.weights.now c.args.first word c.args.after) c.rest-test.false in
    let is = c.rest.invariant in
    omega (arith, ints)
