use Rattle.std.proofs.Common.{◌≡◌, ◌+◌, ◌*◌, ℤ, pos, neg_ℤ, ◌+ℤ◌, ◌≤ℤ◌, to_z, get_or, length, refl, ap, arith}
use Rattle.std.specs.Int.{w64}
use Rattle.std.proofs.lemmas.Int.{ints}
use Rattle.packed_state.specs.Packed.{bits_of}
use Rattle.lower_bounds.specs.PotentialFunctions.{sum_below, given}
use Rattle.potentials.specs.Words.{gained_in_word}
use Rattle.potentials.proofs.WordLemmas.{word-given, word-range, given-past, so_far-range}
use Rattle.potentials.proofs.potentials.Potentials.score.Goals as goal
use Rattle.potentials.proofs.potentials.Potentials.score.Goals.{After-gained_in_word-total}

-- the total after the next word, and its range
abbrev next : After-gained_in_word-total → ℤ
next c = c.args.self.now.constant +ℤ sum_below (64 * (c.words.place + 1)) (given c.args.self.now.weights.items (bits_of c.args.state.now))

next_is : (c : After-gained_in_word-total) → ((to_z w64 c.words.total-bits +ℤ c.gained_in_word-total.result) ≡ next c) × (neg_ℤ (pos 137438953408) ≤ℤ c.gained_in_word-total.result)
    × (c.gained_in_word-total.result ≤ℤ pos 137438953408) × (neg_ℤ (pos (2147483647 * (c.width.result + 1))) ≤ℤ next c) × (next c ≤ℤ pos (2147483647 * (c.width.result + 1)))
next_is c =
    let p = c.args.self.now in
    let weights = p.weights.items in
    let bits = bits_of c.args.state.now in
    let word = get_or c.words-words.result.now c.words.place 0 in
    let gained = ap (λ l. gained_in_word l (c.words.place * 64) word word) c.deref.ensures.value in
    let more = word-given (length bits) c.words-words.result.now weights bits c.words-words.ensures.packed c.words-words.ensures.bits c.words.place in
    let is = c.words.invariant in
    let small = word-range weights (c.words.place * 64) word word p.weights_in_range in
    let low = small.0 in
    let high = small.1 in
    let range = so_far-range p.constant weights bits (64 * (c.words.place + 1)) _ p.constant_in_range p.weights_in_range refl in
    let least = range.0 in
    let most = range.1 in
    (omega (arith, ints), omega (arith, ints), omega (arith, ints), omega (arith, ints, c.width.ensures), omega (arith, ints, c.width.ensures))

pub overflow_add-total : goal.overflow_add-total
overflow_add-total c =
    let (is, low, high, least, most) = next_is (goal.at.overflow_add-total c).After-gained_in_word-total in
    let few = c.width.type_inv in
    omega (arith, ints)

pub words-preserved : goal.words-preserved
words-preserved c =
    let (is, low, high, least, most) = next_is (goal.at.words-preserved c).After-gained_in_word-total in
    let few = c.width.type_inv in
    omega (arith, ints)

pub returns : goal.returns
returns c =
    let weights = c.args.self.now.weights.items in
    let bits = bits_of c.args.state.now in
    let is = c.words.invariant in
    let enough = c.words-words.ensures.packed.enough in
    let all = given-past weights bits (64 * c.words.place) (omega arith) in
    omega (arith, ints)
