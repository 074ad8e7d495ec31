use Rattle.std.proofs.Common.{◌≡◌, ◌+◌, ◌*◌, ℤ, pos, neg_ℤ, ◌+ℤ◌, ◌≤ℤ◌, to_z, get_or, length, refl, ap, subst, arith}
use Rattle.std.specs.Int.{w64}
use Rattle.std.proofs.lemmas.Int.{ints}
use Rattle.std.specs.Int.Bits.{bit_xor}
use Rattle.packed_state.specs.Words.{bits_in, AreWordsOf}
use Rattle.packed_state.specs.Packed.{bits_of}
use Rattle.lower_bounds.specs.PotentialFunctions.{sum_below, given}
use Rattle.potentials.specs.Words.{gained_in_word}
use Rattle.potentials.proofs.WordLemmas.{word-gained, word-range, given-past, words-range}
use Rattle.potentials.proofs.potentials.Potentials.score_after.Goals.{After-gained_in_word-total}
use Rattle.potentials.proofs.potentials.Potentials.score_after.Goals as goal

-- the total after the next word, and its range
abbrev next : After-gained_in_word-total → ℤ
next c =
    let before = given c.args.self.now.weights.items (bits_of c.args.before.now) in
    let after = given c.args.self.now.weights.items (bits_of c.args.after.now) in
    let known = 64 * (c.words.place + 1) in
    (c.args.self.now.constant +ℤ sum_below (length (bits_of c.args.before.now)) before) +ℤ (sum_below known after +ℤ neg_ℤ (sum_below known before))

next_is : (c : After-gained_in_word-total) → ((to_z w64 c.words.total-bits +ℤ c.gained_in_word-total.result) ≡ next c) × (neg_ℤ (pos 137438953408) ≤ℤ c.gained_in_word-total.result)
    × (c.gained_in_word-total.result ≤ℤ pos 137438953408) × (neg_ℤ (pos (2147483647 * (c.width.result + 1))) ≤ℤ next c) × (next c ≤ℤ pos (2147483647 * (c.width.result + 1)))
next_is c =
    let p = c.args.self.now in
    let weights = p.weights.items in
    let before = bits_of c.args.before.now in
    let after = bits_of c.args.after.now in
    let as_long : length after ≡ length before = omega (arith, c.requires.before_width, c.requires.after_width) in
    let word = get_or c.words-was.result.now c.words.place 0 in
    let now = get_or c.words-is.result.now c.words.place 0 in
    let gained = ap (λ l. gained_in_word l (c.words.place * 64) (bit_xor word now) now) c.deref.ensures.value in
    let are_after = subst (λ n. AreWordsOf n c.words-is.result.now) as_long c.words-is.ensures.packed in
    let is_after = subst (λ n. bits_in n c.words-is.result.now ≡ after) as_long c.words-is.ensures.bits in
    let more = word-gained (length before) c.words-was.result.now weights before c.words-was.ensures.packed c.words-was.ensures.bits c.words-is.result.now after are_after is_after c.words.place in
    let is = c.words.invariant in
    let small = word-range weights (c.words.place * 64) (bit_xor word now) now p.weights_in_range in
    let low = small.0 in
    let high = small.1 in
    let range = words-range p.constant weights before after (64 * (c.words.place + 1)) _ p.constant_in_range p.weights_in_range as_long refl in
    let least = range.0 in
    let most = range.1 in
    (omega (arith, ints), omega (arith, ints), omega (arith, ints), omega (arith, ints, c.width.ensures), omega (arith, ints, c.width.ensures))

pub overflow_add-total : goal.overflow_add-total
overflow_add-total c =
    let (is, low, high, least, most) = next_is (goal.at.overflow_add-total c).After-gained_in_word-total in
    let few = c.width.type_inv in
    omega (arith, ints)

pub words-preserved : goal.words-preserved
words-preserved c =
    let (is, low, high, least, most) = next_is (goal.at.words-preserved c).After-gained_in_word-total in
    let few = c.width.type_inv in
    omega (arith, ints)

pub returns : goal.returns
returns c =
    let weights = c.args.self.now.weights.items in
    let before = bits_of c.args.before.now in
    let after = bits_of c.args.after.now in
    let is = c.words.invariant in
    let enough = c.words-was.ensures.packed.enough in
    let as_long : length after ≡ length before = omega (arith, c.requires.before_width, c.requires.after_width) in
    let all_before = given-past weights before (64 * c.words.place) (omega arith) in
    let all_after = given-past weights after (64 * c.words.place) (omega arith) in
    let whole = ap (λ n. sum_below n (given weights after)) as_long in
    omega (arith, ints)
