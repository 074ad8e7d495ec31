-- Scores by the words of packed states.
use Rattle.std.proofs.Common.{◌≡◌, ◌∙◌, ℕ, zero, suc, ◌+◌, ◌*◌, ◌%◌, ◌^◌, ◌<◌, ◌≤◌, ◌≢◌, inl, inr, Bool, true, false, not, List, length, get_or, refl, sym, ap, arith, w64, ℤ, pos, ◌+ℤ◌, neg_ℤ, ◌≤ℤ◌}
use Rattle.std.specs.Prelude.{if◌then◌else◌, ◌==◌, All}
use Rattle.std.specs.Bool.{beq}
use Rattle.std.specs.Int.{bit_at, trailing_zeros}
use Rattle.std.specs.Int.Bits.{bit_xor}
use Rattle.std.proofs.lemmas.Bool.{cases_lt}
use Rattle.std.proofs.lemmas.Int.{ints}
use Rattle.std.proofs.lemmas.List.{get_or_past}
use Rattle.std.proofs.lemmas.Nat.Bits.{bit_at-zero, bit_at-lt, bit_at_xor, bit_at-trailing_zeros, bit_at_clear_same, bit_at_clear_other}
use Rattle.packed_state.specs.Words.{bits_in, AreWordsOf}
use Rattle.packed_state.proofs.WordLemmas.{in_word}
use Rattle.packed_state.proofs.PackedLemmas.{bit_of}
use Rattle.packed_state.proofs.NumberLemmas.{without_lowest}
use Rattle.lower_bounds.specs.PotentialFunctions.{weight, sum_below, given, IsInRange}
use Rattle.lower_bounds.proofs.Sums.{sum-zero, sum-alike, sum-changed, sum-past, sum-range}
use Rattle.lower_bounds.proofs.Ranges.{zero-range, weight-range, given-range}
use Rattle.potentials.specs.Words.{gained_at, gained_in_word}
use Rattle.potentials.proofs.ScoreLemmas.{midway-range}

-- ---- sums

sum-split : (n m : ℕ) (f : ℕ → ℤ) → sum_below (n + m) f ≡ (sum_below n f +ℤ sum_below m (λ k. f (n + k)))
sum-split n zero f =
    let same = ap (λ k. sum_below k f) (let e : n + zero ≡ n = omega arith in e) in
    omega (arith, ints)
sum-split n (suc m) f =
    let same = ap (λ k. sum_below k f) (let e : n + suc m ≡ suc (n + m) = omega arith in e) in
    let rest = sum-split n m f in
    omega (arith, ints)

sum-both : (n : ℕ) (f g h : ℕ → ℤ) → ((k : ℕ) → k < n → f k ≡ (g k +ℤ h k)) → sum_below n f ≡ (sum_below n g +ℤ sum_below n h)
sum-both zero f g h each = omega (arith, ints)
sum-both (suc n) f g h each =
    let rest = sum-both n f g h (λ k below. each k (omega arith)) in
    let last = each n (omega arith) in
    omega (arith, ints)

-- ---- one word

gained-range : (weights : List ℤ) (first changed after bit : ℕ) → All IsInRange weights → IsInRange (gained_at weights first changed after bit)
gained-range weights first changed after bit all = of_bits (bit_at changed bit == 1) (bit_at after bit == 1)
  where
    w : ℤ
    w = weight weights (first + bit)

    of_bits : (x y : Bool) → IsInRange (if x then (if y then weight weights (first + bit) else neg_ℤ (weight weights (first + bit))) else pos 0)
    of_bits true true = weight-range weights (first + bit) all
    of_bits true false =
        let r = weight-range weights (first + bit) all in
        let least = r.least in
        let most = r.most in
        record { least = omega (arith, ints); most = omega (arith, ints) }
    of_bits false y = zero-range

gained-none : (count : ℕ) (weights : List ℤ) (first after : ℕ) → sum_below count (gained_at weights first 0 after) ≡ pos 0
gained-none count weights first after =
    sum-alike count (gained_at weights first 0 after) (λ k. pos 0)
    (λ k _. ap (λ b. if b == 1 then (if bit_at after k == 1 then weight weights (first + k) else neg_ℤ (weight weights (first + k))) else pos 0) (bit_at-zero k))
    ∙ sum-zero count

gained-lowest : (count : ℕ) (weights : List ℤ) (first word rest after low : ℕ) (gain : ℤ) → low < count → bit_at word low ≡ 1 → bit_at rest low ≡ 0
    → ((k : ℕ) → k < count → k ≢ low → bit_at rest k ≡ bit_at word k) → gain ≡ (if bit_at after low == 1 then weight weights (first + low) else neg_ℤ (weight weights (first + low)))
    → sum_below count (gained_at weights first word after) ≡ (gain +ℤ sum_below count (gained_at weights first rest after))
gained-lowest count weights first word rest after low gain within there gone others is =
    let f = gained_at weights first word after in
    let g = gained_at weights first rest after in
    let as_reported = λ (k : ℕ) (bit : ℕ). if bit == 1 then (if bit_at after k == 1 then weight weights (first + k) else neg_ℤ (weight weights (first + k))) else pos 0 in
    let moved = sum-changed count f g low within (λ k below other. ap (as_reported k) (sym (others k below other))) in
    let now : f low ≡ gain = ap (as_reported low) there ∙ sym is in
    let later : g low ≡ pos 0 = ap (as_reported low) gone in
    omega (arith, ints)

pub none_gained : (weights : List ℤ) (first after : ℕ) → gained_in_word weights first 0 after ≡ pos 0
unfolding gained_in_word
none_gained weights first after = gained-none 64 weights first after

pub lowest_gained : (weights : List ℤ) (first word after : ℕ) (gain : ℤ) → 0 < word → word < 2 ^ 64
    → gain ≡ (if bit_at after (trailing_zeros w64 word) == 1 then weight weights (first + trailing_zeros w64 word) else neg_ℤ (weight weights (first + trailing_zeros w64 word)))
    → gained_in_word weights first word after ≡ (gain +ℤ gained_in_word weights first (without_lowest word) after)
unfolding gained_in_word
lowest_gained weights first word after gain some small is =
    let low : ℕ = trailing_zeros w64 word in
    let lowest = bit_at-trailing_zeros w64 word some small in
    gained-lowest 64 weights first word (without_lowest word) after low gain lowest.0 lowest.1 (bit_at_clear_same w64 word low lowest.0)
    (λ k below other. bit_at_clear_other w64 word low lowest.0 k below other) is

pub word-range : (weights : List ℤ) (first word after : ℕ) → All IsInRange weights
    → (neg_ℤ (pos 137438953408) ≤ℤ gained_in_word weights first word after) × (gained_in_word weights first word after ≤ℤ pos 137438953408)
unfolding gained_in_word
word-range weights first word after all = sum-range 64 (gained_at weights first word after) (λ k _. gained-range weights first word after k all)

-- ---- all words

number-given : (width : ℕ) (words : List ℕ) (weights : List ℤ) (bits : List Bool) (place i : ℕ) → AreWordsOf width words → bits_in width words ≡ bits → i < 64
    → given weights bits (64 * place + i) ≡ (if bit_at (get_or words place 0) i == 1 then weight weights (place * 64 + i) else pos 0)
number-given width words weights bits place i are is within =
    let has : get_or bits (64 * place + i) false ≡ (bit_at (get_or words place 0) i == 1) =
    ap (λ l. get_or l (64 * place + i) false) (sym is) ∙ bit_of width words are (64 * place + i) ∙ in_word words place i within in
    ap (λ b. if b then weight weights (64 * place + i) else pos 0) has
    ∙ ap (λ n. if bit_at (get_or words place 0) i == 1 then weight weights n else pos 0) (let e : 64 * place + i ≡ place * 64 + i = omega arith in e)

twice : (b : Bool) (w : ℤ) → (if b then w else pos 0) ≡ (if b then (if b then w else neg_ℤ w) else pos 0)
twice true w = refl
twice false w = refl

gains : (was is changed : Bool) (w : ℤ) → changed ≡ not (beq was is) → (if is then w else pos 0) ≡ ((if was then w else pos 0) +ℤ (if changed then (if is then w else neg_ℤ w) else pos 0))
gains true true true w differ = absurd (cc)
gains true true false w differ = omega (arith, ints)
gains true false true w differ = omega (arith, ints)
gains true false false w differ = absurd (cc)
gains false true true w differ = omega (arith, ints)
gains false true false w differ = absurd (cc)
gains false false true w differ = absurd (cc)
gains false false false w differ = omega (arith, ints)

differing : (a b : ℕ) → a < 2 → b < 2 → ((a + b) % 2 == 1) ≡ not (beq (a == 1) (b == 1))
differing zero zero p q = refl
differing zero (suc zero) p q = refl
differing (suc zero) zero p q = refl
differing (suc zero) (suc zero) p q = refl
differing (suc (suc a)) b p q = absurd (omega arith)
differing a (suc (suc b)) p q = absurd (omega arith)

differing-bit : (a b i : ℕ) → (bit_at (bit_xor a b) i == 1) ≡ not (beq (bit_at a i == 1) (bit_at b i == 1))
differing-bit a b i = ap (λ n. n == 1) (bit_at_xor a b i) ∙ differing (bit_at a i) (bit_at b i) (bit_at-lt a i) (bit_at-lt b i)

module _ (width : ℕ) (words : List ℕ) (weights : List ℤ) (bits : List Bool) (are : AreWordsOf width words) (is : bits_in width words ≡ bits) where
  -- the atoms of one more word
  pub word-given : (place : ℕ) → sum_below (64 * (place + 1)) (given weights bits)
      ≡ (sum_below (64 * place) (given weights bits) +ℤ gained_in_word weights (place * 64) (get_or words place 0) (get_or words place 0))
  unfolding gained_in_word
  word-given place =
      let word = get_or words place 0 in
      let next = ap (λ n. sum_below n (given weights bits)) (let e : 64 * (place + 1) ≡ 64 * place + 64 = omega arith in e) in
      next ∙ sum-split (64 * place) 64 (given weights bits)
      ∙ ap (λ z. sum_below (64 * place) (given weights bits) +ℤ z)
      (sum-alike 64 (λ k. given weights bits (64 * place + k)) (gained_at weights (place * 64) word word)
      (λ k below. number-given width words weights bits place k are is below ∙ twice (bit_at word k == 1) (weight weights (place * 64 + k))))

  module _ (after : List ℕ) (after_bits : List Bool) (are_after : AreWordsOf width after) (is_after : bits_in width after ≡ after_bits) where
    -- the gain of the atoms of one more word
    pub word-gained : (place : ℕ) → (sum_below (64 * (place + 1)) (given weights after_bits) +ℤ neg_ℤ (sum_below (64 * (place + 1)) (given weights bits)))
        ≡ ((sum_below (64 * place) (given weights after_bits) +ℤ neg_ℤ (sum_below (64 * place) (given weights bits)))
        +ℤ gained_in_word weights (place * 64) (bit_xor (get_or words place 0) (get_or after place 0)) (get_or after place 0))
    unfolding gained_in_word
    word-gained place =
        let word = get_or words place 0 in
        let now = get_or after place 0 in
        let f = given weights bits in
        let g = given weights after_bits in
        let h = gained_at weights (place * 64) (bit_xor word now) now in
        let next : 64 * (place + 1) ≡ 64 * place + 64 = omega arith in
        joined (sum_below (64 * (place + 1)) f) (sum_below (64 * place) f) (sum_below 64 (λ k. f (64 * place + k)))
        (sum_below (64 * (place + 1)) g) (sum_below (64 * place) g) (sum_below 64 (λ k. g (64 * place + k))) (sum_below 64 h)
        (ap (λ n. sum_below n f) next ∙ sum-split (64 * place) 64 f) (ap (λ n. sum_below n g) next ∙ sum-split (64 * place) 64 g)
        (sum-both 64 (λ k. g (64 * place + k)) (λ k. f (64 * place + k)) h
        (λ k below. number-given width after weights after_bits place k are_after is_after below
        ∙ gains (bit_at word k == 1) (bit_at now k == 1) (bit_at (bit_xor word now) k == 1) (weight weights (place * 64 + k)) (differing-bit word now k)
        ∙ ap (λ z. z +ℤ h k) (sym (number-given width words weights bits place k are is below))))
      where
        joined : (f1 f0 fs g1 g0 gs hs : ℤ) → f1 ≡ (f0 +ℤ fs) → g1 ≡ (g0 +ℤ gs) → gs ≡ (fs +ℤ hs) → (g1 +ℤ neg_ℤ f1) ≡ ((g0 +ℤ neg_ℤ f0) +ℤ hs)
        joined f1 f0 fs g1 g0 gs hs a b c = omega (arith, ints)

-- past the last atom nothing is contributed
pub given-past : (weights : List ℤ) (bits : List Bool) (n : ℕ) → length bits ≤ n → sum_below n (given weights bits) ≡ sum_below (length bits) (given weights bits)
given-past weights bits n within = sum-past (length bits) n (given weights bits) within (λ k past. ap (λ b. if b then weight weights k else pos 0) (get_or_past bits k false past))

-- ---- ranges

pub so_far-range : (constant : ℤ) (weights : List ℤ) (bits : List Bool) (n : ℕ) (total : ℤ) → IsInRange constant → All IsInRange weights
    → total ≡ (constant +ℤ sum_below n (given weights bits)) → (neg_ℤ (pos (2147483647 * (length bits + 1))) ≤ℤ total) × (total ≤ℤ pos (2147483647 * (length bits + 1)))
so_far-range constant weights bits n total of_constant all is =
    let least = of_constant.least in
    let most = of_constant.most in
    elim (cases_lt n (length bits)) [
      | inl below ↦
          let sum = sum-range n (given weights bits) (λ k _. given-range weights bits k all) in
          let low = sum.0 in
          let high = sum.1 in
          (omega (arith, ints), omega (arith, ints))
      | inr past ↦
          let same = given-past weights bits n (omega arith) in
          let sum = sum-range (length bits) (given weights bits) (λ k _. given-range weights bits k all) in
          let low = sum.0 in
          let high = sum.1 in
          (omega (arith, ints), omega (arith, ints))
    ]

pub words-range : (constant : ℤ) (weights : List ℤ) (before after : List Bool) (n : ℕ) (total : ℤ) → IsInRange constant → All IsInRange weights → length after ≡ length before
    → total ≡ ((constant +ℤ sum_below (length before) (given weights before)) +ℤ (sum_below n (given weights after) +ℤ neg_ℤ (sum_below n (given weights before))))
    → (neg_ℤ (pos (2147483647 * (length before + 1))) ≤ℤ total) × (total ≤ℤ pos (2147483647 * (length before + 1)))
words-range constant weights before after n total of_constant all long is =
    elim (cases_lt n (length before)) [
      | inl below ↦ midway-range constant weights before after n total of_constant all (omega arith) is
      | inr past ↦
          let was = given-past weights before n (omega arith) in
          let now = given-past weights after n (omega arith) in
          let whole = ap (λ m. sum_below m (given weights after)) long in
          midway-range constant weights before after (length before) total of_constant all (omega arith) (omega (arith, ints))
    ]
