-- Packed sets by the numbers of their words.
use Rattle.std.proofs.Common.{◌≡◌, ℕ, zero, suc, ◌+◌, ◌*◌, ◌/◌, ◌%◌, ◌^◌, ◌<◌, ◌≤◌, Bool, true, false, not, ◌&&◌, ◌||◌, List, [], ◌∷◌, ◌++◌, length, map, get_or, take, set, replicate, refl, sym, ap, ◌∙◌, inl, inr, arith, eq-eqb}
use Rattle.std.specs.Prelude.{IsTrue, ◌==◌, ◌↔◌}
use Rattle.std.specs.Int.{bit_at}
use Rattle.std.specs.List.{range_with_len, list_any}
use Rattle.std.proofs.lemmas.Bool.{cases_eq, cases_lt, cases_Bool, or_right, or_from, ne_eqb}
use Rattle.std.proofs.lemmas.List.{get_or_past, get_or-set_same, get_or-set_other, length-set, get_or-replicate, length-replicate, ext_get_or, get_or-take, length-take}
use Rattle.std.proofs.lemmas.List.FromFn.{length-map-range_with_len, get_or-map-range_with_len, fill_by_all}
use Rattle.std.proofs.lemmas.Nat.Bits.{bit_at-zero, same_from_bits_below, bit_at-lt}
use Rattle.packed_state.specs.Sets.{has, set_of, changed, Includes, AreDisjoint, at_width}
use Rattle.packed_state.specs.Words.{word_has, bits_in, AreWordsOf}
use Rattle.packed_state.proofs.WordLemmas.{in_word, taken, spared}

pub length-bits : (width : ℕ) (words : List ℕ) → length (bits_in width words) ≡ width
unfolding bits_in
length-bits width words = length-map-range_with_len (word_has words) 0 width

pub bit_below : (width : ℕ) (words : List ℕ) (k : ℕ) → k < width → has (bits_in width words) k ≡ word_has words k
unfolding bits_in
bit_below width words k within = get_or-map-range_with_len (word_has words) 0 width k k false within (omega arith)

pub bit_of : (width : ℕ) (words : List ℕ) → AreWordsOf width words → (k : ℕ) → has (bits_in width words) k ≡ word_has words k
bit_of width words are k =
    elim (cases_lt k width) [
      | inl within ↦ bit_below width words k within
      | inr past ↦
          let length_is : length (bits_in width words) ≤ k = omega (arith, length-bits width words) in
          get_or_past (bits_in width words) k false length_is ∙ sym (are.rest k past)
    ]

-- words whose numbers are reported by a test
pub bits_are : (width : ℕ) (words : List ℕ) (f : ℕ → Bool) → ((k : ℕ) → k < width → word_has words k ≡ f k) → bits_in width words ≡ map f (range_with_len 0 width)
bits_are width words f each =
    fill_by_all f (bits_in width words) width false (length-bits width words) (λ k within. bit_below width words k within ∙ each k within)

-- ---- one list of words for a set

is_same : (a b : ℕ) → a < 2 → b < 2 → (a == 1) ≡ (b == 1) → a ≡ b
is_same zero zero p q is = refl
is_same zero (suc zero) p q is = absurd (cc)
is_same (suc zero) zero p q is = absurd (cc)
is_same (suc zero) (suc zero) p q is = refl
is_same (suc (suc a)) b p q is = absurd (omega arith)
is_same a (suc (suc b)) p q is = absurd (omega arith)

same_word : (xs ys : List ℕ) (place : ℕ) → get_or xs place 0 < 2 ^ 64 → get_or ys place 0 < 2 ^ 64
    → ((k : ℕ) → word_has xs k ≡ word_has ys k) → get_or xs place 0 ≡ get_or ys place 0
same_word xs ys place small small' each =
    same_from_bits_below 64 (get_or xs place 0) (get_or ys place 0) small small'
    (λ i within. is_same _ _ (bit_at-lt (get_or xs place 0) i) (bit_at-lt (get_or ys place 0) i)
    (sym (in_word xs place i within) ∙ each (64 * place + i) ∙ in_word ys place i within))

pub same_words : (width : ℕ) (xs ys : List ℕ) → AreWordsOf width xs → AreWordsOf width ys → bits_in width xs ≡ bits_in width ys → xs ≡ ys
same_words width xs ys a b same =
    let long : length xs ≡ length ys = omega (arith, a.enough, a.no_more, b.enough, b.no_more) in
    let each : (k : ℕ) → word_has xs k ≡ word_has ys k = λ k. sym (bit_of width xs a k) ∙ ap (λ set. has set k) same ∙ bit_of width ys b k in
    ext_get_or 0 xs ys long (λ place _. same_word xs ys place (a.small place) (b.small place) each)

-- ---- the empty set, and one number more

pub zero_at : (n place : ℕ) → ◌≡◌ {A = ℕ} (get_or (replicate n 0) place 0) 0
zero_at n place =
    elim (cases_lt place n) [
      | inl within ↦ get_or-replicate n place 0 0 within
      | inr past ↦ get_or_past (replicate n 0) place 0 (omega (arith, length-replicate {A = ℕ} n 0))
    ]

pub none_in : (n k : ℕ) → word_has (replicate n 0) k ≡ false
unfolding word_has
none_in n k = simp (zero_at n (k / 64), bit_at-zero) refl

pub empty_words : (width n : ℕ) (words : List ℕ) → words ≡ replicate n 0 → width ≤ 64 * n → 64 * n < width + 64 → AreWordsOf width words
empty_words width n words is enough no_more =
    let long : length words ≡ n = ap length is ∙ length-replicate {A = ℕ} n 0 in
    record {
      enough = omega arith;
      no_more = omega arith;
      small = λ place. rw (is, zero_at n place) (omega arith);
      rest = λ number past. rw is (none_in n number);
    }

pub empty_bits : (width n : ℕ) (words : List ℕ) → words ≡ replicate n 0 → bits_in width words ≡ set_of width []
empty_bits width n words is = bits_are width words (λ _. false) (λ k within. rw is (none_in n k))

or_absent : (a b : Bool) → b ≡ false → (a || b) ≡ a
or_absent true b is = refl
or_absent false b is = is

pub insert_bits : (width : ℕ) (old new : List ℕ) (number : ℕ) → number < width → ((k : ℕ) → word_has new k ≡ (word_has old k || (number == k)))
    → bits_in width new ≡ set (bits_in width old) number true
insert_bits width old new number within each =
    bits_are width new (λ k. word_has old k || (number == k)) (λ k _. each k)
    ∙ sym (fill_by_all (λ k. word_has old k || (number == k)) (set (bits_in width old) number true) width false
    (length-set (bits_in width old) number true ∙ length-bits width old)
    (λ k below.
    elim (cases_eq k number) [
      | inl same ↦
          rw same (get_or-set_same (bits_in width old) number true false (omega (arith, length-bits width old))
          ∙ sym (or_right (word_has old number) (number == number) (eq-eqb number number refl)))
      | inr other ↦
          get_or-set_other (bits_in width old) number k true false other ∙ bit_below width old k below
          ∙ sym (or_absent (word_has old k) (number == k) (ne_eqb number k (λ is. other (sym is))))
    ]))

pub insert_words : (width : ℕ) (old new : List ℕ) (number : ℕ) → AreWordsOf width old → number < width → length new ≡ length old
    → ((place : ℕ) → get_or new place 0 < 2 ^ 64) → ((k : ℕ) → word_has new k ≡ (word_has old k || (number == k))) → AreWordsOf width new
insert_words width old new number are within long small each =
    record {
      enough = omega (arith, are.enough);
      no_more = omega (arith, are.no_more);
      small = small;
      rest = λ k past. each k ∙ or_from (word_has old k) (number == k) (are.rest k past) (ne_eqb number k (λ is. absurd (omega arith)));
    }

-- ---- one number less

absent_and : (a b : Bool) → a ≡ false → (a && b) ≡ false
absent_and true b is = absurd (cc)
absent_and false b is = refl

pub remove_bits : (width : ℕ) (old new : List ℕ) (number : ℕ) → number < width → ((k : ℕ) → word_has new k ≡ (word_has old k && not (number == k)))
    → bits_in width new ≡ set (bits_in width old) number false
remove_bits width old new number within each =
    bits_are width new (λ k. word_has old k && not (number == k)) (λ k _. each k)
    ∙ sym (fill_by_all (λ k. word_has old k && not (number == k)) (set (bits_in width old) number false) width false
    (length-set (bits_in width old) number false ∙ length-bits width old)
    (λ k below.
    elim (cases_eq k number) [
      | inl same ↦
          rw same (get_or-set_same (bits_in width old) number false false (omega (arith, length-bits width old))
          ∙ sym (taken (word_has old number) (number == number) (eq-eqb number number refl)))
      | inr other ↦
          get_or-set_other (bits_in width old) number k false false other ∙ bit_below width old k below
          ∙ sym (spared (word_has old k) (number == k) (ne_eqb number k (λ is. other (sym is))))
    ]))

pub remove_words : (width : ℕ) (old new : List ℕ) (number : ℕ) → AreWordsOf width old → length new ≡ length old
    → ((place : ℕ) → get_or new place 0 < 2 ^ 64) → ((k : ℕ) → word_has new k ≡ (word_has old k && not (number == k))) → AreWordsOf width new
remove_words width old new number are long small each =
    record {
      enough = omega (arith, are.enough);
      no_more = omega (arith, are.no_more);
      small = small;
      rest = λ k past. each k ∙ absent_and (word_has old k) (not (number == k)) (are.rest k past);
    }

-- ---- the set of some numbers

neither_in : (a b c : Bool) → a ≡ false → c ≡ false → ((a && b) || c) ≡ false
neither_in true b c is none = absurd (cc)
neither_in false b c is none = none

or_assoc : (a b c : Bool) → (a || (b || c)) ≡ ((a || b) || c)
or_assoc true b c = refl
or_assoc false b c = refl

any_more : (p : ℕ → Bool) (xs : List ℕ) (x : ℕ) → list_any p (xs ++ x ∷ []) ≡ (list_any p xs || p x)
any_more p [] x = or_absent (p x) false refl
any_more p (y ∷ xs) x = ap (λ b. p y || b) (any_more p xs x) ∙ or_assoc (p y) (list_any p xs) (p x)

pub length-set_of : (width : ℕ) (numbers : List ℕ) → length (set_of width numbers) ≡ width
length-set_of width numbers = length-map-range_with_len (λ k. list_any (λ n. n == k) numbers) 0 width

pub has-set_of : (width : ℕ) (numbers : List ℕ) (k : ℕ) → k < width → has (set_of width numbers) k ≡ list_any (λ n. n == k) numbers
has-set_of width numbers k within = get_or-map-range_with_len (λ k. list_any (λ n. n == k) numbers) 0 width k k false within (omega arith)

pub set_more : (width : ℕ) (numbers : List ℕ) (number : ℕ) → number < width → set (set_of width numbers) number true ≡ set_of width (numbers ++ number ∷ [])
set_more width numbers number within =
    fill_by_all (λ k. list_any (λ n. n == k) (numbers ++ number ∷ [])) (set (set_of width numbers) number true) width false
    (length-set (set_of width numbers) number true ∙ length-set_of width numbers)
    (λ k below.
    elim (cases_eq k number) [
      | inl same ↦
          rw same (get_or-set_same (set_of width numbers) number true false (omega (arith, length-set_of width numbers))
          ∙ sym (any_more (λ n. n == number) numbers number ∙ or_right (list_any (λ n. n == number) numbers) (number == number) (eq-eqb number number refl)))
      | inr other ↦
          get_or-set_other (set_of width numbers) number k true false other ∙ has-set_of width numbers k below
          ∙ sym (any_more (λ n. n == k) numbers number ∙ or_absent (list_any (λ n. n == k) numbers) (number == k) (ne_eqb number k (λ is. other (sym is))))
    ])

-- ---- a change

pub changed_bits : (width wide wider : ℕ) (old deletes adds new : List ℕ) → AreWordsOf width old → AreWordsOf wide deletes → AreWordsOf wider adds
    → ((k : ℕ) → word_has new k ≡ ((word_has old k && not (word_has deletes k)) || word_has adds k))
    → bits_in width new ≡ changed (bits_in width old) (bits_in wide deletes) (bits_in wider adds)
changed_bits width wide wider old deletes adds new o d a each =
    bits_are width new (λ k. (has (bits_in width old) k && not (has (bits_in wide deletes) k)) || has (bits_in wider adds) k)
    (λ k within. each k ∙ sym (simp (bit_of width old o k, bit_of wide deletes d k, bit_of wider adds a k) refl))
    ∙ ap (λ n. map (λ k. (has (bits_in width old) k && not (has (bits_in wide deletes) k)) || has (bits_in wider adds) k) (range_with_len 0 n)) (sym (length-bits width old))

pub changed_are_words : (width wider : ℕ) (old deletes adds new : List ℕ) → AreWordsOf width old → AreWordsOf wider adds → wider ≤ width → length new ≡ length old
    → ((place : ℕ) → get_or new place 0 < 2 ^ 64)
    → ((k : ℕ) → word_has new k ≡ ((word_has old k && not (word_has deletes k)) || word_has adds k)) → AreWordsOf width new
changed_are_words width wider old deletes adds new o a wide long small each =
    record {
      enough = omega (arith, o.enough);
      no_more = omega (arith, o.no_more);
      small = small;
      rest = λ k past. each k ∙ neither_in (word_has old k) (not (word_has deletes k)) (word_has adds k) (o.rest k past) (a.rest k (omega arith));
    }

-- ---- tests of two sets

pub includes_bits : (width wide : ℕ) (words part : List ℕ) (r : Bool) → AreWordsOf width words → AreWordsOf wide part
    → (IsTrue r ↔ ((k : ℕ) → IsTrue (word_has part k) → IsTrue (word_has words k))) → IsTrue r ↔ Includes (bits_in width words) (bits_in wide part)
includes_bits width wide words part r a b is = (
  λ yes k member. bit_of width words a k ∙ is.0 yes k (sym (bit_of wide part b k) ∙ member),
  λ each. is.1 (λ k member. sym (bit_of width words a k) ∙ each k (bit_of wide part b k ∙ member)),
)

pub disjoint_bits : (width wide : ℕ) (words others : List ℕ) (r : Bool) → AreWordsOf width words → AreWordsOf wide others
    → (IsTrue r ↔ ((k : ℕ) → ¬ (IsTrue (word_has words k) × IsTrue (word_has others k)))) → IsTrue r ↔ AreDisjoint (bits_in width words) (bits_in wide others)
disjoint_bits width wide words others r a b is = (
  λ yes k both. is.0 yes k (sym (bit_of width words a k) ∙ both.0, sym (bit_of wide others b k) ∙ both.1),
  λ each. is.1 (λ k both. each k (bit_of width words a k ∙ both.0, bit_of wide others b k ∙ both.1)),
)

-- ---- sets and masks of one width have as many words

pub as_many : (width width' : ℕ) (words words' : List ℕ) → AreWordsOf width words → AreWordsOf width' words'
    → length (bits_in width words) ≡ length (bits_in width' words') → (width ≡ width') × (length words ≡ length words')
as_many width width' words words' a b same =
    let wide : width ≡ width' = sym (length-bits width words) ∙ same ∙ length-bits width' words' in
    (wide, omega (arith, a.enough, a.no_more, b.enough, b.no_more))

-- ---- the same set under another width

padded : (xs : List ℕ) (m i : ℕ) → ◌≡◌ {A = ℕ} (get_or (xs ++ replicate m 0) i 0) (get_or xs i 0)
padded [] m i = zero_at m i
padded (x ∷ xs) m zero = refl
padded (x ∷ xs) m (suc i) = padded xs m i

-- cut to n words, or filled up with 0
pub refitted : (n m : ℕ) (old new : List ℕ) → new ≡ take n old ++ replicate m 0 → (place : ℕ) → place < n → ◌≡◌ {A = ℕ} (get_or new place 0) (get_or old place 0)
refitted n m old new is place within = ap (λ xs. get_or xs place 0) is ∙ padded (take n old) m place ∙ get_or-take n old place 0 within

pub refitted_past : (n m : ℕ) (old new : List ℕ) → new ≡ take n old ++ replicate m 0 → (place : ℕ) → n ≤ place → ◌≡◌ {A = ℕ} (get_or new place 0) 0
refitted_past n m old new is place past =
    ap (λ xs. get_or xs place 0) is ∙ padded (take n old) m place ∙ get_or_past (take n old) place 0 (omega (arith, length-take {A = ℕ} n old))

absent_from : (width wide : ℕ) (old : List ℕ) → AreWordsOf width old → ((k : ℕ) → IsTrue (has (bits_in width old) k) → k < wide)
    → (k : ℕ) → wide ≤ k → word_has old k ≡ false
absent_from width wide old o below k past =
    elim (cases_Bool (word_has old k)) [
      | inl in_it ↦ absurd (let inside : k < wide = below k (bit_of width old o k ∙ in_it) in omega arith)
      | inr not_in ↦ not_in
    ]

widened_inside : (n m : ℕ) (old new : List ℕ) → new ≡ take n old ++ replicate m 0 → (k : ℕ) → k / 64 < n → word_has new k ≡ word_has old k
unfolding word_has
widened_inside n m old new is k within = ap (λ w. bit_at w (k % 64) == 1) (refitted n m old new is (k / 64) within)

widened_past : (n m : ℕ) (old new : List ℕ) → new ≡ take n old ++ replicate m 0 → (k : ℕ) → n ≤ k / 64 → word_has new k ≡ false
unfolding word_has
widened_past n m old new is k past = ap (λ w. bit_at w (k % 64) == 1) (refitted_past n m old new is (k / 64) past) ∙ ap (λ b. b == 1) (bit_at-zero (k % 64))

pub widened_has : (width wide n m : ℕ) (old new : List ℕ) → AreWordsOf width old → new ≡ take n old ++ replicate m 0
    → wide ≤ 64 * n → ((k : ℕ) → IsTrue (has (bits_in width old) k) → k < wide) → (k : ℕ) → word_has new k ≡ word_has old k
widened_has width wide n m old new o is enough below k =
    elim (cases_lt (k / 64) n) [
      | inl within ↦ widened_inside n m old new is k within
      | inr past ↦ widened_past n m old new is k past ∙ sym (absent_from width wide old o below k (omega arith))
    ]

pub widened_words : (width wide n m : ℕ) (old new : List ℕ) → AreWordsOf width old → new ≡ take n old ++ replicate m 0
    → wide ≤ 64 * n → ((k : ℕ) → IsTrue (has (bits_in width old) k) → k < wide) → length new ≡ n → 64 * n < wide + 64 → AreWordsOf wide new
widened_words width wide n m old new o is enough below long no_more =
    record {
      enough = omega arith;
      no_more = omega arith;
      small = λ place.
          elim (cases_lt place n) [
            | inl within ↦ rw (refitted n m old new is place within) (o.small place)
            | inr past ↦ rw (refitted_past n m old new is place past) (omega arith)
          ];
      rest = λ k past. widened_has width wide n m old new o is enough below k ∙ absent_from width wide old o below k past;
    }

pub widened_bits : (width wide n m : ℕ) (old new : List ℕ) → AreWordsOf width old → new ≡ take n old ++ replicate m 0
    → wide ≤ 64 * n → ((k : ℕ) → IsTrue (has (bits_in width old) k) → k < wide) → bits_in wide new ≡ at_width wide (bits_in width old)
widened_bits width wide n m old new o is enough below =
    bits_are wide new (has (bits_in width old)) (λ k _. widened_has width wide n m old new o is enough below k ∙ sym (bit_of width old o k))
