-- Words of 64 bits as sets, number by number.
use Rattle.std.proofs.Common.{◌≡◌, ℕ, zero, suc, ◌+◌, ◌-◌, ◌*◌, ◌/◌, ◌%◌, ◌^◌, ◌<◌, ◌≤◌, Bool, true, false, not, ◌&&◌, ◌||◌, List, length, get_or, set, refl, sym, ap, ◌∙◌, inl, inr, arith, eq-eqb, w64}
use Rattle.std.specs.Prelude.{bit_and, bit_or, min, max, ◌==◌}
use Rattle.std.specs.Int.{bit_at, bit_not}
use Rattle.std.proofs.lemmas.Bool.{cases_eq, cases_lt, or_right, ne_eqb, both_ways}
use Rattle.std.proofs.lemmas.List.{get_or_past, get_or-set_same, get_or-set_other}
use Rattle.std.proofs.lemmas.Nat.{and_le_l, or_lt}
use Rattle.std.proofs.lemmas.Nat.Bits.{bit_at_or, bit_at_and, bit_at_not, bit_at-zero, bit_at-lt, bit_at_set_same, bit_at_set_other, bit_at_clear_same, bit_at_clear_other, same_from_bits_below}
use Rattle.packed_state.specs.Words.{word_has}

-- ---- one bit of a word

either : (a b : ℕ) → a < 2 → b < 2 → (max a b == 1) ≡ ((a == 1) || (b == 1))
either zero zero p q = refl
either zero (suc zero) p q = refl
either (suc zero) zero p q = refl
either (suc zero) (suc zero) p q = refl
either (suc (suc a)) b p q = absurd (omega arith)
either a (suc (suc b)) p q = absurd (omega arith)

both : (a b : ℕ) → a < 2 → b < 2 → (min a b == 1) ≡ ((a == 1) && (b == 1))
both zero zero p q = refl
both zero (suc zero) p q = refl
both (suc zero) zero p q = refl
both (suc zero) (suc zero) p q = refl
both (suc (suc a)) b p q = absurd (omega arith)
both a (suc (suc b)) p q = absurd (omega arith)

neither : (a : ℕ) → a < 2 → (1 - a == 1) ≡ not (a == 1)
neither zero p = refl
neither (suc zero) p = refl
neither (suc (suc a)) p = absurd (omega arith)

or_bit : (a b i : ℕ) → (bit_at (bit_or a b) i == 1) ≡ ((bit_at a i == 1) || (bit_at b i == 1))
or_bit a b i = ap (λ n. n == 1) (bit_at_or a b i) ∙ either (bit_at a i) (bit_at b i) (bit_at-lt a i) (bit_at-lt b i)

and_bit : (a b i : ℕ) → (bit_at (bit_and a b) i == 1) ≡ ((bit_at a i == 1) && (bit_at b i == 1))
and_bit a b i = ap (λ n. n == 1) (bit_at_and a b i) ∙ both (bit_at a i) (bit_at b i) (bit_at-lt a i) (bit_at-lt b i)

not_bit : (a i : ℕ) → a < 2 ^ 64 → i < 64 → (bit_at (bit_not w64 a) i == 1) ≡ not (bit_at a i == 1)
not_bit a i small within = ap (λ n. n == 1) (bit_at_not w64 a i small within) ∙ neither (bit_at a i) (bit_at-lt a i)

zero_bit : (a : ℕ) → a < 2 → (a == 1) ≡ false → a ≡ 0
zero_bit zero p is = refl
zero_bit (suc zero) p is = absurd (cc)
zero_bit (suc (suc a)) p is = absurd (omega arith)

-- a word of which no bit is set is 0
no_bit : (word : ℕ) → word < 2 ^ 64 → ((i : ℕ) → i < 64 → (bit_at word i == 1) ≡ false) → word ≡ 0
no_bit word small none =
    same_from_bits_below 64 word 0 small (omega arith)
    (λ i within. zero_bit (bit_at word i) (bit_at-lt word i) (none i within) ∙ sym (bit_at-zero i))

-- ---- a number by its word and bit

pub in_word : (words : List ℕ) (place i : ℕ) → i < 64 → word_has words (64 * place + i) ≡ (bit_at (get_or words place 0) i == 1)
unfolding word_has
in_word words place i within =
    let word : (64 * place + i) / 64 ≡ place = omega arith in
    let bit : (64 * place + i) % 64 ≡ i = omega arith in
    rw (word, bit) refl

-- no number from the last word on is in
pub past_words : (words : List ℕ) (k : ℕ) → length words ≤ k / 64 → word_has words k ≡ false
unfolding word_has
past_words words k past = rw (get_or_past words (k / 64) 0 past, bit_at-zero (k % 64)) refl

-- ---- one number more

left_alone : (a b : Bool) → b ≡ false → (a || b) ≡ a
left_alone true b is = refl
left_alone false b is = is

pub put_in : (words : List ℕ) (number : ℕ) → number < 64 * length words → (k : ℕ)
    → word_has (set words (number / 64) (bit_or (get_or words (number / 64) 0) (1 * 2 ^ (number % 64) % 2 ^ 64))) k ≡ (word_has words k || (number == k))
unfolding word_has
put_in words number within k =
    let word : ℕ = bit_or (get_or words (number / 64) 0) (1 * 2 ^ (number % 64) % 2 ^ 64) in
    let inside : number / 64 < length words = omega arith in
    let low : number % 64 < 64 = omega arith in
    elim (cases_eq number k) [
      | inl same ↦
          let here : (bit_at (get_or (set words (number / 64) word) (number / 64) 0) (number % 64) == 1) ≡ true =
          ap (λ w. bit_at w (number % 64) == 1) (get_or-set_same words (number / 64) word 0 inside)
          ∙ ap (λ n. n == 1) (bit_at_set_same w64 (get_or words (number / 64) 0) (number % 64) low) in
          let there : (bit_at (get_or (set words (number / 64) word) (k / 64) 0) (k % 64) == 1) ≡ true = rw (← same) here in
          there ∙ sym (or_right _ (number == k) (eq-eqb number k same))
      | inr other ↦
          let rest : (bit_at (get_or (set words (number / 64) word) (k / 64) 0) (k % 64) == 1) ≡ (bit_at (get_or words (k / 64) 0) (k % 64) == 1) =
          elim (cases_eq (k / 64) (number / 64)) [
            | inl in_it ↦
                let apart : k % 64 ≡ number % 64 → ⊥ = λ is. other (omega arith) in
                rw in_it (ap (λ w. bit_at w (k % 64) == 1) (get_or-set_same words (number / 64) word 0 inside)
                ∙ ap (λ n. n == 1) (bit_at_set_other w64 (get_or words (number / 64) 0) (number % 64) low (k % 64) apart))
            | inr beside ↦ ap (λ w. bit_at w (k % 64) == 1) (get_or-set_other words (number / 64) (k / 64) word 0 beside)
          ] in
          rest ∙ sym (left_alone (bit_at (get_or words (k / 64) 0) (k % 64) == 1) (number == k) (ne_eqb number k other))
    ]

pub put_small : (words : List ℕ) (number : ℕ) → number < 64 * length words → ((place : ℕ) → get_or words place 0 < 2 ^ 64) → (place : ℕ)
    → get_or (set words (number / 64) (bit_or (get_or words (number / 64) 0) (1 * 2 ^ (number % 64) % 2 ^ 64))) place 0 < 2 ^ 64
put_small words number within small place =
    let word : ℕ = bit_or (get_or words (number / 64) 0) (1 * 2 ^ (number % 64) % 2 ^ 64) in
    let fits : word < 2 ^ 64 = or_lt 64 (get_or words (number / 64) 0) (1 * 2 ^ (number % 64) % 2 ^ 64) (small (number / 64)) (omega arith) in
    elim (cases_eq place (number / 64)) [
      | inl same ↦ rw (same, get_or-set_same words (number / 64) word 0 (omega arith)) fits
      | inr other ↦ rw (get_or-set_other words (number / 64) place word 0 other) (small place)
    ]

-- ---- one number less

pub taken : (a b : Bool) → b ≡ true → (a && not b) ≡ false
taken true b is = ap not is
taken false b is = refl

pub spared : (a b : Bool) → b ≡ false → (a && not b) ≡ a
spared true b is = ap not is
spared false b is = refl

pub taken_out : (words : List ℕ) (number : ℕ) → number < 64 * length words → (k : ℕ)
    → word_has (set words (number / 64) (bit_and (get_or words (number / 64) 0) (bit_not w64 (1 * 2 ^ (number % 64) % 2 ^ 64)))) k ≡ (word_has words k && not (number == k))
unfolding word_has
taken_out words number within k =
    let word : ℕ = bit_and (get_or words (number / 64) 0) (bit_not w64 (1 * 2 ^ (number % 64) % 2 ^ 64)) in
    let inside : number / 64 < length words = omega arith in
    let low : number % 64 < 64 = omega arith in
    elim (cases_eq number k) [
      | inl same ↦
          let here : (bit_at (get_or (set words (number / 64) word) (number / 64) 0) (number % 64) == 1) ≡ false =
          ap (λ w. bit_at w (number % 64) == 1) (get_or-set_same words (number / 64) word 0 inside)
          ∙ ap (λ n. n == 1) (bit_at_clear_same w64 (get_or words (number / 64) 0) (number % 64) low) in
          let there : (bit_at (get_or (set words (number / 64) word) (k / 64) 0) (k % 64) == 1) ≡ false = rw (← same) here in
          there ∙ sym (taken _ (number == k) (eq-eqb number k same))
      | inr other ↦
          let rest : (bit_at (get_or (set words (number / 64) word) (k / 64) 0) (k % 64) == 1) ≡ (bit_at (get_or words (k / 64) 0) (k % 64) == 1) =
          elim (cases_eq (k / 64) (number / 64)) [
            | inl in_it ↦
                let apart : k % 64 ≡ number % 64 → ⊥ = λ is. other (omega arith) in
                rw in_it (ap (λ w. bit_at w (k % 64) == 1) (get_or-set_same words (number / 64) word 0 inside)
                ∙ ap (λ n. n == 1) (bit_at_clear_other w64 (get_or words (number / 64) 0) (number % 64) low (k % 64) (omega arith) apart))
            | inr beside ↦ ap (λ w. bit_at w (k % 64) == 1) (get_or-set_other words (number / 64) (k / 64) word 0 beside)
          ] in
          rest ∙ sym (spared (bit_at (get_or words (k / 64) 0) (k % 64) == 1) (number == k) (ne_eqb number k other))
    ]

pub taken_small : (words : List ℕ) (number : ℕ) → number < 64 * length words → ((place : ℕ) → get_or words place 0 < 2 ^ 64) → (place : ℕ)
    → get_or (set words (number / 64) (bit_and (get_or words (number / 64) 0) (bit_not w64 (1 * 2 ^ (number % 64) % 2 ^ 64)))) place 0 < 2 ^ 64
taken_small words number within small place =
    let word : ℕ = bit_and (get_or words (number / 64) 0) (bit_not w64 (1 * 2 ^ (number % 64) % 2 ^ 64)) in
    let fits : word < 2 ^ 64 = omega (arith, small (number / 64), and_le_l (get_or words (number / 64) 0) (bit_not w64 (1 * 2 ^ (number % 64) % 2 ^ 64))) in
    elim (cases_eq place (number / 64)) [
      | inl same ↦ rw (same, get_or-set_same words (number / 64) word 0 (omega arith)) fits
      | inr other ↦ rw (get_or-set_other words (number / 64) place word 0 other) (small place)
    ]

-- ---- all words at once

-- each word less another, and with a third
changed_word : (old deletes adds new : List ℕ) (k : ℕ) → get_or deletes (k / 64) 0 < 2 ^ 64
    → get_or new (k / 64) 0 ≡ bit_or (bit_and (get_or old (k / 64) 0) (bit_not w64 (get_or deletes (k / 64) 0))) (get_or adds (k / 64) 0)
    → word_has new k ≡ ((word_has old k && not (word_has deletes k)) || word_has adds k)
unfolding word_has
changed_word old deletes adds new k small is =
    ap (λ w. bit_at w (k % 64) == 1) is
    ∙ or_bit _ (get_or adds (k / 64) 0) (k % 64)
    ∙ ap (λ b. b || (bit_at (get_or adds (k / 64) 0) (k % 64) == 1))
    (and_bit (get_or old (k / 64) 0) (bit_not w64 (get_or deletes (k / 64) 0)) (k % 64)
    ∙ ap (λ b. (bit_at (get_or old (k / 64) 0) (k % 64) == 1) && b) (not_bit (get_or deletes (k / 64) 0) (k % 64) small (omega arith)))

pub changed_words : (old deletes adds new : List ℕ) → length deletes ≡ length old → length adds ≡ length old → length new ≡ length old
    → ((place : ℕ) → get_or deletes place 0 < 2 ^ 64)
    → ((place : ℕ) → place < length old → get_or new place 0 ≡ bit_or (bit_and (get_or old place 0) (bit_not w64 (get_or deletes place 0))) (get_or adds place 0))
    → (k : ℕ) → word_has new k ≡ ((word_has old k && not (word_has deletes k)) || word_has adds k)
changed_words old deletes adds new d a n small each k =
    elim (cases_lt (k / 64) (length old)) [
      | inl within ↦ changed_word old deletes adds new k (small (k / 64)) (each (k / 64) within)
      | inr past ↦
          past_words new k (omega arith)
          ∙ sym (simp (past_words old k past, past_words adds k (omega arith)) refl)
    ]

pub changed_small : (old deletes adds new : List ℕ) → length new ≡ length old → ((place : ℕ) → get_or old place 0 < 2 ^ 64) → ((place : ℕ) → get_or adds place 0 < 2 ^ 64)
    → ((place : ℕ) → place < length old → get_or new place 0 ≡ bit_or (bit_and (get_or old place 0) (bit_not w64 (get_or deletes place 0))) (get_or adds place 0))
    → (place : ℕ) → get_or new place 0 < 2 ^ 64
changed_small old deletes adds new n o a each place =
    elim (cases_lt place (length old)) [
      | inl within ↦
          rw (each place within)
          (or_lt 64 _ (get_or adds place 0) (omega (arith, o place, and_le_l (get_or old place 0) (bit_not w64 (get_or deletes place 0)))) (a place))
      | inr past ↦ rw (get_or_past new place 0 (omega arith)) (omega arith)
    ]

-- where no word of `part` has a bit that the other lacks, each number of it is in the other
only_if : (a b : Bool) → (a ≡ true → b ≡ true) → (a && not b) ≡ false
only_if true true f = refl
only_if true false f = sym (f refl)
only_if false b f = refl

never : (a b : Bool) → (a ≡ true → b ≡ true → ⊥) → (a && b) ≡ false
never true true f = absurd (f refl refl)
never true false f = refl
never false b f = refl

implied : (a b : Bool) → (a && not b) ≡ false → a ≡ true → b ≡ true
implied true true is has = refl
implied true false is has = absurd (cc)
implied false b is has = absurd (cc)

apart : (a b : Bool) → (a && b) ≡ false → a ≡ true → b ≡ true → ⊥
apart true true is p q = absurd (cc)
apart true false is p q = absurd (cc)
apart false b is p q = absurd (cc)

pub lacks_bit : (a b i : ℕ) → bit_and a b ≡ 0 → ((bit_at a i == 1) && (bit_at b i == 1)) ≡ false
lacks_bit a b i none = sym (and_bit a b i) ∙ ap (λ w. bit_at w i == 1) none ∙ ap (λ n. n == 1) (bit_at-zero i)

included_word : (words part : List ℕ) (k : ℕ) → get_or words (k / 64) 0 < 2 ^ 64
    → bit_and (get_or part (k / 64) 0) (bit_not w64 (get_or words (k / 64) 0)) ≡ 0 → word_has part k ≡ true → word_has words k ≡ true
unfolding word_has
included_word words part k small none has =
    implied _ _
    (ap (λ b. (bit_at (get_or part (k / 64) 0) (k % 64) == 1) && b) (sym (not_bit (get_or words (k / 64) 0) (k % 64) small (omega arith)))
    ∙ lacks_bit (get_or part (k / 64) 0) (bit_not w64 (get_or words (k / 64) 0)) (k % 64) none)
    has

pub included_words : (words part : List ℕ) → length words ≡ length part
    → ((place : ℕ) → get_or words place 0 < 2 ^ 64)
    → ((place : ℕ) → place < length words → bit_and (get_or part place 0) (bit_not w64 (get_or words place 0)) ≡ 0)
    → (k : ℕ) → word_has part k ≡ true → word_has words k ≡ true
included_words words part same small none k has =
    elim (cases_lt (k / 64) (length words)) [
      | inl within ↦ included_word words part k (small (k / 64)) (none (k / 64) within) has
      | inr past ↦ absurd (both_ways _ (past_words part k (omega arith)) has)
    ]

-- and where one has, not each number is
pub not_included : (words part : List ℕ) (place : ℕ) → get_or words place 0 < 2 ^ 64 → get_or part place 0 < 2 ^ 64
    → ((k : ℕ) → word_has part k ≡ true → word_has words k ≡ true)
    → bit_and (get_or part place 0) (bit_not w64 (get_or words place 0)) ≡ 0
not_included words part place small small' each =
    no_bit (bit_and (get_or part place 0) (bit_not w64 (get_or words place 0)))
    (omega (arith, and_le_l (get_or part place 0) (bit_not w64 (get_or words place 0))))
    (λ i within.
    and_bit (get_or part place 0) (bit_not w64 (get_or words place 0)) i
    ∙ ap (λ b. (bit_at (get_or part place 0) i == 1) && b) (not_bit (get_or words place 0) i small within)
    ∙ only_if _ _ (λ has. sym (in_word words place i within) ∙ each (64 * place + i) (in_word part place i within ∙ has)))

-- likewise where no bit is in both
disjoint_word : (words others : List ℕ) (k : ℕ) → bit_and (get_or words (k / 64) 0) (get_or others (k / 64) 0) ≡ 0
    → word_has words k ≡ true → word_has others k ≡ true → ⊥
unfolding word_has
disjoint_word words others k none has too =
    apart _ _ (lacks_bit (get_or words (k / 64) 0) (get_or others (k / 64) 0) (k % 64) none) has too

pub disjoint_words : (words others : List ℕ) → ((place : ℕ) → place < length words → bit_and (get_or words place 0) (get_or others place 0) ≡ 0)
    → (k : ℕ) → word_has words k ≡ true → word_has others k ≡ true → ⊥
disjoint_words words others none k has too =
    elim (cases_lt (k / 64) (length words)) [
      | inl within ↦ disjoint_word words others k (none (k / 64) within) has too
      | inr past ↦ both_ways _ (past_words words k past) has
    ]

pub not_disjoint : (words others : List ℕ) (place : ℕ) → get_or words place 0 < 2 ^ 64
    → ((k : ℕ) → word_has words k ≡ true → word_has others k ≡ true → ⊥) → bit_and (get_or words place 0) (get_or others place 0) ≡ 0
not_disjoint words others place small none =
    no_bit (bit_and (get_or words place 0) (get_or others place 0))
    (omega (arith, and_le_l (get_or words place 0) (get_or others place 0)))
    (λ i within.
    and_bit (get_or words place 0) (get_or others place 0) i
    ∙ never _ _ (λ has too. none (64 * place + i) (in_word words place i within ∙ has) (in_word others place i within ∙ too)))
