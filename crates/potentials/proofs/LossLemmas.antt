-- The loss of an instance, change by change: each atom counts at its first change.
use Rattle.std.proofs.Common.{◌≡◌, ◌∙◌, ℕ, ◌+◌, ◌*◌, ◌<◌, Bool, true, false, ◌||◌, ◌==◌, List, [], ◌∷◌, ◌++◌, length, map, take, get_or, refl, sym, ap, subst, arith, ℤ, pos, ◌+ℤ◌, neg_ℤ, ◌≤ℤ◌}
use Rattle.std.specs.Prelude.{if◌then◌else◌, All, Some, slice_get}
use Rattle.std.proofs.lemmas.Option.{get_or_from_slice_get}
use Rattle.std.proofs.lemmas.List.Elements.{All-contains}
use Rattle.std.proofs.lemmas.Bool.{eq-eqb, eqb-true, false_from_ne_true}
use Rattle.std.proofs.lemmas.Int.{ints}
use Rattle.model.specs.NumberedLiterals.{NumberedLiteral, NumberedChange}
use Rattle.lower_bounds.specs.PotentialFunctions.{weight, sum_below, IsInRange}
use Rattle.model.proofs.ListLemmas.{Contains-got, Contains-map}
use Rattle.lower_bounds.specs.FairPotentials.{touches, is_pair, worst}
use Rattle.lower_bounds.proofs.Sums.{sum-alike, sum-changed, sum-zero, sum-range}
use Rattle.lower_bounds.proofs.Ranges.{weight-range, zero-range}
use Rattle.lower_bounds.proofs.Worst.{worst_by, worst-is, worst-range}
use Rattle.grounding.specs.declared.changes.CountingChange.{CountingChange}
use Rattle.grounding.specs.Changes.{counting_of}
use Rattle.potentials.specs.declared.swing.Swing.{Swing}
use Rattle.potentials.specs.Swing.{IsSwing}
use Rattle.potentials.proofs.ListLemmas.{some-at, map-take-more}

-- ---- the greatest loss by an atom

pub worst-swing : (literals : List NumberedLiteral) (changes : List NumberedChange) (n : ℕ) (s : Swing) (w : ℤ) → IsSwing literals changes n s → worst_by s.falls s.stays s.rises w ≡ worst literals changes w n
worst-swing literals changes n s w is =
    ap (λ b. worst_by b s.stays s.rises w) is.falls
    ∙ ap (λ b. worst_by (is_pair literals changes n (record { before = true; after = false })) b s.rises w) is.stays
    ∙ ap (λ b. worst_by (is_pair literals changes n (record { before = true; after = false })) (is_pair literals changes n (record { before = false; after = false }) || is_pair literals changes n (record { before = true; after = true })) b w) is.rises
    ∙ worst-is literals changes w n

pub worst-in_range : (literals : List NumberedLiteral) (changes : List NumberedChange) (w : ℤ) (n : ℕ) → IsInRange w → IsInRange (worst literals changes w n)
worst-in_range literals changes w n is =
    subst IsInRange (worst-is literals changes w n)
    (worst-range (is_pair literals changes n (record { before = true; after = false })) (is_pair literals changes n (record { before = false; after = false }) || is_pair literals changes n (record { before = true; after = true }))
    (is_pair literals changes n (record { before = false; after = true })) w is)

-- what the code computes of an atom
pub worst-of : (literals : List NumberedLiteral) (changes : List NumberedChange) (weights : List ℤ) (n : ℕ) (s : Swing) (w v x : ℤ) → IsSwing literals changes n s → w ≡ weight weights n → v ≡ w
    → x ≡ worst_by s.falls s.stays s.rises v → x ≡ worst literals changes (weight weights n) n
worst-of literals changes weights n s w v x is weighs same loses =
    loses ∙ ap (worst_by s.falls s.stays s.rises) (same ∙ weighs) ∙ worst-swing literals changes n s (weight weights n) is

-- ---- some of the changes

or_false : (b : Bool) → (b || false) ≡ b
or_false true = refl
or_false false = refl

pub touches-append : (done : List NumberedChange) (c : NumberedChange) (n : ℕ) → touches (done ++ c ∷ []) n ≡ (touches done n || c.atom == n)
touches-append [] c n = or_false (c.atom == n)
touches-append (d ∷ done) c n = ap (λ b. d.atom == n || b) (touches-append done c n) ∙ shift (d.atom == n) (touches done n) (c.atom == n)
  where
    shift : (b c d : Bool) → (b || (c || d)) ≡ ((b || c) || d)
    shift true c d = refl
    shift false c d = refl

module _ (literals : List NumberedLiteral) (changes : List NumberedChange) (weights : List ℤ) where
  abbrev worst_at : ℕ → ℤ
  worst_at n = worst literals changes (weight weights n) n

  abbrev losing_part : List NumberedChange → ℕ → ℤ
  losing_part done n = if touches done n then worst_at n else pos 0

  -- the loss by the atoms that these changes affect
  abbrev pub losing : List NumberedChange → ℤ
  losing done = sum_below (length weights) (losing_part done)

  pub losing-none : losing [] ≡ pos 0
  losing-none = sum-zero (length weights)

  losing-again : (done : List NumberedChange) (c : NumberedChange) → touches done c.atom ≡ true → losing (done ++ c ∷ []) ≡ losing done
  losing-again done c touched =
      sum-alike (length weights) (losing_part (done ++ c ∷ [])) (losing_part done) (λ n below. ap (λ b. if b then worst_at n else pos 0) (touches-append done c n ∙ again n))
    where
      again : (n : ℕ) → (touches done n || c.atom == n) ≡ touches done n
      again n = elim (c.atom == n) as (λ b. c.atom == n ≡ b → (touches done n || b) ≡ touches done n) [
        | true ↦ λ e. let here : touches done n ≡ true = subst (λ x. touches done x ≡ true) (eqb-true c.atom n e) touched in ap (λ b. b || true) here ∙ sym here
        | false ↦ λ e. or_false (touches done n)
      ] refl

  losing-new : (done : List NumberedChange) (c : NumberedChange) → c.atom < length weights → touches done c.atom ≡ false → losing (done ++ c ∷ []) ≡ (losing done +ℤ worst_at c.atom)
  losing-new done c below new =
      let changed = sum-changed (length weights) (losing_part (done ++ c ∷ [])) (losing_part done) c.atom below
      (λ n least other. ap (λ b. if b then worst_at n else pos 0) (touches-append done c n ∙ elsewhere n other)) in
      let before : losing_part done c.atom ≡ pos 0 = ap (λ b. if b then worst_at c.atom else pos 0) new in
      let after : losing_part (done ++ c ∷ []) c.atom ≡ worst_at c.atom =
      ap (λ b. if b then worst_at c.atom else pos 0) (touches-append done c c.atom ∙ ap (λ b. b || c.atom == c.atom) new ∙ eq-eqb c.atom c.atom refl) in
      omega (arith, ints)
    where
      elsewhere : (n : ℕ) → (n ≡ c.atom → ⊥) → (touches done n || c.atom == n) ≡ touches done n
      elsewhere n other = ap (λ b. touches done n || b) (false_from_ne_true (c.atom == n) (λ e. other (sym (eqb-true c.atom n e)))) ∙ or_false (touches done n)

  -- one more change
  pub losing-more : (done : List NumberedChange) (c : NumberedChange) (x : ℤ) → c.atom < length weights → x ≡ (if touches done c.atom then pos 0 else worst_at c.atom)
      → losing (done ++ c ∷ []) ≡ (losing done +ℤ x)
  losing-more done c x below is =
      elim (touches done c.atom) as (λ b. touches done c.atom ≡ b → x ≡ (if b then pos 0 else worst_at c.atom) → losing (done ++ c ∷ []) ≡ (losing done +ℤ x)) [
        | true ↦ λ touched none. let e = losing-again done c touched in omega (arith, ints)
        | false ↦ λ new some. let e = losing-new done c below new in omega (arith, ints)
      ] refl is

  losing_part-range : (done : List NumberedChange) (n : ℕ) → All IsInRange weights → IsInRange (losing_part done n)
  losing_part-range done n all = of_bit (touches done n)
    where
      of_bit : (b : Bool) → IsInRange (if b then worst_at n else pos 0)
      of_bit true = worst-in_range literals changes (weight weights n) n (weight-range weights n all)
      of_bit false = zero-range

  pub losing-range : (done : List NumberedChange) → All IsInRange weights → (neg_ℤ (pos (2147483647 * length weights)) ≤ℤ losing done) × (losing done ≤ℤ pos (2147483647 * length weights))
  losing-range done all = sum-range (length weights) (losing_part done) (λ n _. losing_part-range done n all)

  -- the loop's step
  pub losing-at : (xs : List CountingChange) (place : ℕ) (total x : ℤ) → place < length xs → All (λ (c : NumberedChange). c.atom < length weights) (map counting_of xs)
      → ((c : CountingChange) → slice_get xs place ≡ Some c → x ≡ (if touches (map counting_of (take place xs)) c.atom then pos 0 else worst_at c.atom))
      → total ≡ losing (map counting_of (take place xs)) → (total +ℤ x) ≡ losing (map counting_of (take (place + 1) xs))
  losing-at xs place total x within below loses so_far =
      let it = some-at xs place within in
      let c = it.0 in
      let at : c ≡ get_or xs place c = sym (get_or_from_slice_get xs place c c it.1) in
      let few = All-contains (λ (k : NumberedChange). k.atom < length weights) (map counting_of xs) (counting_of c) below (Contains-map counting_of xs c (Contains-got xs place c it.1)) in
      let more = losing-more (map counting_of (take place xs)) (counting_of c) x few (loses c it.1) in
      ap (λ z. z +ℤ x) so_far ∙ sym more ∙ ap losing (sym (map-take-more counting_of xs place c within at))
