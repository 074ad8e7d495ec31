-- A potential function that never falls and that is 2 minus the number of true atoms of a group shows that at most one of them is
-- ever true.
use Rattle.std.proofs.Common.{arith, ◌≡◌, ◌∙◌, ℕ, zero, suc, ◌<◌, ◌≤◌, inl, inr, true, false, true≢false, List, [], ◌∷◌, None, Some, refl, sym, ap, subst, length, get_or, set, replicate, ℤ, pos, negsuc, ◌≤ℤ◌}
use Rattle.std.specs.Prelude.{if◌then◌else◌, slice_get}
use Rattle.std.specs.Option.{option_and_then}
use Rattle.std.specs.FinSet.{contains, contains-empty, empty, insert}
use Rattle.std.proofs.lemmas.Bool.{cases_eq, cases_lt}
use Rattle.std.proofs.lemmas.Int.{ints}
use Rattle.std.proofs.lemmas.List.{get_or-map, get_or-replicate, get_or-set_other, get_or-set_same, get_or_past, length-map, length-replicate, length-set}
use Rattle.std.proofs.lemmas.Option.{slice_get_within, get_or_from_slice_get}
use Rattle.model.specs.Task.{Task, Atom, Instance}
use Rattle.model.specs.Runs.{run}
use Rattle.model.specs.Meaning.{State, atom_cmp, initial_state, step, system_of}
use Rattle.model.specs.Fluents.{HasInitialStatics}
use Rattle.model.specs.Grounding.{bits_of_state}
use Rattle.model.specs.SureLiterals.{Literal, is_true, sure}
use Rattle.model.proofs.GroundTaskLemmas.{step-HasInitialStatics}
use Rattle.model.proofs.SureLiteralsHold.{sure_literals_hold}
use Rattle.lower_bounds.specs.PotentialFunctions.{PotentialFunction, weight, sum_below, given, score, or_zero, value_of_state}
use Rattle.lower_bounds.specs.PotentialLaws.{AreNumberable}
use Rattle.lower_bounds.proofs.PotentialLowerBound.{dead_fair_ones_detect_dead_ends}
use Rattle.explain_goals.specs.Exclusive.{IsMutexGroup, AreTwoOf, ExclusiveGoalsAreUnsolvable, IsOtherOf}
use Rattle.explain_goals.specs.MutexGroups.{IsCounter, IsCounted, AreCounted, StaysAboveZero, IsAdded}
use Rattle.explain_goals.proofs.Invariants.{holds-at}
use Rattle.explain_goals.proofs.NeedLemmas.{in-inserted_itself, inserted-cases}

-- ---- sums of numbers of which none is above 0

module _ (f : ℕ → ℤ) (each : (k : ℕ) → f k ≤ℤ pos 0) where
  sum-none : (count : ℕ) → sum_below count f ≤ℤ pos 0
  sum-none zero = omega (arith, ints)
  sum-none (suc count) =
      let rest = sum-none count in
      let last = each count in
      omega (arith, ints)

  sum-one : (count n : ℕ) → n < count → f n ≡ negsuc 0 → sum_below count f ≤ℤ negsuc 0
  sum-one zero n below at = absurd (omega arith)
  sum-one (suc count) n below at =
      elim (cases_eq n count) [
        | inl last ↦
            let rest = sum-none count in
            let same = ap f last in
            omega (arith, ints)
        | inr other ↦
            let rest = sum-one count n (omega arith) at in
            let last = each count in
            omega (arith, ints)
      ]

  sum-two : (count n m : ℕ) → n < m → m < count → f n ≡ negsuc 0 → f m ≡ negsuc 0 → sum_below count f ≤ℤ negsuc 1
  sum-two zero n m less below at_n at_m = absurd (omega arith)
  sum-two (suc count) n m less below at_n at_m =
      elim (cases_eq m count) [
        | inl last ↦
            let rest = sum-one count n (omega arith) at_n in
            let same = ap f last in
            omega (arith, ints)
        | inr other ↦
            let rest = sum-two count n m less (omega arith) at_n at_m in
            let last = each count in
            omega (arith, ints)
      ]

-- ---- two true atoms of the group

or_zero-one : (z : ℤ) → 1 ≤ or_zero z → pos 1 ≤ℤ z
or_zero-one (pos n) most = omega (arith, ints)
or_zero-one (negsuc n) most = absurd (omega arith)

module _ (atoms : List Atom) (p : PotentialFunction) (counter : IsCounter (length atoms) p) (s : State) where
  part-least : (k : ℕ) → given p.weights (bits_of_state atoms s) k ≤ℤ pos 0
  part-least k =
      let least = counter.weights k in
      elim (get_or (bits_of_state atoms s) k false) as (λ b. (if b then weight p.weights k else pos 0) ≤ℤ pos 0) [
        | true ↦ least
        | false ↦ omega (arith, ints)
      ]

  -- a true atom of the group takes 1 away
  part-counted : (a : Atom) (c : IsCounted atoms p a) → contains s a ≡ true → given p.weights (bits_of_state atoms s) c.number ≡ negsuc 0
  part-counted a c there =
      let is : get_or (bits_of_state atoms s) c.number false ≡ true =
      get_or-map (contains s) atoms c.number a false (slice_get_within atoms c.number a c.named) ∙ ap (contains s) (get_or_from_slice_get atoms c.number a a c.named) ∙ there in
      ap (λ b. if b then weight p.weights c.number else pos 0) is ∙ c.counts

  -- so two of them leave nothing
  two-nothing : (n m : ℕ) → n < m → m < length atoms → given p.weights (bits_of_state atoms s) n ≡ negsuc 0 → given p.weights (bits_of_state atoms s) m ≡ negsuc 0
      → 1 ≤ value_of_state atoms p s → ⊥
  two-nothing n m less below at_n at_m some =
      let long : length (bits_of_state atoms s) ≡ length atoms = length-map atoms (contains s) in
      let least = sum-two (given p.weights (bits_of_state atoms s)) part-least (length (bits_of_state atoms s)) n m less (omega (arith, long, below)) at_n at_m in
      let one = or_zero-one (score p (bits_of_state atoms s)) some in
      let constant = counter.constant in
      absurd (omega (arith, ints))

  pub one-true : 1 ≤ value_of_state atoms p s → (a b : Atom) → IsCounted atoms p a → IsCounted atoms p b → contains s a ≡ true → contains s b ≡ true → a ≡ b
  one-true some a b c d has_a has_b =
      elim (cases_lt c.number d.number) [
        | inl less ↦ absurd (two-nothing c.number d.number less (slice_get_within atoms d.number b d.named) (part-counted a c has_a) (part-counted b d has_b) some)
        | inr least ↦ elim (cases_lt d.number c.number) [
          | inl less ↦ absurd (two-nothing d.number c.number less (slice_get_within atoms c.number a c.named) (part-counted b d has_b) (part-counted a c has_a) some)
          | inr most ↦
              let same : c.number ≡ d.number = omega (arith, least, most) in
              let at : slice_get atoms d.number ≡ Some a = subst (λ n. slice_get atoms n ≡ Some a) same c.named in
              let both : Some a ≡ Some b = sym at ∙ d.named in
              cc
        ]
      ]

-- ---- along a list of actions

module _ (t : Task) (atoms : List Atom) (p : PotentialFunction) (numberable : AreNumberable t atoms) (stays : StaysAboveZero t atoms p) where
  along : (plan : List Instance) (s end : State) → HasInitialStatics t s → 1 ≤ value_of_state atoms p s → run (system_of t) s plan ≡ Some end → 1 ≤ value_of_state atoms p end
  along [] s end statics some runs = let same : s ≡ end = cc in subst (λ (u : State). 1 ≤ value_of_state atoms p u) same some
  along (i ∷ plan) s end statics some runs =
      elim (step t s i) as (λ o. step t s i ≡ o → option_and_then (λ next. run (system_of t) next plan) o ≡ Some end → 1 ≤ value_of_state atoms p end) [
        | None ↦ λ _ none. absurd (cc)
        | Some next ↦ λ leads on.
            let more = (dead_fair_ones_detect_dead_ends t atoms p numberable stays.fair).consistent.never_falls s next i statics leads in
            along plan next end (step-HasInitialStatics t s next i statics leads) (omega (arith, some, more)) on
      ] refl runs

pub counted-mutex : (t : Task) (atoms : List Atom) (p : PotentialFunction) (group : State) → AreNumberable t atoms → IsCounter (length atoms) p → StaysAboveZero t atoms p
    → AreCounted atoms p group → IsMutexGroup t group
counted-mutex t atoms p group numberable counter stays counted s reached a b in_a in_b has_a has_b =
    one-true atoms p counter s (along t atoms p numberable stays reached.0 (initial_state t) s (λ q static. refl) stays.initial reached.1) a b
    (counted a in_a) (counted b in_b) has_a has_b

-- ---- two atoms of a group

pub exclusive_goals_are_unsolvable : ExclusiveGoalsAreUnsolvable
exclusive_goals_are_unsolvable t group a b both plan solves =
    let surely = sure_literals_hold t t.goal [] solves.0 solves.2 in
    let has_a = holds-at solves.0 (sure t t.goal []) (is_true a) surely both.two.first in
    let has_b = holds-at solves.0 (sure t t.goal []) (is_true b) surely both.two.second in
    both.two.differ (both.mutex solves.0 (plan, solves.1) a b both.two.first_in both.two.second_in has_a has_b)

-- an atom that is not among those of the first alone differs from it
pub two-of : (literals : List Literal) (group none alone : State) (a b : Atom) → alone ≡ insert empty a → IsOtherOf literals group none a → IsOtherOf literals group alone b
    → AreTwoOf literals group a b
two-of literals group none alone a b is first second = record {
  differ = λ same. true≢false (sym (in-inserted_itself empty a) ∙ ap (λ (s : State). contains s a) (sym is) ∙ ap (contains alone) same ∙ second.other);
  first = first.required;
  first_in = first.there;
  second = second.required;
  second_in = second.there;
}

-- ---- how a counter is made, and its atoms are collected

counts-least : (weights : List ℤ) (place number : ℕ) → ((k : ℕ) → weight weights k ≤ℤ pos 0) → place < length weights → weight (set weights place (negsuc 0)) number ≤ℤ pos 0
counts-least weights place number each below =
    elim (cases_eq number place) [
      | inl same ↦
          let is : weight (set weights place (negsuc 0)) number ≡ negsuc 0 = ap (weight (set weights place (negsuc 0))) same ∙ get_or-set_same weights place (negsuc 0) (pos 0) below in
          omega (arith, ints)
      | inr other ↦
          let is : weight (set weights place (negsuc 0)) number ≡ weight weights number = get_or-set_other weights place number (negsuc 0) (pos 0) other in
          let least = each number in
          omega (arith, ints)
    ]

pub counter-more : (width place : ℕ) (old new : PotentialFunction) → place < width → new ≡ record { constant = old.constant; weights = set old.weights place (negsuc 0) } → IsCounter width old
    → IsCounter width new
counter-more width place old new below is counter =
    subst (IsCounter width) (sym is) (record {
      constant = counter.constant;
      width = length-set old.weights place (negsuc 0) ∙ counter.width;
      weights = λ number. counts-least old.weights place number counter.weights (let wide = counter.width in omega (arith, below, wide));
    })

nothing-least : (width number : ℕ) → weight (replicate width (pos 0)) number ≤ℤ pos 0
nothing-least width number =
    elim (cases_lt number width) [
      | inl below ↦ let is : weight (replicate width (pos 0)) number ≡ pos 0 = get_or-replicate width number (pos 0) (pos 0) below in omega (arith, ints)
      | inr past ↦
          let is : weight (replicate width (pos 0)) number ≡ pos 0 = get_or_past (replicate width (pos 0)) number (pos 0) (let long = length-replicate width (pos 0) in omega (arith, past, long)) in
          omega (arith, ints)
    ]

pub counter-begun : (width : ℕ) (p : PotentialFunction) → p ≡ record { constant = pos 2; weights = replicate width (pos 0) } → IsCounter width p
counter-begun width p is =
    subst (IsCounter width) (sym is) (record { constant = refl; width = length-replicate width (pos 0); weights = nothing-least width })

pub counted-none : (atoms : List Atom) (p : PotentialFunction) (group : State) → group ≡ empty → AreCounted atoms p group
counted-none atoms p group is a there = absurd (true≢false (sym there ∙ ap (λ (s : State). contains s a) is ∙ contains-empty atom_cmp a))

pub counted-more : (atoms : List Atom) (p : PotentialFunction) (number : ℕ) (old new : State) → weight p.weights number ≡ negsuc 0 → IsAdded atoms number old new → AreCounted atoms p old
    → AreCounted atoms p new
counted-more atoms p number old new counts added counted a there =
    elim (added a there) [
      | inl before ↦ counted a before
      | inr named ↦ record { number = number; named = named; counts = counts }
    ]

pub added-atom : (atoms : List Atom) (number : ℕ) (b : Atom) (old new : State) → slice_get atoms number ≡ Some b → new ≡ insert old b → IsAdded atoms number old new
added-atom atoms number b old new named is a there =
    elim (inserted-cases old b a (ap (λ (s : State). contains s a) (sym is) ∙ there)) [
      | inl same ↦ inr (named ∙ ap Some (sym same))
      | inr before ↦ inl before
    ]
