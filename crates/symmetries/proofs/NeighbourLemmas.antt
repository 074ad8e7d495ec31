-- The lowest exchanges that have an atom, and the lowest that share one with an exchange.
use Rattle.std.proofs.Common.{◌≡◌, ◌∙◌, ◌⊎◌, inl, inr, ℕ, zero, suc, ◌+◌, ◌<◌, ◌≤◌, Bool, true, false, ◌||◌, List, [], ◌∷◌, ◌++◌, length, take, drop, Some, refl, sym, ap, subst, arith}
use Rattle.std.specs.Prelude.{◌==◌, slice_get, slice_index}
use Rattle.std.proofs.lemmas.Bool.{cases_eq, cases_lt, or_right, eq-eqb, true≢false}
use Rattle.std.proofs.Math.Seq.{take-append_seam}
use Rattle.symmetries.specs.declared.lowest.Lowest.{Lowest}
use Rattle.symmetries.specs.Apart.{is_in, is_among, pairs_at, AreAllBelow}
use Rattle.symmetries.specs.Lowest.{may_move_at, AreNoted, AreListed, AreLowest, AreNeighbours, AreAllNeighbours}

-- what a slice of a vector became is the vector
pub written_back : (width : ℕ) (old new : List Lowest) → length new ≡ width → take width (new ++ drop (length new) old) ≡ new
written_back width old new long =
    ap (λ n. take n (new ++ drop (length new) old)) (sym long) ∙ take-append_seam new (drop (length new) old)

-- ---- one number more

among_left : (xs ys : List ℕ) (n : ℕ) → is_among xs n ≡ true → is_among (xs ++ ys) n ≡ true
among_left [] ys n at = absurd (true≢false (sym at))
among_left (x ∷ xs) ys n at = by_head (x == n) (among_left xs ys n) at
  where
    by_head : (b : Bool) → (is_among xs n ≡ true → is_among (xs ++ ys) n ≡ true) → (b || is_among xs n) ≡ true → (b || is_among (xs ++ ys) n) ≡ true
    by_head true rest at = refl
    by_head false rest at = rest at

among_last : (xs : List ℕ) (n : ℕ) → is_among (xs ++ n ∷ []) n ≡ true
among_last [] n = ap (λ b. b || false) (eq-eqb n n refl)
among_last (x ∷ xs) n = or_right (x == n) (is_among (xs ++ n ∷ []) n) (among_last xs n)

-- a place of a list with one number more: before that one, at it, or beyond
data Pushed (bound : ℕ) (xs : List ℕ) (place : ℕ) : Type 0 where
  before : take place (xs ++ bound ∷ []) ≡ take place xs → slice_index (xs ++ bound ∷ []) place ≡ slice_index xs place → Pushed bound xs place
  last : take place (xs ++ bound ∷ []) ≡ xs → slice_index (xs ++ bound ∷ []) place ≡ bound → Pushed bound xs place
  beyond : slice_index (xs ++ bound ∷ []) place ≡ 0 → Pushed bound xs place

pushed : (bound : ℕ) (xs : List ℕ) (place : ℕ) → Pushed bound xs place
pushed bound [] zero = last refl refl
pushed bound [] (suc place) = beyond refl
pushed bound (x ∷ xs) zero = before refl refl
pushed bound (x ∷ xs) (suc place) = further (pushed bound xs place)
  where
    further : Pushed bound xs place → Pushed bound (x ∷ xs) (suc place)
    further (before first here) = before (ap (λ l. x ∷ l) first) here
    further (last first here) = last (ap (λ l. x ∷ l) first) here
    further (beyond none) = beyond none

module _ (noted : List Lowest) (pairs : List (ℕ × ℕ)) (listed : List ℕ) (bound : ℕ) (all : AreListed noted pairs listed bound) where
  -- the bound is listed, and none is left out up to the next one
  listed_more : (next : ℕ) → ((atom n : ℕ) → is_in pairs atom ≡ true → may_move_at noted atom n ≡ true → bound + 1 ≤ n → next ≤ n) → AreListed noted pairs (listed ++ bound ∷ []) next
  listed_more next least atom n at reported below = by_place (cases_lt n bound)
    where
      by_bound : (n ≡ bound) ⊎ (n ≡ bound → ⊥) → bound ≤ n → is_among (listed ++ bound ∷ []) n ≡ true
      by_bound (inl is) past = ap (is_among (listed ++ bound ∷ [])) is ∙ among_last listed bound
      by_bound (inr other) past = let beyond = least atom n at reported (omega (arith, past, other)) in absurd (omega (arith, beyond, below))

      by_place : (n < bound) ⊎ (bound ≤ n) → is_among (listed ++ bound ∷ []) n ≡ true
      by_place (inl less) = among_left listed (bound ∷ []) n (all atom n at reported less)
      by_place (inr past) = by_bound (cases_eq n bound) past

  -- and before each that is listed stand all below it
  rising_more : ((place : ℕ) → AreListed noted pairs (take place listed) (slice_index listed place))
      → (place : ℕ) → AreListed noted pairs (take place (listed ++ bound ∷ [])) (slice_index (listed ++ bound ∷ []) place)
  rising_more rising place = by_place (pushed bound listed place)
    where
      by_place : Pushed bound listed place → AreListed noted pairs (take place (listed ++ bound ∷ [])) (slice_index (listed ++ bound ∷ []) place)
      by_place (before first here) =
          subst (λ n. AreListed noted pairs (take place (listed ++ bound ∷ [])) n) (sym here) (subst (λ l. AreListed noted pairs l (slice_index listed place)) (sym first) (rising place))
      by_place (last first here) =
          subst (λ n. AreListed noted pairs (take place (listed ++ bound ∷ [])) n) (sym here) (subst (λ l. AreListed noted pairs l bound) (sym first) all)
      by_place (beyond none) = λ atom n at reported below. absurd (omega (arith, none, below))

low_more : (listed : List ℕ) (bound number : ℕ) → ((place : ℕ) → slice_index listed place ≤ number) → bound ≤ number → (place : ℕ) → slice_index (listed ++ bound ∷ []) place ≤ number
low_more listed bound number low most place = by_place (pushed bound listed place)
  where
    by_place : Pushed bound listed place → slice_index (listed ++ bound ∷ []) place ≤ number
    by_place (before first here) = let least = low place in omega (arith, least, here)
    by_place (last first here) = omega (arith, most, here)
    by_place (beyond none) = omega (arith, none)

-- ---- the lowest of some numbers

module _ (noted : List Lowest) (pairs : List (ℕ × ℕ)) (number : ℕ) where
  pub lowest_none : (listed : List ℕ) (next : ℕ) → listed ≡ [] → next ≤ number
      → ((atom n : ℕ) → is_in pairs atom ≡ true → may_move_at noted atom n ≡ true → 0 ≤ n → next ≤ n) → AreLowest noted pairs number listed next
  lowest_none listed next is most least =
      subst (λ l. AreLowest noted pairs number l next) (sym is) (record {
        low = λ place. omega arith;
        rising = λ place atom n at reported below. absurd (omega (arith, below));
        most = most;
        all = λ atom n at reported below. let beyond = least atom n at reported (omega arith) in absurd (omega (arith, beyond, below));
      })

  pub lowest_more : (listed new : List ℕ) (bound next : ℕ) → AreLowest noted pairs number listed bound → new ≡ listed ++ bound ∷ [] → next ≤ number
      → ((atom n : ℕ) → is_in pairs atom ≡ true → may_move_at noted atom n ≡ true → bound + 1 ≤ n → next ≤ n) → AreLowest noted pairs number new next
  lowest_more listed new bound next are is most least =
      subst (λ l. AreLowest noted pairs number l next) (sym is) (record {
        low = low_more listed bound number are.low are.most;
        rising = rising_more noted pairs listed bound are.all are.rising;
        most = most;
        all = listed_more noted pairs listed bound are.all next least;
      })

-- ---- one exchange after another

-- what is noted at an exchange's atoms
all_below : (swaps : List (List (ℕ × ℕ))) (noted : List Lowest) (number : ℕ) (listed : List ℕ) (bound : ℕ) → AreNoted swaps number noted → bound ≤ number
    → AreListed noted (pairs_at swaps number) listed bound → AreAllBelow swaps number listed bound
all_below swaps noted number listed bound are low reported =
    (low, λ other below out atom at. by_test other below out atom at (is_in (pairs_at swaps other) atom) refl)
  where
    by_test : (other : ℕ) → other < bound → is_among listed other ≡ false → (atom : ℕ) → is_in (pairs_at swaps number) atom ≡ true
        → (b : Bool) → is_in (pairs_at swaps other) atom ≡ b → is_in (pairs_at swaps other) atom ≡ false
    by_test other below out atom at false gone = gone
    by_test other below out atom at true here =
        absurd (true≢false (sym (reported atom other at (are other atom (omega (arith, below, low)) here) below) ∙ out))

pub are_neighbours : (swaps : List (List (ℕ × ℕ))) (noted : List Lowest) (number : ℕ) (lowest : Lowest) → AreNoted swaps number noted
    → AreLowest noted (pairs_at swaps number) number lowest.numbers.items lowest.from → AreNeighbours swaps number lowest
are_neighbours swaps noted number lowest are found = (
  λ place. all_below swaps noted number (take place lowest.numbers.items) (slice_index lowest.numbers.items place) are (found.low place) (found.rising place),
  all_below swaps noted number lowest.numbers.items lowest.from are found.most found.all,
)

-- one more
pub neighbours_more : (swaps : List (List (ℕ × ℕ))) (all : List Lowest) (number : ℕ) (lowest : Lowest) → length all ≡ number → AreAllNeighbours swaps all → AreNeighbours swaps number lowest
    → AreAllNeighbours swaps (all ++ lowest ∷ [])
neighbours_more swaps all number lowest long are here one x got = by_place (at_push all one got)
  where
    at_push : (ys : List Lowest) (n : ℕ) → slice_get (ys ++ lowest ∷ []) n ≡ Some x → (slice_get ys n ≡ Some x) ⊎ ((n ≡ length ys) × (lowest ≡ x))
    at_push [] zero at = inr (refl, cc)
    at_push [] (suc n) at = absurd (cc)
    at_push (y ∷ ys) zero at = inl at
    at_push (y ∷ ys) (suc n) at = further (at_push ys n at)
      where
        further : (slice_get ys n ≡ Some x) ⊎ ((n ≡ length ys) × (lowest ≡ x)) → (slice_get (y ∷ ys) (suc n) ≡ Some x) ⊎ ((suc n ≡ length (y ∷ ys)) × (lowest ≡ x))
        further (inl same) = inl same
        further (inr (is, same)) = inr (ap suc is, same)

    by_place : (slice_get all one ≡ Some x) ⊎ ((one ≡ length all) × (lowest ≡ x)) → AreNeighbours swaps one x
    by_place (inl same) = are one x same
    by_place (inr (is, same)) = subst (λ n. AreNeighbours swaps n x) (sym (is ∙ long)) (subst (AreNeighbours swaps number) same here)

-- what is noted of one more
pub noted_more : (swaps : List (List (ℕ × ℕ))) (old new : List Lowest) (number : ℕ) → AreNoted swaps number old
    → ((atom n : ℕ) → may_move_at old atom n ≡ true → may_move_at new atom n ≡ true)
    → ((atom : ℕ) → is_in (pairs_at swaps number) atom ≡ true → may_move_at new atom number ≡ true) → AreNoted swaps (number + 1) new
noted_more swaps old new number are kept noted swap atom less at = by_number (cases_eq swap number)
  where
    by_number : (swap ≡ number) ⊎ (swap ≡ number → ⊥) → may_move_at new atom swap ≡ true
    by_number (inl is) = ap (may_move_at new atom) is ∙ noted atom (ap (λ k. is_in (pairs_at swaps k) atom) (sym is) ∙ at)
    by_number (inr other) = kept atom swap (are swap atom (omega (arith, less, other)) at)
