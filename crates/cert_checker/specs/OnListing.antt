-- A list of actions along a listing of states, over any transition system, up to a relation of states: symmetry, or equality.
use Rattle.std.specs.Prelude.{◌≡◌, ℕ, ◌+◌, ◌<◌, ◌≤◌, List, length, take, drop, Contains, Some}
use Rattle.model.specs.Runs.{System, run, cost_of_all}
use Rattle.model.specs.Claims.{expanded, cut, Line}

-- a related state is listed, open, at no more than this cost
abbrev pub IsExpandedWithin : {S : Type 0} → (S → S → Type 0) → List (Line S) → S → ℕ → Type 0
IsExpandedWithin {S} same lines s cost = (line : Line S) × Contains lines line × same line.state s × (line.cost ≤ cost) × (line.mark ≡ expanded)

-- A related state is listed as a cut at no more than this cost. The cost and what is left to pay are together at least the line's
-- cost and bound.
abbrev pub IsCutWithin : {S : Type 0} → (S → S → Type 0) → List (Line S) → S → ℕ → ℕ → Type 0
IsCutWithin {S} same lines s cost left =
    (line : Line S) × Contains lines line × same line.state s × (line.cost ≤ cost) × (rest : ℕ) × (line.mark ≡ cut rest) × (line.cost + rest ≤ cost + left)

-- the first n actions lead to an expanded state, listed at no more than their cost
abbrev pub IsOnExpanded : {S A : Type 0} → System S A → (S → S → Type 0) → List (Line S) → List A → ℕ → Type 0
IsOnExpanded {S} {A} t same lines plan n = (s : S) × (run t t.initial (take n plan) ≡ Some s) × IsExpandedWithin same lines s (cost_of_all t (take n plan))

-- the first n actions lead to a cut, listed at no more than their cost; the others cost what is left to pay
abbrev pub IsOnCut : {S A : Type 0} → System S A → (S → S → Type 0) → List (Line S) → List A → ℕ → Type 0
IsOnCut {S} {A} t same lines plan n =
    (s : S) × (run t t.initial (take n plan) ≡ Some s) × IsCutWithin same lines s (cost_of_all t (take n plan)) (cost_of_all t (drop n plan))

-- The list stays on expanded states, listed at no more than its cost so far, up to its end or to a cut. It meets no dead end.
pub data StaysListed {S A : Type 0} (t : System S A) (same : S → S → Type 0) (lines : List (Line S)) (plan : List A) : Type 0 where
  to_its_end : ((n : ℕ) → n ≤ length plan → IsOnExpanded t same lines plan n) → StaysListed t same lines plan
  to_a_cut : (n : ℕ) → n ≤ length plan → ((k : ℕ) → k < n → IsOnExpanded t same lines plan k) → IsOnCut t same lines plan n → StaysListed t same lines plan
