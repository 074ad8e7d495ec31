-- Values that are found for a single state.
use Rattle.std.specs.Prelude.{◌≡◌, ℕ, ◌<◌, ◌^◌, ◌≢◌, max, ⊤, Bool, true, false, List, slice_get, slice_index_or, Some}
use Rattle.model.specs.Runs.{System}
use Rattle.search.specs.declared.bases.Bases.{Bases}
use Rattle.search.specs.declared.on_demand.Answer.{Answer}
use Rattle.search.specs.declared.on_demand.Answer.TheVariants.{Nothing, Raised, Dead}
use Rattle.search.specs.Estimates.{IsAdmissible, IsLowerBound}
use Rattle.search.specs.DeadEnds.{IsDeadEnd, ReportsDeadEnds}
use Rattle.search.specs.Nodes.{Found}

-- What a state that has this value is told to have instead: a greater lower bound of its remaining cost; or it is a dead end. The first
-- word says whether there is ever such an answer.
abbrev pub IsAnswer : {S A : Type 0} → Bool → System S A → S → ℕ → Answer → Type 0
IsAnswer answers t s value Nothing = ⊤
IsAnswer answers t s value (Raised basis higher) = (answers ≡ true) × IsLowerBound t s higher × (value < higher) × (higher < 2 ^ 63)
IsAnswer answers t s value (Dead basis) = (answers ≡ true) × IsDeadEnd t s

-- the value is found by what was answered before: it is a lower bound of the state's remaining cost, and 0 if nothing is ever answered
abbrev pub IsRestOf : {S A : Type 0} → Bool → System S A → S → ℕ → Type 0
IsRestOf answers t s rest = IsLowerBound t s rest × (rest < 2 ^ 63) × (answers ≡ false → rest ≡ 0)

-- the value that is kept for the state at this place, 0 if none is
abbrev pub noted_at : Bases → ℕ → ℕ
noted_at bases place = slice_index_or bases.values.items place 0

-- this value is kept for the state at this place now, and for the others what was
pub record IsNoted (old new : Bases) (place value : ℕ) : Type 0 where
  pub here : noted_at new place ≡ value
  pub others : (k : ℕ) → k ≢ place → noted_at new k ≡ noted_at old k

-- a state's value by an estimate and by the value that is kept for it: the greater one
abbrev pub value_on : {S : Type 0} → (S → ℕ) → ℕ → S → ℕ
value_on estimate noted s = max (estimate s) noted

-- The values by which a search goes, and its dead states: a found state's value is the greater one of the guide's estimate and of what is
-- kept for it. Each value is a lower bound, and each dead state is a dead end. If nothing is ever answered, they are those of the guide.
pub record AreValued {S : Type 0} (t : System S ℕ) (estimate : S → ℕ) (reported : S → Bool) (answers : Bool) (nodes : List (Found S)) (bases : Bases) (value : S → ℕ) (is_dead : S → Bool) : Type 0 where
  pub value_is : (k : ℕ) (n : Found S) → slice_get nodes k ≡ Some n → is_dead n.state ≡ false → value n.state ≡ value_on estimate (noted_at bases k) n.state
  pub alive : (k : ℕ) (n : Found S) → slice_get nodes k ≡ Some n → is_dead n.state ≡ false → reported n.state ≡ false
  pub fits : (k : ℕ) → noted_at bases k < 2 ^ 63
  pub admissible : IsAdmissible t value
  pub dead_ends : ReportsDeadEnds t is_dead
  pub alone : answers ≡ false → ((s : S) → value s ≡ estimate s) × ((s : S) → is_dead s ≡ reported s)

-- this holds by the values of the search, and by its dead states
pub record HoldsBy {S : Type 0} (t : System S ℕ) (estimate : S → ℕ) (reported : S → Bool) (answers : Bool) (nodes : List (Found S)) (bases : Bases) (P : (S → ℕ) → (S → Bool) → Type 0) : Type 0 where
  pub value : S → ℕ
  pub is_dead : S → Bool
  pub valued : AreValued t estimate reported answers nodes bases value is_dead
  pub holds : P value is_dead
