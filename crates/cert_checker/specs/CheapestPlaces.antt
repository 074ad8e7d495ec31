-- The cheapest states of a listing, by keys of states.
use Rattle.std.specs.Prelude.{◌≡◌, ◌<◌, ◌≤◌, ℕ, Bool, List, length, map, slice_get, Contains, Some}
use Rattle.certificate_definitions.specs.Certificates.{Certificate, StateLine}

-- For each key of one of the first `count` states, the place of a cheapest of them that has the key.
pub record AreCheapest (key : List Bool → List Bool) (states : List (List Bool)) (costs : List ℕ) (count : ℕ) (keys : List (List Bool)) (places : List ℕ) : Type 0 where
  pub as_many : length places ≡ length keys
  pub few : length keys ≤ count
  pub known : (place : ℕ) (bits : List Bool) → place < count → slice_get states place ≡ Some bits → ¬ ¬ Contains keys (key bits)
  pub within : (at place : ℕ) → slice_get places at ≡ Some place → place < count
  pub of_the_key : (at place : ℕ) (bits k : List Bool) → slice_get keys at ≡ Some k → slice_get places at ≡ Some place → slice_get states place ≡ Some bits → key bits ≡ k
  pub least : (at place other : ℕ) (bits : List Bool) (cost lowest : ℕ) → other < count → slice_get keys at ≡ Some (key bits) → slice_get places at ≡ Some place
      → slice_get states other ≡ Some bits → slice_get costs other ≡ Some cost → slice_get costs place ≡ Some lowest → lowest ≤ cost

-- the costs at which a certificate lists its states
abbrev pub costs_of : Certificate → List ℕ
costs_of c = map (λ (l : StateLine). l.cost) c.lines
