-- What a state's value stands on where it is reached.
use Rattle.std.specs.Prelude.{◌≡◌, ℕ, Bool, if◌then◌else◌, List, slice_get, Option, None, Some}
use Rattle.model.specs.Runs.{System}
use Rattle.search.specs.declared.bases.Bases.{Bases}
use Rattle.search.specs.declared.bases.Rest.{Rest}
use Rattle.search.specs.declared.listing.Place.{Place}
use Rattle.search.specs.declared.listing.Place.TheVariants.{New, Listed, Alike}
use Rattle.search.specs.declared.nodes.Node.{Node}
use Rattle.search.specs.declared.turns.Standing.{Standing}
use Rattle.search.specs.declared.turns.Standing.TheVariants.{Dead, Based}
use Rattle.search.specs.DeadEnds.{IsValueUnlessDead}
use Rattle.search.specs.OnDemand.{IsRestOf, noted_at, value_on}
use Rattle.search.specs.Outcome.{is_marked_dead}

-- the value that it has beside the guide's; 0 is none
abbrev pub rest_value : Standing → ℕ
rest_value Dead = 0
rest_value (Based rest) = rest.value

-- the estimate of the state by the guide's and by what it rests on; None: it is marked dead, or reported dead
abbrev pub IsEstimateBy : {S : Type 0} → (S → ℕ) → (S → Bool) → S → Standing → Option ℕ → Type 0
IsEstimateBy estimate reported s Dead result = result ≡ None
IsEstimateBy estimate reported s (Based rest) result = IsValueUnlessDead (value_on estimate rest.value) reported s result

-- it stands on a lower bound that was found for another state
abbrev pub IsStandingAnew : {S : Type 0} → Bool → System S ℕ → S → Standing → Type 0
IsStandingAnew answers t s standing = (rest : Rest) × IsRestOf answers t s rest.value × (standing ≡ Based rest)

-- A listed state stands on what is kept for it, unless it is marked dead. Another one stands on a lower bound by the basis of its parent.
abbrev pub IsStandingAt : {S : Type 0} → Bool → System S ℕ → List Node → Bases → S → Place → Standing → Type 0
IsStandingAt answers t nodes bases s (New place) standing = IsStandingAnew answers t s standing
IsStandingAt answers t nodes bases s (Listed place) standing =
    (node : Node) × (rest : Rest) × (slice_get nodes place ≡ Some node) × (rest.value ≡ noted_at bases place) × (standing ≡ (if is_marked_dead node then Dead else Based rest))
IsStandingAt answers t nodes bases s (Alike place) standing = IsStandingAnew answers t s standing
