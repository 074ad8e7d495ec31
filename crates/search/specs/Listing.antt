-- How a listing finds the class of a state.
use Rattle.std.specs.Prelude.{◌≡◌, ℕ, ◌<◌, List, [], ◌∷◌, ◌++◌, length, slice_get, Option, None, Some, Contains}
use Rattle.search.specs.declared.listing.Place.{Place}
use Rattle.search.specs.declared.listing.Place.TheVariants.{New, Listed, Alike}
use Rattle.search.specs.Outcome.{AreOfOneClass}

-- a state of the same class is at this place
pub record IsAlikeAt {S : Type 0} (class_of : S → S) (states : List S) (s : S) (place : ℕ) : Type 0 where
  pub other : S
  pub there : slice_get states place ≡ Some other
  pub alike : AreOfOneClass class_of other s

-- New: the state is the first of its class, and is listed at the end now. Listed: it is listed at this place. Alike: it is not listed, and
-- the current state of its class is at this place. None: it would be the first of its class, but the limit allows no more.
abbrev pub IsPlacedBy : {S : Type 0} → (S → S) → (ℕ → Type 0) → (old new : List S) → S → (max_states : ℕ) → Option Place → Type 0
IsPlacedBy class_of is_current old new s max_states None = (¬ Contains old s) × (length old ≡ max_states) × (new ≡ old)
IsPlacedBy class_of is_current old new s max_states (Some (New place)) =
    (¬ Contains old s) × (length old < max_states) × (new ≡ old ++ s ∷ []) × (place ≡ length old)
IsPlacedBy class_of is_current old new s max_states (Some (Listed place)) = (slice_get old place ≡ Some s) × (new ≡ old)
IsPlacedBy class_of is_current old new s max_states (Some (Alike place)) =
    (¬ Contains old s) × IsAlikeAt class_of old s place × is_current place × (new ≡ old)
