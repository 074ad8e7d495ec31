-- Where atoms occur in the scopes of tables.
use Rattle.std.specs.Prelude.{◌≡◌, ℕ, zero, suc, ◌==◌, ◌&&◌, Bool, false, List, [], ◌∷◌, map, slice_get}
use Rattle.std.specs.Global.{Vec}
use Rattle.std.specs.List.{list_any}
use Rattle.std.specs.Option.{option_map_or}
use Rattle.lower_bounds.specs.TableFunctions.{Table}
use Rattle.tables.specs.declared.scope_places.ScopePlace.{ScopePlace}
use Rattle.tables.specs.declared.scope_places.ScopePlaces.{ScopePlaces}

abbrev pub scopes_of : List Table → List (List ℕ)
scopes_of tables = map (λ (t : Table). t.scope) tables

-- the occurrences of this atom
abbrev pub places_of : ScopePlaces → ℕ → List ScopePlace
places_of l atom = option_map_or (λ (v : Vec ScopePlace). v.items) (slice_get l.lists.items atom) []

-- this index of this table's scope is listed
abbrev pub is_listed : List ScopePlace → (table place : ℕ) → Bool
is_listed list table place = list_any (λ (p : ScopePlace). p.table == table && p.place == place) list

-- the list has an element with this index, and it passes the test
abbrev pub passes_at : {X : Type 0} → (X → Bool) → List X → ℕ → Bool
passes_at p [] index = false
passes_at p (x ∷ xs) zero = p x
passes_at p (x ∷ xs) (suc index) = passes_at p xs index

-- the atom has this index in this table's scope
abbrev pub is_placed : List (List ℕ) → (atom table place : ℕ) → Bool
is_placed scopes atom table place = passes_at (λ scope. passes_at (λ n. n == atom) scope place) scopes table

-- each atom's list has exactly its occurrences
pub record AreScopePlaces (scopes : List (List ℕ)) (l : ScopePlaces) : Type 0 where
  pub are : (atom table place : ℕ) → is_listed (places_of l atom) table place ≡ is_placed scopes atom table place
