-- Tables of the indices at which objects are named.
use Rattle.std.specs.Prelude.{◌≡◌, ℕ, true, false, ◌&&◌, ◌||◌, ◌==◌, List, [], map, slice_get, Some}
use Rattle.std.specs.Global.{Vec}
use Rattle.std.specs.Option.{option_map_or}
use Rattle.symmetries.specs.declared.places.PlacesByObject.{PlacesByObject}
use Rattle.symmetries.specs.Named.{is_among}
use Rattle.model.specs.Task.{Atom, Formula, FunctionValue}
use Rattle.symmetries_definitions.specs.NamedObjects.{named_in_formula}

-- the indices for an object; empty past the last row
abbrev pub row_of : PlacesByObject → ℕ → List ℕ
row_of t o = option_map_or (λ (row : Vec ℕ). row.items) (slice_get t.rows.items o) []

abbrev pub functions_of : List FunctionValue → List Atom
functions_of values = map (λ (v : FunctionValue). v.function) values

-- the index is added to the rows of these objects
abbrev pub IsAdded : ℕ → List ℕ → PlacesByObject → PlacesByObject → Type 0
IsAdded place objects old new = (o p : ℕ) → is_among (row_of new o) p ≡ (is_among (row_of old o) p || (is_among objects o && place == p))

-- the index of this atom, if there is one, is added to the rows of its objects
abbrev pub IsAddedAt : List Atom → ℕ → PlacesByObject → PlacesByObject → Type 0
IsAddedAt atoms place old new = IsAdded place (option_map_or (λ (a : Atom). a.objects) (slice_get atoms place) []) old new

-- the index of an atom is in the rows of its objects
abbrev pub Covers : List Atom → PlacesByObject → Type 0
Covers atoms t = (place : ℕ) (a : Atom) → slice_get atoms place ≡ Some a → (o : ℕ) → is_among a.objects o ≡ true → is_among (row_of t o) place ≡ true

-- the index of each formula is in the rows of the objects that it names, and in no others
abbrev pub Indexes : List Formula → PlacesByObject → Type 0
Indexes formulas t = (o place : ℕ) → is_among (row_of t o) place ≡ option_map_or (λ f. is_among (named_in_formula f) o) (slice_get formulas place) false
