-- The sets that an instance may make of a row, over the places of the scope's atoms. Unconditional changes make one set of it. Each
-- change under a `when` may turn one place of that set, or not, unless the row contradicts its condition.
use Rattle.std.specs.Prelude.{◌≡◌, ◌≤◌, ◌⊎◌, ℕ, ◌==◌, Bool, true, false, not, ◌&&◌, ◌||◌, if◌then◌else◌, ℤ, ◌+ℤ◌, neg_ℤ, List, [], ◌∷◌, ◌++◌, length, map, filter, fold, slice_set, Option, None, Some}
use Rattle.std.specs.Bool.{beq}
use Rattle.std.specs.Int.{int_max}
use Rattle.std.specs.List.{list_any, list_all, filter_map}
use Rattle.std.specs.Option.{option_map}
use Rattle.packed_state.specs.Sets.{has, set_of, changed}
use Rattle.model.specs.NumberedLiterals.{NumberedChange}
use Rattle.lower_bounds.specs.TableFunctions.{Row, Table, is_among, row_of, weight_at}
use Rattle.lower_bounds.specs.FairTables.{ConditionalChange, changes_in}
use Rattle.table_rows.specs.Placed.{PlacedLiteral, place_in, placed_in, is_so}
use Rattle.table_rows.specs.Rows.{atoms_at}

-- ---- changes within a scope

-- under a `when`, the atom at this place gets this value; the condition has the literals of the scope's atoms
pub record When : Type 0 where
  pub place : ℕ
  pub value : Bool
  pub condition : List PlacedLiteral

-- the places deleted and added unconditionally, and the changes under a `when`
pub record PlacedChanges : Type 0 where
  pub deletes : List Bool
  pub adds : List Bool
  pub whens : List When

-- the place of an unconditional change to this value, if it is in the scope
abbrev pub certain_place : List ℕ → Bool → NumberedChange → Option ℕ
certain_place scope value c = if c.is_unconditional && beq c.value value then place_in scope c.atom else None

abbrev pub certain_set : List ℕ → Bool → List ConditionalChange → List Bool
certain_set scope value changes = set_of (length scope) (filter_map (certain_place scope value) (changes_in changes))

-- the change under a `when`, if it is in the scope and its condition wants no atom without a number
abbrev pub when_in : List ℕ → ConditionalChange → Option When
when_in scope c =
    if c.change.is_unconditional || c.requires_unnumbered then None
    else option_map (λ (k : ℕ). record { place = k; value = c.change.value; condition = filter_map (placed_in scope) c.condition }) (place_in scope c.change.atom)

-- those of places that no unconditional change adds: adds win
abbrev pub whens_in : List ℕ → List ConditionalChange → List When
whens_in scope changes = filter (λ (w : When). not (has (certain_set scope true changes) w.place)) (filter_map (when_in scope) changes)

abbrev pub placed_changes : List ℕ → List ConditionalChange → PlacedChanges
placed_changes scope changes = record { deletes = certain_set scope false changes; adds = certain_set scope true changes; whens = whens_in scope changes }

-- an unconditional change has no condition
abbrev pub is_plain : ConditionalChange → Bool
is_plain c = not c.change.is_unconditional || (not c.requires_unnumbered && length c.condition == 0)

-- ---- after a row

-- what unconditional changes make of the row
abbrev pub left_of : PlacedChanges → List Bool → List Bool
left_of changes row = changed row changes.deletes changes.adds

-- the row does not contradict the change's condition, and the change would turn what is left
abbrev pub turns : List Bool → List Bool → When → Bool
turns row left w = list_all (is_so row) w.condition && not (beq (has left w.place) w.value)

abbrev pub is_open_at : List When → List Bool → List Bool → ℕ → Bool
is_open_at whens row left place = list_any (λ (w : When). w.place == place && turns row left w) whens

-- the place of a change that turns it, after those found before, each once
abbrev pub freed : List Bool → List Bool → List ℕ → When → List ℕ
freed row left found w = if is_among found w.place then found else if turns row left w then found ++ w.place ∷ [] else found

abbrev pub free_places : List When → List Bool → List Bool → List ℕ
free_places whens row left = fold (freed row left) [] whens

-- all of these places, or at least 25 of them: their ways are then more than the rows that a table can have
abbrev pub AreListed : (all found : List ℕ) → Type 0
AreListed all found = (found ≡ all) ⊎ ((25 ≤ length found) × (length found ≤ length all))

abbrev pub turned : List Bool → ℕ → List Bool
turned set place = slice_set set place (not (has set place))

-- the sets by any of these places turned
abbrev pub ways : List Bool → List ℕ → List (List Bool)
ways set [] = set ∷ []
ways set (place ∷ free) = ways set free ++ ways (turned set place) free

-- the sets that may come after the row
abbrev pub ways_of : PlacedChanges → List Bool → List (List Bool)
ways_of changes row = ways (left_of changes row) (free_places changes.whens row (left_of changes row))

-- ---- what is lost

-- the weight less those of the rows of these sets
abbrev pub losses_to : Table → ℕ → ℤ → List (List Bool) → List ℤ
losses_to table place weight sets = map (λ (r : Row). weight +ℤ neg_ℤ (weight_at place r)) (filter_map (λ set. row_of table (atoms_at table.scope set)) sets)

-- the greatest of the numbers, if there is one
abbrev pub most_of : List ℤ → Option ℤ
most_of [] = None
most_of (first ∷ rest) = Some (fold int_max first rest)

-- the maximum of the number and that one, if there is one
abbrev pub raised : Option ℤ → ℤ → ℤ
raised None number = number
raised (Some most) number = int_max most number
