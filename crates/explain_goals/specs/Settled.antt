-- Sets of atoms by their numbers, as the code has them: when no instance adds an atom beyond the set.
use Rattle.std.specs.Prelude.{◌≡◌, ℕ, ◌<◌, ◌≤◌, Bool, true, false, not, ◌&&◌, ◌||◌, nat_lt, List, get_or, length}
use Rattle.std.specs.List.{count_by, list_all}
use Rattle.std.specs.Option.{option_map_or}
use Rattle.std.specs.FinSet.{contains}
use Rattle.model.specs.Task.{Task, Atom}
use Rattle.model.specs.Meaning.{initial_state}
use Rattle.model.specs.StaticallyFalse.{kept_instances}
use Rattle.model.specs.NumberedAtoms.{number_of}
use Rattle.model.specs.NumberedLiterals.{NumberedLiteral, literals_of_number}
use Rattle.model.specs.ConditionalChanges.{ConditionalChange, conditional_of_number, number_requires_unnumbered}
use Rattle.model.specs.Grounding.{bits_of_state}

-- the set has the atom with this number
abbrev pub has : List Bool → ℕ → Bool
has set number = get_or set number false

-- the other set has all that the set has
abbrev pub IsWithin : (set other : List Bool) → Type 0
IsWithin set other = (number : ℕ) → has set number ≡ true → has other number ≡ true

-- the set has the atoms that the literals require
abbrev pub allows : List Bool → NumberedLiteral → Bool
allows set l = not l.value || has set l.atom

abbrev pub allows_all : List Bool → List NumberedLiteral → Bool
allows_all set literals = list_all (allows set) literals

-- these literals require only atoms of the set, and no other one wants an unnumbered atom
abbrev pub may_hold : List Bool → Bool → List NumberedLiteral → Bool
may_hold set requires_unnumbered literals = not requires_unnumbered && allows_all set literals

-- the change adds its atom, and its condition needs only atoms of the set
abbrev pub may_add : List Bool → ConditionalChange → Bool
may_add set c = c.change.value && may_hold set c.requires_unnumbered c.condition

-- the set has the number, or it is of no atom
abbrev pub is_there : List Bool → ℕ → Bool
is_there set number = has set number || not (nat_lt number (length set))

-- what the change adds is there
abbrev pub is_made : List Bool → ConditionalChange → Bool
is_made set c = not (may_add set c) || is_there set c.change.atom

abbrev pub AreMade : List ConditionalChange → List Bool → Type 0
AreMade changes set = list_all (is_made set) changes ≡ true

-- the precondition of the instance with this number needs only atoms of the set
abbrev pub may_apply : Task → List Atom → List Bool → ℕ → Bool
may_apply t atoms set number = may_hold set (number_requires_unnumbered t atoms number) (literals_of_number t atoms number)

-- the instance adds no atom beyond the set
abbrev pub is_settled : Task → List Atom → List Bool → ℕ → Bool
is_settled t atoms set number = not (may_apply t atoms set number) || list_all (is_made set) (conditional_of_number t atoms number)

-- so do the first instances
abbrev pub AreSettledBelow : Task → List Atom → (count : ℕ) → List Bool → Type 0
AreSettledBelow t atoms count set = (number : ℕ) → number < count → is_settled t atoms set number ≡ true

-- the set has the initial atoms, and no instance adds one beyond it
pub record IsSettled (t : Task) (atoms : List Atom) (set : List Bool) : Type 0 where
  pub width : length set ≡ length atoms
  pub initial : (number : ℕ) → has (bits_of_state atoms (initial_state t)) number ≡ true → has set number ≡ true
  pub instances : AreSettledBelow t atoms (length (kept_instances t)) set

-- the least such set
pub record IsLeastSettled (t : Task) (atoms : List Atom) (set : List Bool) : Type 0 where
  pub settled : IsSettled t atoms set
  pub least : (other : List Bool) → IsSettled t atoms other → IsWithin set other

-- the set of atoms: those initially true, and those with these numbers
abbrev pub has_number : List Atom → List Bool → Atom → Bool
has_number atoms set a = option_map_or (has set) (number_of atoms a) false

abbrev pub is_in : Task → List Atom → List Bool → Atom → Bool
is_in t atoms set a = contains (initial_state t) a || has_number atoms set a

-- ---- growing sets

-- how many numbers the set lacks
abbrev pub lacking : List Bool → ℕ
lacking set = count_by not set

-- The set grows to another, by no more than sets with this property have. It grew if `added` says so; otherwise it has the property.
pub record IsGrown (Property : List Bool → Type 0) (old new : List Bool) (added : Bool) : Type 0 where
  pub width : length new ≡ length old
  pub keeps : IsWithin old new
  pub no_more : lacking new ≤ lacking old
  pub grows : added ≡ true → lacking new < lacking old
  pub stays : added ≡ false → (new ≡ old) × Property old
  pub least : (other : List Bool) → length other ≡ length old → IsWithin old other → Property other → IsWithin new other

-- the set grows to the least one with the property
pub record IsGrownTo (Property : List Bool → Type 0) (old new : List Bool) : Type 0 where
  pub width : length new ≡ length old
  pub keeps : IsWithin old new
  pub passes : Property new
  pub least : (other : List Bool) → length other ≡ length old → IsWithin old other → Property other → IsWithin new other
