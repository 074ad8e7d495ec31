-- Upper bounds of an instance's loss by tables, added up at each place.
use Rattle.std.specs.Prelude.{◌≡◌, ℕ, ◌+◌, ◌*◌, ◌<◌, Bool, true, false, ℤ, pos, neg_ℤ, ◌≤ℤ◌, List, length, map, take, get_or, slice_get, Some}
use Rattle.std.specs.List.{list_all}
use Rattle.model.specs.ConditionalChanges.{conditional_of_number}
use Rattle.model.specs.NumberedLiterals.{NumberedLiteral, NumberedChange, literals_of_number}
use Rattle.model.specs.StaticallyFalse.{kept_instances}
use Rattle.model.specs.Task.{Atom, Task, Instance}
use Rattle.packed_state.specs.Packed.{bits_of}
use Rattle.lower_bounds.specs.TableFunctions.{Table, sum_over}
use Rattle.lower_bounds.specs.FairTables.{ConditionalChange, changes_in, is_closed, is_instance_shut_out, table_loses}
use Rattle.tables.specs.AllTables.{tables_of, count_of}
use Rattle.tables.specs.ByAtom.{AreMarked, LosesByAll}
use Rattle.tables.specs.declared.losses.Losses.{Losses}
use Rattle.tables.specs.declared.losses.Standing.{Standing}
use Rattle.tables.specs.declared.losses.Standing.TheVariants.{ShutOut, LeadsOut, Stays}
use Rattle.tables.specs.declared.tables.IndexedTables.{IndexedTables}

-- ---- tables, of which k are looked at

-- what an instance loses by them
pub record IsTotal (literals : List NumberedLiteral) (changes : List ConditionalChange) (tables : List Table) (k place : ℕ) (total : ℤ) : Type 0 where
  pub is : total ≡ sum_over (take k tables) (table_loses place literals changes)
  pub least : neg_ℤ (pos (4294967294 * k)) ≤ℤ total
  pub most : total ≤ℤ pos (4294967294 * k)

-- it leads from rows to rows, and loses by them what stands at each of `count` places
pub record AreTotals (count : ℕ) (literals : List NumberedLiteral) (changes : List ConditionalChange) (tables : List Table) (k : ℕ) (total : List ℤ) : Type 0 where
  pub closed : list_all (is_closed literals changes) (take k tables) ≡ true
  pub each : (place : ℕ) → place < count → IsTotal literals changes tables k place (get_or total place (pos 0))

-- ---- all tables

-- the instance leads from rows to rows of each table, and loses by all what stands at each of `count` places
pub record AreLossesByAll (count : ℕ) (literals : List NumberedLiteral) (changes : List ConditionalChange) (tables : List Table) (total : List ℤ) : Type 0 where
  pub closed : list_all (is_closed literals changes) tables ≡ true
  pub each : (place : ℕ) → place < count → LosesByAll place literals changes tables (get_or total place (pos 0))

-- ---- an instance of a task, by its number

abbrev pub IsShutOut : Task → List Atom → List Table → ℕ → Bool → Type 0
IsShutOut task atoms tables number out = (i : Instance) → slice_get (kept_instances task) number ≡ Some i → is_instance_shut_out task atoms tables i ≡ out

-- what its standing says after no table
abbrev pub BeginsAs : Task → List Atom → List Table → ℕ → Standing → Type 0
BeginsAs task atoms tables number ShutOut = IsShutOut task atoms tables number true
BeginsAs task atoms tables number LeadsOut = ⊥
BeginsAs task atoms tables number Stays = IsShutOut task atoms tables number false

-- what it says after k tables
abbrev pub StandsAfter : Task → List Atom → List Table → (count k number : ℕ) → List ℤ → Standing → Type 0
StandsAfter task atoms tables count k number total ShutOut = IsShutOut task atoms tables number true
StandsAfter task atoms tables count k number total LeadsOut = IsShutOut task atoms tables number false
    × (list_all (is_closed (literals_of_number task atoms number) (conditional_of_number task atoms number)) tables ≡ false)
StandsAfter task atoms tables count k number total Stays = IsShutOut task atoms tables number false
    × AreTotals count (literals_of_number task atoms number) (conditional_of_number task atoms number) tables k total

-- it is a kept instance, and this is what it loses by k tables
pub record IsKnownAfter (all : IndexedTables) (task : Task) (atoms : List Atom) (k : ℕ) (l : Losses) : Type 0 where
  pub within : l.number < length (kept_instances task)
  pub total : length l.total.items ≡ count_of all
  pub by_table : length l.by_table.items ≡ count_of all
  pub named : AreMarked all.by_atom (length (tables_of all)) (map (λ (c : NumberedChange). c.atom) (changes_in (conditional_of_number task atoms l.number))) (bits_of l.named)
  pub standing : StandsAfter task atoms (tables_of all) (count_of all) k l.number l.total.items l.standing

-- ---- several instances

abbrev pub AreKnownAfter : IndexedTables → Task → List Atom → ℕ → List Losses → Type 0
AreKnownAfter all task atoms k losses = (index : ℕ) (l : Losses) → slice_get losses index ≡ Some l → IsKnownAfter all task atoms k l

abbrev pub numbers_of : List Losses → List ℕ
numbers_of losses = map (λ (l : Losses). l.number) losses

-- the numbers are `first` and the next ones
abbrev pub AreFrom : ℕ → List ℕ → Type 0
AreFrom first numbers = (index n : ℕ) → slice_get numbers index ≡ Some n → n ≡ first + index
