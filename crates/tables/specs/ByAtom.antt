-- Tables listed by the atoms of their scopes, and losses by all tables.
use Rattle.std.specs.Prelude.{◌≡◌, ℕ, ◌*◌, ◌<◌, Bool, true, ℤ, pos, neg_ℤ, ◌≤ℤ◌, List, length, slice_get, Some}
use Rattle.std.specs.List.{list_all}
use Rattle.packed_state.specs.Sets.{has}
use Rattle.model.specs.NumberedLiterals.{NumberedLiteral}
use Rattle.lower_bounds.specs.TableFunctions.{Table, is_among, sum_over}
use Rattle.lower_bounds.specs.FairTables.{ConditionalChange, is_closed, table_loses}
use Rattle.table_rows.specs.declared.lists.Lists.{Lists}
use Rattle.table_rows.specs.Lists.{list_at}

-- the first `count` tables are listed at each atom of their scope, and no others
pub record IsByAtom (tables : List Table) (count : ℕ) (l : Lists) : Type 0 where
  pub covers : (atom number : ℕ) (t : Table) → number < count → slice_get tables number ≡ Some t → is_among t.scope atom ≡ true → is_among (list_at l atom) number ≡ true
  pub within : (atom number : ℕ) → is_among (list_at l atom) number ≡ true → number < count

-- the set has each table that is listed at one of these atoms
pub record AreMarked (l : Lists) (count : ℕ) (atoms : List ℕ) (set : List Bool) : Type 0 where
  pub width : length set ≡ count
  pub covers : (atom number : ℕ) → is_among atoms atom ≡ true → is_among (list_at l atom) number ≡ true → has set number ≡ true

-- the instance leads from rows to rows of each table, and this is its loss by all
pub record LosesByAll (place : ℕ) (literals : List NumberedLiteral) (changes : List ConditionalChange) (tables : List Table) (lost : ℤ) : Type 0 where
  pub closed : list_all (is_closed literals changes) tables ≡ true
  pub is : lost ≡ sum_over tables (table_loses place literals changes)
  pub least : neg_ℤ (pos (4294967294 * length tables)) ≤ℤ lost
  pub most : lost ≤ℤ pos (4294967294 * length tables)
