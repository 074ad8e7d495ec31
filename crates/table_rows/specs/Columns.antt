-- Columns of greatest losses, one for the weights at each place, as they are raised row by row.
use Rattle.std.specs.Prelude.{◌≡◌, ℕ, ◌<◌, Bool, true, false, ℤ, pos, neg_ℤ, ◌+ℤ◌, ◌≤ℤ◌, List, length, fold, All, get_or}
use Rattle.std.specs.Int.{int_max}
use Rattle.std.specs.List.{list_all}
use Rattle.lower_bounds.specs.TableFunctions.{Table}
use Rattle.table_rows.specs.Afters.{losses_to}
use Rattle.table_rows.specs.Fates.{Question, are_rows, closed_at, lost_at, rows_of, LosesInAll}

-- stands where no loss is known yet; any loss is greater
abbrev pub nothing_yet : ℤ
nothing_yet = neg_ℤ (pos 9223372036854775808)

-- it, or a loss
pub record IsMost (z : ℤ) : Type 0 where
  pub least : nothing_yet ≤ℤ z
  pub most : z ≤ℤ pos 4294967294

-- ---- one step

-- each entry is this number
pub record AreAll (number : ℤ) (old new : List ℤ) : Type 0 where
  pub long : length new ≡ length old
  pub each : (place : ℕ) → place < length old → get_or new place (pos 0) ≡ number

-- each is raised to the difference of the two weights at its place
pub record AreRaisedBy (from to old new : List ℤ) : Type 0 where
  pub long : length new ≡ length old
  pub each : (place : ℕ) → place < length old → get_or new place (pos 0) ≡ int_max (get_or old place (pos 0)) (get_or from place (pos 0) +ℤ neg_ℤ (get_or to place (pos 0)))

-- the entry, and 0 for none
pub record IsSettled (old new : ℤ) : Type 0 where
  pub none : old ≡ nothing_yet → new ≡ pos 0
  pub some : neg_ℤ (pos 4294967294) ≤ℤ old → new ≡ old

pub record AreSettled (old new : List ℤ) : Type 0 where
  pub long : length new ≡ length old
  pub each : (place : ℕ) → place < length old → IsSettled (get_or old place (pos 0)) (get_or new place (pos 0))

-- ---- sets

-- all are rows, and each entry is raised to the losses to them
pub record AreRaisedTo (table : Table) (from : List ℤ) (sets : List (List Bool)) (old new : List ℤ) : Type 0 where
  pub rows : are_rows table sets ≡ true
  pub long : length new ≡ length old
  pub each : (place : ℕ) → place < length old → get_or new place (pos 0) ≡ fold int_max (get_or old place (pos 0)) (losses_to table place (get_or from place (pos 0)) sets)
  pub range : All IsMost new

-- whether they are rows
abbrev pub RaisesTo : Table → List ℤ → List (List Bool) → (old new : List ℤ) → Bool → Type 0
RaisesTo table from sets old new false = are_rows table sets ≡ false
RaisesTo table from sets old new true = AreRaisedTo table from sets old new

-- ---- rows

-- the row, if it agrees, leads to rows, and each entry is raised to the losses from it
pub record AreRaisedFrom (q : Question) (row : ℕ) (old new : List ℤ) : Type 0 where
  pub closed : closed_at q row ≡ true
  pub long : length new ≡ length old
  pub each : (place : ℕ) → place < length old → get_or new place (pos 0) ≡ fold int_max (get_or old place (pos 0)) (lost_at q place row)
  pub range : All IsMost new

abbrev pub RaisesFrom : Question → ℕ → (old new : List ℤ) → Bool → Type 0
RaisesFrom q row old new false = closed_at q row ≡ false
RaisesFrom q row old new true = AreRaisedFrom q row old new

-- ---- all rows

-- each row that agrees leads to rows, and each entry is the greatest loss from one
pub record AreMostLost (q : Question) (lost : List ℤ) : Type 0 where
  pub closed : list_all (closed_at q) (rows_of q) ≡ true
  pub each : (place : ℕ) → place < length lost → LosesInAll q place (get_or lost place (pos 0))

abbrev pub LosesInEach : Question → List ℤ → Bool → Type 0
LosesInEach q lost false = list_all (closed_at q) (rows_of q) ≡ false
LosesInEach q lost true = AreMostLost q lost
