-- What is lost from the rows of a table by their sets is what is lost from its rows.
use Rattle.std.proofs.Common.{◌≡◌, ◌∙◌, ℕ, ◌<◌, Bool, true, false, not, ◌||◌, List, [], length, get_or, Some, refl, sym, ap, subst, arith, ℤ, pos}
use Rattle.std.specs.Prelude.{IsTrue, Contains, slice_get, if◌then◌else◌, is_some}
use Rattle.std.specs.List.{list_all, flat_map, filter_map}
use Rattle.std.specs.Option.{option_map_or}
use Rattle.std.proofs.lemmas.Int.{ints}
use Rattle.std.proofs.lemmas.Option.{slice_get_within}
use Rattle.model.specs.NumberedLiterals.{NumberedLiteral}
use Rattle.model.proofs.ListLemmas.{Contains-got, Contains-place, Contains-none, Contains-filter, filter-Contains, Contains-flat_map, flat_map-Contains, Contains-range, range-Contains}
use Rattle.lower_bounds.specs.TableFunctions.{Row, Table, row_of, weight_at}
use Rattle.lower_bounds.specs.FairTables.{agrees, agreeing, ConditionalChange, afters_of, touches_scope, is_closed, losses_from, most_lost}
use Rattle.lower_bounds.proofs.TableLists.{all-from, all-at}
use Rattle.table_rows.specs.Rows.{are_rising, atoms_at, rows_from}
use Rattle.table_rows.specs.Placed.{placed_in, is_so}
use Rattle.table_rows.specs.Afters.{placed_changes, is_plain, left_of, free_places, ways_of, losses_to, most_of}
use Rattle.table_rows.specs.Fates.{Question, weight_in, is_closed_from, closed_at, lost_from, lost_at, rows_of, LosesInAll}
use Rattle.table_rows.specs.Columns.{AreAll, LosesInEach}
use Rattle.table_rows.specs.Losses.{LosesByTable, LosesByEach, AreLossesByTable}
use Rattle.table_rows.proofs.RowLemmas.{length-rows, row-set}
use Rattle.table_rows.proofs.PlacedLemmas.{placed-agree}
use Rattle.table_rows.proofs.MostLemmas.{most-alike, greatest-is, or_nothing}
use Rattle.table_rows.proofs.WayLemmas.{same-truth, all-ways, lost-into, lost-from}
use Rattle.table_rows.proofs.FateLemmas.{row-there, free-is}

module _ (count : ℕ) (scope : List ℕ) (rising : IsTrue (are_rising scope)) (sets : List (List Bool)) (wide : (set : List Bool) → Contains sets set → length set ≡ length scope) (weights : List ℤ)
    (place : ℕ) (literals : List NumberedLiteral) (changes : List ConditionalChange) (plain : list_all is_plain changes ≡ true) where
  abbrev table : Table
  table = record { scope = scope; rows = rows_from count scope sets weights }

  abbrev question : Question
  question = record { table = table; sets = sets; literals = filter_map (placed_in scope) literals; changes = placed_changes scope changes }

  -- a row, and its set
  record IsAt (number : ℕ) (row : Row) (set : List Bool) : Type 0 where
    is_row : slice_get table.rows number ≡ Some row
    is_set : slice_get sets number ≡ Some set
    long : length set ≡ length scope
    atoms : row.atoms ≡ atoms_at scope set

  at-number : (number : ℕ) → number < length sets → (row : Row) × (set : List Bool) × IsAt number row set
  at-number number below =
      let row = row-there table.rows number (omega (arith, below, length-rows count scope sets weights)) in
      let set = row-there sets number below in (
        row.0,
        set.0,
        record {
          is_row = row.1;
          is_set = set.1;
          long = wide set.0 (Contains-got sets number set.0 set.1);
          atoms = row-set count scope sets weights number set.0 row.0 set.1 row.1;
        },
      )

  abbrev is_closed_row : Row → Bool
  is_closed_row r = list_all (λ after. is_some (row_of table after)) (afters_of changes scope r.atoms)

  module _ (number : ℕ) (row : Row) (set : List Bool) (it : IsAt number row set) where
    agree-is : list_all (is_so set) question.literals ≡ agrees literals scope row.atoms
    agree-is = placed-agree scope set rising it.long literals ∙ ap (agrees literals scope) (sym it.atoms)

    abbrev free : List ℕ
    free = free_places question.changes.whens set (left_of question.changes set)

    closed-is : closed_at question number ≡ (not (agrees literals scope row.atoms) || is_closed_row row)
    closed-is =
        ap (λ o. option_map_or (is_closed_from question) o true) it.is_set
        ∙ (λ i. not (agree-is i) || all-ways table rising row set it.long it.atoms changes plain free (free-is question.changes.whens set (left_of question.changes set)) i)

    lost-is : lost_at question place number ≡ (if agrees literals scope row.atoms then losses_to table place (weight_at place row) (ways_of question.changes set) else [])
    lost-is =
        ap (λ o. option_map_or (lost_from question place (weight_in question place number)) o []) it.is_set
        ∙ (λ i. if agree-is i then losses_to table place (option_map_or (weight_at place) (it.is_row i) (pos 0)) (ways_of question.changes set) else [])

    lost-there : (z : ℤ) → Contains (lost_at question place number) z → (agrees literals scope row.atoms ≡ true) × Contains (losses_from place changes table row) z
    lost-there z at =
        elim (agrees literals scope row.atoms) as (λ b. agrees literals scope row.atoms ≡ b → Contains (if b then losses_to table place (weight_at place row) (ways_of question.changes set) else []) z
        → (agrees literals scope row.atoms ≡ true) × Contains (losses_from place changes table row) z) [
          | true ↦ λ is among. (is, lost-into table rising row set it.long it.atoms changes plain free (free-is question.changes.whens set (left_of question.changes set)) place z among)
          | false ↦ λ is none. absurd (Contains-none z none)
        ] refl (subst (λ l. Contains l z) lost-is at)

    lost-here : (z : ℤ) → agrees literals scope row.atoms ≡ true → Contains (losses_from place changes table row) z → Contains (lost_at question place number) z
    lost-here z is at =
        subst (λ l. Contains l z) (sym (lost-is ∙ ap (λ b. if b then losses_to table place (weight_at place row) (ways_of question.changes set) else []) is))
        (lost-from table rising row set it.long it.atoms changes plain free (free-is question.changes.whens set (left_of question.changes set)) place z at)

  -- the number of a row
  row-number : (row : Row) → Contains table.rows row → (number : ℕ) × (set : List Bool) × IsAt number row set
  row-number row at =
      let place_of = Contains-place table.rows row at in
      let below : place_of.0 < length sets = let within = slice_get_within table.rows place_of.0 row place_of.1 in omega (arith, within, length-rows count scope sets weights) in
      let set = row-there sets place_of.0 below in (
        place_of.0,
        set.0,
        record {
          is_row = place_of.1;
          is_set = set.1;
          long = wide set.0 (Contains-got sets place_of.0 set.0 set.1);
          atoms = row-set count scope sets weights place_of.0 set.0 row set.1 place_of.1;
        },
      )

  in-range : (number : ℕ) (row : Row) (set : List Bool) → IsAt number row set → Contains (rows_of question) number
  in-range number row set it = Contains-range 0 (length sets) number (omega arith) (let within = slice_get_within sets number set it.is_set in omega (arith, within))

  all-closed : list_all (closed_at question) (rows_of question) ≡ list_all is_closed_row (agreeing literals table)
  all-closed =
      same-truth (list_all (closed_at question) (rows_of question)) (list_all is_closed_row (agreeing literals table))
      (λ all. all-from is_closed_row (agreeing literals table) (λ row at.
      let among = filter-Contains (λ (r : Row). agrees literals scope r.atoms) table.rows row at in
      let it = row-number row among.0 in
      ap (λ b. not b || is_closed_row row) (sym among.1) ∙ sym (closed-is it.0 row it.1 it.2) ∙ all-at (closed_at question) (rows_of question) it.0 all (in-range it.0 row it.1 it.2)))
      (λ all. all-from (closed_at question) (rows_of question) (λ number at.
      let below = range-Contains 0 (length sets) number at in
      let it = at-number number (omega (arith, below.1)) in
      closed-is number it.0 it.1 it.2 ∙ elim (agrees literals scope it.0.atoms) as (λ b. agrees literals scope it.0.atoms ≡ b → (not b || is_closed_row it.0) ≡ true) [
        | true ↦ λ is. all-at is_closed_row (agreeing literals table) it.0 all (Contains-filter (λ (r : Row). agrees literals scope r.atoms) table.rows it.0 (Contains-got table.rows number it.0 it.2.is_row) is)
        | false ↦ λ _. refl
      ] refl))

  all-lost : most_of (flat_map (lost_at question place) (rows_of question)) ≡ most_of (flat_map (losses_from place changes table) (agreeing literals table))
  all-lost =
      most-alike (flat_map (lost_at question place) (rows_of question)) (flat_map (losses_from place changes table) (agreeing literals table))
      (λ z at.
      let found = flat_map-Contains (lost_at question place) (rows_of question) z at in
      let below = range-Contains 0 (length sets) found.0 found.1 in
      let it = at-number found.0 (omega (arith, below.1)) in
      let lost = lost-there found.0 it.0 it.1 it.2 z found.2 in
      Contains-flat_map (losses_from place changes table) (agreeing literals table) it.0 z
      (Contains-filter (λ (r : Row). agrees literals scope r.atoms) table.rows it.0 (Contains-got table.rows found.0 it.0 it.2.is_row) lost.0) lost.1)
      (λ z at.
      let found = flat_map-Contains (losses_from place changes table) (agreeing literals table) z at in
      let among = filter-Contains (λ (r : Row). agrees literals scope r.atoms) table.rows found.0 found.1 in
      let it = row-number found.0 among.0 in
      Contains-flat_map (lost_at question place) (rows_of question) it.0 z (in-range it.0 found.0 it.1 it.2) (lost-here it.0 found.0 it.1 it.2 z among.1 found.2))

  module _ (touched : touches_scope changes table ≡ true) where
    pub closed-as : is_closed literals changes table ≡ list_all (closed_at question) (rows_of question)
    closed-as = ap (λ b. not b || list_all is_closed_row (agreeing literals table)) touched ∙ sym all-closed

    pub loss-is : (lost : ℤ) → LosesInAll question place lost → LosesByTable place literals changes table lost
    loss-is lost loses = record {
      closed = closed-as ∙ loses.closed;
      is = loses.is ∙ ap or_nothing all-lost ∙ sym (greatest-is (flat_map (losses_from place changes table) (agreeing literals table)))
          ∙ sym (ap (λ b. if b then most_lost place literals changes table else pos 0) touched);
      range = loses.range;
    }

module _ (count : ℕ) (scope : List ℕ) (rising : IsTrue (are_rising scope)) (sets : List (List Bool)) (wide : (set : List Bool) → Contains sets set → length set ≡ length scope) (weights : List ℤ)
    (literals : List NumberedLiteral) (changes : List ConditionalChange) (plain : list_all is_plain changes ≡ true)
    (touched : touches_scope changes (record { scope = scope; rows = rows_from count scope sets weights }) ≡ true) (lost : List ℤ) (long : length lost ≡ count) where
  abbrev all_rows : Table
  all_rows = record { scope = scope; rows = rows_from count scope sets weights }

  -- by all weights at once
  pub each-loss-is : (closed : Bool) → LosesInEach (record { table = all_rows; sets = sets; literals = filter_map (placed_in scope) literals; changes = placed_changes scope changes }) lost closed
      → AreLossesByTable count literals changes all_rows lost closed
  each-loss-is false leaves = closed-as count scope rising sets wide weights 0 literals changes plain touched ∙ leaves
  each-loss-is true loses = record {
    closed = closed-as count scope rising sets wide weights 0 literals changes plain touched ∙ loses.closed;
    long = long;
    each = λ place below. loss-is count scope rising sets wide weights place literals changes plain touched (get_or lost place (pos 0)) (loses.each place (omega (arith, below, long)));
  }

-- where no change is of an atom of the scope
pub loses-nothing : (place : ℕ) (literals : List NumberedLiteral) (changes : List ConditionalChange) (table : Table) → touches_scope changes table ≡ false → LosesByTable place literals changes table (pos 0)
loses-nothing place literals changes table none = record {
  closed = ap (λ b. not b || list_all (λ (r : Row). list_all (λ after. is_some (row_of table after)) (afters_of changes table.scope r.atoms)) (agreeing literals table)) none;
  is = sym (ap (λ b. if b then most_lost place literals changes table else pos 0) none);
  range = record { least = omega (arith, ints); most = omega (arith, ints) };
}

pub each-loses-nothing : (literals : List NumberedLiteral) (changes : List ConditionalChange) (table : Table) → touches_scope changes table ≡ false → (old new : List ℤ) (count : ℕ) → length old ≡ count → AreAll (pos 0) old new
    → LosesByEach count literals changes table new
each-loses-nothing literals changes table none old new count long all = record {
  closed = (loses-nothing 0 literals changes table none).closed;
  long = all.long ∙ long;
  each = λ place below. subst (LosesByTable place literals changes table) (sym (all.each place (omega (arith, below, long)))) (loses-nothing place literals changes table none);
}
