-- Upper bounds of how much a table function falls from one packed state to another, and of its value in goal states. Stated for
-- numbered literals and changes of any task.
use Rattle.std.proofs.Common.{◌≡◌, ◌∙◌, ℕ, ◌+◌, ◌≤◌, Bool, true, false, not, ◌||◌, List, [], ◌∷◌, map, Some, refl, sym, ap, subst, arith, ℤ, pos, ◌+ℤ◌, neg_ℤ, ◌≤ℤ◌}
use Rattle.std.specs.Prelude.{Contains, if◌then◌else◌, is_some}
use Rattle.std.specs.List.{list_all, flat_map, filter_map}
use Rattle.std.proofs.lemmas.Bool.{and_parts, and_from}
use Rattle.std.proofs.lemmas.Int.{ints}
use Rattle.model.specs.NumberedLiterals.{NumberedLiteral}
use Rattle.model.proofs.ListLemmas.{Contains-here, Contains-there, Contains-map, Contains-flat_map, Contains-filter_map}
use Rattle.lower_bounds.specs.PotentialFunctions.{score, or_zero}
use Rattle.lower_bounds.specs.FairPotentials.{touches, may_become}
use Rattle.lower_bounds.proofs.PotentialFalls.{bit, greatest-most, or_zero-most, or_zero-least}
use Rattle.lower_bounds.specs.TableFunctions.{Row, Table, TableFunction, is_among, projection, row_of, row_in, has_rows, weight_at, given_by, sum_over, total, value}
use Rattle.lower_bounds.specs.FairTables.{agreeing, ConditionalChange, changes_in, open_changes, afters_of, touches_scope, is_closed, losses_from, most_lost, table_loses, table_gives}
use Rattle.lower_bounds.proofs.TableLists.{all-at, is_some-is, none-among, over-least_both, over-least}
use Rattle.lower_bounds.proofs.TableRows.{row-is, projection-bit, projection-alike, HoldWithin, row-agrees, contains-after}

-- ---- across an instance

-- the conditions of a step by an instance with these literals and changes, within a scope
pub record IsStepWithin (literals : List NumberedLiteral) (changes : List ConditionalChange) (bits next : List Bool) (scope : List ℕ) : Type 0 where
  pub literals_hold : HoldWithin literals bits scope
  pub may : (n : ℕ) → is_among scope n ≡ true → may_become (open_changes changes scope (projection bits scope)) n (bit bits n) (bit next n) ≡ true
  pub untouched : (n : ℕ) → is_among scope n ≡ true → touches (changes_in changes) n ≡ false → bit bits n ≡ bit next n

-- The effect on a table's row: the next packed state has a row, whose weight is lower by no more than the table may lose.
pub record IsLedTo (place : ℕ) (literals : List NumberedLiteral) (changes : List ConditionalChange) (next : List Bool) (t : Table) (row : Row) : Type 0 where
  pub after : Row
  pub is_row : row_in next t ≡ Some after
  pub falls : weight_at place row ≤ℤ (weight_at place after +ℤ table_loses place literals changes t)

module _ (place : ℕ) (literals : List NumberedLiteral) (changes : List ConditionalChange) (bits next : List Bool) (t : Table) (steps : IsStepWithin literals changes bits next t.scope) where
  -- the next packed state's projection is a possible successor of the row
  comes-after : (row : Row) → row_in bits t ≡ Some row → Contains (afters_of changes t.scope row.atoms) (projection next t.scope)
  comes-after row at =
      subst (λ atoms. Contains (afters_of changes t.scope atoms) (projection next t.scope)) (sym (row-is t.rows (projection bits t.scope) row at).1)
      (contains-after (open_changes changes t.scope (projection bits t.scope)) (projection bits t.scope) (bit next) t.scope (λ n there.
      subst (λ b. may_become (open_changes changes t.scope (projection bits t.scope)) n b (bit next n) ≡ true) (sym (projection-bit bits t.scope n there)) (steps.may n there)))

  most-lost : (row after : Row) → row_in bits t ≡ Some row → row_in next t ≡ Some after
      → (weight_at place row +ℤ neg_ℤ (weight_at place after)) ≤ℤ most_lost place literals changes t
  most-lost row after at next_at =
      let lost = weight_at place row +ℤ neg_ℤ (weight_at place after) in
      greatest-most (flat_map (losses_from place changes t) (agreeing literals t)) lost
      (Contains-flat_map (losses_from place changes t) (agreeing literals t) row lost (row-agrees bits literals t row at steps.literals_hold).0
      (Contains-map (λ (r : Row). weight_at place row +ℤ neg_ℤ (weight_at place r)) (filter_map (row_of t) (afters_of changes t.scope row.atoms)) after
      (Contains-filter_map (row_of t) (afters_of changes t.scope row.atoms) (projection next t.scope) after (comes-after row at) next_at)))

  pub row-next : (row : Row) → row_in bits t ≡ Some row → is_closed literals changes t ≡ true → IsLedTo place literals changes next t row
  row-next row at closed =
      let are_rows = λ (r : Row). list_all (λ after. is_some (row_of t after)) (afters_of changes t.scope r.atoms) in
      elim (touches_scope changes t) as (λ b. touches_scope changes t ≡ b → (not b || list_all are_rows (agreeing literals t)) ≡ true → IsLedTo place literals changes next t row) [
        | true ↦ λ touched all.
            let is = all-at (λ after. is_some (row_of t after)) (afters_of changes t.scope row.atoms) (projection next t.scope)
            (all-at are_rows (agreeing literals t) row all (row-agrees bits literals t row at steps.literals_hold).0) (comes-after row at) in
            let after = is_some-is (row_in next t) is in
            record {
              after = after.0;
              is_row = after.1;
              falls =
                  let most = most-lost row after.0 at after.1 in
                  subst (λ b. weight_at place row ≤ℤ (weight_at place after.0 +ℤ (if b then most_lost place literals changes t else pos 0))) (sym touched) (omega (arith, ints));
            }
        | false ↦ λ none _.
            record {
              after = row;
              is_row = ap (row_of t) (sym (projection-alike bits next t.scope (λ n there. steps.untouched n there (none-among (touches (changes_in changes)) t.scope n none there)))) ∙ at;
              falls = subst (λ b. weight_at place row ≤ℤ (weight_at place row +ℤ (if b then most_lost place literals changes t else pos 0))) (sym none) (omega (arith, ints));
            }
      ] refl closed

-- ---- all tables

-- the row of a table, if each table has one
row-at : (bits : List Bool) (tables : List Table) (t : Table) → has_rows tables bits ≡ true → Contains tables t → (row : Row) × (row_in bits t ≡ Some row)
row-at bits tables t has at = is_some-is (row_in bits t) (all-at (λ (u : Table). is_some (row_in bits u)) tables t has at)

pub has-next : (literals : List NumberedLiteral) (changes : List ConditionalChange) (bits next : List Bool) (tables : List Table)
    → ((t : Table) → Contains tables t → IsStepWithin literals changes bits next t.scope)
    → has_rows tables bits ≡ true → list_all (is_closed literals changes) tables ≡ true → has_rows tables next ≡ true
has-next literals changes bits next [] steps has closed = refl
has-next literals changes bits next (t ∷ tables) steps has closed =
    let here = and_parts (is_some (row_in bits t)) (has_rows tables bits) has in
    let closes = and_parts (is_closed literals changes t) (list_all (is_closed literals changes) tables) closed in
    let row = is_some-is (row_in bits t) here.0 in
    let led = row-next 0 literals changes bits next t (steps t (Contains-here t tables)) row.0 row.1 closes.0 in
    and_from (is_some (row_in next t)) (has_rows tables next) (ap is_some led.is_row) (has-next literals changes bits next tables (λ u at. steps u (Contains-there t tables u at)) here.1 closes.1)

pub total-falls : (h : TableFunction) (literals : List NumberedLiteral) (changes : List ConditionalChange) (bits next : List Bool) (atoms_lose : ℤ) (allowance : ℕ)
    → ((t : Table) → Contains h.tables t → IsStepWithin literals changes bits next t.scope)
    → has_rows h.tables bits ≡ true → list_all (is_closed literals changes) h.tables ≡ true
    → score h.potentials bits ≤ℤ (score h.potentials next +ℤ atoms_lose)
    → (atoms_lose +ℤ sum_over h.tables (table_loses h.place literals changes)) ≤ℤ pos allowance
    → total h bits ≤ℤ (total h next +ℤ pos allowance)
total-falls h literals changes bits next atoms_lose allowance steps has closed falls within =
    let tables = over-least_both h.tables (λ t. given_by h.place (row_in bits t)) (λ t. given_by h.place (row_in next t)) (table_loses h.place literals changes) (λ t at.
    let row = row-at bits h.tables t has at in
    let led = row-next h.place literals changes bits next t (steps t at) row.0 row.1 (all-at (is_closed literals changes) h.tables t closed at) in
    let before : given_by h.place (row_in bits t) ≡ weight_at h.place row.0 = ap (given_by h.place) row.1 in
    let after : given_by h.place (row_in next t) ≡ weight_at h.place led.after = ap (given_by h.place) led.is_row in
    let most = led.falls in
    omega (arith, ints)) in
    omega (arith, ints)

pub total-ends : (h : TableFunction) (literals : List NumberedLiteral) (bits : List Bool) (atoms_give : ℤ)
    → ((t : Table) → Contains h.tables t → HoldWithin literals bits t.scope)
    → has_rows h.tables bits ≡ true
    → score h.potentials bits ≤ℤ atoms_give
    → (atoms_give +ℤ sum_over h.tables (table_gives h.place literals)) ≤ℤ pos 0
    → total h bits ≤ℤ pos 0
total-ends h literals bits atoms_give holding has gives within =
    let tables = over-least h.tables (λ t. given_by h.place (row_in bits t)) (table_gives h.place literals) (λ t at.
    let row = row-at bits h.tables t has at in
    let most = greatest-most (map (weight_at h.place) (agreeing literals t)) (weight_at h.place row.0)
    (Contains-map (weight_at h.place) (agreeing literals t) row.0 (row-agrees bits literals t row.0 row.1 (holding t at)).0) in
    let here : given_by h.place (row_in bits t) ≡ weight_at h.place row.0 = ap (given_by h.place) row.1 in
    omega (arith, ints)) in
    omega (arith, ints)

-- ---- values

pub value-falls : (h : TableFunction) (bits next : List Bool) (allowance : ℕ)
    → (has_rows h.tables bits ≡ true → (has_rows h.tables next ≡ true) × (total h bits ≤ℤ (total h next +ℤ pos allowance))) → value h bits ≤ value h next + allowance
value-falls h bits next allowance falls =
    elim (has_rows h.tables bits) as (λ b. has_rows h.tables bits ≡ b → or_zero (if b then total h bits else pos 0) ≤ value h next + allowance) [
      | true ↦ λ has.
          let led = falls has in
          let after : value h next ≡ or_zero (total h next) = ap (λ b. or_zero (if b then total h next else pos 0)) led.0 in
          let least = or_zero-least (total h next) in
          let most = or_zero-most (total h bits) (or_zero (total h next) + allowance) (let l = led.1 in omega (arith, ints)) in
          omega arith
      | false ↦ λ _. omega arith
    ] refl

pub value-ends : (h : TableFunction) (bits : List Bool) → (has_rows h.tables bits ≡ true → total h bits ≤ℤ pos 0) → value h bits ≡ 0
value-ends h bits ends =
    elim (has_rows h.tables bits) as (λ b. has_rows h.tables bits ≡ b → or_zero (if b then total h bits else pos 0) ≡ 0) [
      | true ↦ λ has. let most = or_zero-most (total h bits) 0 (ends has) in omega arith
      | false ↦ λ _. refl
    ] refl
