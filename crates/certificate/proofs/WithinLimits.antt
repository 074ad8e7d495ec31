-- What follows from the limits of a certificate's text: weights are in range, each atom has one, and scopes are of its atoms.
use Rattle.std.proofs.Common.{◌≡◌, ℕ, suc, ◌+◌, ◌≤◌, Bool, true, ◌&&◌, List, [], ◌∷◌, length, map, refl, arith, ℤ, pos, negsuc}
use Rattle.std.specs.Prelude.{All, IsTrue, ◌==◌, nat_le, nat_lt}
use Rattle.std.specs.List.{list_all}
use Rattle.std.proofs.lemmas.Int.{ints}
use Rattle.std.proofs.lemmas.Bool.{and_parts, eqb-true, leb-true, ltb-true, lt-ltb}
use Rattle.std.proofs.lemmas.List.Elements.{All-cons, All-nil}
use Rattle.certificate_definitions.specs.Certificates.{Version, are_potentials, are_tables, are_weights, has_tables, is_row, is_table, is_weight, rise}
use Rattle.lower_bounds.specs.PotentialFunctions.{PotentialFunction, AreInRange, IsInRange}
use Rattle.lower_bounds.specs.TableFunctions as model
use Rattle.lower_bounds.specs.TableFunctions.{Row, is_among}
use Rattle.lower_bounds.specs.TableLaws.{are_over}
use Rattle.table_rows.specs.declared.table.Table.{Table}
use Rattle.table_rows.specs.Tables.{table_of}

-- ---- potential functions

-- a constant, and a weight for each of `count` atoms, all in range
pub potential_parts : (is_in_range : ℤ → Bool) (count : ℕ) (p : PotentialFunction) → are_potentials is_in_range count p ≡ true
    → (is_in_range p.constant ≡ true) × (length p.weights ≡ count) × (list_all is_in_range p.weights ≡ true)
potential_parts is_in_range count p are =
    let (first, weights) = and_parts (is_in_range p.constant && (length p.weights == count)) (list_all is_in_range p.weights) are in
    let (constant_is, many) = and_parts (is_in_range p.constant) (length p.weights == count) first in
    (constant_is, eqb-true (length p.weights) count many, weights)

pub one_weight_each : (is_in_range : ℤ → Bool) (count : ℕ) (p : PotentialFunction) → are_potentials is_in_range count p ≡ true → length p.weights ≡ count
one_weight_each is_in_range count p are = let (_, many, _) = potential_parts is_in_range count p are in many

-- each value has a weight for each of `count` atoms
pub weights_of_each : (count : ℕ) (values : List PotentialFunction) → list_all (are_potentials is_weight count) values ≡ true → All (λ (p : PotentialFunction). length p.weights ≡ count) values
weights_of_each count [] all = All-nil (λ (p : PotentialFunction). length p.weights ≡ count)
weights_of_each count (p ∷ values) all =
    let (here, more) = and_parts (are_potentials is_weight count p) (list_all (are_potentials is_weight count) values) all in
    All-cons (λ (p : PotentialFunction). length p.weights ≡ count) p values (one_weight_each is_weight count p here) (weights_of_each count values more)

pub weight_in_range : (w : ℤ) → is_weight w ≡ true → IsInRange w
weight_in_range (pos n) is = let most = leb-true n 2147483647 is in record { least = omega (arith, ints); most = omega (arith, ints) }
weight_in_range (negsuc n) is = let least = ltb-true n 2147483647 is in record { least = omega (arith, ints); most = omega (arith, ints) }

pub weights_in_range : (weights : List ℤ) → list_all is_weight weights ≡ true → All IsInRange weights
weights_in_range [] all = All-nil IsInRange
weights_in_range (w ∷ weights) all =
    let (here, more) = and_parts (is_weight w) (list_all is_weight weights) all in
    All-cons IsInRange w weights (weight_in_range w here) (weights_in_range weights more)

pub potentials_in_range : (count : ℕ) (p : PotentialFunction) → are_potentials is_weight count p ≡ true → AreInRange p
potentials_in_range count p are =
    let (constant, _, weights) = potential_parts is_weight count p are in
    record { constant = weight_in_range p.constant constant; weights = weights_in_range p.weights weights }

-- ---- tables

module _ (version : Version) (atom_count weight_count : ℕ) where
  row_in_range : (scope : List ℕ) (r : Row) → is_row atom_count weight_count scope r ≡ true → All IsInRange r.weights
  row_in_range scope r is =
      let first = (and_parts (are_weights weight_count r.weights && rise atom_count 0 r.atoms) (list_all (is_among scope) r.atoms) is).0 in
      let weights = (and_parts (are_weights weight_count r.weights) (rise atom_count 0 r.atoms) first).0 in
      weights_in_range r.weights (and_parts (length r.weights == weight_count) (list_all is_weight r.weights) weights).1

  rows_in_range : (scope : List ℕ) (rows : List Row) → list_all (is_row atom_count weight_count scope) rows ≡ true → All (λ (r : Row). All IsInRange r.weights) rows
  rows_in_range scope [] all = All-nil (λ (r : Row). All IsInRange r.weights)
  rows_in_range scope (r ∷ rows) all =
      let (here, more) = and_parts (is_row atom_count weight_count scope r) (list_all (is_row atom_count weight_count scope) rows) all in
      All-cons (λ (r : Row). All IsInRange r.weights) r rows (row_in_range scope r here) (rows_in_range scope rows more)

  -- the weights of each row are in range
  pub tables_in_range : (tables : List Table) → are_tables version atom_count weight_count (map table_of tables) ≡ true → All (λ (t : Table). All (λ (r : Row). All IsInRange r.weights) (table_of t).rows) tables
  tables_in_range [] are = All-nil (λ (t : Table). All (λ (r : Row). All IsInRange r.weights) (table_of t).rows)
  tables_in_range (t ∷ tables) are =
      let table = table_of t in
      let (here, more) = and_parts (has_tables version && is_table atom_count weight_count table) (are_tables version atom_count weight_count (map table_of tables)) are in
      let within = (and_parts (has_tables version) (is_table atom_count weight_count table) here).1 in
      let rows = (and_parts (rise atom_count 0 table.scope && nat_le 1 (length table.scope)) (list_all (is_row atom_count weight_count table.scope) table.rows) within).1 in
      All-cons (λ (t : Table). All (λ (r : Row). All IsInRange r.weights) (table_of t).rows) t tables (rows_in_range table.scope table.rows rows) (tables_in_range tables more)

  -- the scopes are of the atoms, also of those where there are more
  module _ (count : ℕ) (enough : atom_count ≤ count) where
    rise_within : (least : ℕ) (scope : List ℕ) → rise atom_count least scope ≡ true → list_all (λ number. nat_lt number count) scope ≡ true
    rise_within least [] rises = refl
    rise_within least (n ∷ scope) rises =
        let (here, more) = and_parts (nat_le least n && nat_lt n atom_count) (rise atom_count (n + 1) scope) rises in
        let below = ltb-true n atom_count (and_parts (nat_le least n) (nat_lt n atom_count) here).1 in
        λ i. lt-ltb n count (omega (arith, below, enough)) i && rise_within (n + 1) scope more i

    pub scopes_within : (those : List model.Table) → are_tables version atom_count weight_count those ≡ true → IsTrue (are_over count those)
    scopes_within [] are = refl
    scopes_within (t ∷ those) are =
        let (here, more) = and_parts (has_tables version && is_table atom_count weight_count t) (are_tables version atom_count weight_count those) are in
        let table = (and_parts (has_tables version) (is_table atom_count weight_count t) here).1 in
        let scope = (and_parts (rise atom_count 0 t.scope && nat_le 1 (length t.scope)) (list_all (is_row atom_count weight_count t.scope) t.rows) table).0 in
        let rises = (and_parts (rise atom_count 0 t.scope) (nat_le 1 (length t.scope)) scope).0 in
        λ i. rise_within 0 t.scope rises i && scopes_within those more i
