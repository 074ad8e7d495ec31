-- The limits of rows of tables in memory.
use Rattle.std.proofs.Common.{◌≡◌, ℕ, zero, suc, ◌+◌, ◌≤◌, Bool, true, false, List, [], ◌∷◌, drop, refl, sym, ap, ◌∙◌, arith}
use Rattle.std.specs.Prelude.{◌&&◌, ℤ, Some, slice_get}
use Rattle.std.specs.List.{list_all}
use Rattle.std.proofs.lemmas.Bool.{le-leb, lt-ltb}
use Rattle.std.proofs.lemmas.List.Elements.{All-contains}
use Rattle.packed_state.specs.PooledView.{pooled_states}
use Rattle.lower_bounds.specs.TableFunctions.{Row, is_among}
use Rattle.table_rows.specs.declared.table.Table as code
use Rattle.table_rows.specs.Rows.{atoms_at, rows_from}
use Rattle.table_rows.specs.Tables.{table_of}
use Rattle.table_rows.proofs.TableLemmas.{rows-of-scope}
use Rattle.certificate_definitions.specs.Certificates.{are_weights, is_row, rise}
use Rattle.certificate_reader.proofs.NumbersRead.{rise_parts}
use Rattle.model.proofs.ListLemmas.{Contains-got, drop-here}

-- a subset of ascending numbers ascends
rise_from : (count least more : ℕ) (scope : List ℕ) (bits : List Bool) → least ≤ more → rise count more scope ≡ true → rise count least (atoms_at scope bits) ≡ true
rise_from count least more [] bits low rises = refl
rise_from count least more (n ∷ scope) [] low rises = refl
rise_from count least more (n ∷ scope) (true ∷ bits) low rises =
    let (above, below, rest) = rise_parts count more n scope rises in
    λ i. le-leb least n (omega (arith, low, above)) i && lt-ltb n count below i && rise_from count (n + 1) (n + 1) scope bits (omega arith) rest i
rise_from count least more (n ∷ scope) (false ∷ bits) low rises =
    let (above, below, rest) = rise_parts count more n scope rises in
    rise_from count least (n + 1) scope bits (omega (arith, low, above)) rest

-- each row is over some set of the scope's atoms
set_of_row : (count : ℕ) (scope : List ℕ) (sets : List (List Bool)) (weights : List ℤ) (i : ℕ) (r : Row) → slice_get (rows_from count scope sets weights) i ≡ Some r
    → (bits : List Bool) × (r.atoms ≡ atoms_at scope bits)
set_of_row count scope [] weights i r at = absurd (cc)
set_of_row count scope (bits ∷ sets) weights zero r at = (bits, ap (λ (q : Row). q.atoms) (sym (first_is at)))
  where
    first_is : {q r : Row} → Some q ≡ Some r → q ≡ r
    first_is is = cc
set_of_row count scope (bits ∷ sets) weights (suc i) r at = set_of_row count scope sets (drop count weights) i r at

and_true : (b : Bool) → (b && true) && true ≡ b
and_true true = refl
and_true false = refl

module _ (t : code.Table) (atom_count weight_count : ℕ) (rises : rise atom_count 0 (table_of t).scope ≡ true) (i : ℕ) (r : Row) (at : slice_get (table_of t).rows i ≡ Some r) where
  -- whether it is a valid row depends on its weights
  by_weights : is_row atom_count weight_count (table_of t).scope r ≡ are_weights weight_count r.weights
  by_weights =
      let (bits, is) = set_of_row t.count t.scope.items (pooled_states t.rows.sets) t.rows.weights.items i r at in
      let rising : rise atom_count 0 r.atoms ≡ true = ap (rise atom_count 0) is ∙ rise_from atom_count 0 0 t.scope.items bits (omega arith) rises in
      let among : list_all (is_among (table_of t).scope) r.atoms ≡ true =
      All-contains (λ (q : Row). list_all (is_among (table_of t).scope) q.atoms ≡ true) (table_of t).rows r (rows-of-scope t) (Contains-got (table_of t).rows i r at) in
      (λ k. (are_weights weight_count r.weights && rising k) && among k) ∙ and_true (are_weights weight_count r.weights)

  -- and so are those from it on
  pub from_row : list_all (is_row atom_count weight_count (table_of t).scope) (drop i (table_of t).rows)
      ≡ are_weights weight_count r.weights && list_all (is_row atom_count weight_count (table_of t).scope) (drop (i + 1) (table_of t).rows)
  from_row =
      ap (list_all (is_row atom_count weight_count (table_of t).scope)) (drop-here (table_of t).rows i r at)
      ∙ (λ k. by_weights k && list_all (is_row atom_count weight_count (table_of t).scope) (drop (i + 1) (table_of t).rows))
