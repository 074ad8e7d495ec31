-- What every table in memory keeps: its rows have distinct sets of atoms, rising and of its scope, and as many weights.
use Rattle.std.proofs.Common.{◌≡◌, ◌∙◌, ℕ, zero, suc, ◌+◌, ◌*◌, ◌<◌, ◌≤◌, Bool, true, false, List, [], ◌∷◌, length, take, drop, get_or, Some, refl, sym, ap, subst, arith, ℤ}
use Rattle.std.specs.Prelude.{IsTrue, All, AllPairs, Contains, ◌≢◌, nat_lt, slice_get}
use Rattle.std.specs.List.{list_all}
use Rattle.std.proofs.lemmas.Bool.{and_from, lt-ltb}
use Rattle.std.proofs.lemmas.List.{length-take-le}
use Rattle.std.proofs.lemmas.List.Elements.{All-cons, All-nil}
use Rattle.std.proofs.lemmas.Option.{slice_get-get_or}
use Rattle.std.proofs.Math.Nat.{mul-suc}
use Rattle.model.proofs.ListLemmas.{Contains-got}
use Rattle.packed_state.specs.PooledView.{pooled_states}
use Rattle.packed_state.specs.Store.{AreDistinct}
use Rattle.lower_bounds.specs.TableFunctions.{Row, is_among}
use Rattle.lower_bounds.proofs.TableLists.{among-here, among-there}
use Rattle.table_rows.specs.Rows.{are_rising, atoms_at, rows_from}
use Rattle.table_rows.specs.Tables.{table_of, sets_of, weight_count_of}
use Rattle.table_rows.specs.declared.table.Table.{Table}
use Rattle.table_rows.proofs.RowLemmas.{length-rows, row-set, same-set, rising-tail, head-above, length-dropped}
use Rattle.table_rows.proofs.StoreLemmas.{sets-wide}

-- ---- distinct rows

pub rows-distinct : (t : Table) → AllPairs (λ (q r : Row). q.atoms ≢ r.atoms) (table_of t).rows
rows-distinct t i j d before below same =
    let scope = t.scope.items in
    let sets = pooled_states t.rows.sets in
    let rows = (table_of t).rows in
    let many = length-rows t.count scope sets t.rows.weights.items in
    let first = slice_get-get_or sets i [] (omega (arith, before, below, many)) in
    let other = slice_get-get_or sets j [] (omega (arith, below, many)) in
    let one = row-set t.count scope sets t.rows.weights.items i (get_or sets i []) (get_or rows i d) first (slice_get-get_or rows i d (omega (arith, before, below))) in
    let two = row-set t.count scope sets t.rows.weights.items j (get_or sets j []) (get_or rows j d) other (slice_get-get_or rows j d below) in
    let wide = sets-wide t.rows.sets (length scope) t.wide in
    let equal = same-set scope (get_or sets i []) (get_or sets j []) t.rising (wide (get_or sets i []) (Contains-got sets i (get_or sets i []) first)) (wide (get_or sets j []) (Contains-got sets j (get_or sets j []) other))
    (sym one ∙ same ∙ two) in
    let place = t.rows.sets.pooled.stored.distinct i j (get_or sets j []) (first ∙ ap (λ s. Some s) equal) other in
    absurd (omega (arith, place, before))

-- ---- each row

put-first : (n : ℕ) (atoms : List ℕ) → ((m : ℕ) (rest : List ℕ) → atoms ≡ m ∷ rest → n < m) → IsTrue (are_rising atoms) → IsTrue (are_rising (n ∷ atoms))
put-first n [] above rising = refl
put-first n (m ∷ rest) above rising = and_from (nat_lt n m) (are_rising (m ∷ rest)) (lt-ltb n m (above m rest refl)) rising

picked-rise : (scope : List ℕ) (bits : List Bool) → IsTrue (are_rising scope) → IsTrue (are_rising (atoms_at scope bits))
picked-rise [] bits rising = refl
picked-rise (n ∷ scope) [] rising = refl
picked-rise (n ∷ scope) (false ∷ bits) rising = picked-rise scope bits (rising-tail n scope rising)
picked-rise (n ∷ scope) (true ∷ bits) rising =
    put-first n (atoms_at scope bits) (λ m rest is. head-above n scope bits m rest rising is) (picked-rise scope bits (rising-tail n scope rising))

picked-of-scope : (scope : List ℕ) (bits : List Bool) (more : List ℕ) → ((k : ℕ) → is_among scope k ≡ true → is_among more k ≡ true) → list_all (is_among more) (atoms_at scope bits) ≡ true
picked-of-scope [] bits more within = refl
picked-of-scope (n ∷ scope) [] more within = refl
picked-of-scope (n ∷ scope) (false ∷ bits) more within = picked-of-scope scope bits more (λ k at. within k (among-there n scope k at))
picked-of-scope (n ∷ scope) (true ∷ bits) more within =
    and_from (is_among more n) (list_all (is_among more) (atoms_at scope bits)) (within n (among-here n scope)) (picked-of-scope scope bits more (λ k at. within k (among-there n scope k at)))

each-row : (P : Row → Type 0) (count : ℕ) (scope : List ℕ) (sets : List (List Bool)) (weights : List ℤ) → length weights ≡ count * length sets
    → ((bits : List Bool) (given : List ℤ) → length given ≡ count → P (record { atoms = atoms_at scope bits; weights = given })) → All P (rows_from count scope sets weights)
each-row P count scope [] weights many holds = All-nil P
each-row P count scope (bits ∷ sets) weights many holds =
    let split = mul-suc count (length sets) in
    All-cons P (record { atoms = atoms_at scope bits; weights = take count weights }) (rows_from count scope sets (drop count weights))
    (holds bits (take count weights) (length-take-le count weights (omega (arith, many, split))))
    (each-row P count scope sets (drop count weights) (length-dropped count (count * length sets) weights (omega (arith, many, split))) holds)

pub rows-weighed : (t : Table) → All (λ (r : Row). length r.weights ≡ weight_count_of t) (table_of t).rows
rows-weighed t = each-row (λ (r : Row). length r.weights ≡ t.count) t.count t.scope.items (pooled_states t.rows.sets) t.rows.weights.items t.weighed (λ bits given long. long)

pub rows-rise : (t : Table) → All (λ (r : Row). IsTrue (are_rising r.atoms)) (table_of t).rows
rows-rise t = each-row (λ (r : Row). IsTrue (are_rising r.atoms)) t.count t.scope.items (pooled_states t.rows.sets) t.rows.weights.items t.weighed (λ bits given long. picked-rise t.scope.items bits t.rising)

pub rows-of-scope : (t : Table) → All (λ (r : Row). list_all (is_among (table_of t).scope) r.atoms ≡ true) (table_of t).rows
rows-of-scope t =
    each-row (λ (r : Row). list_all (is_among t.scope.items) r.atoms ≡ true) t.count t.scope.items (pooled_states t.rows.sets) t.rows.weights.items t.weighed
    (λ bits given long. picked-of-scope t.scope.items bits t.scope.items (λ k at. at))

pub scope-rises : (t : Table) → IsTrue (are_rising (table_of t).scope)
scope-rises t = t.rising
