-- What a certificate says of the states that were found by a guidance: the estimates by which they were found, which are small,
-- and which of them are dead ends; and what it keeps of its limits.
use Rattle.std.proofs.Common.{◌≡◌, ◌∙◌, ℕ, zero, suc, ◌+◌, ◌*◌, ◌≤◌, Bool, true, false, ◌&&◌, List, [], ◌∷◌, length, get_or, None, Some, refl, sym, ap, subst, arith, ℤ, pos, ◌+ℤ◌, ◌≤ℤ◌}
use Rattle.std.specs.Prelude.{◌==◌, nat_le, ◌≢◌, All, AllPairs, IsTrue, if◌then◌else◌}
use Rattle.std.specs.List.{list_all}
use Rattle.std.proofs.lemmas.Bool.{and_parts, leb-true, lt-ltb}
use Rattle.std.proofs.lemmas.Int.{ints}
use Rattle.std.proofs.lemmas.List.Elements.{All-nil}
use Rattle.model.specs.Task.{Task, Atom}
use Rattle.model.specs.Claims.{Claim, expanded, cut, dead}
use Rattle.model.specs.Meaning.{initial_state}
use Rattle.model.specs.Fluents.{is_fluent}
use Rattle.model.specs.NumberedAtoms.{numbered_atoms}
use Rattle.model.specs.Grounding.{bits_of_state, state_of_bits, ground_system}
use Rattle.model.proofs.LimitsLemmas.{numbered_again}
use Rattle.model.proofs.GroundTaskLemmas.{initial-numbered, packs_states}
use Rattle.search.specs.declared.nodes.Node.{Node}
use Rattle.symmetries_definitions.specs.Exchanges.{Exchange}
use Rattle.certificate_definitions.specs.Certificates.{Version, two, three, no_landmarks, are_landmarks, is_value_count, is_weight, is_mark, are_potentials, is_dead_end_weight, are_tables, are_weights, has_tables, is_row, is_table, rows_of, rise, value_of, is_dead_end_of, AreFairFor}
use Rattle.certificate.specs.Evidence.{is_evidence}
use Rattle.certificate.proofs.WithinLimits.{potentials_in_range, weight_in_range}
use Rattle.lower_bounds.specs.PotentialFunctions.{PotentialFunction, score, given, AreInRange}
use Rattle.lower_bounds.specs.FairPotentials as potentials
use Rattle.lower_bounds.proofs.PotentialFalls.{or_zero-most}
use Rattle.lower_bounds.proofs.Sums.{sum-range}
use Rattle.lower_bounds.proofs.Ranges.{given-range}
use Rattle.lower_bounds.specs.TableFunctions.{Row, Table, SeveralValues, is_among, projection, row_in, has_rows, given_by, sum_over, score_by_tables, value, over_tables, functions_of, dead_ends_of, greatest_value, in_state}
use Rattle.lower_bounds.specs.FairTables as fair_tables
use Rattle.lower_bounds.proofs.TableLists.{all-at}
use Rattle.lower_bounds.proofs.TableLowerBound.{numbered-has}
use Rattle.lower_bounds.proofs.TableRows.{row-is}
use Rattle.solver.specs.Guidance.{Guidance, by_potentials, by_tables, estimate_by, reports_dead, version_by, values_by, CanBeWritten, AreFairBy}
use Rattle.solver.specs.Listing.{by_all, found_certificate}
use Rattle.solver.proofs.PotentialLemmas.{value-packed, potentials-pass}

-- ---- the limits of what bounds costs, one by one

pub record AreLimits (version : Version) (count : ℕ) (s : SeveralValues) : Type 0 where
  pub value_count : is_value_count version (length s.values) ≡ true
  pub values : list_all (are_potentials is_weight count) s.values ≡ true
  pub dead_ends : are_potentials (is_dead_end_weight version) count s.dead_ends ≡ true
  pub tables : are_tables version count (length s.values + 1) s.tables ≡ true
  pub few_tables : nat_le (length s.tables) 4194304 ≡ true
  pub few_rows : nat_le (length (rows_of s.tables)) 4194304 ≡ true
  pub landmarks : are_landmarks version count no_landmarks ≡ true

pub limits_of : (version : Version) (count : ℕ) (s : SeveralValues) → is_evidence version count s no_landmarks ≡ true → AreLimits version count s
limits_of version count s are =
    let value_count = is_value_count version (length s.values) in
    let values = list_all (are_potentials is_weight count) s.values in
    let dead_ends = are_potentials (is_dead_end_weight version) count s.dead_ends in
    let tables = are_tables version count (length s.values + 1) s.tables in
    let few_tables = nat_le (length s.tables) 4194304 in
    let few_rows = nat_le (length (rows_of s.tables)) 4194304 in
    let (first, landmarks) = and_parts (value_count && values && dead_ends && tables && few_tables && few_rows) (are_landmarks version count no_landmarks) are in
    let (first, few_rows) = and_parts (value_count && values && dead_ends && tables && few_tables) few_rows first in
    let (first, few_tables) = and_parts (value_count && values && dead_ends && tables) few_tables first in
    let (first, tables) = and_parts (value_count && values && dead_ends) tables first in
    let (first, dead_ends) = and_parts (value_count && values) dead_ends first in
    let (value_count, values) = and_parts value_count values first in
    record { value_count = value_count; values = values; dead_ends = dead_ends; tables = tables; few_tables = few_tables; few_rows = few_rows; landmarks = landmarks }

-- ---- what is in range

-- so a certificate can have potentials in range, with a weight for each atom
pub potentials-written : (count : ℕ) (p dead_ends : PotentialFunction) → AreInRange p → AreInRange dead_ends → length p.weights ≡ count → length dead_ends.weights ≡ count → CanBeWritten count (by_potentials p dead_ends)
potentials-written count p dead_ends range dead_range long dead_long =
    let value_passes = potentials-pass p count range long in
    let dead_ends_pass = potentials-pass dead_ends count dead_range dead_long in
    record {
      within_limits = λ i. (((((true && (value_passes i && true)) && dead_ends_pass i) && true) && true) && true) && true;
      rows_are_distinct = All-nil (λ (t : Table). AllPairs (λ (q r : Row). q.atoms ≢ r.atoms) t.rows);
    }

-- ---- the greatest estimate

-- the most that values give of as many atoms, and over as many tables, as a certificate may have
abbrev pub most_value : ℕ
most_value = 18014398509481984

abbrev most_score : ℕ
most_score = 4503599627370496

score-most : (p : PotentialFunction) (bits : List Bool) → AreInRange p → length bits ≤ 1048576 → score p bits ≤ℤ pos most_score
score-most p bits range few =
    let sum = (sum-range (length bits) (given p.weights bits) (λ k below. given-range p.weights bits k range.weights)).1 in
    let most = range.constant.most in
    omega (arith, ints)

weight-at-most : (weights : List ℤ) (place : ℕ) → list_all is_weight weights ≡ true → get_or weights place (pos 0) ≤ℤ pos 2147483647
weight-at-most [] place all = omega (arith, ints)
weight-at-most (w ∷ weights) zero all = (weight_in_range w (and_parts (is_weight w) (list_all is_weight weights) all).0).most
weight-at-most (w ∷ weights) (suc place) all = weight-at-most weights place (and_parts (is_weight w) (list_all is_weight weights) all).1

module _ (count weight_count : ℕ) (bits : List Bool) (place : ℕ) where
  given-most : (t : Table) → is_table count weight_count t ≡ true → given_by place (row_in bits t) ≤ℤ pos 2147483647
  given-most t is_one =
      let rows = (and_parts (rise count 0 t.scope && nat_le 1 (length t.scope)) (list_all (is_row count weight_count t.scope) t.rows) is_one).1 in
      elim (row_in bits t) as (λ o. row_in bits t ≡ o → given_by place o ≤ℤ pos 2147483647) [
        | None ↦ λ _. omega (arith, ints)
        | Some r ↦ λ is.
            let at = (row-is t.rows (projection bits t.scope) r is).0 in
            let of_scope = list_all (is_among t.scope) r.atoms in
            let here = (and_parts (are_weights weight_count r.weights && rise count 0 r.atoms) of_scope (all-at (is_row count weight_count t.scope) t.rows r rows at)).0 in
            let weights = (and_parts (are_weights weight_count r.weights) (rise count 0 r.atoms) here).0 in
            weight-at-most r.weights place (and_parts (length r.weights == weight_count) (list_all is_weight r.weights) weights).1
      ] refl

  sum-most : (tables : List Table) → are_tables three count weight_count tables ≡ true → sum_over tables (λ t. given_by place (row_in bits t)) ≤ℤ pos (2147483647 * length tables)
  sum-most [] are = omega (arith, ints)
  sum-most (t ∷ tables) are =
      let (here, more) = and_parts (has_tables three && is_table count weight_count t) (are_tables three count weight_count tables) are in
      let first = given-most t (and_parts (has_tables three) (is_table count weight_count t) here).1 in
      let rest = sum-most tables more in
      omega (arith, ints)

-- each of several
module _ (count weight_count : ℕ) (tables : List Table) (are : are_tables three count weight_count tables ≡ true) (few : length tables ≤ 4194304) (bits : List Bool) (short : length bits ≤ 1048576) where
  one-most : (p : PotentialFunction) (place : ℕ) → AreInRange p → value (record { potentials = p; tables = tables; place = place }) bits ≤ most_value
  one-most p place range =
      let alone = score-most p bits range short in
      let sum = sum-most count weight_count bits place tables are in
      let summed : (score p bits +ℤ sum_over tables (λ t. given_by place (row_in bits t))) ≤ℤ pos most_value = omega (arith, ints) in
      or_zero-most (score_by_tables (record { potentials = p; tables = tables; place = place }) bits) most_value
      (elim (has_rows tables bits) as (λ b. (if b then (score p bits +ℤ sum_over tables (λ t. given_by place (row_in bits t))) else pos 0) ≤ℤ pos most_value) [
        | true ↦ summed
        | false ↦ omega (arith, ints)
      ])

  greatest-most : (place : ℕ) (values : List PotentialFunction) → list_all (are_potentials is_weight count) values ≡ true → greatest_value (over_tables tables place values) bits ≤ most_value
  greatest-most place [] all = omega arith
  greatest-most place (p ∷ values) all =
      let (here, more) = and_parts (are_potentials is_weight count p) (list_all (are_potentials is_weight count) values) all in
      let first = one-most p place (potentials_in_range count p here) in
      let rest = greatest-most (suc place) values more in
      omega arith

pub estimate-most : (count : ℕ) (guidance : Guidance) → is_evidence (version_by guidance) count (values_by guidance) no_landmarks ≡ true → (bits : List Bool) → length bits ≤ 1048576 → estimate_by guidance bits ≤ most_value
estimate-most count (by_potentials p dead_ends) are bits short =
    let limits = limits_of two count (values_by (by_potentials p dead_ends)) are in
    let here = (and_parts (are_potentials is_weight count p) true limits.values).0 in
    let low = score-most p bits (potentials_in_range count p here) short in
    or_zero-most (score p bits) most_value (omega (arith, ints))
estimate-most count (by_tables s) are bits short =
    let limits = limits_of three count s are in
    greatest-most count (length s.values + 1) s.tables limits.tables (leb-true (length s.tables) 4194304 limits.few_tables) bits short 0 s.values limits.values

-- a mark of a certificate that has it
pub mark-passes : (guidance : Guidance) (is_expanded is_dead : Bool) (rest : ℕ) → rest ≤ most_value → is_mark (version_by guidance) (by_all (if is_expanded then expanded else (if is_dead then dead else cut rest))) ≡ true
mark-passes (by_potentials p dead_ends) true is_dead rest most = refl
mark-passes (by_potentials p dead_ends) false true rest most = refl
mark-passes (by_potentials p dead_ends) false false rest most = lt-ltb rest 1152921504606846976 (omega (arith, most))
mark-passes (by_tables s) true is_dead rest most = refl
mark-passes (by_tables s) false true rest most = refl
mark-passes (by_tables s) false false rest most = lt-ltb rest 1152921504606846976 (omega (arith, most))

-- ---- what the certificate says of states

module _ (task : Task) where
  abbrev atoms : List Atom
  atoms = numbered_atoms task []

  abbrev none_more : All (λ (a : Atom). IsTrue (is_fluent task a.predicate)) []
  none_more = λ k d below. absurd (omega (arith, below))

  -- a packed state says of the state that it stands for what is said of it
  pub packed : (f : List Bool → ℕ) (bits : List Bool) → length bits ≡ length atoms → in_state task (numbered_atoms task atoms) f (state_of_bits task atoms bits) ≡ f bits
  packed f bits long =
      let there = packs_states task [] none_more in
      let state = state_of_bits task atoms bits in
      subst (λ (those : List Atom). in_state task those f state ≡ f bits) (sym (numbered_again task))
      (ap (λ b. if b then f (bits_of_state atoms state) else 0) (numbered-has task atoms state (there.fluents bits)) ∙ ap f (there.one_packed bits long))

  pub packed-start : (f : List Bool → ℕ) → in_state task (numbered_atoms task atoms) f (initial_state task) ≡ f (ground_system task atoms).initial
  packed-start f =
      subst (λ (those : List Atom). in_state task those f (initial_state task) ≡ f (ground_system task atoms).initial) (sym (numbered_again task))
      (ap (λ b. if b then f (bits_of_state atoms (initial_state task)) else 0) (numbered-has task atoms (initial_state task) (initial-numbered task [])))

  module _ (claim : Claim) (exchanges : List Exchange) (states : List (List Bool)) (nodes : List Node) (bits : List Bool) (long : length bits ≡ length atoms) where
    -- the certificate gives a state the estimate by which it was found
    pub value-found : (guidance : Guidance) → value_of task (found_certificate claim exchanges atoms guidance states nodes) (state_of_bits task atoms bits) ≡ estimate_by guidance bits
    value-found (by_potentials p dead_ends) = value-packed task p bits long
    value-found (by_tables s) = packed (greatest_value (functions_of s)) bits long

    -- and reports it a dead end where it was found so
    pub dead-found : (guidance : Guidance) → is_dead_end_of task (found_certificate claim exchanges atoms guidance states nodes) (state_of_bits task atoms bits) ≡ reports_dead guidance bits
    dead-found (by_potentials p dead_ends) = ap (nat_le 1) (value-packed task dead_ends bits long)
    dead-found (by_tables s) = ap (nat_le 1) (packed (value (dead_ends_of s)) bits long)

  -- so it is of the initial state
  pub value-at-start : (claim : Claim) (exchanges : List Exchange) (states : List (List Bool)) (nodes : List Node) (guidance : Guidance)
      → value_of task (found_certificate claim exchanges atoms guidance states nodes) (initial_state task) ≡ estimate_by guidance (ground_system task atoms).initial
  value-at-start claim exchanges states nodes (by_potentials p dead_ends) = refl
  value-at-start claim exchanges states nodes (by_tables s) = packed-start (greatest_value (functions_of s))

  -- its atoms are numbered as they are, so what is fair is fair for it
  pub fair-found : (claim : Claim) (exchanges : List Exchange) (states : List (List Bool)) (nodes : List Node) (guidance : Guidance) → AreFairBy task atoms guidance → AreFairFor task (found_certificate claim exchanges atoms guidance states nodes)
  fair-found claim exchanges states nodes (by_potentials p dead_ends) fair = record {
    values = subst (λ (l : List Atom). potentials.AreFair task l p) (sym (numbered_again task)) fair.0;
    dead_ends = subst (λ (l : List Atom). potentials.AreDeadFair task l dead_ends) (sym (numbered_again task)) fair.1;
  }
  fair-found claim exchanges states nodes (by_tables s) fair = subst (λ (l : List Atom). fair_tables.AreFair task l s) (sym (numbered_again task)) fair
