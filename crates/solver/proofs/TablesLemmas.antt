-- What the limits of a certificate's text say of its tables, as they stand in memory.
use Rattle.std.proofs.Common.{◌≡◌, ℕ, ◌≤◌, true, List, [], ◌∷◌, length, map, refl}
use Rattle.std.specs.Prelude.{All, AllPairs, ◌≢◌, ◌==◌, nat_le}
use Rattle.std.specs.List.{list_all}
use Rattle.std.proofs.lemmas.Bool.{and_parts, eqb-true, leb-true}
use Rattle.std.proofs.lemmas.List.Elements.{All-cons, All-nil}
use Rattle.certificate.specs.Evidence.{is_evidence, evidence_of}
use Rattle.certificate.specs.declared.evidence.Evidence.{Evidence}
use Rattle.certificate_definitions.specs.Certificates.{three, no_landmarks, are_potentials, is_dead_end_weight, is_value_count, is_weight}
use Rattle.potentials.specs.Potentials.{potentials_of}
use Rattle.potentials.specs.declared.potentials.Potentials.{Potentials}
use Rattle.lower_bounds.specs.TableFunctions as model
use Rattle.lower_bounds.specs.TableFunctions.{Row}
use Rattle.table_rows.proofs.TableLemmas.{rows-distinct}
use Rattle.table_rows.specs.declared.table.Table.{Table}
use Rattle.table_rows.specs.Tables.{table_of, weight_count_of}
use Rattle.solver.specs.Guidance.{by_tables, CanBeWritten}
use Rattle.certificate.proofs.WithinLimits.{one_weight_each}
use Rattle.solver.proofs.GuidanceLemmas.{limits_of}

-- no table in memory has a row twice
rows_apart : (tables : List Table) → All (λ (t : model.Table). AllPairs (λ (q r : Row). q.atoms ≢ r.atoms) t.rows) (map table_of tables)
rows_apart [] = All-nil (λ (t : model.Table). AllPairs (λ (q r : Row). q.atoms ≢ r.atoms) t.rows)
rows_apart (t ∷ tables) = All-cons (λ (u : model.Table). AllPairs (λ (q r : Row). q.atoms ≢ r.atoms) u.rows) (table_of t) (map table_of tables) (rows-distinct t) (rows_apart tables)

-- so what bounds the costs of plans within the limits can be written
pub tables-written : (count : ℕ) (evidence : Evidence) → is_evidence three count (evidence_of evidence) no_landmarks ≡ true → CanBeWritten count (by_tables (evidence_of evidence))
tables-written count evidence are = record { within_limits = are; rows_are_distinct = rows_apart evidence.tables.items }

-- the value of dead ends has a weight for each atom
pub dead_ends_weighed : (count : ℕ) (s : model.SeveralValues) → is_evidence three count s no_landmarks ≡ true → length s.dead_ends.weights ≡ count
dead_ends_weighed count s are = one_weight_each (is_dead_end_weight three) count s.dead_ends (limits_of three count s are).dead_ends

pub few_values : (count : ℕ) → is_value_count three count ≡ true → count ≤ 32
few_values count is = leb-true count 32 (and_parts (nat_le 1 count) (nat_le count 32) is).1

pub values_weighed : (count : ℕ) (values : List Potentials) → list_all (are_potentials is_weight count) (map potentials_of values) ≡ true → All (λ (p : Potentials). length (potentials_of p).weights ≡ count) values
values_weighed count [] all = All-nil (λ (p : Potentials). length (potentials_of p).weights ≡ count)
values_weighed count (p ∷ values) all =
    let (here, more) = and_parts (are_potentials is_weight count (potentials_of p)) (list_all (are_potentials is_weight count) (map potentials_of values)) all in
    All-cons (λ (p : Potentials). length (potentials_of p).weights ≡ count) p values (one_weight_each is_weight count (potentials_of p) here) (values_weighed count values more)

-- each table has `count` weights in each row
pub all_counted : (count : ℕ) (tables : List Table) → list_all (λ (t : Table). weight_count_of t == count) tables ≡ true → All (λ (t : Table). weight_count_of t ≡ count) tables
all_counted count [] all = All-nil (λ (t : Table). weight_count_of t ≡ count)
all_counted count (t ∷ tables) all =
    let (here, more) = and_parts (weight_count_of t == count) (list_all (λ (t : Table). weight_count_of t == count) tables) all in
    All-cons (λ (t : Table). weight_count_of t ≡ count) t tables (eqb-true (weight_count_of t) count here) (all_counted count tables more)
