-- What the definitions say of a certificate of a version without tables: it has one potential function and one for dead ends.
use Rattle.std.proofs.Common.{◌≡◌, ◌∙◌, ℕ, ◌<◌, true, false, true≢false, List, [], ◌∷◌, length, map, refl, sym, arith}
use Rattle.std.specs.Prelude.{All, AllPairs, ◌≢◌, ◌&&◌, nat_le}
use Rattle.std.proofs.lemmas.Bool.{and_parts, eqb-true, false≢true, leb-true}
use Rattle.std.proofs.lemmas.List.Elements.{All-cons, All-contains}
use Rattle.model.specs.Task.{Task, Instance}
use Rattle.model.specs.Meaning.{State, cost_of}
use Rattle.model.specs.StaticallyFalse.{kept_instances}
use Rattle.model.specs.NumberedAtoms.{numbered_atoms}
use Rattle.lower_bounds.specs.PotentialFunctions.{PotentialFunction, value_of_state, is_dead_state}
use Rattle.lower_bounds.specs.FairPotentials.{nothing, IsFairAt, IsFairAtGoals}
use Rattle.lower_bounds.specs.TableFunctions.{Row, Table}
use Rattle.table_rows.specs.declared.table.Table as in_memory
use Rattle.table_rows.specs.Tables.{table_of}
use Rattle.table_rows.proofs.TableLemmas.{rows-distinct}
use Rattle.potentials.specs.Fairness.{AreInstancesFair, AreInstancesFairAt, AreInstancesDeadFair}
use Rattle.certificate_definitions.specs.Certificates.{Version, one, two, three, four, Certificate, potentials_of, are_tables, has_tables, is_dead_end_weight, is_table, is_value_count, keeps_limits, value_in, is_dead_end_in, ArePotentialsFair, AreFairIn}
use Rattle.certificate_definitions.specs.CertificateRefusals.{MayLose, IsUnfairIn, IsUnfairAtGoalsIn, IsDeadUnfairIn, IsDeadUnfairAtGoalsIn}
use Rattle.cert_checker.specs.CertChecker.{IsFirstToLoseAt, IsFirstToLoseIn, IsFirstDeadToLoseIn}
use Rattle.certificate.proofs.LimitsLemmas.{limits_of}
use Rattle.certificate.proofs.WithinLimits.{one_weight_each, weights_of_each}

-- what is so of versions 3 and 4 is so of a version with tables, and the other way round
pub of_three : (P : Version → Type 0) (v : Version) → has_tables v ≡ true → (P three → P four) → P three → P v
of_three P one has same p = absurd (false≢true has)
of_three P two has same p = absurd (false≢true has)
of_three P three has same p = p
of_three P four has same p = same p

pub to_three : (P : Version → Type 0) (v : Version) → has_tables v ≡ true → (P four → P three) → P v → P three
to_three P one has same p = absurd (false≢true has)
to_three P two has same p = absurd (false≢true has)
to_three P three has same p = p
to_three P four has same p = same p

module _ (task : Task) (c : Certificate) where
  -- ---- what is said of states

  pub value_as : (v : Version) → has_tables v ≡ false → (s : State) → value_of_state c.atoms (potentials_of c) s ≡ value_in v task c s
  value_as one without s = refl
  value_as two without s = refl
  value_as three without s = absurd (true≢false without)
  value_as four without s = absurd (true≢false without)

  pub dead_end_as : (v : Version) → has_tables v ≡ false → (s : State) → is_dead_state c.atoms c.dead_ends s ≡ is_dead_end_in v task c s
  dead_end_as one without s = refl
  dead_end_as two without s = refl
  dead_end_as three without s = absurd (true≢false without)
  dead_end_as four without s = absurd (true≢false without)

  -- ---- what is fair

  pub fair_in : (v : Version) → has_tables v ≡ false → ArePotentialsFair task c → AreFairIn v task c
  fair_in one without fair = fair
  fair_in two without fair = fair
  fair_in three without fair = absurd (true≢false without)
  fair_in four without fair = absurd (true≢false without)

  none_loses : (allowance : Instance → ℕ) (p : PotentialFunction) → AreInstancesFairAt allowance task (numbered_atoms task c.atoms) p → (i : Instance) → MayLose (allowance i) task c p i → ⊥
  none_loses allowance p fair i (kept, wrong) =
      wrong (All-contains (λ (i : Instance). IsFairAt (allowance i) task (numbered_atoms task c.atoms) p.weights i) (kept_instances task) i fair kept)

  pub none_unfair_in : (v : Version) → has_tables v ≡ false → AreInstancesFair task (numbered_atoms task c.atoms) (potentials_of c) → (place : ℕ) (i : Instance) → IsUnfairIn v task c place i → ⊥
  none_unfair_in one without fair place i (is, wrong) = none_loses (cost_of task) (potentials_of c) fair i wrong
  none_unfair_in two without fair place i (is, wrong) = none_loses (cost_of task) (potentials_of c) fair i wrong
  none_unfair_in three without fair place i wrong = absurd (true≢false without)
  none_unfair_in four without fair place i wrong = absurd (true≢false without)

  pub goals_fair_in : (v : Version) → has_tables v ≡ false → IsFairAtGoals task (numbered_atoms task c.atoms) (potentials_of c) → (place : ℕ) → IsUnfairAtGoalsIn v task c place → ⊥
  goals_fair_in one without fair place (is, wrong) = wrong fair
  goals_fair_in two without fair place (is, wrong) = wrong fair
  goals_fair_in three without fair place wrong = absurd (true≢false without)
  goals_fair_in four without fair place wrong = absurd (true≢false without)

  pub none_dead_unfair_in : (v : Version) → has_tables v ≡ false → AreInstancesDeadFair task (numbered_atoms task c.atoms) c.dead_ends → (i : Instance) → IsDeadUnfairIn v task c i → ⊥
  none_dead_unfair_in one without fair i wrong = none_loses nothing c.dead_ends fair i wrong
  none_dead_unfair_in two without fair i wrong = none_loses nothing c.dead_ends fair i wrong
  none_dead_unfair_in three without fair i wrong = absurd (true≢false without)
  none_dead_unfair_in four without fair i wrong = absurd (true≢false without)

  -- ---- what is not

  pub unfair_in : (v : Version) → has_tables v ≡ false → (i : Instance) → MayLose (cost_of task i) task c (potentials_of c) i → IsUnfairIn v task c 0 i
  unfair_in one without i loses = (refl, loses)
  unfair_in two without i loses = (refl, loses)
  unfair_in three without i loses = absurd (true≢false without)
  unfair_in four without i loses = absurd (true≢false without)

  pub unfair_at_goals_in : (v : Version) → has_tables v ≡ false → ¬ IsFairAtGoals task (numbered_atoms task c.atoms) (potentials_of c) → IsUnfairAtGoalsIn v task c 0
  unfair_at_goals_in one without unfair = (refl, unfair)
  unfair_at_goals_in two without unfair = (refl, unfair)
  unfair_at_goals_in three without unfair = absurd (true≢false without)
  unfair_at_goals_in four without unfair = absurd (true≢false without)

  pub dead_unfair_in : (v : Version) → has_tables v ≡ false → (i : Instance) → MayLose 0 task c c.dead_ends i → IsDeadUnfairIn v task c i
  dead_unfair_in one without i loses = loses
  dead_unfair_in two without i loses = loses
  dead_unfair_in three without i loses = absurd (true≢false without)
  dead_unfair_in four without i loses = absurd (true≢false without)

  pub dead_unfair_at_goals_in : (v : Version) → has_tables v ≡ false → ¬ IsFairAtGoals task (numbered_atoms task c.atoms) c.dead_ends → IsDeadUnfairAtGoalsIn v task c
  dead_unfair_at_goals_in one without unfair = unfair
  dead_unfair_at_goals_in two without unfair = unfair
  dead_unfair_at_goals_in three without unfair = absurd (true≢false without)
  dead_unfair_at_goals_in four without unfair = absurd (true≢false without)

  pub first_to_lose_in : (v : Version) → has_tables v ≡ false → (i : Instance) → IsFirstToLoseAt (cost_of task) task c (potentials_of c) i → IsFirstToLoseIn v task c 0 i
  first_to_lose_in one without i first = first
  first_to_lose_in two without i first = first
  first_to_lose_in three without i first = absurd (true≢false without)
  first_to_lose_in four without i first = absurd (true≢false without)

  pub first_dead_to_lose_in : (v : Version) → has_tables v ≡ false → (i : Instance) → IsFirstToLoseAt nothing task c c.dead_ends i → IsFirstDeadToLoseIn v task c i
  first_dead_to_lose_in one without i first = first
  first_dead_to_lose_in two without i first = first
  first_dead_to_lose_in three without i first = absurd (true≢false without)
  first_dead_to_lose_in four without i first = absurd (true≢false without)

-- ---- weights

-- each version has a value
pub some_value : (v : Version) (count : ℕ) → is_value_count v count ≡ true → 0 < count
some_value one count is = let same = eqb-true count 1 is in omega (arith, same)
some_value two count is = let same = eqb-true count 1 is in omega (arith, same)
some_value three count is = let least = leb-true 1 count (and_parts (nat_le 1 count) (nat_le count 32) is).0 in omega (arith, least)
some_value four count is = let least = leb-true 1 count (and_parts (nat_le 1 count) (nat_le count 32) is).0 in omega (arith, least)

-- so the first value has a weight for each atom, and that of dead ends has
pub one_for_each : (c : Certificate) → keeps_limits c ≡ true → (length (potentials_of c).weights ≡ length c.atoms) × (length c.dead_ends.weights ≡ length c.atoms)
one_for_each c keeps =
    let limits = limits_of c keeps in (
      weights_of_each (length c.atoms) c.values limits.values 0 _ (some_value c.version (length c.values) limits.value_count),
      one_weight_each (is_dead_end_weight c.version) (length c.atoms) c.dead_ends limits.dead_ends,
    )

-- ---- tables

-- a version without tables has none
pub no_tables : (v : Version) (atom_count weight_count : ℕ) (tables : List Table) → has_tables v ≡ false → are_tables v atom_count weight_count tables ≡ true → tables ≡ []
no_tables v atom_count weight_count [] without are = refl
no_tables v atom_count weight_count (t ∷ tables) without are =
    let here = (and_parts (has_tables v && is_table atom_count weight_count t) (are_tables v atom_count weight_count tables) are).0 in
    let has = (and_parts (has_tables v) (is_table atom_count weight_count t) here).0 in
    absurd (true≢false (sym has ∙ without))

-- and one value
pub one_value : (v : Version) (count : ℕ) → has_tables v ≡ false → is_value_count v count ≡ true → count ≡ 1
one_value one count without is = eqb-true count 1 is
one_value two count without is = eqb-true count 1 is
one_value three count without is = absurd (true≢false without)
one_value four count without is = absurd (true≢false without)

-- no table in memory has a row twice
pub rows_apart : (tables : List in_memory.Table) → All (λ (t : Table). AllPairs (λ (q r : Row). q.atoms ≢ r.atoms) t.rows) (map table_of tables)
rows_apart [] = λ place d below. absurd (omega arith)
rows_apart (t ∷ tables) = All-cons (λ (u : Table). AllPairs (λ (q r : Row). q.atoms ≢ r.atoms) u.rows) (table_of t) (map table_of tables) (rows-distinct t) (rows_apart tables)
