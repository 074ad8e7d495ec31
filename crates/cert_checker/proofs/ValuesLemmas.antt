-- The values of a packed state by a certificate's values in memory are those that the certificate gives to the state that it
-- stands for.
use Rattle.std.proofs.Common.{◌≡◌, ◌∙◌, ℕ, ◌+◌, Bool, true, false, List, [], ◌∷◌, length, get_or, refl, sym, ap, subst, arith, ℤ, pos, ◌+ℤ◌}
use Rattle.std.specs.Prelude.{if◌then◌else◌, nat_le}
use Rattle.std.proofs.lemmas.Int.{ints}
use Rattle.std.proofs.Math.Nat.{max-zero}
use Rattle.packed_state.specs.declared.pooled.PooledStore.{PooledStore}
use Rattle.model.specs.Task.{Atom, Task}
use Rattle.model.specs.Meaning.{State}
use Rattle.model.specs.NumberedAtoms.{numbered_atoms}
use Rattle.model.specs.Grounding.{bits_of_state, state_of_bits}
use Rattle.lower_bounds.specs.PotentialFunctions as potential
use Rattle.lower_bounds.specs.PotentialFunctions.{PotentialFunction, or_zero, score, value_of_state, is_dead_state}
use Rattle.lower_bounds.specs.TableFunctions.{SeveralValues, over_tables, functions_of, dead_ends_of, greatest_value, in_state, is_dead_by, value}
use Rattle.lower_bounds.proofs.TableLowerBound.{numbered-has}
use Rattle.certificate_definitions.specs.Certificates.{Certificate, has_tables, is_dead_end_in, is_dead_end_of, keeps_limits, potentials_of, several_of, value_in, value_of}
use Rattle.cert_checker.specs.PackedLines.{IsPackedListing}
use Rattle.cert_checker.specs.Weights.{AreWidened, HasItsWeights, HaveTheirWeights}
use Rattle.certificate.proofs.LimitsLemmas.{limits_of}
use Rattle.cert_checker.proofs.PackedListingLemmas.{packs, value_there}
use Rattle.cert_checker.proofs.TablesLemmas.{are_widened, dead_ends_alike, functions_alike, greatest_alike, value_alike}
use Rattle.cert_checker.proofs.VersionLemmas.{dead_end_as, no_tables, of_three, one_for_each, one_value, value_as}

-- ---- without tables

more_zero : (z : ℤ) → (z +ℤ pos 0) ≡ z
more_zero z = omega (arith, ints)

-- a value over no tables is that of its potentials
value_alone : (p : PotentialFunction) (place : ℕ) (bits : List Bool) → value (record { potentials = p; tables = []; place = place }) bits ≡ potential.value p bits
value_alone p place bits = ap or_zero (more_zero (score p bits))

-- and so is the greatest of one
greatest_alone : (said : List PotentialFunction) (width : ℕ) (made : List PotentialFunction) (d : PotentialFunction) → AreWidened said width made → length said ≡ 1
    → (p : PotentialFunction) × HasItsWeights (get_or said 0 d) width p × ((bits : List Bool) → greatest_value (over_tables [] 0 made) bits ≡ potential.value p bits)
greatest_alone (s ∷ []) width (p ∷ []) d (has, more) one = (p, has, λ bits. max-zero (value (record { potentials = p; tables = []; place = 0 }) bits) ∙ value_alone p 0 bits)
greatest_alone [] width made d have one = absurd (omega arith)
greatest_alone (s ∷ t ∷ said) width made d have one = absurd (omega arith)
greatest_alone (s ∷ []) width [] d have one = absurd have
greatest_alone (s ∷ []) width (p ∷ q ∷ made) d (has, have) one = absurd have

module _ (task : Task) (atoms : List Atom) (c : Certificate) (store : PooledStore) (listed : IsPackedListing task atoms c store) (keeps : keeps_limits c ≡ true) (made : SeveralValues)
    (have : HaveTheirWeights (several_of c) (length atoms) made) (bits : List Bool) (long : length bits ≡ length atoms) where
  abbrev state : State
  state = state_of_bits task atoms bits

  -- the state's fluent atoms have numbers, and its bits are these
  pub packed_value : (f : List Bool → ℕ) → f bits ≡ in_state task (numbered_atoms task c.atoms) f state
  packed_value f =
      let there = packs task atoms c store listed in
      subst (λ those. f bits ≡ in_state task those f state) listed.numbered
      (sym (ap (λ b. if b then f (bits_of_state atoms state) else 0) (numbered-has task atoms state (there.fluents bits)) ∙ ap f (there.one_packed bits long)))

  no_tables_made : has_tables c.version ≡ false → made.tables ≡ []
  no_tables_made without = have.tables ∙ no_tables c.version (length c.atoms) (length c.values + 1) c.tables without (limits_of c keeps).tables

  by_potentials : has_tables c.version ≡ false → greatest_value (functions_of made) bits ≡ value_of task c state
  by_potentials without =
      let one = one_value c.version (length c.values) without (limits_of c keeps).value_count in
      let (p, has, is) = greatest_alone c.values (length atoms) made.values (record { constant = pos 0; weights = [] }) (are_widened (several_of c) (length atoms) made have) one in
      ap (λ those. greatest_value (over_tables those 0 made.values) bits) (no_tables_made without)
      ∙ is bits
      ∙ value_there task atoms c store listed (potentials_of c) p bits has (one_for_each c keeps).0 long
      ∙ value_as task c c.version without state

  by_tables : has_tables c.version ≡ true → greatest_value (functions_of made) bits ≡ value_of task c state
  by_tables with_tables =
      greatest_alike c.tables (functions_of made) (functions_of (several_of c)) (functions_alike (several_of c) (length atoms) made have) bits
      ∙ of_three (λ v. greatest_value (functions_of (several_of c)) bits ≡ value_in v task c state) c.version with_tables (λ p. p) (packed_value (greatest_value (functions_of (several_of c))))

  pub value_packed : greatest_value (functions_of made) bits ≡ value_of task c state
  value_packed =
      elim (has_tables c.version) as (λ b. has_tables c.version ≡ b → greatest_value (functions_of made) bits ≡ value_of task c state) [
        | true ↦ by_tables
        | false ↦ by_potentials
      ] refl

  -- ---- dead ends

  dead_by_potentials : has_tables c.version ≡ false → is_dead_by (dead_ends_of made) bits ≡ is_dead_end_of task c state
  dead_by_potentials without =
      ap (nat_le 1)
      (ap (λ those. value (record { potentials = made.dead_ends; tables = those; place = length made.values }) bits) (no_tables_made without)
      ∙ value_alone made.dead_ends (length made.values) bits
      ∙ value_there task atoms c store listed c.dead_ends made.dead_ends bits have.dead_ends (one_for_each c keeps).1 long)
      ∙ dead_end_as task c c.version without state

  dead_by_tables : has_tables c.version ≡ true → is_dead_by (dead_ends_of made) bits ≡ is_dead_end_of task c state
  dead_by_tables with_tables =
      let h = dead_ends_of (several_of c) in
      ap (nat_le 1) (value_alike c.tables (dead_ends_of made) h (dead_ends_alike (several_of c) (length atoms) made have) bits)
      ∙ of_three (λ v. nat_le 1 (value h bits) ≡ is_dead_end_in v task c state) c.version with_tables (λ p. p) (ap (nat_le 1) (packed_value (value h)))

  pub dead_packed : is_dead_by (dead_ends_of made) bits ≡ is_dead_end_of task c state
  dead_packed =
      elim (has_tables c.version) as (λ b. has_tables c.version ≡ b → is_dead_by (dead_ends_of made) bits ≡ is_dead_end_of task c state) [
        | true ↦ dead_by_tables
        | false ↦ dead_by_potentials
      ] refl
