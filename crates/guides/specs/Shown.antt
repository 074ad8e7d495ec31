-- Tested landmark values by their numbers, and what they show.
use Rattle.std.proofs.Common.{zero-le}
use Rattle.std.specs.Prelude.{◌≡◌, ℕ, zero, suc, Bool, false, IfSome, option_and_then, List, [], ◌∷◌, All, slice_get, Option, None, Some}
use Rattle.std.specs.Option.{option_map_or}
use Rattle.std.proofs.lemmas.List.Elements.{All-head, All-tail}
use Rattle.model.specs.Task.{Atom, Task}
use Rattle.model.specs.Grounding.{ground_system}
use Rattle.search.specs.Estimates.{IsAdmissible}
use Rattle.search.specs.DeadEnds.{ReportsDeadEnds}
use Rattle.guides.specs.declared.tested.TestedValue.{TestedValue}
use Rattle.guides.specs.Tested.{IsTested, is_dead_by, value_by}

-- the value with this number, if there is one and it was not forgotten
abbrev pub kept_at : List (Option TestedValue) → ℕ → Option TestedValue
kept_at values number = option_and_then (λ (o : Option TestedValue). o) (slice_get values number)

-- by the value with this number; by none 0
abbrev pub value_at : List (Option TestedValue) → ℕ → List Bool → ℕ
value_at values number bits = option_map_or (λ (v : TestedValue). value_by v bits) (kept_at values number) 0

abbrev pub is_dead_at : List (Option TestedValue) → ℕ → List Bool → Bool
is_dead_at values number bits = option_map_or (λ (v : TestedValue). is_dead_by v bits) (kept_at values number) false

-- it was tested, unless it was forgotten
abbrev pub IsTestedIfKept : Task → List Atom → Option TestedValue → Type 0
IsTestedIfKept task atoms value = IfSome value (IsTested task atoms)

-- each value is a lower bound, and each state that it shows to be a dead end is one
pub admissible_at : (task : Task) (atoms : List Atom) (values : List (Option TestedValue)) → All (IsTestedIfKept task atoms) values → (number : ℕ) → IsAdmissible (ground_system task atoms) (value_at values number)
admissible_at task atoms [] tested number = λ s end plan runs goal. zero-le
admissible_at task atoms (None ∷ values) tested zero = λ s end plan runs goal. zero-le
admissible_at task atoms (Some v ∷ values) tested zero = (All-head (IsTestedIfKept task atoms) (Some v) values tested).admissible
admissible_at task atoms (v ∷ values) tested (suc number) = admissible_at task atoms values (All-tail (IsTestedIfKept task atoms) v values tested) number

pub dead_ends_at : (task : Task) (atoms : List Atom) (values : List (Option TestedValue)) → All (IsTestedIfKept task atoms) values → (number : ℕ) → ReportsDeadEnds (ground_system task atoms) (is_dead_at values number)
dead_ends_at task atoms [] tested number = λ s reported. absurd (cc)
dead_ends_at task atoms (None ∷ values) tested zero = λ s reported. absurd (cc)
dead_ends_at task atoms (Some v ∷ values) tested zero = (All-head (IsTestedIfKept task atoms) (Some v) values tested).dead_ends
dead_ends_at task atoms (v ∷ values) tested (suc number) = dead_ends_at task atoms values (All-tail (IsTestedIfKept task atoms) v values tested) number
