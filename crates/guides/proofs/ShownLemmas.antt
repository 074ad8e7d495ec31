-- What a tested value shows, one more, and one less.
use Rattle.std.proofs.Common.{◌≡◌, ◌∙◌, ℕ, zero, suc, ◌+◌, ◌<◌, Bool, true, false, List, [], ◌∷◌, ◌++◌, length, set, get_or, Option, None, Some, refl, sym, ap, subst}
use Rattle.std.specs.Prelude.{All, if◌then◌else◌, option_and_then, slice_get}
use Rattle.std.specs.Option.{option_map_or}
use Rattle.std.proofs.lemmas.List.Elements.{All-head, All-tail, All-push, All-set}
use Rattle.std.proofs.lemmas.Option.{slice_get_read}
use Rattle.model.specs.Task.{Atom, Task}
use Rattle.guides.specs.declared.tested.TestedValue.{TestedValue}
use Rattle.landmark_zones.specs.Landmarks.{landmarks_of}
use Rattle.guides.specs.Tested.{IsOne, IsTested, is_dead_by, value_by}
use Rattle.guides.specs.Shown.{IsTestedIfKept, is_dead_at, kept_at, value_at}

abbrev Values : Type 0
Values = List (Option TestedValue)

-- ---- the value at a place

-- the one that is lent is that at its place
pub got : (values lent : Values) (place : ℕ) (o : Option TestedValue) → lent ≡ values → place < length lent → o ≡ get_or lent place o → kept_at values place ≡ o
got values lent place o same below is =
    ap (option_and_then (λ (x : Option TestedValue). x)) (ap (λ (l : Values). slice_get l place) (sym same) ∙ slice_get_read lent (length lent) place o refl below is)

-- past the end there is none
pub got-none : (values : Values) (place : ℕ) → slice_get values place ≡ None → kept_at values place ≡ None
got-none values place none = ap (option_and_then (λ (x : Option TestedValue). x)) none

pub tested_at : (task : Task) (atoms : List Atom) (values : Values) → All (IsTestedIfKept task atoms) values → (place : ℕ) (v : TestedValue) → kept_at values place ≡ Some v → IsTested task atoms v
tested_at task atoms [] tested place v at = absurd (cc at)
tested_at task atoms (o ∷ values) tested zero v at = subst (IsTestedIfKept task atoms) at (All-head (IsTestedIfKept task atoms) o values tested)
tested_at task atoms (o ∷ values) tested (suc place) v at = tested_at task atoms values (All-tail (IsTestedIfKept task atoms) o values tested) place v at

-- what it shows
pub one_in : (task : Task) (atoms : List Atom) (v : TestedValue) (bits : List Bool) → IsTested task atoms v → length bits ≡ length atoms → IsOne (length bits) (landmarks_of v.landmarks)
one_in task atoms v bits tested long = subst (λ count. IsOne count (landmarks_of v.landmarks)) (sym long) tested.one

pub value_of_one : (values : Values) (place : ℕ) (v : TestedValue) (bits : List Bool) → kept_at values place ≡ Some v → value_at values place bits ≡ value_by v bits
value_of_one values place v bits at = ap (λ o. option_map_or (λ (w : TestedValue). value_by w bits) o 0) at

pub dead_of_one : (values : Values) (place : ℕ) (v : TestedValue) (bits : List Bool) → kept_at values place ≡ Some v → is_dead_at values place bits ≡ is_dead_by v bits
dead_of_one values place v bits at = ap (λ o. option_map_or (λ (w : TestedValue). is_dead_by w bits) o false) at

pub value_of_none : (values : Values) (place : ℕ) (bits : List Bool) → kept_at values place ≡ None → value_at values place bits ≡ 0
value_of_none values place bits at = ap (λ o. option_map_or (λ (w : TestedValue). value_by w bits) o 0) at

pub dead_of_none : (values : Values) (place : ℕ) (bits : List Bool) → kept_at values place ≡ None → is_dead_at values place bits ≡ false
dead_of_none values place bits at = ap (λ o. option_map_or (λ (w : TestedValue). is_dead_by w bits) o false) at

-- ---- a value that is appended, or not for want of memory

pub all_pushed : (task : Task) (atoms : List Atom) (values : Values) (v : TestedValue) (items : Values) (ok : Bool) → items ≡ (if ok then values ++ Some v ∷ [] else values)
    → All (IsTestedIfKept task atoms) values → IsTested task atoms v → All (IsTestedIfKept task atoms) items
all_pushed task atoms values v items ok is all one =
    subst (All (IsTestedIfKept task atoms)) (sym is) (elim ok as (λ b. All (IsTestedIfKept task atoms) (if b then values ++ Some v ∷ [] else values)) [
      | true ↦ All-push (IsTestedIfKept task atoms) values (Some v) all one
      | false ↦ all
    ])

-- ---- a value that is forgotten

pub all_forgotten : (task : Task) (atoms : List Atom) (values items : Values) (number : ℕ) → items ≡ set values number None → All (IsTestedIfKept task atoms) values → All (IsTestedIfKept task atoms) items
all_forgotten task atoms values items number is all = subst (All (IsTestedIfKept task atoms)) (sym is) (All-set (IsTestedIfKept task atoms) values number None tt all)
