-- What is known of fair values, and of lines one after another.
use Rattle.std.proofs.Common.{◌≡◌, ◌∙◌, ℕ, ◌+◌, ◌<◌, inl, inr, Bool, true, false, List, length, get_or, sum_by, Some, sym, ap, subst, arith}
use Rattle.std.specs.Prelude.{not, slice_get, if◌then◌else◌}
use Rattle.std.specs.List.{list_all}
use Rattle.std.proofs.lemmas.Bool.{cases_lt, not-true}
use Rattle.std.proofs.lemmas.Option.{same_Some, slice_get-get_or}
use Rattle.model.specs.Task.{Atom, Task}
use Rattle.lower_bounds.specs.TableFunctions.{Table, has_rows}
use Rattle.lower_bounds.proofs.TableLists.{all-at}
use Rattle.model.proofs.ListLemmas.{Contains-got}
use Rattle.lower_bounds.specs.LandmarkFunctions.{LandmarkFunction, gives, value}
use Rattle.lower_bounds.specs.LandmarkLines.{NumberedLandmarks}
use Rattle.lower_bounds.specs.FairLandmarks.{IsFair}
use Rattle.landmarks.specs.declared.testing.Fairness.{Fairness}
use Rattle.landmarks.specs.declared.testing.Fairness.TheVariants.{Unfair}
use Rattle.landmarks.specs.Fairness.{AreAsked, AreFairness, is_unfair}
use Rattle.landmarks.proofs.FairnessLemmas.{dead-of, fair-of}
use Rattle.certificate_definitions.specs.Evidence.{LineMark, of_all, landmark, expanded, cut, dead}
use Rattle.line_evidence.specs.Shown.{IsDeadFairAt, IsFairMark, function_at}

-- what was found for the task of an index was found for this task
pub found_here : (task there : Task) (atoms those : List Atom) (asked numbers : List ℕ) (beside : List Table) (l : NumberedLandmarks) (found : List Fairness) → there ≡ task → those ≡ atoms → numbers ≡ asked
    → AreAsked task atoms beside asked → ((tables : List Table) → AreAsked there those tables numbers → AreFairness there those tables l found) → AreFairness task atoms beside l found
found_here task there atoms those asked numbers beside l found task_is atoms_are numbers_are are all =
    let are_there : AreAsked there those beside numbers =
    subst (λ t. AreAsked t those beside numbers) (sym task_is) (subst (λ a. AreAsked task a beside numbers) (sym atoms_are) (subst (AreAsked task atoms beside) (sym numbers_are) are)) in
    subst (λ t. AreFairness t atoms beside l found) task_is (subst (λ a. AreFairness there a beside l found) atoms_are (all beside are_there))

-- none is unfair, so each is fair
pub fair_at : (task : Task) (atoms : List Atom) (beside : List Table) (l : NumberedLandmarks) (found : List Fairness) → AreFairness task atoms beside l found → list_all (λ f. not (is_unfair f)) found ≡ true
    → (number : ℕ) → number < length l.values → IsFair task atoms (function_at beside l number)
fair_at task atoms beside l found are all number within =
    let f = get_or found number Unfair in
    let at = slice_get-get_or found number Unfair (omega (arith, within, are.as_many)) in
    fair-of task atoms (function_at beside l number) f (not-true (is_unfair f) (all-at (λ f. not (is_unfair f)) found f all (Contains-got found number f at))) (are.each number f at)

-- a dead end rests on a dead-fair value, where it was found so
pub dead_fair_at : (task : Task) (atoms : List Atom) (beside : List Table) (l : NumberedLandmarks) (found : List Fairness) → AreFairness task atoms beside l found
    → (mark : LineMark) → IsDeadFairAt found mark → IsFairMark task atoms beside l mark
dead_fair_at task atoms beside l found are expanded at = tt
dead_fair_at task atoms beside l found are (cut basis rest) at = tt
dead_fair_at task atoms beside l found are (dead of_all) at = tt
dead_fair_at task atoms beside l found are (dead (landmark number)) (f, at, is) = dead-of task atoms (function_at beside l number) f is (are.each number f at)

-- the value where a table has no row, and where each has one
pub value_none : (h : LandmarkFunction) (bits : List Bool) → has_rows h.tables bits ≡ false → value h bits ≡ 0
value_none h bits none = ap (λ b. if b then sum_by (gives bits) h.landmarks else 0) none

pub value_rows : (h : LandmarkFunction) (bits : List Bool) → has_rows h.tables bits ≡ true → value h bits ≡ sum_by (gives bits) h.landmarks
value_rows h bits all = ap (λ b. if b then sum_by (gives bits) h.landmarks else 0) all

-- ---- one line more

-- of two lists
pub next_of_both : {X Y : Type 0} (P : X → Y → Type 0) (xs : List X) (ys : List Y) (place : ℕ) (x : X) (y : Y) → slice_get xs place ≡ Some x → slice_get ys place ≡ Some y → P x y
    → ((k : ℕ) (a : X) (b : Y) → k < place → slice_get xs k ≡ Some a → slice_get ys k ≡ Some b → P a b)
    → (k : ℕ) (a : X) (b : Y) → k < place + 1 → slice_get xs k ≡ Some a → slice_get ys k ≡ Some b → P a b
next_of_both P xs ys place x y at_x at_y here before k a b below at_a at_b = elim (cases_lt k place) [
  | inl earlier ↦ before k a b earlier at_a at_b
  | inr past ↦
      let is : k ≡ place = omega (arith, past, below) in
      let same_x : x ≡ a = same_Some x a (sym at_x ∙ ap (slice_get xs) (sym is) ∙ at_a) in
      let same_y : y ≡ b = same_Some y b (sym at_y ∙ ap (slice_get ys) (sym is) ∙ at_b) in
      subst (P a) same_y (subst (λ z. P z y) same_x here)
]

-- and of one
pub next_of_one : {Y : Type 0} (P : Y → Type 0) (ys : List Y) (place : ℕ) (y : Y) → slice_get ys place ≡ Some y → P y → ((k : ℕ) (b : Y) → k < place → slice_get ys k ≡ Some b → P b)
    → (k : ℕ) (b : Y) → k < place + 1 → slice_get ys k ≡ Some b → P b
next_of_one P ys place y at_y here before k b below at_b = elim (cases_lt k place) [
  | inl earlier ↦ before k b earlier at_b
  | inr past ↦
      let is : k ≡ place = omega (arith, past, below) in
      subst P (same_Some y b (sym at_y ∙ ap (slice_get ys) (sym is) ∙ at_b)) here
]
