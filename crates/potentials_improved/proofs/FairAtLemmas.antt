-- Instances that do not touch an atom lose the same whatever its weight, so that those that do decide whether all are fair.
use Rattle.std.proofs.Common.{◌≡◌, ◌∙◌, ℕ, ◌+◌, ◌<◌, inl, inr, Bool, true, false, List, [], ◌∷◌, ◌++◌, Some, take, get_or, set, length, refl, sym, ap, subst, ℤ, pos, ◌≤ℤ◌}
use Rattle.std.specs.Prelude.{if◌then◌else◌, All, Contains, slice_get}
use Rattle.std.proofs.lemmas.Bool.{cases_eq, iff_false}
use Rattle.std.proofs.lemmas.Option.{slice_get-get_or}
use Rattle.std.proofs.lemmas.List.Elements.{All-contains, All-contains_itself}
use Rattle.std.proofs.lemmas.List.{take_more}
use Rattle.model.proofs.ListLemmas.{Contains-none, Contains-got}
use Rattle.model.specs.Task.{Atom, Task, Instance}
use Rattle.model.specs.StaticallyFalse.{kept_instances}
use Rattle.model.specs.NumberedLiterals.{NumberedLiteral, NumberedChange, literals_of_instance, counting_of_instance}
use Rattle.lower_bounds.specs.PotentialFunctions.{PotentialFunction, weight}
use Rattle.lower_bounds.specs.FairPotentials.{touches, worst, loses, loses_at_most, IsFairAt}
use Rattle.lower_bounds.proofs.Sums.{sum-alike}
use Rattle.lower_bounds.proofs.Settling.{weight-other, potentials, IsNoneBetter}
use Rattle.lower_bounds.proofs.Numbers.{counting-named}
use Rattle.potentials.specs.Fairness.{AreInstancesFairAt}
use Rattle.potentials_drafted.specs.declared.incidence.Incidence.{Incidence}
use Rattle.potentials_drafted.specs.Incidence.{row_of, IsIncidence}
use Rattle.potentials_drafted.proofs.IncidenceLemmas.{got-again, Contains-appended}
use Rattle.potentials_improved.specs.Climb.{AreFairAmong}
use Rattle.potentials.proofs.FairLemmas.{Decides}

loses-untouched : (count : ℕ) (literals : List NumberedLiteral) (changes : List NumberedChange) (weights : List ℤ) (n : ℕ) (w : ℤ) → touches changes n ≡ false
    → loses_at_most count (set weights n w) literals changes ≡ loses_at_most count weights literals changes
loses-untouched count literals changes weights n w untouched =
    sum-alike count (loses literals changes (set weights n w)) (loses literals changes weights)
    (λ k below. elim (cases_eq k n) [
      | inl is ↦
          let here : touches changes k ≡ false = subst (λ j. touches changes j ≡ false) (sym is) untouched in
          ap (λ b. if b then worst literals changes (weight (set weights n w) k) k else pos 0) here ∙ sym (ap (λ b. if b then worst literals changes (weight weights k) k else pos 0) here)
      | inr other ↦ ap (λ v. if touches changes k then worst literals changes v k else pos 0) (weight-other weights n k w other)
    ])

module _ (allowance : Instance → ℕ) (task : Task) (atoms : List Atom) where
  pub fair-by_incidence : (p q : PotentialFunction) (c : ℤ) (a : ℕ) (w : ℤ) (t : Incidence) → IsIncidence task atoms (length (kept_instances task)) t → AreInstancesFairAt allowance task atoms p
      → q ≡ potentials c (set p.weights a w) → AreFairAmong allowance task atoms q (row_of t a) → AreInstancesFairAt allowance task atoms (potentials c (set p.weights a w))
  fair-by_incidence p q c a w t are fair is tested k d below =
      let i = get_or (kept_instances task) k d in
      let named = slice_get-get_or (kept_instances task) k d below in
      elim (touches (counting_of_instance task atoms i) a) as (λ b. touches (counting_of_instance task atoms i) a ≡ b → IsFairAt (allowance i) task atoms (set p.weights a w) i) [
        | true ↦ λ touched. subst (λ (x : PotentialFunction). IsFairAt (allowance i) task atoms x.weights i) is
            (tested k i (are.covers a k below (ap (λ l. touches l a) (counting-named atoms task k i named) ∙ touched)) named)
        | false ↦ λ untouched. record {
          within = subst (λ z. z ≤ℤ pos (allowance i)) (sym (loses-untouched (length atoms) (literals_of_instance task atoms i) (counting_of_instance task atoms i) p.weights a w untouched)) (fair k d below).within;
        }
      ] refl

  pub none-unfair_among : (p q : PotentialFunction) (c : ℤ) (weights : List ℤ) (numbers : List ℕ) → q ≡ potentials c weights → (AreFairAmong allowance task atoms q numbers → ⊥) → IsNoneBetter allowance task atoms p weights
  none-unfair_among p q c weights numbers is unfair =
      subst (λ (x : PotentialFunction). IsNoneBetter allowance task atoms p x.weights) is
      (record { none = λ m fits fair. absurd (unfair (λ n i among named. at fair.instances i (Contains-got (kept_instances task) n i named))) })
    where
      at : All (λ (i : Instance). IsFairAt (allowance i) task atoms q.weights i) (kept_instances task) → (i : Instance) → Contains (kept_instances task) i → IsFairAt (allowance i) task atoms q.weights i
      at all i among = All-contains (λ (i : Instance). IsFairAt (allowance i) task atoms q.weights i) (kept_instances task) i all among

-- ---- the instances of a row

module _ (allowance : Instance → ℕ) (task : Task) (atoms : List Atom) (p : PotentialFunction) where
  pub fair_at-none : AreFairAmong allowance task atoms p []
  fair_at-none n i among named = absurd (Contains-none n among)

  -- one number more
  pub fair_at-next : (numbers : List ℕ) (place d : ℕ) (answer : Bool) → place < length numbers → Decides task atoms p allowance answer (get_or numbers place d) → answer ≡ true
      → AreFairAmong allowance task atoms p (take place numbers) → AreFairAmong allowance task atoms p (take (place + 1) numbers)
  fair_at-next numbers place d answer within decides passes before n i among named =
      let x = get_or numbers place d in
      elim (Contains-appended (take place numbers) x n (subst (λ l. Contains l n) (take_more numbers place x within ∙ ap (λ y. take place numbers ++ y ∷ []) (sym (got-again numbers place d within))) among)) [
        | inl earlier ↦ before n i earlier named
        | inr is ↦ (decides i (subst (λ k. slice_get (kept_instances task) k ≡ Some i) is named)).0 passes
      ]

  pub unfair_at : (numbers : List ℕ) (place d : ℕ) (answer : Bool) → place < length numbers → get_or numbers place d < length (kept_instances task) → Decides task atoms p allowance answer (get_or numbers place d) → answer ≡ false
      → AreFairAmong allowance task atoms p numbers → ⊥
  unfair_at numbers place d answer within below decides fails all =
      let x = get_or numbers place d in
      let i = get_or (kept_instances task) x (record { schema = 0; objects = [] }) in
      let named = slice_get-get_or (kept_instances task) x (record { schema = 0; objects = [] }) below in
      iff_false (decides i named) fails (all x i (All-contains_itself numbers place d within) named)

-- the numbers of a row are of instances
pub row-below : (task : Task) (atoms : List Atom) (t : Incidence) (a : ℕ) (numbers : List ℕ) → IsIncidence task atoms (length (kept_instances task)) t → numbers ≡ row_of t a
    → All (λ n. n < length (kept_instances task)) numbers
row-below task atoms t a numbers are is =
    subst (All (λ n. n < length (kept_instances task))) (sym is) (λ k d below. are.within a (get_or (row_of t a) k d) (All-contains_itself (row_of t a) k d below))
