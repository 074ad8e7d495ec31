-- Fairness, instance by instance.
use Rattle.std.proofs.Common.{◌≡◌, ◌∙◌, ℕ, ◌+◌, ◌<◌, ◌≤◌, inl, inr, Bool, true, false, List, [], length, get_or, Some, sym, ap, subst, arith, ℤ, pos, ◌+ℤ◌, ◌≤ℤ◌}
use Rattle.std.specs.Prelude.{◌↔◌, All, IsTrue, slice_get}
use Rattle.std.proofs.lemmas.Bool.{cases_eq, iff_false}
use Rattle.std.proofs.lemmas.Option.{slice_get-get_or}
use Rattle.std.proofs.lemmas.List.Elements.{All-contains, All-contains_itself}
use Rattle.std.proofs.lemmas.Int.{ints}
use Rattle.model.proofs.ListLemmas.{Contains-got}
use Rattle.model.specs.Task.{Atom, Task, Instance}
use Rattle.model.specs.StaticallyFalse.{kept_instances}
use Rattle.model.specs.NumberedLiterals.{NumberedLiteral, NumberedChange, literals_of_instance, literals_of_number, literals_of_goal, counting_of_number}
use Rattle.lower_bounds.specs.PotentialFunctions.{PotentialFunction}
use Rattle.lower_bounds.specs.FairPotentials.{loses_at_most, instance_loses, IsFairAt, goal_gives_at_most, IsFairAtGoals, AreFairAt, IsFirstUnfairAt}
use Rattle.lower_bounds.proofs.Numbers.{literals-named, counting-named, counting-below}

module _ (task : Task) (atoms : List Atom) (p : PotentialFunction) where
  -- ---- what the code computes

  module _ (weights : List ℤ) (is : weights ≡ p.weights) (width : length p.weights ≡ length atoms) where
    as_long : length weights ≡ length atoms
    as_long = ap length is ∙ width

    pub below-counting : (n : ℕ) (changes : List NumberedChange) → changes ≡ counting_of_number task atoms n → All (λ (c : NumberedChange). c.atom < length weights) changes
    below-counting n changes are =
        subst (All (λ (c : NumberedChange). c.atom < length weights)) (sym are)
        (λ k d below. subst (λ l. (get_or (counting_of_number task atoms n) k d).atom < l) (sym as_long)
        (counting-below atoms task n (get_or (counting_of_number task atoms n) k d) (All-contains_itself (counting_of_number task atoms n) k d below)))

    pub losses-are : (n : ℕ) (i : Instance) (literals : List NumberedLiteral) (changes : List NumberedChange) (losses : ℤ) → slice_get (kept_instances task) n ≡ Some i
        → literals ≡ literals_of_number task atoms n → changes ≡ counting_of_number task atoms n → losses ≡ loses_at_most (length weights) weights literals changes
        → losses ≡ instance_loses task atoms p.weights i
    losses-are n i literals changes losses named says makes loses =
        loses
        ∙ ap (λ c. loses_at_most c weights literals changes) as_long
        ∙ ap (λ w. loses_at_most (length atoms) w literals changes) is
        ∙ ap (λ l. loses_at_most (length atoms) p.weights l changes) (says ∙ literals-named atoms task n i named)
        ∙ ap (loses_at_most (length atoms) p.weights (literals_of_instance task atoms i)) (makes ∙ counting-named atoms task n i named)

    pub goal-is : (literals : List NumberedLiteral) (given : ℤ) → literals ≡ literals_of_goal task atoms → given ≡ goal_gives_at_most (length weights) weights literals
        → given ≡ goal_gives_at_most (length atoms) p.weights (literals_of_goal task atoms)
    goal-is literals given are gives =
        gives
        ∙ ap (λ c. goal_gives_at_most c weights literals) as_long
        ∙ ap (λ w. goal_gives_at_most (length atoms) w literals) is
        ∙ ap (goal_gives_at_most (length atoms) p.weights) are

    pub decides-goals : (constant given sum : ℤ) (answer : Bool) → constant ≡ p.constant → given ≡ goal_gives_at_most (length atoms) p.weights (literals_of_goal task atoms)
        → sum ≡ (constant +ℤ given) → (IsTrue answer ↔ (sum ≤ℤ pos 0)) → (IsTrue answer ↔ IsFairAtGoals task atoms p)
    decides-goals constant given sum answer constants gives sums test = (
      λ passes. let h = test.0 passes in record { within = omega (arith, ints) },
      λ fair. let h = fair.within in test.1 (omega (arith, ints)),
    )

  -- ---- fair at an allowance

  module _ (allowance : Instance → ℕ) where
    abbrev pub IsFairInstance : Instance → Type 0
    IsFairInstance i = IsFairAt (allowance i) task atoms p.weights i

    -- the answer is whether the instance with this number is fair
    abbrev pub Decides : Bool → ℕ → Type 0
    Decides answer n = (i : Instance) → slice_get (kept_instances task) n ≡ Some i → (IsTrue answer ↔ IsFairInstance i)

    -- each instance below this number is fair
    abbrev pub AreFairBelow : ℕ → Type 0
    AreFairBelow n = (k : ℕ) (i : Instance) → k < n → slice_get (kept_instances task) k ≡ Some i → IsFairInstance i

    pub fair-next : (n : ℕ) (answer : Bool) → Decides answer n → answer ≡ true → AreFairBelow n → AreFairBelow (n + 1)
    fair-next n answer decides passes before k i below at =
        elim (cases_eq k n) [
          | inl is ↦ (decides i (sym (ap (slice_get (kept_instances task)) is) ∙ at)).0 passes
          | inr other ↦ before k i (omega arith) at
        ]

    pub fair-all : (n : ℕ) → length (kept_instances task) ≤ n → AreFairBelow n → All IsFairInstance (kept_instances task)
    fair-all n past before k d below = before k (get_or (kept_instances task) k d) (omega arith) (slice_get-get_or (kept_instances task) k d below)

    pub first-unfair : (n : ℕ) (answer : Bool) → n < length (kept_instances task) → Decides answer n → answer ≡ false → AreFairBelow n → IsFirstUnfairAt allowance task atoms p n
    first-unfair n answer below decides fails before =
        let i = get_or (kept_instances task) n (record { schema = 0; objects = [] }) in
        let named = slice_get-get_or (kept_instances task) n (record { schema = 0; objects = [] }) below in
        record { instance = i; named = named; unfair = iff_false (decides i named) fails; earlier = before }

    pub decides-fair : (weights : List ℤ) (is : weights ≡ p.weights) (width : length p.weights ≡ length atoms) (n : ℕ) (literals : List NumberedLiteral) (changes : List NumberedChange) (losses tested : ℤ) (allowed : ℕ) (answer : Bool)
        → literals ≡ literals_of_number task atoms n → changes ≡ counting_of_number task atoms n → losses ≡ loses_at_most (length weights) weights literals changes
        → ((i : Instance) → slice_get (kept_instances task) n ≡ Some i → allowed ≡ allowance i) → tested ≡ losses → (IsTrue answer ↔ (tested ≤ℤ pos allowed)) → Decides answer n
    decides-fair weights is width n literals changes losses tested allowed answer says makes loses allows is_tested test i named =
        let same : tested ≡ instance_loses task atoms p.weights i = is_tested ∙ losses-are weights is width n i literals changes losses named says makes loses in
        let most : allowed ≡ allowance i = allows i named in (
          λ passes. record { within = subst (λ c. instance_loses task atoms p.weights i ≤ℤ pos c) most (subst (λ z. z ≤ℤ pos allowed) same (test.0 passes)) },
          λ fair. test.1 (subst (λ z. z ≤ℤ pos allowed) (sym same) (subst (λ c. instance_loses task atoms p.weights i ≤ℤ pos c) (sym most) fair.within)),
        )

    pub unfair-instance : (n : ℕ) → IsFirstUnfairAt allowance task atoms p n → AreFairAt allowance task atoms p → ⊥
    unfair-instance n first fair = first.unfair (All-contains IsFairInstance (kept_instances task) first.instance fair.instances (Contains-got (kept_instances task) n first.instance first.named))
