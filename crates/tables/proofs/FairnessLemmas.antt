-- Fairness of a value by tables, instance by instance.
use Rattle.std.proofs.Common.{◌≡◌, ◌∙◌, ℕ, ◌+◌, ◌*◌, ◌<◌, ◌≤◌, inl, inr, Bool, true, false, true≢false, List, [], length, get_or, Some, refl, sym, ap, subst, arith, ℤ, pos, ◌+ℤ◌, neg_ℤ, ◌≤ℤ◌}
use Rattle.std.specs.Prelude.{◌↔◌, All, IsTrue, slice_get}
use Rattle.std.specs.List.{list_all}
use Rattle.std.specs.Option.{option_map_or}
use Rattle.std.proofs.lemmas.Bool.{cases_eq, iff_false}
use Rattle.std.proofs.lemmas.Option.{slice_get-get_or}
use Rattle.model.specs.Task.{Atom, Task, Instance}
use Rattle.model.specs.StaticallyFalse.{kept_instances}
use Rattle.model.specs.NumberedLiterals.{NumberedLiteral, NumberedChange, literals_of_instance, literals_of_number, literals_of_goal}
use Rattle.model.specs.ConditionalChanges.{conditional_of_number, number_requires_unnumbered}
use Rattle.lower_bounds.specs.PotentialFunctions.{IsInRange}
use Rattle.lower_bounds.specs.FairPotentials.{loses_at_most, goal_gives_at_most}
use Rattle.lower_bounds.proofs.Numbers.{literals-named}
use Rattle.potentials.proofs.LossLemmas.{losing-range}
use Rattle.lower_bounds.specs.TableFunctions.{TableFunction, sum_over}
use Rattle.lower_bounds.specs.FairTables.{ConditionalChange, changes_in, conditional_of_instance, instance_requires_unnumbered, is_closed, is_shut_out, table_gives, all_lose, all_give, is_asked, IsFairAt, IsFairAtGoals, IsFirstUnfairAt}
use Rattle.tables.specs.ByAtom.{LosesByAll}
use Rattle.tables.specs.Fairness.{AreInstancesFairAt}

-- ---- what atoms lose

pub atoms-range : (literals : List NumberedLiteral) (changes : List NumberedChange) (weights : List ℤ) (lost : ℤ) → lost ≡ loses_at_most (length weights) weights literals changes → All IsInRange weights
    → (neg_ℤ (pos (2147483647 * length weights)) ≤ℤ lost) × (lost ≤ℤ pos (2147483647 * length weights))
atoms-range literals changes weights lost is all =
    subst (λ z. (neg_ℤ (pos (2147483647 * length weights)) ≤ℤ z) × (z ≤ℤ pos (2147483647 * length weights))) (sym is) (losing-range literals changes weights changes all)

module _ (task : Task) (atoms : List Atom) (h : TableFunction) where
  -- ---- one instance

  module _ (n : ℕ) (i : Instance) (named : slice_get (kept_instances task) n ≡ Some i) (literals : List NumberedLiteral) (changes : List ConditionalChange)
      (says : literals ≡ literals_of_number task atoms n) (makes : changes ≡ conditional_of_number task atoms n) where
    literals-are : literals ≡ literals_of_instance task atoms i
    literals-are = says ∙ literals-named atoms task n i named

    changes-are : changes ≡ conditional_of_instance task atoms i
    changes-are = makes ∙ ap (λ o. option_map_or (conditional_of_instance task atoms) o []) named

    pub leaves-rows : (allowance : ℕ) → list_all (is_closed literals changes) h.tables ≡ false → IsFairAt allowance task atoms h i → ⊥
    leaves-rows allowance leaves fair = true≢false (sym fair.closed ∙ sym (λ k. list_all (is_closed (literals-are k) (changes-are k)) h.tables) ∙ leaves)

    pub decides-within : (weights : List ℤ) (is : weights ≡ h.potentials.weights) (width : length h.potentials.weights ≡ length atoms) (by_atoms by_tables tested : ℤ) (allowed allowance : ℕ) (answer : Bool)
        → by_atoms ≡ loses_at_most (length weights) weights literals (changes_in changes) → LosesByAll h.place literals changes h.tables by_tables → allowed ≡ allowance → tested ≡ (by_atoms +ℤ by_tables)
        → (IsTrue answer ↔ (tested ≤ℤ pos allowed)) → (IsTrue answer ↔ IsFairAt allowance task atoms h i)
    decides-within weights is width by_atoms by_tables tested allowed allowance answer loses all same sum test =
        let long : length weights ≡ length atoms = ap length is ∙ width in
        let lost : tested ≡ all_lose (length atoms) h (literals_of_instance task atoms i) (conditional_of_instance task atoms i) =
        sum ∙ (λ k. (loses ∙ (λ j. loses_at_most (long j) (is j) literals (changes_in changes))) k +ℤ all.is k) ∙ (λ k. all_lose (length atoms) h (literals-are k) (changes-are k)) in (
          λ passes. record {
            closed = sym (λ k. list_all (is_closed (literals-are k) (changes-are k)) h.tables) ∙ all.closed;
            within = subst (λ c. all_lose (length atoms) h (literals_of_instance task atoms i) (conditional_of_instance task atoms i) ≤ℤ pos c) same (subst (λ z. z ≤ℤ pos allowed) lost (test.0 passes));
          },
          λ fair. test.1 (subst (λ z. z ≤ℤ pos allowed) (sym lost) (subst (λ c. all_lose (length atoms) h (literals_of_instance task atoms i) (conditional_of_instance task atoms i) ≤ℤ pos c) (sym same) fair.within)),
        )

  pub needs-named : (n : ℕ) (i : Instance) → slice_get (kept_instances task) n ≡ Some i → number_requires_unnumbered task atoms n ≡ instance_requires_unnumbered task atoms i
  needs-named n i named = ap (λ o. option_map_or (instance_requires_unnumbered task atoms) o false) named

  -- ---- goals

  pub shut-goals : is_shut_out (literals_of_goal task atoms) h.tables ≡ true → IsFairAtGoals task atoms h
  shut-goals out = record { within = λ asked. absurd (true≢false (sym out ∙ asked)) }

  pub decides-goals : (weights : List ℤ) (is : weights ≡ h.potentials.weights) (width : length h.potentials.weights ≡ length atoms) (literals : List NumberedLiteral) (constant by_atoms by_tables tested : ℤ) (answer : Bool)
      → literals ≡ literals_of_goal task atoms → is_shut_out literals h.tables ≡ false → constant ≡ h.potentials.constant → by_atoms ≡ goal_gives_at_most (length weights) weights literals
      → by_tables ≡ sum_over h.tables (table_gives h.place literals) → tested ≡ ((constant +ℤ by_atoms) +ℤ by_tables) → (IsTrue answer ↔ (tested ≤ℤ pos 0)) → (IsTrue answer ↔ IsFairAtGoals task atoms h)
  decides-goals weights is width literals constant by_atoms by_tables tested answer says asked constants gives tables sum test =
      let long : length weights ≡ length atoms = ap length is ∙ width in
      let given : tested ≡ all_give (length atoms) h (literals_of_goal task atoms) =
      sum ∙ (λ k. (constants k +ℤ (gives ∙ (λ j. goal_gives_at_most (long j) (is j) literals)) k) +ℤ tables k) ∙ (λ k. all_give (length atoms) h (says k)) in (
        λ passes. record { within = λ _. subst (λ z. z ≤ℤ pos 0) given (test.0 passes) },
        λ fair. test.1 (subst (λ z. z ≤ℤ pos 0) (sym given) (fair.within (ap (λ l. is_shut_out l h.tables) (sym says) ∙ asked))),
      )

  -- ---- instance after instance

  module _ (allowance : Instance → ℕ) where
    -- fair, if it is asked
    abbrev pub IsFairIfAsked : Instance → Type 0
    IsFairIfAsked i = IsTrue (is_asked task atoms h.tables i) → IsFairAt (allowance i) task atoms h i

    abbrev pub Decides : Bool → ℕ → Type 0
    Decides answer n = (i : Instance) → slice_get (kept_instances task) n ≡ Some i → (IsTrue answer ↔ IsFairIfAsked i)

    abbrev pub AreFairBelow : ℕ → Type 0
    AreFairBelow n = (k : ℕ) (i : Instance) → k < n → slice_get (kept_instances task) k ≡ Some i → IsFairIfAsked i

    pub fair-next : (n : ℕ) (answer : Bool) → Decides answer n → answer ≡ true → AreFairBelow n → AreFairBelow (n + 1)
    fair-next n answer decides passes before k i below at =
        elim (cases_eq k n) [
          | inl is ↦ (decides i (sym (ap (slice_get (kept_instances task)) is) ∙ at)).0 passes
          | inr other ↦ before k i (omega arith) at
        ]

    pub fair-all : (n : ℕ) → length (kept_instances task) ≤ n → AreFairBelow n → AreInstancesFairAt allowance task atoms h
    fair-all n past before k d below = before k (get_or (kept_instances task) k d) (omega arith) (slice_get-get_or (kept_instances task) k d below)

    pub first-unfair : (n : ℕ) (answer : Bool) → n < length (kept_instances task) → Decides answer n → answer ≡ false → AreFairBelow n → IsFirstUnfairAt (is_asked task atoms h.tables) allowance task atoms h n
    first-unfair n answer below decides fails before =
        let i = get_or (kept_instances task) n (record { schema = 0; objects = [] }) in
        let named = slice_get-get_or (kept_instances task) n (record { schema = 0; objects = [] }) below in
        let not_so = iff_false (decides i named) fails in
        record {
          instance = i;
          named = named;
          is_asked = elim (is_asked task atoms h.tables i) as (λ b. is_asked task atoms h.tables i ≡ b → is_asked task atoms h.tables i ≡ true) [
            | true ↦ λ asked. asked
            | false ↦ λ not_asked. absurd (not_so (λ asked. absurd (true≢false (sym asked ∙ not_asked))))
          ] refl;
          unfair = λ fair. not_so (λ _. fair);
          earlier = before;
        }
