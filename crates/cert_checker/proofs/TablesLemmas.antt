-- Table functions that give each atom the same weight over the same tables: they are fair alike, and give a state the same value.
use Rattle.std.proofs.Common.{◌≡◌, ◌∙◌, ℕ, zero, suc, true, false, Bool, List, [], ◌∷◌, length, get_or, Some, refl, sym, ap, subst, arith, pos, ◌+ℤ◌, ◌≤ℤ◌}
use Rattle.std.specs.Prelude.{All, IsTrue, if◌then◌else◌, max, slice_get}
use Rattle.std.specs.Int.{int_max}
use Rattle.std.specs.List.{list_all}
use Rattle.std.proofs.lemmas.List.Elements.{All-cons}
use Rattle.model.specs.Task.{Atom, Task, Instance}
use Rattle.model.specs.Meaning.{cost_of}
use Rattle.model.specs.StaticallyFalse.{kept_instances}
use Rattle.model.specs.NumberedLiterals.{NumberedLiteral, NumberedChange, literals_of_instance, literals_of_goal}
use Rattle.lower_bounds.specs.PotentialFunctions.{PotentialFunction, given, or_zero, score}
use Rattle.lower_bounds.specs.FairPotentials.{touches, worst, loses, loses_at_most, says, goal_gives, goal_gives_at_most}
use Rattle.lower_bounds.proofs.Sums.{sum-alike}
use Rattle.lower_bounds.specs.TableFunctions.{Table, TableFunction, SeveralValues, over_tables, functions_of, dead_ends_of, greatest_value, given_by, has_rows, row_in, sum_over, value}
use Rattle.lower_bounds.specs.FairTables.{ConditionalChange, changes_in, conditional_of_instance, all_give, all_lose, is_asked, is_closed, is_shut_out, table_gives, table_loses, AreFairAt, IsFair, IsFairAt, IsFairAtGoals, IsFirstUnfairAt}
use Rattle.cert_checker.specs.Weights.{AreWidened, HasItsWeights, HaveTheirWeights}
use Rattle.cert_checker.proofs.WeightsLemmas.{AreAlike, alike}

-- they have the same weights, over these tables, of whose rows the weights at one place count
pub record AreOneOver (tables : List Table) (h k : TableFunction) : Type 0 where
  pub potentials : AreAlike h.potentials k.potentials
  pub over : h.tables ≡ tables
  pub also_over : k.tables ≡ tables
  pub place : h.place ≡ k.place

pub turned : (tables : List Table) (h k : TableFunction) → AreOneOver tables h k → AreOneOver tables k h
turned tables h k one = record {
  potentials = record { constant = sym one.potentials.constant; weights = λ n. sym (one.potentials.weights n) };
  over = one.also_over;
  also_over = one.over;
  place = sym one.place;
}

module _ (tables : List Table) (h k : TableFunction) (one : AreOneOver tables h k) where
  same_tables : h.tables ≡ k.tables
  same_tables = one.over ∙ sym one.also_over

  -- ---- what may be lost

  atoms_lose : (count : ℕ) (literals : List NumberedLiteral) (changes : List NumberedChange) → loses_at_most count h.potentials.weights literals changes ≡ loses_at_most count k.potentials.weights literals changes
  atoms_lose count literals changes =
      sum-alike count (loses literals changes h.potentials.weights) (loses literals changes k.potentials.weights)
      (λ n below. ap (λ z. if touches changes n then worst literals changes z n else pos 0) (one.potentials.weights n))

  lose_alike : (count : ℕ) (literals : List NumberedLiteral) (changes : List ConditionalChange) → all_lose count h literals changes ≡ all_lose count k literals changes
  lose_alike count literals changes =
      λ j. atoms_lose count literals (changes_in changes) j +ℤ sum_over (same_tables j) (table_loses (one.place j) literals changes)

  atoms_give : (count : ℕ) (literals : List NumberedLiteral) → goal_gives_at_most count h.potentials.weights literals ≡ goal_gives_at_most count k.potentials.weights literals
  atoms_give count literals =
      sum-alike count (goal_gives literals h.potentials.weights) (goal_gives literals k.potentials.weights)
      (λ n below. ap (λ z. if says literals n false then pos 0 else if says literals n true then z else int_max (pos 0) z) (one.potentials.weights n))

  give_alike : (count : ℕ) (literals : List NumberedLiteral) → all_give count h literals ≡ all_give count k literals
  give_alike count literals =
      λ j. (one.potentials.constant j +ℤ atoms_give count literals j) +ℤ sum_over (same_tables j) (table_gives (one.place j) literals)

  module _ (task : Task) (atoms : List Atom) where
    pub fair_alike_at : (allowance : ℕ) (i : Instance) → IsFairAt allowance task atoms h i → IsFairAt allowance task atoms k i
    fair_alike_at allowance i fair = record {
      closed = subst (λ those. IsTrue (list_all (is_closed (literals_of_instance task atoms i) (conditional_of_instance task atoms i)) those)) same_tables fair.closed;
      within = subst (λ z. z ≤ℤ pos allowance) (lose_alike (length atoms) (literals_of_instance task atoms i) (conditional_of_instance task atoms i)) fair.within;
    }

    pub goals_alike : IsFairAtGoals task atoms h → IsFairAtGoals task atoms k
    goals_alike fair = record {
      within = λ asked.
          subst (λ z. z ≤ℤ pos 0) (give_alike (length atoms) (literals_of_goal task atoms))
          (fair.within (ap (is_shut_out (literals_of_goal task atoms)) same_tables ∙ asked));
    }

    module _ (allowance : Instance → ℕ) where
      -- each kept instance is fair, if it is asked
      pub instances_alike : (kept : List Instance) → All (λ (i : Instance). IsTrue (is_asked task atoms h.tables i) → IsFairAt (allowance i) task atoms h i) kept
          → All (λ (i : Instance). IsTrue (is_asked task atoms k.tables i) → IsFairAt (allowance i) task atoms k i) kept
      instances_alike kept fair = λ n d below asked.
          let i = get_or kept n d in
          fair_alike_at (allowance i) i (fair n d below (subst (λ those. IsTrue (is_asked task atoms those i)) (sym same_tables) asked))

      pub fair_alike : AreFairAt (is_asked task atoms h.tables) allowance task atoms h → AreFairAt (is_asked task atoms k.tables) allowance task atoms k
      fair_alike fair = record { instances = instances_alike (kept_instances task) fair.instances; goals = goals_alike fair.goals }

  -- ---- the value

  score_alike : (bits : List Bool) → score h.potentials bits ≡ score k.potentials bits
  score_alike bits =
      λ j. one.potentials.constant j
      +ℤ sum-alike (length bits) (given h.potentials.weights bits) (given k.potentials.weights bits)
      (λ n below. ap (λ z. if get_or bits n false then z else pos 0) (one.potentials.weights n)) j

  pub value_alike : (bits : List Bool) → value h bits ≡ value k bits
  value_alike bits =
      λ j. or_zero (if has_rows (same_tables j) bits then score_alike bits j +ℤ sum_over (same_tables j) (λ t. given_by (one.place j) (row_in bits t)) else pos 0)

-- the first of these that is unfair is also the first of those
pub first_alike : (tables : List Table) (h k : TableFunction) → AreOneOver tables h k → (task : Task) (atoms : List Atom) (allowance : Instance → ℕ) (number : ℕ)
    → IsFirstUnfairAt (is_asked task atoms h.tables) allowance task atoms h number → IsFirstUnfairAt (is_asked task atoms tables) allowance task atoms k number
first_alike tables h k one task atoms allowance number first = record {
  instance = first.instance;
  named = first.named;
  is_asked = subst (λ those. IsTrue (is_asked task atoms those first.instance)) one.over first.is_asked;
  unfair = λ fair. first.unfair (fair_alike_at tables k h (turned tables h k one) task atoms (allowance first.instance) first.instance fair);
  earlier = λ n i below named asked.
      fair_alike_at tables h k one task atoms (allowance i) i (first.earlier n i below named (subst (λ those. IsTrue (is_asked task atoms those i)) (sym one.over) asked));
}

-- ---- several of them, one for one

abbrev pub AreEachOneOver : List Table → List TableFunction → List TableFunction → Type 0
AreEachOneOver tables [] [] = Unit {0}
AreEachOneOver tables (h ∷ functions) (k ∷ others) = AreOneOver tables h k × AreEachOneOver tables functions others
AreEachOneOver tables _ _ = ⊥

pub widened_over : (tables those : List Table) (width place : ℕ) (said made : List PotentialFunction) → those ≡ tables → AreWidened said width made
    → AreEachOneOver tables (over_tables those place made) (over_tables tables place said)
widened_over tables those width place [] [] same have = tt
widened_over tables those width place (p ∷ said) (q ∷ made) same (has, have) =
    (record { potentials = alike p width q has; over = same; also_over = refl; place = refl }, widened_over tables those width (suc place) said made same have)
widened_over tables those width place [] (q ∷ made) same have = absurd have
widened_over tables those width place (p ∷ said) [] same have = absurd have

pub greatest_alike : (tables : List Table) (functions others : List TableFunction) → AreEachOneOver tables functions others → (bits : List Bool) → greatest_value functions bits ≡ greatest_value others bits
greatest_alike tables [] [] each bits = refl
greatest_alike tables (h ∷ functions) (k ∷ others) (one, each) bits = λ j. max (value_alike tables h k one bits j) (greatest_alike tables functions others each bits j)
greatest_alike tables [] (k ∷ others) each bits = absurd each
greatest_alike tables (h ∷ functions) [] each bits = absurd each

-- each of the one list stands for one of the other
pub one_at : (tables : List Table) (functions others : List TableFunction) → AreEachOneOver tables functions others → (place : ℕ) (h : TableFunction) → slice_get functions place ≡ Some h
    → (k : TableFunction) × (slice_get others place ≡ Some k) × AreOneOver tables h k
one_at tables [] [] each place h at = absurd (cc)
one_at tables (g ∷ functions) (k ∷ others) (one, each) zero h at = let is : g ≡ h = cc in (k, refl, subst (λ f. AreOneOver tables f k) is one)
one_at tables (g ∷ functions) (k ∷ others) (one, each) (suc place) h at = one_at tables functions others each place h at
one_at tables [] (k ∷ others) each place h at = absurd each
one_at tables (h ∷ functions) [] each place f at = absurd each

pub turned_each : (tables : List Table) (functions others : List TableFunction) → AreEachOneOver tables functions others → AreEachOneOver tables others functions
turned_each tables [] [] each = tt
turned_each tables (h ∷ functions) (k ∷ others) (one, each) = (turned tables h k one, turned_each tables functions others each)
turned_each tables [] (k ∷ others) each = absurd each
turned_each tables (h ∷ functions) [] each = absurd each

pub all_alike : (tables : List Table) (task : Task) (atoms : List Atom) (functions others : List TableFunction) → AreEachOneOver tables functions others → All (IsFair task atoms) functions
    → All (IsFair task atoms) others
all_alike tables task atoms [] [] each fair = λ n d below. absurd (omega arith)
all_alike tables task atoms (h ∷ functions) (k ∷ others) (one, each) fair =
    All-cons (IsFair task atoms) k others (fair_alike tables h k one task atoms (cost_of task) (fair 0 h (omega arith)))
    (all_alike tables task atoms functions others each (λ n d below. fair (suc n) d (omega (arith, below))))
all_alike tables task atoms [] (k ∷ others) each fair = absurd each
all_alike tables task atoms (h ∷ functions) [] each fair = absurd each

-- ---- values made of a certificate's

pub as_many_widened : (said : List PotentialFunction) (width : ℕ) (made : List PotentialFunction) → AreWidened said width made → length made ≡ length said
as_many_widened [] width [] have = refl
as_many_widened (p ∷ said) width (q ∷ made) (has, have) = ap suc (as_many_widened said width made have)
as_many_widened [] width (q ∷ made) have = absurd have
as_many_widened (p ∷ said) width [] have = absurd have

-- one by one or at each place
pub widened_from : (said : List PotentialFunction) (width : ℕ) (made : List PotentialFunction) → length made ≡ length said
    → ((place : ℕ) (p q : PotentialFunction) → slice_get said place ≡ Some p → slice_get made place ≡ Some q → HasItsWeights p width q) → AreWidened said width made
widened_from [] width [] long each = tt
widened_from (p ∷ said) width (q ∷ made) long each = (each 0 p q refl refl, widened_from said width made (omega arith) (λ place r s at_r at_s. each (suc place) r s at_r at_s))
widened_from [] width (q ∷ made) long each = absurd (omega arith)
widened_from (p ∷ said) width [] long each = absurd (omega arith)

pub widened_at : (said : List PotentialFunction) (width : ℕ) (made : List PotentialFunction) → AreWidened said width made → (place : ℕ) (p q : PotentialFunction) → slice_get said place ≡ Some p → slice_get made place ≡ Some q
    → HasItsWeights p width q
widened_at [] width [] have place p q at_p at_q = absurd (cc)
widened_at (r ∷ said) width (s ∷ made) (has, have) zero p q at_p at_q =
    let first : r ≡ p = cc in
    let second : s ≡ q = cc in
    subst (λ u. HasItsWeights p width u) second (subst (λ u. HasItsWeights u width s) first has)
widened_at (r ∷ said) width (s ∷ made) (has, have) (suc place) p q at_p at_q = widened_at said width made have place p q at_p at_q
widened_at [] width (s ∷ made) have place p q at_p at_q = absurd have
widened_at (r ∷ said) width [] have place p q at_p at_q = absurd have

module _ (said : SeveralValues) (width : ℕ) (made : SeveralValues) (have : HaveTheirWeights said width made) where
  pub are_widened : AreWidened said.values width made.values
  are_widened = widened_from said.values width made.values have.as_many have.values

  pub functions_alike : AreEachOneOver said.tables (functions_of made) (functions_of said)
  functions_alike = widened_over said.tables made.tables width 0 said.values made.values have.tables are_widened

  pub dead_ends_alike : AreOneOver said.tables (dead_ends_of made) (dead_ends_of said)
  dead_ends_alike = record {
    potentials = alike said.dead_ends width made.dead_ends have.dead_ends;
    over = have.tables;
    also_over = refl;
    place = have.as_many;
  }
