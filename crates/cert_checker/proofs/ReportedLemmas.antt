-- What is reported of values in memory is so of the certificate whose values they are, where it has tables.
use Rattle.std.proofs.Common.{◌≡◌, ◌∙◌, ℕ, suc, ◌<◌, inl, inr, true, List, [], ◌∷◌, length, take, Some, refl, sym, ap, subst, arith}
use Rattle.std.specs.Prelude.{All, IsTrue, slice_get}
use Rattle.std.proofs.lemmas.List.{length-take, get_or-take}
use Rattle.std.proofs.lemmas.List.Elements.{All-contains}
use Rattle.std.proofs.lemmas.Option.{get_or_from_slice_get, same_Some, slice_get_within}
use Rattle.model.specs.Task.{Atom, Task, Instance}
use Rattle.model.specs.Meaning.{cost_of}
use Rattle.model.specs.StaticallyFalse.{kept_instances}
use Rattle.model.specs.NumberedAtoms.{numbered_atoms}
use Rattle.model.proofs.ListLemmas.{Contains-got}
use Rattle.lower_bounds.specs.PotentialFunctions.{PotentialFunction}
use Rattle.lower_bounds.specs.FairPotentials.{nothing}
use Rattle.lower_bounds.specs.TableFunctions.{Table, TableFunction, SeveralValues, over_tables, functions_of, dead_ends_of}
use Rattle.lower_bounds.specs.FairTables.{AreFair, IsFair, IsFairAt, IsFairAtGoals, IsFirstUnfairAt, is_asked}
use Rattle.tables.specs.Fairness.{AreInstancesFairAt}
use Rattle.tables.specs.Several.{IsFirstDeadInstance, IsFirstInstance, IsUnfairAtDeadGoals, IsUnfairAtGoals}
use Rattle.certificate_definitions.specs.Certificates.{Certificate, has_tables, several_of, AreFairFor, AreFairIn}
use Rattle.certificate_definitions.specs.CertificateRefusals.{unfair, unfair_goal, dead_unfair, dead_unfair_goal, MayLoseByTables, IsUnfairIn, IsUnfairAtGoalsIn, IsDeadUnfairIn, IsDeadUnfairAtGoalsIn}
use Rattle.cert_checker.specs.CertChecker.{IsFirstDeadToLoseIn, IsFirstToLoseByTables, IsFirstToLoseIn}
use Rattle.cert_checker.specs.Weights.{HaveTheirWeights}
use Rattle.cert_checker.proofs.VersionLemmas.{of_three, to_three}
use Rattle.cert_checker.proofs.OrderLemmas.{AreFairUpTo, dead_instances_asked, instances_asked, values_asked}
use Rattle.cert_checker.proofs.TablesLemmas.{AreEachOneOver, AreOneOver, all_alike, dead_ends_alike, fair_alike, functions_alike, first_alike, goals_alike, instances_alike, one_at, turned, turned_each}

length_over : (tables : List Table) (place : ℕ) (values : List PotentialFunction) → length (over_tables tables place values) ≡ length values
length_over tables place [] = refl
length_over tables place (p ∷ values) = ap suc (length_over tables (suc place) values)

-- what holds of the first ones holds of each of them
among_first : {X : Type 0} (P : X → Type 0) (xs : List X) (count k : ℕ) (x : X) → All P (take count xs) → k < count → slice_get xs k ≡ Some x → P x
among_first P xs count k x all below at =
    let within = slice_get_within xs k x at in
    subst P (get_or-take count xs k x below ∙ get_or_from_slice_get xs k x x at) (all k x (omega (arith, length-take count xs, within, below)))

module _ (task : Task) (c : Certificate) (with_tables : has_tables c.version ≡ true) (made : SeveralValues) (width : ℕ) (have : HaveTheirWeights (several_of c) width made) where
  abbrev atoms : List Atom
  atoms = numbered_atoms task c.atoms

  each_one : AreEachOneOver c.tables (functions_of made) (functions_of (several_of c))
  each_one = functions_alike (several_of c) width made have

  dead_one : AreOneOver c.tables (dead_ends_of made) (dead_ends_of (several_of c))
  dead_one = dead_ends_alike (several_of c) width made have

  -- ---- all of it is fair

  pub fair_reported_by_tables : AreFair task atoms made → AreFairFor task c
  fair_reported_by_tables fair =
      of_three (λ v. AreFairIn v task c) c.version with_tables (λ p. p) (record {
        values = all_alike c.tables task atoms (functions_of made) (functions_of (several_of c)) each_one fair.values;
        dead_ends = fair_alike c.tables (dead_ends_of made) (dead_ends_of (several_of c)) dead_one task atoms nothing fair.dead_ends;
      })

  -- ---- none of what is fair is unfair

  none_lost : (allowance : Instance → ℕ) (h : TableFunction) → h.tables ≡ c.tables → AreInstancesFairAt allowance task atoms h → (i : Instance) → MayLoseByTables (allowance i) task c h i → ⊥
  none_lost allowance h over fair i (kept, asked, wrong) =
      wrong (All-contains (λ (j : Instance). IsTrue (is_asked task atoms h.tables j) → IsFairAt (allowance j) task atoms h j) (kept_instances task) i fair kept
      (subst (λ those. IsTrue (is_asked task atoms those i)) (sym over) asked))

  -- of a value at this place
  none_lost_at : (k : ℕ) → ((h : TableFunction) → slice_get (functions_of made) k ≡ Some h → AreInstancesFairAt (cost_of task) task atoms h) → (i : Instance) → IsUnfairIn c.version task c k i → ⊥
  none_lost_at k fair i wrong =
      let (h, at, loses) = to_three (λ v. IsUnfairIn v task c k i) c.version with_tables (λ p. p) wrong in
      let (g, at_g, same) = one_at c.tables (functions_of (several_of c)) (functions_of made) (turned_each c.tables (functions_of made) (functions_of (several_of c)) each_one) k h at in
      none_lost (cost_of task) h same.over (instances_alike c.tables g h (turned c.tables h g same) task atoms (cost_of task) (kept_instances task) (fair g at_g)) i loses

  goals_kept_at : (k : ℕ) → ((h : TableFunction) → slice_get (functions_of made) k ≡ Some h → IsFairAtGoals task atoms h) → IsUnfairAtGoalsIn c.version task c k → ⊥
  goals_kept_at k fair wrong =
      let (h, at, unfair_there) = to_three (λ v. IsUnfairAtGoalsIn v task c k) c.version with_tables (λ p. p) wrong in
      let (g, at_g, same) = one_at c.tables (functions_of (several_of c)) (functions_of made) (turned_each c.tables (functions_of made) (functions_of (several_of c)) each_one) k h at in
      unfair_there (goals_alike c.tables g h (turned c.tables h g same) task atoms (fair g at_g))

  -- ---- what is asked before a value at this place

  module _ (place : ℕ) (function : TableFunction) (named : slice_get (functions_of made) place ≡ Some function) (earlier : All (IsFair task atoms) (take place (functions_of made))) where
    within : place < length c.values
    within =
        let below = slice_get_within (functions_of made) place function named in
        omega (arith, below, length_over made.tables 0 made.values, have.as_many)

    pub earlier_asked : AreFairUpTo task c place 0
    earlier_asked unfair k stage (inl before) (i, wrong) =
        none_lost_at k (λ h at. (among_first (IsFair task atoms) (functions_of made) place k h earlier before at).instances) i wrong
    earlier_asked unfair_goal k stage (inl before) wrong = goals_kept_at k (λ h at. (among_first (IsFair task atoms) (functions_of made) place k h earlier before at).goals) wrong
    earlier_asked dead_unfair k stage (inl before) (there, i, wrong) = absurd (omega (arith, before, there, within))
    earlier_asked dead_unfair_goal k stage (inl before) (there, wrong) = absurd (omega (arith, before, there, within))
    earlier_asked r k stage (inr (same, before)) wrong = absurd (omega arith)
    earlier_asked _ k stage (inl before) wrong = absurd (omega arith)

    pub instances_asked_there : AreInstancesFairAt (cost_of task) task atoms function → AreFairUpTo task c place 1
    instances_asked_there fair =
        instances_asked task c place earlier_asked
        (none_lost_at place (λ h at. subst (AreInstancesFairAt (cost_of task) task atoms) (same_Some function h (sym named ∙ at)) fair))

  -- ---- where all values are fair

  pub values_asked_by_tables : All (IsFair task atoms) (functions_of made) → AreFairUpTo task c (length c.values) 2
  values_asked_by_tables fair =
      values_asked task c (λ k. none_lost_at k (λ h at. (All-contains (IsFair task atoms) (functions_of made) h fair (Contains-got (functions_of made) k h at)).instances))
      (λ k. goals_kept_at k (λ h at. (All-contains (IsFair task atoms) (functions_of made) h fair (Contains-got (functions_of made) k h at)).goals))

  pub dead_instances_asked_by_tables : All (IsFair task atoms) (functions_of made) → AreInstancesFairAt nothing task atoms (dead_ends_of made) → AreFairUpTo task c (length c.values) 3
  dead_instances_asked_by_tables fair instances =
      dead_instances_asked task c (values_asked_by_tables fair)
      (λ i wrong.
      none_lost nothing (dead_ends_of (several_of c)) refl (instances_alike c.tables (dead_ends_of made) (dead_ends_of (several_of c)) dead_one task atoms nothing (kept_instances task) instances) i
      (to_three (λ v. IsDeadUnfairIn v task c i) c.version with_tables (λ p. p) wrong))

  -- ---- what is not fair

  may_lose : (allowance : Instance → ℕ) (h : TableFunction) (number : ℕ) (i : Instance) → slice_get (kept_instances task) number ≡ Some i → IsFirstUnfairAt (is_asked task atoms c.tables) allowance task atoms h number
      → MayLoseByTables (allowance i) task c h i
  may_lose allowance h number i at first =
      subst (λ (j : Instance). MayLoseByTables (allowance j) task c h j) (same_Some first.instance i (sym first.named ∙ at))
      (Contains-got (kept_instances task) number first.instance first.named, first.is_asked, first.unfair)

  first_to_lose : (allowance : Instance → ℕ) (h : TableFunction) (number : ℕ) (i : Instance) → slice_get (kept_instances task) number ≡ Some i → IsFirstUnfairAt (is_asked task atoms c.tables) allowance task atoms h number
      → IsFirstToLoseByTables allowance task c h i
  first_to_lose allowance h number i at first = (number, first, same_Some first.instance i (sym first.named ∙ at))

  module _ (number : ℕ) (i : Instance) (at : slice_get (kept_instances task) number ≡ Some i) where
    pub unfair_by_tables : (place : ℕ) → IsFirstInstance task atoms made place number → IsUnfairIn c.version task c place i × IsFirstToLoseIn c.version task c place i
    unfair_by_tables place reported =
        let (h, at_h, same) = one_at c.tables (functions_of made) (functions_of (several_of c)) each_one place reported.function reported.first.named in
        let first = first_alike c.tables reported.function h same task atoms (cost_of task) number reported.unfair in (
          of_three (λ v. IsUnfairIn v task c place i) c.version with_tables (λ p. p) (h, at_h, may_lose (cost_of task) h number i at first),
          of_three (λ v. IsFirstToLoseIn v task c place i) c.version with_tables (λ p. p) (h, at_h, first_to_lose (cost_of task) h number i at first),
        )

    pub dead_unfair_by_tables : IsFirstDeadInstance task atoms made number → IsDeadUnfairIn c.version task c i × IsFirstDeadToLoseIn c.version task c i
    dead_unfair_by_tables reported =
        let h = dead_ends_of (several_of c) in
        let first = first_alike c.tables (dead_ends_of made) h dead_one task atoms nothing number reported.unfair in (
          of_three (λ v. IsDeadUnfairIn v task c i) c.version with_tables (λ p. p) (may_lose nothing h number i at first),
          of_three (λ v. IsFirstDeadToLoseIn v task c i) c.version with_tables (λ p. p) (first_to_lose nothing h number i at first),
        )

  pub unfair_at_goals_by_tables : (place : ℕ) → IsUnfairAtGoals task atoms made place → IsUnfairAtGoalsIn c.version task c place
  unfair_at_goals_by_tables place reported =
      let (h, at_h, same) = one_at c.tables (functions_of made) (functions_of (several_of c)) each_one place reported.function reported.first.named in
      of_three (λ v. IsUnfairAtGoalsIn v task c place) c.version with_tables (λ p. p)
      (h, at_h, λ fair. reported.unfair (goals_alike c.tables h reported.function (turned c.tables reported.function h same) task atoms fair))

  pub dead_unfair_at_goals_by_tables : IsUnfairAtDeadGoals task atoms made → IsDeadUnfairAtGoalsIn c.version task c
  dead_unfair_at_goals_by_tables reported =
      of_three (λ v. IsDeadUnfairAtGoalsIn v task c) c.version with_tables (λ p. p)
      (λ fair.
      reported.unfair (goals_alike c.tables (dead_ends_of (several_of c)) (dead_ends_of made) (turned c.tables (dead_ends_of made) (dead_ends_of (several_of c)) dead_one) task atoms fair))
