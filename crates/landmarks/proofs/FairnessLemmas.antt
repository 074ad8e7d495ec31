-- What is known of fairness by what instances are charged.
use Rattle.std.proofs.Common.{◌≡◌, ◌∙◌, ℕ, ◌+◌, ◌<◌, ◌≤◌, ◌⊎◌, zero, suc, inl, inr, true, false, true≢false, List, [], ◌∷◌, ◌++◌, map, length, get_or, sum_by, Some, sym, ap, subst, arith, refl}
use Rattle.std.specs.Prelude.{All, slice_get}
use Rattle.std.specs.List.{list_all}
use Rattle.std.specs.Option.{option_map_or}
use Rattle.std.proofs.lemmas.Bool.{cases_eq}
use Rattle.std.proofs.lemmas.List.Sums.{get_or-le-sum_by}
use Rattle.std.proofs.lemmas.Option.{slice_get-get_or, slice_get_within, get_or_from_slice_get}
use Rattle.model.specs.Task.{Atom, Task, Instance}
use Rattle.model.specs.Meaning.{cost_of}
use Rattle.model.specs.StaticallyFalse.{kept_instances}
use Rattle.model.specs.NumberedLiterals.{literals_of_instance, literals_of_number, literals_of_goal}
use Rattle.model.specs.ConditionalChanges.{conditional_of_instance, conditional_of_number}
use Rattle.lower_bounds.specs.FairPotentials.{nothing}
use Rattle.lower_bounds.specs.TableFunctions.{Table}
use Rattle.lower_bounds.specs.LandmarkFunctions.{Zone, LandmarkFunction}
use Rattle.lower_bounds.specs.FairLandmarks.{charge, charges, AreFairAt, IsFair, IsDeadFair}
use Rattle.lower_bounds.specs.LandmarkLines.{Share, NumberedLandmarks, share_count}
use Rattle.landmark_zones.specs.declared.values.Share as in_memory
use Rattle.landmark_zones.specs.Landmarks.{share_of}
use Rattle.potentials.specs.declared.allowance.Allowance.TheVariants.{Cost, Nothing}
use Rattle.landmarks.specs.declared.testing.Fairness.{Fairness}
use Rattle.landmarks.specs.declared.testing.Fairness.TheVariants.{DeadFair, Fair, Unfair}
use Rattle.landmarks.specs.CutIndex.{allowed_at, total_at, AreAllWithin, IsSomeBeyond}
use Rattle.landmarks.specs.Fairness.{AreAsked, IsFairness, charged_at, has_one, is_unfair, function_over, is_dead_fair}
use Rattle.landmarks.proofs.AmongLemmas.{among-all}
use Rattle.landmarks.proofs.ValueLemmas.{all-count}

-- ---- all instances

module _ (task : Task) (atoms : List Atom) (h : LandmarkFunction) (asked : List ℕ) (are : AreAsked task atoms h.tables asked) (within : All (λ number. number < length (kept_instances task)) asked)
    (charged : ℕ → ℕ) (reported : (number : ℕ) → charged number ≡ charged_at task atoms h.landmarks number)
    (allowed : ℕ → ℕ) (allowance : Instance → ℕ) (agree : (number : ℕ) (i : Instance) → slice_get (kept_instances task) number ≡ Some i → allowed number ≡ allowance i) where
  same-charge : (number : ℕ) (i : Instance) → slice_get (kept_instances task) number ≡ Some i → charged number ≡ charges task atoms h.landmarks i
  same-charge number i at =
      reported number ∙ (λ k. sum_by (charge (option_map_or (literals_of_instance task atoms) (at k) []) (option_map_or (conditional_of_instance task atoms) (at k) [])) h.landmarks)

  pub all-fair : list_all (has_one (literals_of_goal task atoms)) h.landmarks ≡ true → AreAllWithin allowed charged asked → AreFairAt allowance task atoms h
  all-fair goals all = record {
    instances = λ k d below is.
        let i = get_or (kept_instances task) k d in
        let at = slice_get-get_or (kept_instances task) k d below in
        let most = all k (are k i at ∙ is) in
        record { within = omega (arith, same-charge k i at, agree k i at) };
    goals = goals;
  }

  pub none-fair : IsSomeBeyond allowed charged asked → AreFairAt allowance task atoms h → ⊥
  none-fair one fair =
      let number = one.0 in
      let d : Instance = record { schema = 0; objects = [] } in
      let below = among-all (λ n. n < length (kept_instances task)) asked number within one.1 in
      let i = get_or (kept_instances task) number d in
      let at = slice_get-get_or (kept_instances task) number d below in
      let most = (fair.instances number d below (sym (are number i at) ∙ one.1)).within in
      let more = one.2 in
      absurd (omega (arith, same-charge number i at, agree number i at))

-- so of fairness, told by two tests
module _ (task : Task) (atoms : List Atom) (beside : List Table) (zones : List Zone) (shares : List in_memory.Share) (asked : List ℕ) (are : AreAsked task atoms beside asked)
    (within : All (λ number. number < length (kept_instances task)) asked) where
  abbrev h : LandmarkFunction
  h = function_over beside zones (map share_of shares)

  abbrev total : ℕ → ℕ
  total = total_at task atoms zones shares

  reported : (number : ℕ) → total number ≡ charged_at task atoms h.landmarks number
  reported number = all-count zones (charge (literals_of_number task atoms number) (conditional_of_number task atoms number)) shares

  no-cost : (number : ℕ) (i : Instance) → slice_get (kept_instances task) number ≡ Some i → allowed_at task atoms Nothing number ≡ nothing i
  no-cost number i at = refl

  same-cost : (number : ℕ) (i : Instance) → slice_get (kept_instances task) number ≡ Some i → allowed_at task atoms Cost number ≡ cost_of task i
  same-cost number i at = ap (λ o. option_map_or (cost_of task) o 0) at

  pub dead-fair-as : list_all (has_one (literals_of_goal task atoms)) h.landmarks ≡ true → AreAllWithin (allowed_at task atoms Nothing) total asked → IsFairness task atoms h DeadFair
  dead-fair-as goals all = all-fair task atoms h asked are within total reported (allowed_at task atoms Nothing) nothing no-cost goals all

  pub fair-as : list_all (has_one (literals_of_goal task atoms)) h.landmarks ≡ true → IsSomeBeyond (allowed_at task atoms Nothing) total asked → AreAllWithin (allowed_at task atoms Cost) total asked
      → IsFairness task atoms h Fair
  fair-as goals one all = (
    all-fair task atoms h asked are within total reported (allowed_at task atoms Cost) (cost_of task) same-cost goals all,
    none-fair task atoms h asked are within total reported (allowed_at task atoms Nothing) nothing no-cost one,
  )

  pub unfair-as : IsSomeBeyond (allowed_at task atoms Cost) total asked → IsFairness task atoms h Unfair
  unfair-as one = none-fair task atoms h asked are within total reported (allowed_at task atoms Cost) (cost_of task) same-cost one

-- a value with a zone without a literal of the goal is not fair
pub not-of-goal : (task : Task) (atoms : List Atom) (h : LandmarkFunction) → list_all (has_one (literals_of_goal task atoms)) h.landmarks ≡ false → IsFairness task atoms h Unfair
not-of-goal task atoms h none fair = absurd (true≢false (sym fair.goals ∙ none))

-- ---- fair where it is not unfair

-- allowed nothing, none is charged more than it costs
less-fair : (task : Task) (atoms : List Atom) (h : LandmarkFunction) → IsDeadFair task atoms h → IsFair task atoms h
less-fair task atoms h fair = record {
  instances = λ k d below is. let none = (fair.instances k d below is).within in record { within = omega arith };
  goals = fair.goals;
}

pub fair-of : (task : Task) (atoms : List Atom) (h : LandmarkFunction) (f : Fairness) → is_unfair f ≡ false → IsFairness task atoms h f → IsFair task atoms h
fair-of task atoms h DeadFair isnt so = less-fair task atoms h so
fair-of task atoms h Fair isnt so = so.0
fair-of task atoms h Unfair isnt so = absurd (true≢false isnt)

pub unfair-of : (task : Task) (atoms : List Atom) (h : LandmarkFunction) (f : Fairness) → is_unfair f ≡ true → IsFairness task atoms h f → ¬ IsFair task atoms h
unfair-of task atoms h DeadFair is so = absurd (true≢false (sym is))
unfair-of task atoms h Fair is so = absurd (true≢false (sym is))
unfair-of task atoms h Unfair is so = so

-- ---- one of several

-- a row is no longer than all together
pub few-of : (values : List (List Share)) (number count : ℕ) (found : List Share) → slice_get values number ≡ Some found → share_count values ≤ count → length found ≤ count
few-of values number count found at few =
    let one = get_or-le-sum_by length values number [] (slice_get_within values number found at) in
    omega (arith, ap length (get_or_from_slice_get values number found [] at))

-- ---- dead-fair, or not

pub dead-of : (task : Task) (atoms : List Atom) (h : LandmarkFunction) (f : Fairness) → is_dead_fair f ≡ true → IsFairness task atoms h f → IsDeadFair task atoms h
dead-of task atoms h DeadFair is so = so
dead-of task atoms h Fair is so = absurd (true≢false (sym is))
dead-of task atoms h Unfair is so = absurd (true≢false (sym is))

pub undead-of : (task : Task) (atoms : List Atom) (h : LandmarkFunction) (f : Fairness) → is_dead_fair f ≡ false → IsFairness task atoms h f → ¬ IsDeadFair task atoms h
undead-of task atoms h DeadFair isnt so = absurd (true≢false isnt)
undead-of task atoms h Fair isnt so = so.1
undead-of task atoms h Unfair isnt so = λ dead. so (less-fair task atoms h dead)

-- ---- one after another

-- an element of a list and one more is one before, or the last
got-push : {X : Type 0} (xs : List X) (y x : X) (k : ℕ) → slice_get (xs ++ y ∷ []) k ≡ Some x → (slice_get xs k ≡ Some x) ⊎ ((k ≡ length xs) × (y ≡ x))
got-push [] y x zero at = inr (refl, some-is y x at)
  where
    some-is : {X : Type 0} (y x : X) → Some y ≡ Some x → y ≡ x
    some-is y x same = cc same
got-push [] y x (suc k) at = absurd (cc at)
got-push (z ∷ xs) y x zero at = inl at
got-push (z ∷ xs) y x (suc k) at = elim (got-push xs y x k at) [
  | inl there ↦ inl there
  | inr (here, is) ↦ inr (ap suc here, is)
]

-- what was found of each value so far, and of the next
pub found-more : (task : Task) (atoms : List Atom) (beside : List Table) (l : NumberedLandmarks) (number : ℕ) (shares : List Share) → slice_get l.values number ≡ Some shares
    → (found : List Fairness) (next : Fairness) → length found ≡ number → IsFairness task atoms (function_over beside l.zones shares) next
    → ((k : ℕ) (f : Fairness) → slice_get found k ≡ Some f → IsFairness task atoms (function_over beside l.zones (get_or l.values k [])) f)
    → (k : ℕ) (f : Fairness) → slice_get (found ++ next ∷ []) k ≡ Some f → IsFairness task atoms (function_over beside l.zones (get_or l.values k [])) f
found-more task atoms beside l number shares there found next many so before k f at = elim (got-push found next f k at) [
  | inl earlier ↦ before k f earlier
  | inr (here, is) ↦
      let same : shares ≡ get_or l.values k [] = sym (ap (λ n. get_or l.values n []) (here ∙ many) ∙ get_or_from_slice_get l.values number shares [] there) in
      subst (IsFairness task atoms (function_over beside l.zones (get_or l.values k []))) is (subst (λ s. IsFairness task atoms (function_over beside l.zones s) next) same so)
]
