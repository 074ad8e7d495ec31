-- Fair landmark functions are lower bounds, and dead-fair ones detect dead ends; and zones are landmarks.
use Rattle.std.proofs.Common.{◌≡◌, ℕ, ◌≤◌, Bool, true, false, inl, inr, List, [], ◌∷◌, length, sum_by, None, Some, refl, ap, subst, arith}
use Rattle.std.specs.Prelude.{Contains, if◌then◌else◌}
use Rattle.std.specs.Option.{option_and_then}
use Rattle.std.proofs.lemmas.Bool.{and_from}
use Rattle.std.proofs.lemmas.List.Sums.{sum_by-cons}
use Rattle.model.specs.Task.{Atom, Task, Instance}
use Rattle.model.specs.Runs.{run}
use Rattle.model.specs.Meaning.{State, cost_of, step, system_of}
use Rattle.model.specs.Fluents.{HasInitialStatics}
use Rattle.model.specs.StaticallyFalse.{kept_instances}
use Rattle.model.specs.NumberedLiterals.{literals_of_goal}
use Rattle.model.specs.Grounding.{bits_of_state}
use Rattle.model.proofs.ListLemmas.{Contains-here, Contains-there, Contains-none, Contains-cases, Contains-filter}
use Rattle.model.proofs.StaticallyFalseLemmas.{Contains-kept}
use Rattle.model.proofs.GroundTaskLemmas.{step-HasInitialStatics}
use Rattle.lower_bounds.specs.FairPotentials.{nothing}
use Rattle.lower_bounds.specs.TableFunctions.{has_numbered_fluents, in_state}
use Rattle.lower_bounds.proofs.TableLowerBound.{state-bound, are_lower_bounds, are_dead_ends}
use Rattle.lower_bounds.specs.LandmarkFunctions.{Zone, has_any, is_whole, gives, LandmarkFunction, value}
use Rattle.lower_bounds.specs.FairLandmarks.{instance_may_break, AreFairAt}
use Rattle.lower_bounds.specs.LandmarkLaws.{is_zone_over, ZonesAreLandmarks, FairOnesAreLowerBounds, DeadFairOnesReportDeadEnds, FairTablesAreClosed}
use Rattle.lower_bounds.proofs.LandmarkValues.{landmarks_are_fair_values}

pub fair_ones_are_lower_bounds : FairOnesAreLowerBounds
fair_ones_are_lower_bounds task atoms h numbered over closed fair =
    are_lower_bounds task atoms numbered (value h) (landmarks_are_fair_values (cost_of task) task atoms h numbered.numberable over closed fair)

pub dead_fair_ones_report_dead_ends : DeadFairOnesReportDeadEnds
dead_fair_ones_report_dead_ends task atoms h numbered over closed fair =
    are_dead_ends task atoms numbered (value h) (landmarks_are_fair_values nothing task atoms h numbered.numberable over closed fair)

pub fair_tables_are_closed : FairTablesAreClosed
fair_tables_are_closed task atoms t fair k d below asked = (fair.instances k d below asked).closed

-- ---- landmarks

-- 1 for each element that passes
abbrev counted : {A : Type 0} → (A → Bool) → A → ℕ
counted p a = if p a then 1 else 0

some-passes : {A : Type 0} (p : A → Bool) (xs : List A) → 1 ≤ sum_by (counted p) xs → (a : A) × Contains xs a × (p a ≡ true)
some-passes p [] some = absurd (omega arith)
some-passes {A} p (x ∷ xs) some =
    elim (p x) as (λ b. p x ≡ b → (a : A) × Contains (x ∷ xs) a × (p a ≡ true)) [
      | true ↦ λ is. (x, Contains-here x xs, is)
      | false ↦ λ is.
          let none : counted p x ≡ 0 = ap (λ b. if b then 1 else 0) is in
          let rest = some-passes p xs (omega (arith, sum_by-cons (counted p) x xs)) in
          (rest.0, Contains-there x xs rest.0 rest.1, rest.2)
    ] refl

-- the instances of a list that can be run are kept
all-kept : (task : Task) (plan : List Instance) (s end : State) (i : Instance) → HasInitialStatics task s → run (system_of task) s plan ≡ Some end → Contains plan i → Contains (kept_instances task) i
all-kept task [] s end i statics runs at = absurd (Contains-none i at)
all-kept task (j ∷ plan) s end i statics runs at =
    elim (step task s j) as (λ o. step task s j ≡ o → option_and_then (λ next. run (system_of task) next plan) o ≡ Some end → Contains (kept_instances task) i) [
      | None ↦ λ _ none. absurd (cc)
      | Some next ↦ λ leads on. elim (Contains-cases j plan i at) [
        | inl is ↦ subst (λ k. Contains (kept_instances task) k) is (Contains-kept task s next j statics leads)
        | inr later ↦ all-kept task plan next end i (step-HasInitialStatics task s next j statics leads) on later
      ]
    ] refl runs

module _ (task : Task) (atoms : List Atom) (zone : Zone) where
  abbrev breaks : Instance → Bool
  breaks i = instance_may_break task atoms zone i

  -- the zone weighs 1, and an instance is allowed 1 if it may break it
  abbrev alone : LandmarkFunction
  alone = record { landmarks = record { zone = zone; weight = 1 } ∷ []; tables = [] }

  alone-fair : has_any zone (literals_of_goal task atoms) ≡ true → AreFairAt (counted breaks) task atoms alone
  alone-fair goals = record {
    instances = λ k d below asked. record { within = omega arith };
    goals = and_from (has_any zone (literals_of_goal task atoms)) true goals refl;
  }

  begins : (s : State) → has_numbered_fluents task atoms s ≡ true → is_whole (bits_of_state atoms s) zone ≡ true → in_state task atoms (value alone) s ≡ 1
  begins s fluents whole =
      let it : in_state task atoms (value alone) s ≡ value alone (bits_of_state atoms s) = ap (λ b. if b then value alone (bits_of_state atoms s) else 0) fluents in
      let first : gives (bits_of_state atoms s) (record { zone = zone; weight = 1 }) ≡ 1 = ap (λ b. if b then 1 else 0) whole in
      omega (arith, sum_by-cons (gives (bits_of_state atoms s)) (record { zone = zone; weight = 1 }) [])

-- so a list that leads to the goal has one
pub zones_are_landmarks : ZonesAreLandmarks
zones_are_landmarks task atoms zone numbered over goals s end plan statics fluents whole runs goal =
    let p = breaks task atoms zone in
    let h = alone task atoms zone in
    let fair = landmarks_are_fair_values (counted p) task atoms h numbered.numberable (record { zones = and_from (is_zone_over (length atoms) zone) true over refl; scopes = refl }) (λ k d below asked. refl)
    (alone-fair task atoms zone goals) in
    let most = state-bound (counted p) task atoms numbered (value h) fair s end plan statics runs goal in
    let one = some-passes p plan (omega (arith, begins task atoms zone s fluents whole)) in
    (one.0, one.1, Contains-filter p (kept_instances task) one.0 (all-kept task plan s end one.0 statics runs one.1) one.2)
