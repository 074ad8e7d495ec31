-- The first of several values that is not fair, instance by instance, and what is reported of it.
use Rattle.std.proofs.Common.{◌≡◌, ◌∙◌, ℕ, zero, suc, ◌+◌, ◌<◌, ◌≤◌, Bool, true, false, true≢false, not, List, length, take, Option, None, Some, refl, sym, ap, subst, arith}
use Rattle.std.specs.Prelude.{◌↔◌, All, IsTrue, slice_get, nat_lt, if◌then◌else◌}
use Rattle.std.proofs.lemmas.Bool.{lt-ltb, ltb-true, ltb-false}
use Rattle.std.proofs.lemmas.List.{get_or_past, take_all}
use Rattle.std.proofs.lemmas.List.Elements.{All-nil}
use Rattle.std.proofs.lemmas.Option.{slice_get_within}
use Rattle.model.specs.Task.{Atom, Task, Instance}
use Rattle.model.specs.Meaning.{cost_of}
use Rattle.model.specs.StaticallyFalse.{kept_instances}
use Rattle.lower_bounds.specs.FairPotentials.{nothing}
use Rattle.lower_bounds.specs.TableFunctions.{TableFunction, SeveralValues, functions_of, dead_ends_of}
use Rattle.lower_bounds.specs.FairTables.{is_asked, is_instance_shut_out, IsFair, IsFairAt, IsFairAtGoals, IsFirstUnfairAt}
use Rattle.table_rows.proofs.FateLemmas.{row-there}
use Rattle.tables.specs.Fairness.{AreInstancesFairAt}
use Rattle.tables.specs.Reports.{goals_report, instance_report, first_report}
use Rattle.tables.specs.Several.{ReportsValues}
use Rattle.tables.specs.Unfair.{places_in, function_in, allowance_in, IsFairIn, IsFirstOf, AreFairIn, IsUnfairFirst, IsFirstUnfairValue, places_before, least_of, earlier_of}
use Rattle.tables.specs.declared.several.ValuesFairness.TheVariants as reported
use Rattle.tables.specs.declared.unfair.Unfair.{Unfair}
use Rattle.tables.proofs.FairnessLemmas.{AreFairBelow, fair-next, fair-all, first-unfair}
use Rattle.tables.proofs.SeveralLemmas.{length-over, named, one-more-holds}

module _ (task : Task) (atoms : List Atom) (s : SeveralValues) where
  -- ---- instance after instance

  -- those before this number are fair at this place
  abbrev AreFairSoFar : ℕ → ℕ → Type 0
  AreFairSoFar place number = AreFairBelow task atoms (function_in s place) (allowance_in task s place) number

  abbrev IsUnfairAt : Unfair → Type 0
  IsUnfairAt u = IsFirstUnfairAt (is_asked task atoms s.tables) (allowance_in task s u.place) task atoms (function_in s u.place) u.number

  -- of the instances before this number
  pub record IsFirstSoFar (number : ℕ) (first : Option Unfair) : Type 0 where
    pub fair : (k : ℕ) → k < places_before (places_in s) first → AreFairSoFar k number
    pub unfair : (u : Unfair) → first ≡ Some u → (u.place < places_in s) × IsUnfairAt u

  pub none-so-far : IsFirstSoFar 0 None
  none-so-far = record { fair = λ k _ n i below. absurd (omega (arith, below)); unfair = λ u none. absurd (cc) }

  module _ (number : ℕ) (below : number < length (kept_instances task)) where
    one-more : (k : ℕ) → AreFairSoFar k number → ((i : Instance) → slice_get (kept_instances task) number ≡ Some i → IsFairIn task atoms s k i) → AreFairSoFar k (number + 1)
    one-more k before here = fair-next task atoms (function_in s k) (allowance_in task s k) number true (λ i at. (λ _. here i at, λ _. refl)) refl before

    first-here : (k : ℕ) → AreFairSoFar k number → ((i : Instance) → slice_get (kept_instances task) number ≡ Some i → IsFairIn task atoms s k i → ⊥) → IsUnfairAt (record { place = k; number = number })
    first-here k before fails =
        first-unfair task atoms (function_in s k) (allowance_in task s k) number false below (λ i at. (λ is. absurd (true≢false (sym is)), λ fair. absurd (fails i at fair))) refl before

    -- the next instance
    module _ (place : Option ℕ) (is : (i : Instance) → slice_get (kept_instances task) number ≡ Some i → IsFirstOf (λ k. IsFairIn task atoms s k i) (places_in s) place) where
      pub first-next : (first : Option Unfair) → IsFirstSoFar number first → IsFirstSoFar (number + 1) (earlier_of first place number)
      first-next first so = by_place place is
        where
          by_place : (o : Option ℕ) → ((i : Instance) → slice_get (kept_instances task) number ≡ Some i → IsFirstOf (λ k. IsFairIn task atoms s k i) (places_in s) o) → IsFirstSoFar (number + 1) (earlier_of first o number)
          by_place None fair = record {
            fair = λ k within. one-more k (so.fair k within) (λ i at. fair i at k (before-all first so k within));
            unfair = so.unfair;
          }
            where
              before-all : (f : Option Unfair) → IsFirstSoFar number f → (k : ℕ) → k < places_before (places_in s) f → k < places_in s
              before-all None _ k within = within
              before-all (Some u) known k within = let it = (known.unfair u refl).0 in omega (arith, within, it)
          by_place (Some p) fails = by_first first so
            where
              instance : (i : Instance) × (slice_get (kept_instances task) number ≡ Some i)
              instance = row-there (kept_instances task) number below

              there : p < places_in s
              there = (fails instance.0 instance.1).within

              new : Unfair
              new = record { place = p; number = number }

              -- it comes first
              taken : ((k : ℕ) → k ≤ p → AreFairSoFar k number) → IsFirstSoFar (number + 1) (Some new)
              taken before = record {
                fair = λ k within. one-more k (before k (omega (arith, within))) (λ i at. (fails i at).earlier k within);
                unfair = λ u same. subst (λ (v : Unfair). (v.place < places_in s) × IsUnfairAt v) (let e : new ≡ u = cc in e) (there, first-here p (before p (omega arith)) (λ i at fair. (fails i at).fails fair));
              }

              by_first : (f : Option Unfair) → IsFirstSoFar number f → IsFirstSoFar (number + 1) (Some (least_of f new))
              by_first None known = taken (λ k within. known.fair k (omega (arith, within, there)))
              by_first (Some u) known =
                  elim (nat_lt p u.place) as (λ b. nat_lt p u.place ≡ b → IsFirstSoFar (number + 1) (Some (if b then new else u))) [
                    | true ↦ λ earlier. let less = ltb-true p u.place earlier in taken (λ k within. known.fair k (omega (arith, within, less)))
                    | false ↦ λ later. let least = ltb-false p u.place later in record {
                      fair = λ k within. one-more k (known.fair k within) (λ i at. (fails i at).earlier k (omega (arith, within, least)));
                      unfair = λ v same. subst (λ (w : Unfair). (w.place < places_in s) × IsUnfairAt w) (let e : u ≡ v = cc in e) (known.unfair u refl);
                    }
                  ] refl

  -- past the last instance
  pub first-past : (number later : ℕ) (first : Option Unfair) → length (kept_instances task) ≤ number → IsFirstSoFar number first → IsFirstSoFar later first
  first-past number later first past so = record {
    fair = λ k within n i below at. so.fair k within n i (let there = slice_get_within (kept_instances task) n i at in omega (arith, there, past)) at;
    unfair = so.unfair;
  }

  -- all instances, or no value is left
  pub first-is : (number : ℕ) (first : Option Unfair) → IsFirstSoFar number first → ((k : ℕ) → k < places_before (places_in s) first → length (kept_instances task) ≤ number) → IsFirstUnfairValue task atoms s first
  first-is number None so past = λ k within. fair-all task atoms (function_in s k) (allowance_in task s k) number (past k within) (so.fair k within)
  first-is number (Some u) so past = record {
    within = (so.unfair u refl).0;
    unfair = (so.unfair u refl).1;
    earlier = λ k within. fair-all task atoms (function_in s k) (allowance_in task s k) number (past k within) (so.fair k within);
  }

  -- ---- what is reported

  -- a value
  module _ (k : ℕ) (below : k < length s.values) where
    by-cost : allowance_in task s k ≡ cost_of task
    by-cost = ap (λ b. if b then cost_of task else nothing) (lt-ltb k (length s.values) below)

    instances-by-cost : AreFairIn task atoms s k → AreInstancesFairAt (cost_of task) task atoms (function_in s k)
    instances-by-cost fair = subst (λ (allowance : Instance → ℕ). AreInstancesFairAt allowance task atoms (function_in s k)) by-cost fair

    whole : AreFairIn task atoms s k → IsFairAtGoals task atoms (function_in s k) → IsFair task atoms (function_in s k)
    whole fair goals = record { instances = instances-by-cost fair; goals = goals }

  all-before : (n : ℕ) → n ≤ length s.values → ((k : ℕ) → k < n → AreFairIn task atoms s k) → ((k : ℕ) → k < n → IsFairAtGoals task atoms (function_in s k)) → All (IsFair task atoms) (take n (functions_of s))
  all-before zero within fair goals = All-nil (IsFair task atoms)
  all-before (suc n) within fair goals =
      let same : n + 1 ≡ suc n = omega arith in
      let here : n < length s.values = omega (arith, within) in
      subst (λ m. All (IsFair task atoms) (take m (functions_of s))) same
      (one-more-holds (IsFair task atoms) (functions_of s) n (function_in s n) (named s n here) (all-before n (omega (arith, within)) (λ k less. fair k (omega (arith, less))) (λ k less. goals k (omega (arith, less))))
      (whole n here (fair n (omega arith)) (goals n (omega arith))))

  -- that for dead ends
  module _ (k : ℕ) (past : length s.values ≤ k) (within : k < places_in s) where
    last : k ≡ length s.values
    last = omega (arith, past, within)

    for-dead-ends : function_in s k ≡ dead_ends_of s
    for-dead-ends = (λ i. record { potentials = get_or_past s.values k s.dead_ends past i; tables = s.tables; place = last i })

    by-nothing : allowance_in task s k ≡ nothing
    by-nothing = ap (λ b. if b then cost_of task else nothing) (not-below (nat_lt k (length s.values)) refl)
      where
        not-below : (b : Bool) → nat_lt k (length s.values) ≡ b → nat_lt k (length s.values) ≡ false
        not-below true is = let less = ltb-true k (length s.values) is in absurd (omega (arith, less, past))
        not-below false is = is

    instances-by-nothing : AreFairIn task atoms s k → AreInstancesFairAt nothing task atoms (dead_ends_of s)
    instances-by-nothing fair =
        subst (λ (h : TableFunction). AreInstancesFairAt nothing task atoms h) for-dead-ends (subst (λ (allowance : Instance → ℕ). AreInstancesFairAt allowance task atoms (function_in s k)) by-nothing fair)

    all-values : ((j : ℕ) → j < k → AreFairIn task atoms s j) → ((j : ℕ) → j < k → IsFairAtGoals task atoms (function_in s j)) → All (IsFair task atoms) (functions_of s)
    all-values fair goals =
        subst (All (IsFair task atoms)) (take_all k (functions_of s) (omega (arith, past, length-over s.tables 0 s.values))) (subst (λ n. All (IsFair task atoms) (take n (functions_of s))) (sym last)
        (all-before (length s.values) (omega arith) (λ j less. fair j (omega (arith, less, past))) (λ j less. goals j (omega (arith, less, past)))))

  -- not fair at goals
  pub goals-reported : (k : ℕ) → k < places_in s → ((j : ℕ) → j < k → AreFairIn task atoms s j) → ((j : ℕ) → j < k → IsFairAtGoals task atoms (function_in s j)) → AreFairIn task atoms s k
      → (IsFairAtGoals task atoms (function_in s k) → ⊥) → ReportsValues task atoms s (goals_report s k)
  goals-reported k within fair goals here fails =
      elim (nat_lt k (length s.values)) as (λ b. nat_lt k (length s.values) ≡ b → ReportsValues task atoms s (if b then reported.Goals k else reported.DeadEndGoals)) [
        | true ↦ λ is. let below = ltb-true k (length s.values) is in record {
          function = function_in s k;
          first = record { named = named s k below; earlier = all-before k (omega (arith, below)) fair goals };
          instances = instances-by-cost k below here;
          unfair = fails;
        }
        | false ↦ λ is. let past = ltb-false k (length s.values) is in record {
          values = all-values k past within fair goals;
          instances = instances-by-nothing k past within here;
          unfair = subst (λ (h : TableFunction). IsFairAtGoals task atoms h → ⊥) (for-dead-ends k past within) fails;
        }
      ] refl

  -- not fair for an instance
  pub instance-reported : (u : Unfair) → IsUnfairFirst task atoms s u → ((j : ℕ) → j < u.place → IsFairAtGoals task atoms (function_in s j)) → ReportsValues task atoms s (instance_report s u)
  instance-reported u first goals =
      elim (nat_lt u.place (length s.values)) as (λ b. nat_lt u.place (length s.values) ≡ b → ReportsValues task atoms s (if b then reported.Instance u.place u.number else reported.DeadEndInstance u.number)) [
        | true ↦ λ is. let below = ltb-true u.place (length s.values) is in record {
          function = function_in s u.place;
          first = record { named = named s u.place below; earlier = all-before u.place (omega (arith, below)) first.earlier goals };
          unfair = subst (λ (allowance : Instance → ℕ). IsFirstUnfairAt (is_asked task atoms s.tables) allowance task atoms (function_in s u.place) u.number) (by-cost u.place below) first.unfair;
        }
        | false ↦ λ is. let past = ltb-false u.place (length s.values) is in record {
          values = all-values u.place past first.within first.earlier goals;
          unfair = subst (λ (h : TableFunction). IsFirstUnfairAt (is_asked task atoms s.tables) nothing task atoms h u.number) (for-dead-ends u.place past first.within)
              (subst (λ (allowance : Instance → ℕ). IsFirstUnfairAt (is_asked task atoms s.tables) allowance task atoms (function_in s u.place) u.number) (by-nothing u.place past first.within) first.unfair);
        }
      ] refl

  pub all-reported : (first : Option Unfair) → IsFirstUnfairValue task atoms s first → ((j : ℕ) → j < places_before (places_in s) first → IsFairAtGoals task atoms (function_in s j)) → ReportsValues task atoms s (first_report s first)
  all-reported (Some u) first goals = instance-reported u first goals
  all-reported None fair goals =
      let k = length s.values in
      let past : length s.values ≤ k = omega arith in
      let within : k < places_in s = omega arith in
      record {
        values = all-values k past within (λ j less. fair j (omega (arith, less))) (λ j less. goals j (omega (arith, less)));
        dead_ends = record {
          instances = instances-by-nothing k past within (fair k within);
          goals = subst (λ (h : TableFunction). IsFairAtGoals task atoms h) (for-dead-ends k past within) (goals k within);
        };
      }

-- ---- one instance

module _ (task : Task) (atoms : List Atom) (s : SeveralValues) (i : Instance) where
  -- it is shut out
  pub shut-first : is_instance_shut_out task atoms s.tables i ≡ true → IsFirstOf (λ k. IsFairIn task atoms s k i) (places_in s) None
  shut-first out k within asked = absurd (true≢false (sym asked ∙ ap not out))

  module _ (in_play : is_instance_shut_out task atoms s.tables i ≡ false) where
    -- it leads to what is no row
    pub leaving-first : ((k : ℕ) → IsFairAt (allowance_in task s k i) task atoms (function_in s k) i → ⊥) → IsFirstOf (λ k. IsFairIn task atoms s k i) (places_in s) (Some 0)
    leaving-first unfair = record { within = omega arith; fails = λ fair. unfair 0 (fair (ap not in_play)); earlier = λ k none. absurd (omega (arith, none)) }

    pub asked-first : (place : Option ℕ) → IsFirstOf (λ k. IsFairAt (allowance_in task s k i) task atoms (function_in s k) i) (places_in s) place → IsFirstOf (λ k. IsFairIn task atoms s k i) (places_in s) place
    asked-first None fair = λ k within asked. fair k within
    asked-first (Some place) first = record { within = first.within; fails = λ fair. first.fails (fair (ap not in_play)); earlier = λ k before asked. first.earlier k before }

  -- a value that is that at a place
  pub fair-as : (h : TableFunction) (allowance : Instance → ℕ) (k : ℕ) → h ≡ function_in s k → allowance ≡ allowance_in task s k → (answer : Bool) → (IsTrue answer ↔ IsFairAt (allowance i) task atoms h i)
      → (IsTrue answer ↔ IsFairAt (allowance_in task s k i) task atoms (function_in s k) i)
  fair-as h allowance k same allowed answer decides = subst (λ (q : (g : TableFunction) × (Instance → ℕ)). IsTrue answer ↔ IsFairAt (q.1 i) task atoms q.0 i) (λ j. (same j, allowed j)) decides

-- ---- places before the first

module _ (task : Task) (atoms : List Atom) (s : SeveralValues) where
  pub before-within : (first : Option Unfair) → IsFirstUnfairValue task atoms s first → (k : ℕ) → k < places_before (places_in s) first → k < places_in s
  before-within None fair k before = before
  before-within (Some u) is k before = let there = is.within in omega (arith, before, there)

  pub fair-before : (first : Option Unfair) → IsFirstUnfairValue task atoms s first → (k : ℕ) → k < places_before (places_in s) first → AreFairIn task atoms s k
  fair-before None fair k before = fair k before
  fair-before (Some u) is k before = is.earlier k before
