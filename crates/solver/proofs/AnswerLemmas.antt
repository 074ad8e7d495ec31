-- What the answer says of the task, and what a list of instances that solves says of them.
use Rattle.std.proofs.Common.{◌≡◌, ℕ, ◌+◌, ◌<◌, ◌≤◌, ◌*◌, Bool, true, false, List, [], ◌∷◌, length, None, Some, refl, sym, ap, subst, arith}
use Rattle.std.specs.Prelude.{nat_le, slice_get, Contains}
use Rattle.std.specs.Option.{option_and_then}
use Rattle.std.specs.List.{list_all}
use Rattle.std.proofs.lemmas.Bool.{and_parts, and_from, lt-ltb, leb-true}
use Rattle.std.proofs.lemmas.Bool.Decides.{nat_tests}
use Rattle.std.proofs.lemmas.Option.{slice_get_within}
use Rattle.certificate.specs.declared.states.Listed.{Listed}
use Rattle.search.specs.Estimates.{IsAdmissible}
use Rattle.search.specs.DeadEnds.{ReportsDeadEnds}
use Rattle.search.specs.declared.nodes.Node.{Node}
use Rattle.search.specs.Outcome as search
use Rattle.search.specs.declared.best.Outcome.{Outcome}
use Rattle.search.specs.declared.best.Outcome.TheVariants.{Found, Exhausted, States}
use Rattle.search.specs.Outcome.{lines_of, AreEstimates, AreFound, AreOfOneClass, AreClassesOf, HasEstimates, IsTrueOutcome}
use Rattle.search_spaces.specs.GroundListing.{listed_states}
use Rattle.search_spaces.specs.Plans.{IsCarriedOut}
use Rattle.search_spaces.specs.Reachable.{AreMoreReachable}
use Rattle.search_spaces.specs.SearchSpace as search_space
use Rattle.search_spaces.specs.SearchSpace.{class_in}
use Rattle.search_spaces.specs.declared.ground_listing.GroundListing.{GroundListing}
use Rattle.search_spaces.specs.declared.search_space.SearchSpace.{SearchSpace}
use Rattle.solver.specs.Limit.{is_limit}
use Rattle.solver.specs.Guidance.{Guidance, estimate_by, reports_dead, CanBeWritten}
use Rattle.solver.specs.Guided.{found_in, AreMarksOf, CanBeMarked, IsSearched}
use Rattle.solver.specs.declared.limits.Limits.{Limits}
use Rattle.solver.proofs.GuidanceLemmas.{most_value, estimate-most}
use Rattle.search.proofs.Closed.{cut_reported, lines_are_true}
use Rattle.solver.proofs.FoundLines.{found_line, node_at}
use Rattle.solver.proofs.ByCost.{more_by_cost}
use Rattle.solver.proofs.LimitLemmas.{limit_claim}
use Rattle.search_spaces.proofs.TaskLemmas.{length-reachable, more_reachable, task_costs_at_least}
use Rattle.model.specs.Task.{Task, Atom, Instance}
use Rattle.model.specs.Runs.{System, run, cost_of_all, Solves, CostsAtLeast, IsOptimal}
use Rattle.model.specs.Claims.{Claim, bound, none, Line, IsClosed}
use Rattle.model.specs.Grounding.{ground_system}
use Rattle.model.specs.Meaning.{State, step, is_instance, system_of}
use Rattle.certificate_definitions.specs.Certificates.{is_claim}
use Rattle.model.specs.NumberedAtoms.{numbered_atoms}
use Rattle.model.proofs.ClaimsLemmas.{claim-of_closed}
use Rattle.model.proofs.InstancesLemmas.{is_instance-of_step}

all_instances_run : (task : Task) (plan : List Instance) (s end : State) → run (system_of task) s plan ≡ Some end → list_all (is_instance task) plan ≡ true
all_instances_run task [] s end runs = refl
all_instances_run task (i ∷ plan) s end runs =
    elim (step task s i) as (λ o. step task s i ≡ o → option_and_then (λ next. run (system_of task) next plan) o ≡ Some end → list_all (is_instance task) (i ∷ plan) ≡ true) [
      | None ↦ λ _ none. absurd (cc)
      | Some next ↦ λ leads on.
          and_from (is_instance task i) (list_all (is_instance task) plan) (is_instance-of_step task s i next leads) (all_instances_run task plan next end on)
    ] refl runs

-- the steps of a list that solves are the task's
pub all_instances_of_plan : (task : Task) (plan : List Instance) → Solves (system_of task) plan → list_all (is_instance task) plan ≡ true
all_instances_of_plan task plan solves = all_instances_run task plan (system_of task).initial solves.0 solves.1

pub most_of_limit : (limit : ℕ) → is_limit limit ≡ true → limit ≤ 16777216
most_of_limit limit within = leb-true limit 16777216 (and_parts (nat_le 1 limit) (nat_le limit 16777216) within).1

-- ---- an outcome

-- what the states that a search found show
pub found_of : (t : System (List Bool) ℕ) (class_of : List Bool → List Bool) (estimate : List Bool → ℕ) (is_dead : List Bool → Bool) (max_states : ℕ) (outcome : Outcome GroundListing)
    → IsTrueOutcome t class_of estimate is_dead listed_states max_states outcome
    → (claim : Claim) × AreFound t class_of estimate is_dead claim max_states (listed_states (found_in outcome).store) (found_in outcome).nodes.items
found_of t class_of estimate is_dead max_states (Found steps cost found) stated = (bound cost, stated.2)
found_of t class_of estimate is_dead max_states (Exhausted found) stated = (none, stated.1)
found_of t class_of estimate is_dead max_states (States least found) stated = (bound least, stated.1.found)

-- they are as wide as the atoms are many
pub found_width : (task : Task) (atoms : List Atom) (numbered : atoms ≡ numbered_atoms task []) {class_of : List Bool → List Bool} {estimate : List Bool → ℕ} {is_dead : List Bool → Bool} {claim : Claim} {most : ℕ} (states : List (List Bool)) (nodes : List Node)
    → AreFound (ground_system task atoms) class_of estimate is_dead claim most states nodes → (k : ℕ) (bits : List Bool) → slice_get states k ≡ Some bits → length bits ≡ length atoms
found_width task atoms numbered states nodes found k bits at =
    let (node, there) = node_at nodes k (omega (arith, slice_get_within states k bits at, found.one_for_each)) in
    let reached = found.reachable k bits node at there in
    length-reachable task atoms numbered bits (reached.0, reached.1)

-- the estimates of those that wait are told
pub estimates_of : (estimate : List Bool → ℕ) (is_dead : List Bool → Bool) (outcome : Outcome GroundListing) → HasEstimates estimate is_dead listed_states outcome
    → AreEstimates estimate is_dead (listed_states (found_in outcome).store) (found_in outcome).nodes.items (found_in outcome).estimates.items
estimates_of estimate is_dead (Found steps cost found) stated = stated
estimates_of estimate is_dead (Exhausted found) stated = stated
estimates_of estimate is_dead (States least found) stated = stated

-- so each has its mark
module _ (space : SearchSpace) (estimate : List Bool → ℕ) (is_dead : List Bool → Bool) (limits : Limits) (outcome : Outcome GroundListing)
    (is : IsTrueOutcome (search_space.system_of space) (class_in space) estimate is_dead listed_states limits.states outcome) where
  abbrev t : System (List Bool) ℕ
  t = search_space.system_of space

  pub can_be_marked : HasEstimates estimate is_dead listed_states outcome → CanBeMarked estimate is_dead (found_in outcome)
  can_be_marked estimates =
      let (claim, found) = found_of t (class_in space) estimate is_dead limits.states outcome is in
      record { one_for_each = found.one_for_each; marked = found.marked; estimates = estimates_of estimate is_dead outcome estimates }

  pub searched : (guide_system : System (List Bool) ℕ) → guide_system ≡ t → IsAdmissible guide_system estimate → ReportsDeadEnds guide_system is_dead
      → (marks : List Listed) → AreMarksOf estimate is_dead (found_in outcome) marks → IsSearched space estimate is_dead limits.states outcome marks
  searched guide_system same admissible reports marks marked = record {
    outcome_is = is;
    marked = marked;
    admissible = subst (λ (u : System (List Bool) ℕ). IsAdmissible u estimate) same admissible;
    reports = subst (λ (u : System (List Bool) ℕ). ReportsDeadEnds u is_dead) same reports;
  }

pub found_among_more : {S A : Type 0} {t : System S A} {class_of : S → S} {value : S → ℕ} {is_dead : S → Bool} {claim : Claim} {count most : ℕ} {states : List S} {nodes : List Node}
    → AreFound t class_of value is_dead claim count states nodes → count ≤ most → AreFound t class_of value is_dead claim most states nodes
found_among_more found le = record {
  one_for_each = found.one_for_each;
  within_limit = omega (arith, found.within_limit, le);
  distinct = found.distinct;
  reachable = found.reachable;
  cheap = found.cheap;
  expanded_cheapest = found.expanded_cheapest;
  marked = found.marked;
  expanded_alive = found.expanded_alive;
  closed = found.closed;
}

-- ---- the bound of a closed listing

beyond : (a b : ℕ) → nat_le a b ≡ false → b < a
beyond a b not_within = grind (arith, nat_tests)

never : (least most cost : ℕ) → most < least → least ≤ cost → cost ≤ most → ⊥
never least most cost more reached within = omega (arith, more, reached, within)

-- Where some list solves, the claim of a listing is at most what its dearest line costs with the greatest value: else it
-- would show that none does.
module _ {S A : Type 0} (t : System S A) (class_of : S → S) (value : S → ℕ) (is_dead : S → Bool) (cost : ℕ) (states : List S) (nodes : List Node) (max_states : ℕ)
    (found : AreFound t class_of value is_dead (bound cost) max_states states nodes) (low : (k : ℕ) (s : S) → slice_get states k ≡ Some s → value s ≤ most_value) where
  abbrev most : ℕ
  most = length states * 4294967295

  within : (line : Line S) → Contains (lines_of value is_dead states nodes) line → (line.cost ≤ most) × (value line.state ≤ most_value)
  within line at =
      let (k, s, node, there, here, is) = found_line value is_dead states nodes line at in (
        subst (λ n. n ≤ most) (ap (λ (l : Line S). l.cost) (sym is)) (found.cheap k node here),
        subst (λ n. n ≤ most_value) (ap (λ (l : Line S). value l.state) (sym is)) (low k s there),
      )

  none_solves : most + most_value < cost → IsClosed t (AreOfOneClass class_of) none (lines_of value is_dead states nodes)
  none_solves more = record {
    initial_listed = found.closed.initial_listed;
    successors_listed = found.closed.successors_listed;
    expanded_goals_allowed = λ line at is_open goal.
        never cost (most + most_value) line.cost more (found.closed.expanded_goals_allowed line at is_open goal) (omega (arith, (within line at).0));
    cuts_allowed = λ line rest at cut.
        let stated = cut_reported value is_dead states nodes line rest at cut in
        never cost (most + most_value) (line.cost + rest) more (found.closed.cuts_allowed line rest at cut) (omega (arith, stated, (within line at).0, (within line at).1));
  }

  bound_within : AreClassesOf t class_of → IsAdmissible t value → ReportsDeadEnds t is_dead → (plan : List A) → Solves t plan → cost ≤ most + most_value
  bound_within classes admissible reports plan solves =
      elim (nat_le cost (most + most_value)) as (λ v. nat_le cost (most + most_value) ≡ v → cost ≤ most + most_value) [
        | true ↦ λ is. leb-true cost (most + most_value) is
        | false ↦ λ is_not.
            absurd (claim-of_closed t (AreOfOneClass class_of) classes none (lines_of value is_dead states nodes) (lines_are_true t value is_dead states nodes admissible reports) (none_solves (beyond cost (most + most_value) is_not)) plan solves)
      ] refl

-- so what is found among so few states is cheap
cheap_plan : {S A : Type 0} (t : System S A) (class_of : S → S) (value : S → ℕ) (is_dead : S → Bool) (cost max_states : ℕ) (states : List S) (nodes : List Node) (plan : List A) → Solves t plan
    → AreFound t class_of value is_dead (bound cost) max_states states nodes → ((k : ℕ) (s : S) → slice_get states k ≡ Some s → value s ≤ most_value) → AreClassesOf t class_of → IsAdmissible t value
    → ReportsDeadEnds t is_dead → max_states ≤ 16777216 → is_claim (bound cost) ≡ true
cheap_plan t class_of value is_dead cost max_states states nodes plan solves found low classes admissible reports few =
    let few_found : length states ≤ 16777216 = omega (arith, found.within_limit, few) in
    let cheap = bound_within t class_of value is_dead cost states nodes max_states found low classes admissible reports plan solves in
    lt-ltb cost 1152921504606846976 (omega (arith, cheap, few_found))

-- ---- what the answer says of the task

-- what a search by an estimate tells of more states than it may list is so of the task
pub more_of_task : (task : Task) (atoms : List Atom) → atoms ≡ numbered_atoms task [] → (value : List Bool → ℕ) (is_dead : List Bool → Bool) (max_states : ℕ)
    → search.AreMoreReachable (ground_system task atoms) value is_dead max_states → AreMoreReachable (system_of task) max_states
more_of_task task atoms numbered value is_dead max_states more = more_reachable task atoms numbered max_states (more_by_cost (ground_system task atoms) value is_dead max_states more)

-- the instances of a cheapest list of numbers are a cheapest plan
pub plan_optimal : (task : Task) (known : List Atom) → known ≡ numbered_atoms task [] → (numbers : List ℕ) (plan : List Instance) → IsCarriedOut (ground_system task known) (system_of task) numbers plan
    → IsOptimal (ground_system task known) numbers → IsOptimal (system_of task) plan
plan_optimal task known numbered numbers plan carried optimal = (
  carried.solves optimal.0,
  subst (CostsAtLeast (system_of task)) (sym carried.cost) (task_costs_at_least task known numbered (cost_of_all (ground_system task known) numbers) optimal.1),
)

module _ (task : Task) (atoms : List Atom) (numbered : atoms ≡ numbered_atoms task []) (class_of : List Bool → List Bool) (guidance : Guidance) (max_states : ℕ) (states : List (List Bool)) (nodes : List Node)
    (written : CanBeWritten (length atoms) guidance) (few_atoms : length atoms ≤ 1048576) (few : max_states ≤ 16777216) where
  abbrev u : System (List Bool) ℕ
  u = ground_system task atoms

  -- the values of found states are small, where so few atoms have numbers
  found_values : (claim : Claim) → AreFound u class_of (estimate_by guidance) (reports_dead guidance) claim max_states states nodes → (k : ℕ) (bits : List Bool) → slice_get states k ≡ Some bits → estimate_by guidance bits ≤ most_value
  found_values claim found k bits at =
      estimate-most (length atoms) guidance written.within_limits bits (omega (arith, few_atoms, found_width task atoms numbered states nodes found k bits at))

  -- a claim that is shown by values of so few atoms is a certificate's: that of a plan, and that of a search that stops at the limit
  pub claim_allowed : (cost : ℕ) (plan : List ℕ) → Solves u plan → AreFound u class_of (estimate_by guidance) (reports_dead guidance) (bound cost) max_states states nodes
      → AreClassesOf u class_of → IsAdmissible u (estimate_by guidance) → ReportsDeadEnds u (reports_dead guidance) → is_claim (bound cost) ≡ true
  claim_allowed cost plan solves found classes admissible reports =
      cheap_plan u class_of (estimate_by guidance) (reports_dead guidance) cost max_states states nodes plan solves found (found_values (bound cost) found) classes admissible reports few

  pub limit_allowed : (least : ℕ) → search.IsAtLimit u class_of (estimate_by guidance) (reports_dead guidance) max_states least states nodes → is_claim (bound least) ≡ true
  limit_allowed least limit = limit_claim u class_of (estimate_by guidance) (reports_dead guidance) max_states least states nodes limit (found_values (bound least) limit.found) few
