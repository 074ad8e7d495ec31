-- Where a limit of states is reported: which states may have to be found before any plan is sure to be cheapest.
use Rattle.std.specs.Prelude.{◌≡◌, ℕ, ◌<◌, false, List, length, Some, Contains}
use Rattle.model.specs.Runs.{System, run, cost_of_all, IsReachable, CostsAtLeast}
use Rattle.packed_state.specs.Store.{AreDistinct}

-- A search in the order of cost may have to find the state before any plan is sure to be cheapest: the state is the
-- initial one, or an action leads to it from one that does not meet the goal, at the end of a list that costs no more than
-- any list that solves. (Russell & Norvig, Artificial Intelligence, on search contours, here with no estimate: no state is
-- expanded that costs more than a cheapest plan. Some that cost as much may be; this leaves open which.)
pub data PrecedesPlans {S A : Type 0} (t : System S A) (s : S) : Type 0 where
  is_initial : s ≡ t.initial → PrecedesPlans t s
  is_next : (actions : List A) (before : S) (a : A) → run t t.initial actions ≡ Some before → t.meets_goal before ≡ false
      → CostsAtLeast t (cost_of_all t actions) → t.step before a ≡ Some s → PrecedesPlans t s

-- More states than the limit are reachable, and may have to be found before any plan is sure to be cheapest.
abbrev pub AreMoreReachable : {S A : Type 0} → System S A → ℕ → Type 0
AreMoreReachable {S} t max_states =
    (states : List S) × AreDistinct states × ((s : S) → Contains states s → IsReachable t s × PrecedesPlans t s) × (max_states < length states)

-- there are `count` different reachable states
abbrev pub AreReachable : {S A : Type 0} → System S A → ℕ → Type 0
AreReachable {S} t count = (states : List S) × AreDistinct states × ((s : S) → Contains states s → IsReachable t s) × (length states ≡ count)
