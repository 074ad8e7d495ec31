use Rattle.std.proofs.Common.{refl, ◌≡◌, ℕ, length, ap, sym, ◌∙◌, subst, arith, Some, get_or, true, false}
use Rattle.std.specs.Prelude.{slice_get, All}
use Rattle.search.specs.OpenList.{waiting_in}
use Rattle.std.proofs.lemmas.Option.{same_Some, get_or_from_slice_get, slice_get_within}
use Rattle.packed_state.specs.Packed.{bits_of}
use Rattle.model.specs.Claims.{bound}
use Rattle.search.specs.Outcome.{AreFound, AreExpandedWithin}
use Rattle.search.specs.Nodes.{found_of, IsEntry, IsEntryOf}
use Rattle.search.proofs.Closed.{reached_in, optimal, unsolvable}
use Rattle.search.proofs.OpenList.{All-among}
use Rattle.search.proofs.Steps.{entries_of, at_turn, none_waits}
use Rattle.search.proofs.Noted.{are_estimates, none_estimated}
use Rattle.search.proofs.Stopped.{entries_stopped, turn_within, estimates_stopped, at_limit}
use Rattle.search.proofs.under_way.go_on_asking.Given.{Over}
use Rattle.search.proofs.under_way.go_on_asking.Goals.{In-Some}
use Rattle.search.proofs.under_way.go_on_asking.Goals as goal

pub turns-init : goal.turns-init
turns-init g c = record {
  by = record {
    value = c.requires.under_way.value;
    is_dead = c.requires.under_way.is_dead;
    valued = c.requires.under_way.valued;
    holds = record {
      search = c.requires.under_way.holds.search;
      are_open = c.requires.under_way.holds.are_open;
      within = c.requires.under_way.holds.within;
      store_classes = c.requires.under_way.holds.store_classes;
      store_width = c.requires.under_way.holds.store_width;
      buffers = record { state = c.requires.under_way.holds.buffers.state; next = c.requires.under_way.holds.buffers.next };
      scratch = c.requires.under_way.holds.scratch;
    };
  };
  values_for = refl;
  values_width = refl;
}

pub next_waiting-requires-clause-heap : goal.next_waiting-requires-clause-heap
next_waiting-requires-clause-heap g c =
    c.turns.invariant.by.holds.search.heap

pub next_waiting-requires-clause-entries : goal.next_waiting-requires-clause-entries
next_waiting-requires-clause-entries g c =
    let search = c.turns.invariant.by.holds.search in
    entries_of _ _ _ _ _ _ _ search.one_each search.nodes

pub get-requires-clause-there : goal.get-requires-clause-there
get-requires-clause-there g c =
    let search = c.turns.invariant.by.holds.search in
    let next = at_turn _ _ _ _ _ _ _ search.one_each search.nodes search.single _ c.in-Some.turn c.in-Some.ensures.some in
    rw c.in-Some.ensures.store (slice_get_within _ _ next.found.state next.state)

pub get-requires-clause-width : goal.get-requires-clause-width
get-requires-clause-width g c =
    let by = c.turns.invariant.by.holds in
    rw c.in-Some.ensures.store (by.buffers.state ∙ sym by.store_width)

pub meets_goal-requires : goal.meets_goal-requires
meets_goal-requires g c = c.get.ensures.width ∙ ap g.L.StateListing.width_of c.in-Some.ensures.store ∙ c.turns.invariant.by.holds.store_width

pub index-requires : goal.index-requires
index-requires g c =
    let search = c.turns.invariant.by.holds.search in
    let next = at_turn _ _ _ _ _ _ _ search.one_each search.nodes search.single _ c.in-Some.turn c.in-Some.ensures.some in
    omega (arith, slice_get_within c.turns.progress.nodes.items _ next.found.node next.node, ap length c.in-Some.ensures.nodes, c.next_waiting.new.self.nodes.ok.0)

-- the entries that are left in the open list
left_entries : (g : Over) (c : In-Some g) → All (IsEntryOf c.turns.invariant.by.value c.turns.invariant.by.is_dead (found_of (g.L.StateListing.states c.turns.progress.store) c.turns.progress.nodes.items))
    (waiting_in c.next_waiting.new.self.open_list)
left_entries g c =
    All-among (IsEntryOf c.turns.invariant.by.value c.turns.invariant.by.is_dead (found_of (g.L.StateListing.states c.turns.progress.store) c.turns.progress.nodes.items)) _ _ c.in-Some.ensures.kept
    c.turns.invariant.by.holds.search.nodes.entries

pub into_plan-requires-clause-reached : goal.into_plan-requires-clause-reached
into_plan-requires-clause-reached g c =
    let search = c.turns.invariant.by.holds.search in
    let next = at_turn _ _ _ _ _ _ _ search.one_each search.nodes search.single _ c.in-Some.turn c.in-Some.ensures.some in
    rw c.in-Some.ensures.nodes (reached_in _ _ _ _ _ _ search.one_each _ search.nodes _ next.found next.occurs)

pub into_plan-requires-clause-turn : goal.into_plan-requires-clause-turn
into_plan-requires-clause-turn g c =
    let search = c.turns.invariant.by.holds.search in
    let next = at_turn _ _ _ _ _ _ _ search.one_each search.nodes search.single _ c.in-Some.turn c.in-Some.ensures.some in
    rw c.in-Some.ensures.nodes (slice_get_within c.turns.progress.nodes.items _ next.found.node next.node)

pub into_plan-requires-clause-entries : goal.into_plan-requires-clause-entries
into_plan-requires-clause-entries g c =
    let search = c.turns.invariant.by.holds.search in
    rw c.in-Some.ensures.nodes (All-among (IsEntry (length c.turns.progress.nodes.items)) _ _ c.in-Some.ensures.kept (entries_of _ _ _ _ _ _ _ search.one_each search.nodes))

pub returns-then-meets_goal-clause-halt : goal.returns-then-meets_goal-clause-halt
returns-then-meets_goal-clause-halt g c =
    let search = c.turns.invariant.by.holds.search in
    let next = at_turn _ _ _ _ _ _ _ search.one_each search.nodes search.single _ c.in-Some.turn c.in-Some.ensures.some in
    let t = g.T.TransitionSystem.means c.args.problem.now.system.now in
    let value = c.turns.invariant.by.value in
    let is_dead = c.turns.invariant.by.is_dead in
    let states = g.L.StateListing.states c.turns.progress.store in
    let all = c.turns.progress.nodes.items in
    let id = c.in-Some.turn.id.0 in
    let got : slice_get states id ≡ Some (bits_of c.get.new.into) = rw c.in-Some.ensures.store at c.get.ensures.state in
    let same : bits_of c.get.new.into ≡ next.found.state = same_Some (bits_of c.get.new.into) next.found.state (sym got ∙ next.state) in
    let meets : t.meets_goal next.found.state ≡ true = ap t.meets_goal (sym same) ∙ sym c.meets_goal.ensures ∙ c.if-meets_goal.true in
    let read : c.index.result.now ≡ get_or all id c.index.result.now = rw c.in-Some.ensures.nodes at c.index.ensures in
    let is_reached : c.index.result.now ≡ next.found.node = read ∙ get_or_from_slice_get all id next.found.node c.index.result.now next.node in
    let same_cost : next.found.node.cost ≡ c.index.result.now.cost = cc in
    let path = rw c.in-Some.ensures.nodes at c.in_ok-steps.ensures.path in
    let short = rw c.in-Some.ensures.nodes at c.in_ok-steps.ensures.short in
    let admissible = c.turns.invariant.by.valued.admissible in
    let reports = c.turns.invariant.by.valued.dead_ends in
    let best = optimal _ _ _ _ _ _ search.one_each _ search.nodes c.requires.classes admissible reports id next.found c.in_ok-steps.steps.items c.args.problem.now.max_states
    c.turns.invariant.by.holds.are_open next.occurs next.least meets path short c.turns.invariant.by.holds.within in
    let noted = rw c.in-Some.ensures.nodes at c.in_ok-steps.ensures.estimates in
    record {
      value = value;
      is_dead = is_dead;
      valued = rw (c.in_ok-steps.ensures.store, c.in-Some.ensures.store, c.in_ok-steps.ensures.nodes, c.in-Some.ensures.nodes, c.in_ok-steps.ensures.bases, c.in-Some.ensures.bases) c.turns.invariant.by.valued;
      holds = (
        (
          best.0,
          best.1 ∙ same_cost,
          rw (c.in_ok-steps.ensures.store, c.in-Some.ensures.store, c.in_ok-steps.ensures.nodes, c.in-Some.ensures.nodes)
              (subst (λ (n : ℕ). AreFound t (g.L.StateListing.class_of c.args.search.progress.store) value is_dead (bound n) c.args.problem.now.max_states states all) same_cost best.2),
          best.3,
          rw (c.in_ok-steps.ensures.store, c.in-Some.ensures.store, c.in_ok-steps.ensures.nodes, c.in-Some.ensures.nodes)
              (subst (λ (n : ℕ). AreExpandedWithin value n states all) same_cost best.4),
        ),
        rw (c.in_ok-steps.ensures.store, c.in-Some.ensures.store, c.in_ok-steps.ensures.nodes, c.in-Some.ensures.nodes)
            (are_estimates value is_dead states all c.in-Some.turn next.found next.occurs next.estimate (waiting_in c.next_waiting.new.self.open_list) next.rest
            (left_entries g (goal.at.returns-then-meets_goal-clause-halt g c).In-Some) c.in_ok-steps.states.estimates.items noted),
      );
    }

-- the classes are those of the search
same_classes : (g : Over) (c : In-Some g) → g.L.StateListing.class_of c.next_waiting.new.self.store ≡ g.L.StateListing.class_of c.args.search.progress.store
same_classes g c = ap g.L.StateListing.class_of c.in-Some.ensures.store ∙ c.turns.invariant.by.holds.store_classes

pub take_turn-requires-clause-classes : goal.take_turn-requires-clause-classes
take_turn-requires-clause-classes g c = rw (same_classes g (goal.at.take_turn-requires-clause-classes g c).In-Some) c.requires.classes

pub take_turn-requires-clause-values_for : goal.take_turn-requires-clause-values_for
take_turn-requires-clause-values_for g c = c.turns.invariant.values_for ∙ c.requires.values_for

pub take_turn-requires-clause-values_width : goal.take_turn-requires-clause-values_width
take_turn-requires-clause-values_width g c = c.turns.invariant.values_width ∙ c.requires.values_width

pub take_turn-requires-clause-width : goal.take_turn-requires-clause-width
take_turn-requires-clause-width g c = rw c.in-Some.ensures.store c.turns.invariant.by.holds.store_width

pub take_turn-requires-clause-state : goal.take_turn-requires-clause-state
take_turn-requires-clause-state g c = c.get.ensures.state

pub take_turn-requires-clause-scratch : goal.take_turn-requires-clause-scratch
take_turn-requires-clause-scratch g c = c.turns.invariant.by.holds.scratch

pub take_turn-requires-clause-buffers : goal.take_turn-requires-clause-buffers
take_turn-requires-clause-buffers g c = record {
  state = c.get.ensures.width ∙ ap g.L.StateListing.width_of c.in-Some.ensures.store ∙ c.turns.invariant.by.holds.store_width;
  next = c.turns.invariant.by.holds.buffers.next;
}

pub take_turn-requires-clause-turn : goal.take_turn-requires-clause-turn
take_turn-requires-clause-turn g c =
    let search = c.turns.invariant.by.holds.search in
    let next = at_turn _ _ _ _ _ _ _ search.one_each search.nodes search.single _ c.in-Some.turn c.in-Some.ensures.some in
    record {
      value = c.turns.invariant.by.value;
      is_dead = c.turns.invariant.by.is_dead;
      valued = rw (c.in-Some.ensures.store, c.in-Some.ensures.nodes, c.in-Some.ensures.bases) c.turns.invariant.by.valued;
      holds = rw (same_classes g (goal.at.take_turn-requires-clause-turn g c).In-Some) (record {
        one_each = rw (c.in-Some.ensures.nodes, c.in-Some.ensures.store) search.one_each;
        open_list = waiting_in c.turns.progress.open_list;
        nodes = rw (c.in-Some.ensures.store, c.in-Some.ensures.nodes) search.nodes;
        heap = c.in-Some.ensures.heap;
        found = next.found;
        occurs = rw (c.in-Some.ensures.store, c.in-Some.ensures.nodes) next.occurs;
        waits = next.waits;
        sum = next.sum;
        estimate = next.estimate;
        least = rw (c.in-Some.ensures.store, c.in-Some.ensures.nodes) next.least;
        rest = rw (c.in-Some.ensures.store, c.in-Some.ensures.nodes) next.rest;
        entries = rw (c.in-Some.ensures.store, c.in-Some.ensures.nodes)
            (All-among (IsEntryOf c.turns.invariant.by.value c.turns.invariant.by.is_dead (found_of (g.L.StateListing.states c.turns.progress.store) c.turns.progress.nodes.items)) _ _ c.in-Some.ensures.kept search.nodes.entries);
        single = next.single;
        gone = next.gone;
      });
    }

pub take_turn-requires-clause-no_goal : goal.take_turn-requires-clause-no_goal
take_turn-requires-clause-no_goal g c = sym c.meets_goal.ensures ∙ c.if-meets_goal.false

pub take_turn-requires-clause-open : goal.take_turn-requires-clause-open
take_turn-requires-clause-open g c =
    rw (same_classes g (goal.at.take_turn-requires-clause-open g c).In-Some) (rw (c.in-Some.ensures.store, c.in-Some.ensures.nodes) c.turns.invariant.by.holds.are_open)

pub take_turn-requires-clause-within : goal.take_turn-requires-clause-within
take_turn-requires-clause-within g c =
    rw c.in-Some.ensures.store c.turns.invariant.by.holds.within

-- what the search needs where it stopped at the limit
pub into_bound-requires-clause-heap : goal.into_bound-requires-clause-heap
into_bound-requires-clause-heap g c =
    let not_listed : c.in_ok-take_turn.field-0 ≡ false = c.if-not-branch.true in
    (rw not_listed at c.in_ok-take_turn.ensures.over).holds.heap

pub into_bound-requires-clause-turn : goal.into_bound-requires-clause-turn
into_bound-requires-clause-turn g c =
    let not_listed : c.in_ok-take_turn.field-0 ≡ false = c.if-not-branch.true in
    let by = rw not_listed at c.in_ok-take_turn.ensures.over in
    turn_within (g.T.TransitionSystem.means c.args.problem.now.system.now) _ by.value by.is_dead g.L.StateListing.states c.take_turn.new.self c.in-Some.turn c.args.problem.now.max_states by.holds

pub into_bound-requires-clause-entries : goal.into_bound-requires-clause-entries
into_bound-requires-clause-entries g c =
    let not_listed : c.in_ok-take_turn.field-0 ≡ false = c.if-not-branch.true in
    let by = rw not_listed at c.in_ok-take_turn.ensures.over in
    entries_stopped (g.T.TransitionSystem.means c.args.problem.now.system.now) _ by.value by.is_dead g.L.StateListing.states c.take_turn.new.self c.in-Some.turn c.args.problem.now.max_states by.holds

pub turns-smaller : goal.turns-smaller
turns-smaller g c =
    let listed : c.in_ok-take_turn.field-0 ≡ true = c.if-not-branch.false in
    let over = rw listed at c.in_ok-take_turn.ensures.over in
    rw (c.in-Some.ensures.store, c.in-Some.ensures.nodes) at over.holds.less

pub turns-preserved : goal.turns-preserved
turns-preserved g c =
    let inv = c.turns.invariant in
    let listed : c.in_ok-take_turn.field-0 ≡ true = c.if-not-branch.false in
    let same = same_classes g (goal.at.turns-preserved g c).In-Some in
    let over = rw (same, listed) at c.in_ok-take_turn.ensures.over in
    record {
      by = record {
        value = over.value;
        is_dead = over.is_dead;
        valued = over.valued;
        holds = record {
          search = over.holds.search;
          are_open = over.holds.are_open;
          within = over.holds.within;
          store_classes = c.in_ok-take_turn.ensures.class ∙ same;
          store_width = c.in_ok-take_turn.ensures.width;
          buffers = c.in_ok-take_turn.ensures.buffers;
          scratch = c.in_ok-take_turn.ensures.scratch;
        };
      };
      values_for = c.take_turn.ensures.values_for ∙ inv.values_for;
      values_width = c.take_turn.ensures.values_width ∙ inv.values_width;
    }

pub returns-then-not-branch-clause-halt : goal.returns-then-not-branch-clause-halt
returns-then-not-branch-clause-halt g c =
    let not_listed : c.in_ok-take_turn.field-0 ≡ false = c.if-not-branch.true in
    let by = rw (same_classes g (goal.at.returns-then-not-branch-clause-halt g c).In-Some, not_listed) at c.in_ok-take_turn.ensures.over in
    let stopped = by.holds in
    let t = g.T.TransitionSystem.means c.args.problem.now.system.now in
    let class_of = g.L.StateListing.class_of c.args.search.progress.store in
    let states_of = g.L.StateListing.states in
    record {
      value = by.value;
      is_dead = by.is_dead;
      valued = rw (c.in_ok-bound.ensures.store, c.in_ok-bound.ensures.nodes, c.in_ok-bound.ensures.bases) by.valued;
      holds = rw (c.in_ok-bound.ensures.store, c.in_ok-bound.ensures.nodes) (
        (
          stopped.more,
          at_limit t class_of by.value by.is_dead states_of c.take_turn.new.self c.in-Some.turn c.args.problem.now.max_states stopped c.requires.classes by.valued.admissible by.valued.dead_ends c.in_ok-bound.bound c.in_ok-bound.ensures.least,
        ),
        estimates_stopped t class_of by.value by.is_dead states_of c.take_turn.new.self c.in-Some.turn c.args.problem.now.max_states stopped c.in_ok-bound.states.estimates.items c.in_ok-bound.ensures.estimates,
      );
    }

pub returns-then-not-branch-clause-values_for : goal.returns-then-not-branch-clause-values_for
returns-then-not-branch-clause-values_for g c = c.take_turn.ensures.values_for ∙ c.turns.invariant.values_for

pub returns-then-not-branch-clause-values_width : goal.returns-then-not-branch-clause-values_width
returns-then-not-branch-clause-values_width g c = c.take_turn.ensures.values_width ∙ c.turns.invariant.values_width

pub returns-in_default-clause-halt : goal.returns-in_default-clause-halt
returns-in_default-clause-halt g c =
    let by = c.turns.invariant.by in
    let search = by.holds.search in
    let none = none_waits _ _ _ _ _ _ _ search.one_each search.nodes c.in_default.ensures.none in
    let result = unsolvable _ _ _ _ _ _ search.one_each _ search.nodes c.requires.classes by.valued.admissible by.valued.dead_ends c.args.problem.now.max_states by.holds.are_open none by.holds.within in
    let states = g.L.StateListing.states c.turns.progress.store in
    let all = c.turns.progress.nodes.items in
    let long = rw c.in_default.ensures.nodes at c.in_ok-states.ensures.estimates in
    record {
      value = by.value;
      is_dead = by.is_dead;
      valued = rw (c.in_ok-states.ensures.store, c.in_default.ensures.store, c.in_ok-states.ensures.nodes, c.in_default.ensures.nodes, c.in_ok-states.ensures.bases, c.in_default.ensures.bases) by.valued;
      holds = (
        (result.0, rw (c.in_ok-states.ensures.store, c.in_default.ensures.store, c.in_ok-states.ensures.nodes, c.in_default.ensures.nodes) result.1),
        rw (c.in_ok-states.ensures.store, c.in_default.ensures.store, c.in_ok-states.ensures.nodes, c.in_default.ensures.nodes)
            (none_estimated by.value by.is_dead states all none c.in_ok-states.states.estimates.items long),
      );
    }

pub returns-clause-halt : goal.returns-clause-halt
returns-clause-halt g c = (c.turns.invariant.by, omega (arith, c.turns-test.false, c.len.ensures))
