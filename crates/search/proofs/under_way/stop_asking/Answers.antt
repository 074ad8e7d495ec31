use Rattle.search.proofs.Closed.{unsolvable}
use Rattle.search.proofs.Noted.{none_estimated}
use Rattle.search.proofs.Paused.{turn_there, entries_left, estimates_noted, at_pause}
use Rattle.search.proofs.Steps.{entries_of, none_waits}
use Rattle.search.proofs.under_way.stop_asking.Goals as goal

pub next_waiting-requires-clause-heap : goal.next_waiting-requires-clause-heap
next_waiting-requires-clause-heap g c = c.requires.search.holds.heap

pub next_waiting-requires-clause-entries : goal.next_waiting-requires-clause-entries
next_waiting-requires-clause-entries g c = entries_of _ _ _ _ _ _ _ c.requires.search.holds.one_each c.requires.search.holds.nodes

pub returns-in_default : goal.returns-in_default
returns-in_default g c = λ max_states within.
    let by = c.requires.search in
    let search = by.holds in
    let states = g.L.StateListing.states c.args.search.progress.store in
    let all = c.args.search.progress.nodes.items in
    let none = none_waits _ _ _ _ _ _ _ search.one_each search.nodes c.in_default.ensures.none in
    let result = unsolvable _ _ _ _ _ _ search.one_each _ search.nodes c.requires.classes by.valued.admissible by.valued.dead_ends max_states c.requires.successors none within in
    let long = rw c.in_default.ensures.nodes at c.in_ok-states.ensures.estimates in
    record {
      value = by.value;
      is_dead = by.is_dead;
      valued = rw (c.in_ok-states.ensures.store, c.in_default.ensures.store, c.in_ok-states.ensures.nodes, c.in_default.ensures.nodes, c.in_ok-states.ensures.bases, c.in_default.ensures.bases) by.valued;
      holds = (
        (result.0, rw (c.in_ok-states.ensures.store, c.in_default.ensures.store, c.in_ok-states.ensures.nodes, c.in_default.ensures.nodes) result.1),
        rw (c.in_ok-states.ensures.store, c.in_default.ensures.store, c.in_ok-states.ensures.nodes, c.in_default.ensures.nodes)
            (none_estimated by.value by.is_dead states all none c.in_ok-states.states.estimates.items long),
      );
    }

pub into_bound-requires-clause-turn : goal.into_bound-requires-clause-turn
into_bound-requires-clause-turn g c =
    rw c.in-Some.ensures.nodes (turn_there _ _ _ _ g.L.StateListing.states c.args.search.progress c.requires.search.holds c.in-Some.turn _ c.in-Some.ensures.some c.in-Some.ensures.kept)

pub into_bound-requires-clause-entries : goal.into_bound-requires-clause-entries
into_bound-requires-clause-entries g c =
    rw c.in-Some.ensures.nodes (entries_left _ _ _ _ g.L.StateListing.states c.args.search.progress c.requires.search.holds c.in-Some.turn _ c.in-Some.ensures.some c.in-Some.ensures.kept)

pub returns : goal.returns
returns g c = λ max_states within.
    let by = c.requires.search in
    let search = by.holds in
    let p = c.args.search.progress in
    let states_of = g.L.StateListing.states in
    let least = rw c.in-Some.ensures.nodes at c.in_ok-bound.ensures.least in
    let noted = rw c.in-Some.ensures.nodes at c.in_ok-bound.ensures.estimates in
    record {
      value = by.value;
      is_dead = by.is_dead;
      valued = rw (c.in_ok-bound.ensures.store, c.in-Some.ensures.store, c.in_ok-bound.ensures.nodes, c.in-Some.ensures.nodes, c.in_ok-bound.ensures.bases, c.in-Some.ensures.bases) by.valued;
      holds = rw (c.in_ok-bound.ensures.store, c.in-Some.ensures.store, c.in_ok-bound.ensures.nodes, c.in-Some.ensures.nodes) (
        within,
        at_pause _ _ _ _ states_of p search c.in-Some.turn _ c.in-Some.ensures.some c.in-Some.ensures.kept c.requires.successors c.requires.classes
            by.valued.admissible by.valued.dead_ends c.in_ok-bound.bound least,
        estimates_noted _ _ _ _ states_of p search c.in-Some.turn _ c.in-Some.ensures.some c.in-Some.ensures.kept c.in_ok-bound.states.estimates.items noted,
      );
    }
