use Rattle.std.proofs.Common.{◌≡◌, ◌≤◌, ◌<◌, length, true, false, sym, ap, ◌∙◌, subst, arith}
use Rattle.std.specs.Prelude.{IfOk, MatchBool}
use Rattle.packed_state.specs.Packed.{bits_of}
use Rattle.search.specs.declared.progress.Progress.{Progress}
use Rattle.search.specs.Nodes.{AreClosed}
use Rattle.search.specs.Progress.{HoldsIn, IsAtTurn, IsStopped, Expands, TurnsOver, nodes_in}
use Rattle.search.proofs.Deferred.{over_by_ask, over_by_work}
use Rattle.search.proofs.Reached.{match_each}
use Rattle.search.proofs.Results.{both_ok}
use Rattle.search.proofs.progress.Progress.take_turn.Given.{Over}
use Rattle.search.proofs.progress.Progress.take_turn.Goals.{In_ok-defer}
use Rattle.search.proofs.progress.Progress.take_turn.Goals as goal

pub defer-requires-clause-values_for : goal.defer-requires-clause-values_for
defer-requires-clause-values_for g c = c.make_room.ensures.system ∙ c.requires.values_for ∙ sym c.requires.made_for

pub defer-requires-clause-values_width : goal.defer-requires-clause-values_width
defer-requires-clause-values_width g c = c.requires.buffers.state ∙ sym c.requires.values_width ∙ sym c.make_room.ensures.width

pub defer-requires-clause-turn : goal.defer-requires-clause-turn
defer-requires-clause-turn g c = rw c.requires.made_for c.requires.turn

pub defer-requires-clause-open : goal.defer-requires-clause-open
defer-requires-clause-open g c = rw c.requires.made_for c.requires.open

pub defer-requires-clause-within : goal.defer-requires-clause-within
defer-requires-clause-within g c = omega (arith, c.requires.within, c.requires.limit)

-- the state keeps its value, and its turn begins
stays : (g : Over) (c : In_ok-defer g) → c.in_ok-defer.field-0 ≡ false → c.defer.new.self ≡ c.args.self.now
stays g c kept = rw kept at c.in_ok-defer.ensures.deferred

pub returns-then-branch-clause-width : goal.returns-then-branch-clause-width
returns-then-branch-clause-width g c = rw c.defer.ensures.store c.requires.width

pub returns-then-branch-clause-class : goal.returns-then-branch-clause-class
returns-then-branch-clause-class g c = ap g.L.StateListing.class_of c.defer.ensures.store

pub returns-then-branch-clause-buffers : goal.returns-then-branch-clause-buffers
returns-then-branch-clause-buffers g c = record {
  state = ap (λ s. length (bits_of s)) c.defer.ensures.state ∙ c.requires.buffers.state;
  next = ap (λ s. length (bits_of s)) c.defer.ensures.next ∙ c.requires.buffers.next;
}

pub returns-then-branch-clause-scratch : goal.returns-then-branch-clause-scratch
returns-then-branch-clause-scratch g c = subst (g.G.Guide.fits c.args.problem.now.guide.now) (sym c.defer.ensures.scratch) c.requires.scratch

pub returns-then-branch-clause-over : goal.returns-then-branch-clause-over
returns-then-branch-clause-over g c =
    let deferred : c.in_ok-defer.field-0 ≡ true = c.if-branch.true in
    let fewer : c.defer.new.buffers.asks < c.args.buffers.now.asks = rw deferred at c.in_ok-defer.ensures.asks in
    let within : length (g.L.StateListing.states c.defer.new.self.store) ≤ c.args.problem.now.max_states = rw c.defer.ensures.store c.requires.within in
    over_by_ask (g.T.TransitionSystem.means c.args.problem.now.system.now) (g.L.StateListing.class_of c.args.self.now.store) (g.G.Guide.estimate_of c.args.problem.now.guide.now) (g.G.Guide.is_dead c.args.problem.now.guide.now)
    g.V.ValuesOnDemand.answers g.L.StateListing.states c.args.self.now c.defer.new.self c.args.buffers.now c.defer.new.buffers c.args.problem.now.max_states fewer within
    (rw (deferred, c.requires.made_for) at c.in_ok-defer.ensures.deferred)

pub expand-requires-clause-values_for : goal.expand-requires-clause-values_for
expand-requires-clause-values_for g c = c.defer.ensures.values_for ∙ c.make_room.ensures.system ∙ c.requires.values_for

pub expand-requires-clause-values_width : goal.expand-requires-clause-values_width
expand-requires-clause-values_width g c = c.defer.ensures.values_width ∙ c.make_room.ensures.width ∙ c.requires.values_width

pub expand-requires-clause-turn : goal.expand-requires-clause-turn
expand-requires-clause-turn g c =
    let t = g.T.TransitionSystem.means c.args.problem.now.system.now in
    let estimate = g.G.Guide.estimate_of c.args.problem.now.guide.now in
    let reported = g.G.Guide.is_dead c.args.problem.now.guide.now in
    let states_of = g.L.StateListing.states in
    let same = stays g (goal.at.expand-requires-clause-turn g c).In_ok-defer c.if-branch.false in
    subst (λ (p : Progress _). HoldsIn t estimate reported g.V.ValuesOnDemand.answers states_of p (λ value is_dead. IsAtTurn t (g.L.StateListing.class_of p.store) value is_dead states_of p c.args.turn)) (sym same) c.requires.turn

pub expand-requires-clause-classes : goal.expand-requires-clause-classes
expand-requires-clause-classes g c = rw c.defer.ensures.store c.requires.classes

pub expand-requires-clause-scratch : goal.expand-requires-clause-scratch
expand-requires-clause-scratch g c = subst (g.G.Guide.fits c.args.problem.now.guide.now) (sym c.defer.ensures.scratch) c.requires.scratch

pub expand-requires-clause-open : goal.expand-requires-clause-open
expand-requires-clause-open g c =
    let t = g.T.TransitionSystem.means c.args.problem.now.system.now in
    let same = stays g (goal.at.expand-requires-clause-open g c).In_ok-defer c.if-branch.false in
    subst (λ (p : Progress _). AreClosed t (g.L.StateListing.class_of p.store) (nodes_in g.L.StateListing.states p)) (sym same) c.requires.open

pub expand-requires-clause-state : goal.expand-requires-clause-state
expand-requires-clause-state g c = rw (c.defer.ensures.store, c.defer.ensures.state) c.requires.state

pub expand-requires-clause-no_goal : goal.expand-requires-clause-no_goal
expand-requires-clause-no_goal g c = rw c.defer.ensures.state c.requires.no_goal

pub expand-requires-clause-width : goal.expand-requires-clause-width
expand-requires-clause-width g c = rw c.defer.ensures.store c.requires.width

pub expand-requires-clause-within : goal.expand-requires-clause-within
expand-requires-clause-within g c = rw c.defer.ensures.store c.requires.within

pub expand-requires-clause-buffers : goal.expand-requires-clause-buffers
expand-requires-clause-buffers g c = record {
  state = ap (λ s. length (bits_of s)) c.defer.ensures.state ∙ c.requires.buffers.state;
  next = ap (λ s. length (bits_of s)) c.defer.ensures.next ∙ c.requires.buffers.next;
}

pub returns-clause-class : goal.returns-clause-class
returns-clause-class g c = rw c.defer.ensures.store at c.expand.ensures.class

pub returns-clause-over : goal.returns-clause-over
returns-clause-over g c =
    let t = g.T.TransitionSystem.means c.args.problem.now.system.now in
    let class_of = g.L.StateListing.class_of in
    let estimate = g.G.Guide.estimate_of c.args.problem.now.guide.now in
    let reported = g.G.Guide.is_dead c.args.problem.now.guide.now in
    let answers = g.V.ValuesOnDemand.answers in
    let states_of = g.L.StateListing.states in
    let old = c.args.self.now in
    let new = c.expand.new.self in
    let before = c.args.buffers.now in
    let after = c.expand.new.buffers in
    let max_states = c.args.problem.now.max_states in
    let same = stays g (goal.at.returns-clause-over g c).In_ok-defer c.if-branch.false in
    let kept : c.in_ok-defer.field-0 ≡ false = c.if-branch.false in
    let asks : c.defer.new.buffers.asks ≡ before.asks = rw kept at c.in_ok-defer.ensures.asks in
    let listed = subst (λ (p : Progress _). IfOk c.expand.result (λ is_listed. MatchBool is_listed
    (HoldsIn t estimate reported answers states_of new (λ value is_dead. Expands t (class_of p.store) value is_dead states_of p new max_states))
    (HoldsIn t estimate reported answers states_of new (λ value is_dead. IsStopped t (class_of p.store) value is_dead states_of new c.args.turn max_states)))) same c.expand.ensures.listed in
    both_ok {R = λ is_over. MatchBool is_over
    (HoldsIn t estimate reported answers states_of new (λ value is_dead. TurnsOver t (class_of old.store) value is_dead states_of old new before after max_states))
    (HoldsIn t estimate reported answers states_of new (λ value is_dead. IsStopped t (class_of old.store) value is_dead states_of new c.args.turn max_states))}
    c.expand.result
    (λ is_listed by still. match_each is_listed
    (over_by_work t (class_of old.store) estimate reported answers states_of old new before after max_states (still ∙ asks)) (λ stopped. stopped) by)
    listed c.expand.ensures.asks
