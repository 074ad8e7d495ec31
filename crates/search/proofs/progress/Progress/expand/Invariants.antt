use Rattle.std.proofs.Common.{◌≡◌, ◌≤◌, Some, length, drop}
use Rattle.std.specs.Prelude.{slice_get}
use Rattle.packed_state.specs.Packed.{bits_of}
use Rattle.search.specs.OnDemand.{noted_at}
use Rattle.search.specs.Progress.{HoldsIn, nodes_in, IsExpanding, Continues}
use Rattle.search.proofs.Steps.{AreLeft}
use Rattle.search.proofs.progress.Progress.expand.Given as goal

abbrev pub invariant-loop-action : goal.invariant-loop-action
invariant-loop-action g l =
    let t = g.T.TransitionSystem.means l.problem.system.now in
    let states_of = g.L.StateListing.states in
    let class_of = g.L.StateListing.class_of l.initial.self.store in
    record {
      by : HoldsIn t (g.G.Guide.estimate_of l.problem.guide.now) (g.G.Guide.is_dead l.problem.guide.now) g.V.ValuesOnDemand.answers states_of l.self (λ value is_dead. IsExpanding t class_of value is_dead states_of l.self l.turn.id.0);
      noted : noted_at l.self.bases l.turn.id.0 ≡ noted_at l.initial.self.bases l.turn.id.0;
      within : length (states_of l.self.store) ≤ l.problem.max_states;
      continues : Continues class_of (nodes_in states_of l.initial.self) (nodes_in states_of l.self) l.turn.id.0;
      class : g.L.StateListing.class_of l.self.store ≡ class_of;
      width : g.L.StateListing.width_of l.self.store ≡ g.T.TransitionSystem.width_of l.problem.system.now;
      state : length (bits_of l.buffers.1.0) ≡ g.T.TransitionSystem.width_of l.problem.system.now;
      next : length (bits_of l.buffers.1.1.0) ≡ g.T.TransitionSystem.width_of l.problem.system.now;
      occurs : slice_get (states_of l.self.store) l.turn.id.0 ≡ Some (bits_of l.buffers.1.0);
      scratch : g.G.Guide.fits l.problem.guide.now l.buffers.1.1.1.1.1.0;
      left : AreLeft t class_of (nodes_in states_of l.self) l.turn.id.0 (drop l.action-index l.action-items);
    }
