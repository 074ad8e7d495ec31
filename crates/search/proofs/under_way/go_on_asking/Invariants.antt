use Rattle.std.proofs.Common.{◌≡◌}
use Rattle.search.specs.Progress.{nodes_in, turns_left}
use Rattle.search.specs.UnderWay.{IsUnderWayBy}
use Rattle.search.proofs.under_way.go_on_asking.Given as goal

abbrev pub invariant-turns : goal.invariant-turns
invariant-turns g l =
    let t = g.T.TransitionSystem.means l.problem.system.now in
    let width = g.T.TransitionSystem.width_of l.problem.system.now in
    record {
      by : IsUnderWayBy t (g.L.StateListing.class_of l.initial.progress.store) (g.G.Guide.estimate_of l.problem.guide.now) (g.G.Guide.is_dead l.problem.guide.now) g.V.ValuesOnDemand.answers (g.G.Guide.fits l.problem.guide.now) g.L.StateListing.states
          g.L.StateListing.class_of g.L.StateListing.width_of width l.problem.max_states (record { progress = l.progress; buffers = l.buffers });
      values_for : g.V.ValuesOnDemand.system_of l.values ≡ g.V.ValuesOnDemand.system_of l.initial.values;
      values_width : g.V.ValuesOnDemand.width_of l.values ≡ g.V.ValuesOnDemand.width_of l.initial.values;
    }

abbrev pub decreases-turns : goal.decreases-turns
decreases-turns g l = turns_left l.problem.max_states (nodes_in g.L.StateListing.states l.progress) l.buffers
