use Rattle.std.proofs.Common.{◌≡◌, ◌-◌, length}
use Rattle.grounding.specs.Ground.{task_in, atoms_in}
use Rattle.search_spaces.specs.SearchSpace.{ground_in, system_of}
use Rattle.search_spaces.specs.GroundListing.{listed_states}
use Rattle.search.specs.UnderWay.{store_in}
use Rattle.devices.specs.Progress.{MayContinue}
use Rattle.solver.specs.Said.{IsLineWithin}
use Rattle.solver.specs.Stretches.{IsUnderWayBy}
use Rattle.solver.proofs.asking.search_to_stop.Given as goal

-- the search is under way by what is answers by now, and what was said is true
abbrev pub invariant-stretches : goal.invariant-stretches
invariant-stretches g l = record {
  under_way : IsUnderWayBy l.session.setting.space (g.G.Guide.estimate_of l.session.guide.now) (g.G.Guide.is_dead l.session.guide.now) g.V.ValuesOnDemand.answers (g.G.Guide.fits l.session.guide.now) l.session.setting.limits.states l.search;
  values_system : g.V.ValuesOnDemand.system_of l.values ≡ system_of l.session.setting.space;
  values_width : g.V.ValuesOnDemand.width_of l.values ≡ length (atoms_in (ground_in l.session.setting.space));
  said : MayContinue (IsLineWithin (task_in (ground_in l.session.setting.space)) l.session.setting.limits) g.E.Sink.may_lack_memory (g.E.Sink.failures l.initial.err) (g.E.Sink.taken l.initial.err) (g.E.Sink.failures l.err) (g.E.Sink.taken l.err);
}

abbrev pub decreases-stretches : goal.decreases-stretches
decreases-stretches g l = 4294967295 - length (listed_states (store_in l.search))
