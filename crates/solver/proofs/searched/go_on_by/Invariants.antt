use Rattle.std.proofs.Common.{◌-◌, length}
use Rattle.grounding.specs.Ground.{task_in}
use Rattle.search_spaces.specs.SearchSpace.{ground_in}
use Rattle.search_spaces.specs.GroundListing.{listed_states}
use Rattle.search.specs.UnderWay.{store_in}
use Rattle.devices.specs.Progress.{MayContinue}
use Rattle.solver.specs.Said.{IsLineWithin}
use Rattle.solver.specs.Stretches.{IsUnderWay}
use Rattle.solver.proofs.searched.go_on_by.Given as goal

-- the search is under way, and what was said is true
abbrev pub invariant-stretches : goal.invariant-stretches
invariant-stretches g l = record {
  under_way : IsUnderWay l.session.setting.space (g.G.Guide.estimate_of l.session.guide.now) (g.G.Guide.is_dead l.session.guide.now) (g.G.Guide.fits l.session.guide.now) l.session.setting.limits.states l.search;
  said : MayContinue (IsLineWithin (task_in (ground_in l.session.setting.space)) l.session.setting.limits) g.E.Sink.may_lack_memory (g.E.Sink.failures l.initial.err) (g.E.Sink.taken l.initial.err) (g.E.Sink.failures l.err) (g.E.Sink.taken l.err);
}

abbrev pub decreases-stretches : goal.decreases-stretches
decreases-stretches g l = l.pause - length (listed_states (store_in l.search))
