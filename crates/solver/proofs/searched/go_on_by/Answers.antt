use Rattle.std.proofs.Common.{ℕ, Bool, List, subst}
use Rattle.model.specs.Runs.{System}
use Rattle.search.specs.DeadEnds.{ReportsDeadEnds}
use Rattle.search.specs.Estimates.{IsAdmissible}
use Rattle.solver.specs.Stretches.{IsStretch}
use Rattle.solver.proofs.searched.go_on_by.Goals as goal

pub say_news-requires-clause-sound : goal.say_news-requires-clause-sound
say_news-requires-clause-sound g c =
    let guide = c.args.session.now.guide.now in
    record {
      value = g.G.Guide.estimate_of guide;
      is_dead = g.G.Guide.is_dead guide;
      between = (c.stretches.invariant.under_way.search, c.stretches.invariant.under_way.are_open);
      admissible = subst (λ (u : System (List Bool) ℕ). IsAdmissible u (g.G.Guide.estimate_of guide)) c.requires.system (g.met.G.Guide.is_admissible guide);
      reports = subst (λ (u : System (List Bool) ℕ). ReportsDeadEnds u (g.G.Guide.is_dead guide)) c.requires.system (g.met.G.Guide.reports_dead_ends guide);
    }

pub stretches-preserved : goal.stretches-preserved
stretches-preserved g c =
    let guide = c.args.session.now.guide.now in
    let stretch = subst (IsStretch c.args.session.now.setting.space (g.G.Guide.estimate_of guide) (g.G.Guide.is_dead guide) (g.G.Guide.fits guide) c.next_pause-next.result c.args.session.now.setting.limits)
    c.in-Paused.is c.in_ok-ending.ensures in
    record {
      under_way = stretch.0;
      said = λ origin said. c.say_news.ensures origin (c.stretches.invariant.said origin said);
    }
