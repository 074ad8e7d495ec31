use Rattle.std.proofs.Common.{subst}
use Rattle.solver.specs.Stretches.{IsHaltBy}
use Rattle.solver.proofs.asking.search_to_stop.Goals as goal

pub say_news-requires-clause-sound : goal.say_news-requires-clause-sound
say_news-requires-clause-sound g c =
    let by = c.stretches.invariant.under_way in
    record { value = by.value; is_dead = by.is_dead; between = (by.holds.search, by.holds.are_open); admissible = by.valued.admissible; reports = by.valued.dead_ends }

pub stretches-preserved : goal.stretches-preserved
stretches-preserved g c =
    let guide = c.args.session.now.guide.now in
    let setting = c.args.session.now.setting in
    let halt = subst (IsHaltBy setting.space (g.G.Guide.estimate_of guide) (g.G.Guide.is_dead guide) g.V.ValuesOnDemand.answers (g.G.Guide.fits guide) c.next_pause-next.result setting.limits.states)
    c.in-Paused.is c.in_ok-outcome.ensures.halt in
    record {
      under_way = halt.0;
      values_system = c.in_ok-outcome.ensures.values_system;
      values_width = c.in_ok-outcome.ensures.values_width;
      said = λ origin said. c.say_news.ensures origin (c.stretches.invariant.said origin said);
    }
