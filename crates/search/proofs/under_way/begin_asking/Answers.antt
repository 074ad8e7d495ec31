use Rattle.std.proofs.Common.{Bool, List, ℕ, subst}
use Rattle.model.specs.Runs.{System}
use Rattle.search.specs.DeadEnds.{ReportsDeadEnds}
use Rattle.search.specs.Estimates.{IsAdmissible}
use Rattle.search.proofs.Halts.{begins_alone}
use Rattle.search.proofs.under_way.begin_asking.Goals as goal

pub returns : goal.returns
returns g c =
    let value = g.G.Guide.estimate_of c.args.problem.now.guide.now in
    let is_dead = g.G.Guide.is_dead c.args.problem.now.guide.now in
    begins_alone _ _ value is_dead _ (subst (λ (u : System (List Bool) ℕ). IsAdmissible u value) c.requires.made_for (g.met.G.Guide.is_admissible c.args.problem.now.guide.now))
    (subst (λ (u : System (List Bool) ℕ). ReportsDeadEnds u is_dead) c.requires.made_for (g.met.G.Guide.reports_dead_ends c.args.problem.now.guide.now)) _ _ _ _ _ c.start.result c.start.ensures.under_way c.start.ensures.bases
