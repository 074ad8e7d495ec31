use Rattle.std.proofs.Common.{ℕ, List, Bool, subst}
use Rattle.model.specs.Runs.{System}
use Rattle.search.specs.Estimates.{value_by}
use Rattle.search.specs.DeadEnds.{DetectsDeadEnds}
use Rattle.search.proofs.Consistent.{admissible}
use Rattle.search.proofs.DeadEnds.{reports_dead_ends}
use Rattle.search.proofs.guide.EstimateWithDeadEnds.new.Goals as goal

pub invariant_of-result : goal.invariant_of-result
invariant_of-result g c =
    let e = c.args.estimate.now in
    let d = c.args.dead_ends.now in
    let t = g.E.Estimate.system_of e in
    let detects : DetectsDeadEnds t (g.D.DeadEnd.is_dead d) =
    subst (λ (u : System (List Bool) ℕ). DetectsDeadEnds u (g.D.DeadEnd.is_dead d)) c.requires.system (g.met.D.DeadEnd.detects_dead_ends d) in
    record {
      width = c.requires.width;
      detects = detects;
      admissible = admissible t (value_by (g.E.Estimate.score_of e)) (g.met.E.Estimate.is_consistent e);
      reports = reports_dead_ends t (g.D.DeadEnd.is_dead d) detects;
    }
