use Rattle.std.proofs.Common.{◌≡◌, ◌∙◌, None, length, ap}
use Rattle.std.proofs.lemmas.List.{length-set}
use Rattle.guides.specs.declared.on_demand.LandmarksOnDemand.{LandmarksOnDemand}
use Rattle.guides.proofs.on_demand.LandmarksOnDemand.forget_unused.Goals.{then-self+then-not-is_used, else-self}
use Rattle.guides.proofs.on_demand.LandmarksOnDemand.forget_unused.Goals as goal

pub loop-number-preserved : goal.loop-number-preserved
loop-number-preserved c =
    let inv = c.loop-number.invariant in
    elim c.if-self.branch [
      | then-self+then-not-is_used w ↦
          record {
            index = ap (λ (s : LandmarksOnDemand). s.index.now) w.self-is ∙ w.forget_one.ensures.index ∙ inv.index;
            count = ap (λ (s : LandmarksOnDemand). length s.values.items) w.self-is ∙ ap length w.forget_one.ensures.values ∙ length-set c.loop-number.self.values.items c.loop-number.number None ∙ inv.count;
          }
      | else-self w ↦ rw w.self-is (record { index = inv.index; count = inv.count })
    ]
