use Rattle.std.proofs.Common.{subst, sym, arith}
use Rattle.std.proofs.lemmas.Int.{ints}
use Rattle.lower_bounds.specs.FairPotentials.{goal_gives}
use Rattle.lower_bounds.proofs.Sums.{sum-next}
use Rattle.potentials.specs.Said.{IsSaid}
use Rattle.potentials.proofs.GoalLemmas.{gives-is}
use Rattle.potentials.proofs.goals.GoalAtoms.give_at_most.Goals as goal

pub loop-place-preserved : goal.loop-place-preserved
loop-place-preserved c =
    let r = c.gives-total.ensures.range in
    let least = r.least in
    let most = r.most in
    record {
      so_far = λ literals said.
          let f = gives-is literals c.args.weights.now c.loop-place.place c.of.result c.weight_of.result _ c.gives-total.result
          (subst (IsSaid literals c.loop-place.place) (sym c.of.ensures) (said.each c.loop-place.place (omega arith)))
          c.weight_of.ensures.value (omega (arith, ints)) c.gives-total.ensures.value in
          let next = sum-next c.loop-place.place (goal_gives literals c.args.weights.now) in
          let before = c.loop-place.invariant.so_far literals said in
          omega (arith, ints);
      least = omega (arith, ints);
      most = omega (arith, ints);
    }
