use Rattle.std.proofs.Common.{◌≡◌, Some, length, map, sym, ap, subst, arith}
use Rattle.std.specs.Prelude.{slice_get}
use Rattle.std.proofs.lemmas.List.{length-map, length_push}
use Rattle.landmark_zones.specs.Landmarks.{landmarks_of, share_of}
use Rattle.landmarks.specs.CutIndex.{atoms_of, task_of}
use Rattle.landmarks.specs.Fairness.{IsFairness, function_over}
use Rattle.landmarks.proofs.FairnessLemmas.{few-of, found-more}
use Rattle.landmarks.proofs.cut_index.CutIndex.fairness_of_all.Goals as goal

pub fairness_for-requires-clause-few : goal.fairness_for-requires-clause-few
fairness_for-requires-clause-few c =
    let most = few-of (landmarks_of c.args.landmarks.now).values c.loop-number.number 67108864 (map share_of c.value-shares.result.now) c.value-shares.ensures c.requires.few in
    omega (arith, length-map c.value-shares.result.now share_of)

pub loop-number-preserved : goal.loop-number-preserved
loop-number-preserved c = record {
  counted = c.fairness_for.ensures.counted;
  as_many = omega (arith, ap length c.in_ok-push.ensures.items, length_push c.loop-number.found.items c.fairness_for.result, c.loop-number.invariant.as_many);
  each = λ beside are k f at.
      found-more (task_of c.args.self.now) (atoms_of c.args.self.now) beside (landmarks_of c.args.landmarks.now) c.loop-number.number (map share_of c.value-shares.result.now) c.value-shares.ensures
      c.loop-number.found.items c.fairness_for.result c.loop-number.invariant.as_many (c.fairness_for.ensures.fairness beside are) (c.loop-number.invariant.each beside are) k f
      (subst (λ items. slice_get items k ≡ Some f) c.in_ok-push.ensures.items at);
}

pub returns : goal.returns
returns c = λ beside are. record { as_many = omega (arith, c.loop-number.invariant.as_many, c.loop-number-test.false, c.value_count-number-end.ensures); each = c.loop-number.invariant.each beside are }
