use Rattle.std.proofs.Common.{◌∙◌, arith, refl}
use Rattle.std.specs.Prelude.{map}
use Rattle.landmark_zones.specs.Landmarks.{landmarks_of, share_of}
use Rattle.certificate.specs.Gathering.{value_line}
use Rattle.certificate.proofs.GatheringLemmas.{added_begun, added_passed, all_passed, next_begun, next_passed, passed_nothing, so_far_begun}
use Rattle.certificate.proofs.writer.write_values.Goals as goal

pub loop-number-init : goal.loop-number-init
loop-number-init g c = record { passed = passed_nothing _ _; failures = refl; name = refl }

-- what is written so far is a prefix
pub returns-in_err-add_value-clause-beginning : goal.returns-in_err-add_value-clause-beginning
returns-in_err-add_value-clause-beginning g c = so_far_begun value_line (landmarks_of c.args.landmarks.now).values _ _ _ _ c.loop-number.number c.loop-number.invariant.passed

pub returns-in_err-pass_on-clause-beginning : goal.returns-in_err-pass_on-clause-beginning
returns-in_err-pass_on-clause-beginning g c =
    next_begun value_line (landmarks_of c.args.landmarks.now).values _ _ _ _ c.loop-number.number c.loop-number.invariant.passed (map share_of c.value.result.now) c.value.ensures _
    (added_begun _ _ c.loop-number.held.items _ (value_line (map share_of c.value.result.now)) c.in_ok-add_value.ensures c.pass_on.ensures.beginning)

pub loop-number-preserved : goal.loop-number-preserved
loop-number-preserved g c =
    record {
      passed = next_passed value_line (landmarks_of c.args.landmarks.now).values _ _ _ _ c.loop-number.number c.loop-number.invariant.passed (map share_of c.value.result.now) c.value.ensures _ _
          (added_passed _ _ c.loop-number.held.items _ (value_line (map share_of c.value.result.now)) c.in_ok-add_value.ensures _ c.in_ok-pass_on.ensures.text);
      failures = c.in_ok-pass_on.ensures.failures ∙ c.loop-number.invariant.failures;
      name = c.in_ok-pass_on.ensures.name ∙ c.loop-number.invariant.name;
    }

pub returns-clause-text : goal.returns-clause-text
returns-clause-text g c =
    all_passed value_line (landmarks_of c.args.landmarks.now).values _ _ _ _ c.loop-number.number c.loop-number.invariant.passed (omega (arith, c.loop-number-test.false, c.value_count-number-end.ensures))

pub returns-clause-beginning : goal.returns-clause-beginning
returns-clause-beginning g c = let passed = returns-clause-text g c in (passed.0, c.loop-number.held.items, passed.2, passed.1)
