use Rattle.std.proofs.Common.{◌∙◌, ap, arith, length, refl}
use Rattle.std.proofs.lemmas.List.FromFn.{length-map-range_with_len}
use Rattle.certificate_reader.specs.Lines.{line_of}
use Rattle.certificate.specs.Gathering.{state_line}
use Rattle.certificate.proofs.GatheringLemmas.{added_begun, added_passed, all_passed, next_begun, next_passed, passed_nothing, so_far_begun}
use Rattle.packed_state.specs.PooledView.{pooled_width}
use Rattle.certificate.specs.Certificate.{certificate_of}
use Rattle.certificate.proofs.writer.write_states.Goals as goal

pub loop-place-init : goal.loop-place-init
loop-place-init g c = record {
  width = ap length c.in-Ok.ensures ∙ length-map-range_with_len _ 0 c.width.result ∙ c.width.ensures ∙ ap pooled_width c.sets.ensures;
  passed = passed_nothing _ _;
  failures = refl;
  name = refl;
}

-- what is written so far is a prefix
pub returns-in_default-read_line-clause-beginning : goal.returns-in_default-read_line-clause-beginning
returns-in_default-read_line-clause-beginning g c = so_far_begun state_line (certificate_of c.args.cert.now).lines _ _ _ _ c.loop-place.place c.loop-place.invariant.passed

pub returns-in_err-add_state-clause-beginning : goal.returns-in_err-add_state-clause-beginning
returns-in_err-add_state-clause-beginning g c = so_far_begun state_line (certificate_of c.args.cert.now).lines _ _ _ _ c.loop-place.place c.loop-place.invariant.passed

pub returns-in_err-pass_on-clause-beginning : goal.returns-in_err-pass_on-clause-beginning
returns-in_err-pass_on-clause-beginning g c =
    let line = line_of c.read_line.new.line in
    next_begun state_line (certificate_of c.args.cert.now).lines _ _ _ _ c.loop-place.place c.loop-place.invariant.passed line c.in-Ok-read_line.ensures.line _
    (added_begun _ _ c.loop-place.held.items _ (state_line line) c.in_ok-add_state.ensures c.pass_on.ensures.beginning)

pub loop-place-preserved : goal.loop-place-preserved
loop-place-preserved g c =
    let line = line_of c.read_line.new.line in
    record {
      width = c.read_line.ensures.width;
      passed = next_passed state_line (certificate_of c.args.cert.now).lines _ _ _ _ c.loop-place.place c.loop-place.invariant.passed line c.in-Ok-read_line.ensures.line _ _
          (added_passed _ _ c.loop-place.held.items _ (state_line line) c.in_ok-add_state.ensures _ c.in_ok-pass_on.ensures.text);
      failures = c.in_ok-pass_on.ensures.failures ∙ c.loop-place.invariant.failures;
      name = c.in_ok-pass_on.ensures.name ∙ c.loop-place.invariant.name;
    }

pub returns-clause-text : goal.returns-clause-text
returns-clause-text g c =
    all_passed state_line (certificate_of c.args.cert.now).lines _ _ _ _ c.loop-place.place c.loop-place.invariant.passed (omega (arith, c.loop-place-test.false, c.line_count-place-end.ensures))

pub returns-clause-beginning : goal.returns-clause-beginning
returns-clause-beginning g c = let passed = returns-clause-text g c in (passed.0, c.loop-place.held.items, passed.2, passed.1)
