use Rattle.std.proofs.Common.{◌≡◌, ◌∙◌, ◌++◌, arith, ap, length, map, refl}
use Rattle.std.specs.Prelude.{Some, slice_get}
use Rattle.std.specs.Option.{option_map}
use Rattle.std.proofs.lemmas.List.{length-map}
use Rattle.std.proofs.lemmas.Option.{slice_get-map, slice_get_read}
use Rattle.task.specs.Task.{task_of}
use Rattle.symmetries.specs.ObjectPairs.{pairs_in}
use Rattle.certificate.specs.CertificateParts.{exchange_in}
use Rattle.certificate.specs.Gathering.{swap_line}
use Rattle.certificate.proofs.GatheringLemmas.{added_begun, added_passed, all_passed, next_begun, next_passed, so_far_begun}
use Rattle.certificate.proofs.writer.write_exchanges.Goals as goal
use Rattle.certificate.proofs.writer.write_exchanges.Goals.{In_ok-add_exchange}
use Rattle.certificate.proofs.writer.write_exchanges.Given.{Over}

-- what is written so far is a prefix
pub returns-in_err-add_exchange-clause-beginning : goal.returns-in_err-add_exchange-clause-beginning
returns-in_err-add_exchange-clause-beginning g c =
    so_far_begun (swap_line (task_of c.args.task.now)) (map exchange_in c.args.exchanges.now) _ _ _ _ c.loop-exchange.exchange-index c.loop-exchange.invariant.passed

there : (g : Over) (c : In_ok-add_exchange g) → slice_get (map exchange_in c.args.exchanges.now) c.loop-exchange.exchange-index ≡ Some (exchange_in c.exchange-item.result)
there g c =
    let exchanges = c.args.exchanges.now in
    let i = c.loop-exchange.exchange-index in
    slice_get-map exchange_in exchanges i
    ∙ ap (option_map exchange_in) (slice_get_read exchanges (length exchanges) i c.exchange-item.result refl c.loop-exchange-test.true c.exchange-item.is)

-- its line is added
added : (g : Over) (c : In_ok-add_exchange g) → c.add_exchange.new.text.items ≡ c.loop-exchange.held.items ++ swap_line (task_of c.args.task.now) (exchange_in c.exchange-item.result)
added g c =
    c.in_ok-add_exchange.ensures
    ∙ ap (λ pairs. c.loop-exchange.held.items ++ swap_line (task_of c.args.task.now) (pairs_in pairs)) c.deref.ensures.value

pub returns-in_err-pass_on-clause-beginning : goal.returns-in_err-pass_on-clause-beginning
returns-in_err-pass_on-clause-beginning g c =
    let at = (goal.at.returns-in_err-pass_on-clause-beginning g c).In_ok-add_exchange in
    let line = swap_line (task_of c.args.task.now) in
    next_begun line (map exchange_in c.args.exchanges.now) _ _ _ _ c.loop-exchange.exchange-index c.loop-exchange.invariant.passed (exchange_in c.exchange-item.result) (there g at) _
    (added_begun _ _ c.loop-exchange.held.items _ (line (exchange_in c.exchange-item.result)) (added g at) c.pass_on.ensures.beginning)

pub loop-exchange-preserved : goal.loop-exchange-preserved
loop-exchange-preserved g c =
    let at = (goal.at.loop-exchange-preserved g c).In_ok-add_exchange in
    let line = swap_line (task_of c.args.task.now) in
    record {
      passed = next_passed line (map exchange_in c.args.exchanges.now) _ _ _ _ c.loop-exchange.exchange-index c.loop-exchange.invariant.passed (exchange_in c.exchange-item.result)
          (there g at) _ _ (added_passed _ _ c.loop-exchange.held.items _ (line (exchange_in c.exchange-item.result)) (added g at) _ c.in_ok-pass_on.ensures.text);
      failures = c.in_ok-pass_on.ensures.failures ∙ c.loop-exchange.invariant.failures;
      name = c.in_ok-pass_on.ensures.name ∙ c.loop-exchange.invariant.name;
    }

pub returns-clause-text : goal.returns-clause-text
returns-clause-text g c =
    all_passed (swap_line (task_of c.args.task.now)) (map exchange_in c.args.exchanges.now) _ _ _ _ c.loop-exchange.exchange-index c.loop-exchange.invariant.passed
    (omega (arith, length-map c.args.exchanges.now exchange_in, c.loop-exchange-test.false))

pub returns-clause-beginning : goal.returns-clause-beginning
returns-clause-beginning g c = let passed = returns-clause-text g c in (passed.0, c.loop-exchange.held.items, passed.2, passed.1)
