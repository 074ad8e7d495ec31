use Rattle.std.proofs.Common.{◌≡◌, ◌∙◌, ◌≤◌, true, false, length, map, None, Some, ap, refl, sym, arith}
use Rattle.std.specs.Prelude.{slice_get}
use Rattle.std.specs.Option.{option_map}
use Rattle.std.proofs.lemmas.List.{length-map}
use Rattle.faults.proofs.Results.{passed_on}
use Rattle.model.proofs.Tests.{passes_got}
use Rattle.grounding.specs.Ground.{task_in, atoms_in}
use Rattle.symmetries.specs.Exchange.{exchange_of}
use Rattle.symmetries.specs.ObjectPairs.{pairs_in}
use Rattle.certificate.specs.Certificate.{certificate_of}
use Rattle.certificate.specs.CertificateParts.{exchange_in}
use Rattle.certificate_definitions.specs.CertificateRefusals.{exchange_line}
use Rattle.cert_checker.specs.declared.refusal.Refusal.TheVariants as refusal
use Rattle.cert_checker.specs.declared.refusal.RefusalCode.TheVariants.{NotSymmetry}
use Rattle.cert_checker.specs.CheckedLines.{IsFirstGrounded, IsTrueAnyway}
use Rattle.cert_checker.specs.Exchanged.{is_said}
use Rattle.cert_checker.proofs.FirstLemmas.{reported_first}
use Rattle.cert_checker.proofs.OrderLemmas.{atoms_right, first_symmetry, states_right_all}
use Rattle.cert_checker.proofs.RefusalsLemmas.{reported}
use Rattle.cert_checker.proofs.SymmetriesLemmas.{exchange_at, for_numbered, made_more, only_none, only_some, only_symmetry, symmetric_all, symmetric_more}
use Rattle.cert_checker.proofs.checker.symmetry.tested_exchanges.Goals as goal
use Rattle.cert_checker.proofs.checker.symmetry.tested_exchanges.Goals.{After-as_slice}

-- the exchange at this place
at : (c : After-as_slice) → slice_get (certificate_of c.args.cert.now).exchanges c.loop-place.place ≡ Some (pairs_in c.as_slice.result.now)
at c =
    exchange_at (certificate_of c.args.cert.now) c.exchanges-exchanges.result.now c.loop-place.place c.index-exchanges-place.result c.as_slice.result.now c.exchanges-exchanges.ensures.exchanges c.loop-place-test.true
    c.index-exchanges-place.is c.as_slice.ensures.value

pub symmetric_exchange-requires-clause-said : goal.symmetric_exchange-requires-clause-said
symmetric_exchange-requires-clause-said c =
    passes_got (is_said (task_in c.args.grounded.now)) (certificate_of c.args.cert.now).exchanges c.loop-place.place (pairs_in c.as_slice.result.now)
    (at (goal.at.symmetric_exchange-requires-clause-said c).After-as_slice) c.requires.said

pub returns-in_err-push-in-Some-clause-wrong : goal.returns-in_err-push-in-Some-clause-wrong
returns-in_err-push-in-Some-clause-wrong c =
    passed_on (IsTrueAnyway (task_in c.args.grounded.now) (certificate_of c.args.cert.now)) c.from_residual-in_err-push-in-Some.result refusal.NoMemory
    c.from_residual-in_err-push-in-Some.ensures.1 (λ plan most. tt)

pub returns-in_err-push-in-Some-clause-first : goal.returns-in_err-push-in-Some-clause-first
returns-in_err-push-in-Some-clause-first c =
    passed_on (IsFirstGrounded (task_in c.args.grounded.now) (certificate_of c.args.cert.now)) c.from_residual-in_err-push-in-Some.result refusal.NoMemory
    c.from_residual-in_err-push-in-Some.ensures.1 (λ distinct allowed plan most within. tt)

pub returns-in-None-clause-wrong : goal.returns-in-None-clause-wrong
returns-in-None-clause-wrong c =
    let g = c.args.grounded.now in
    let cert = certificate_of c.args.cert.now in
    let e = pairs_in c.as_slice.result.now in
    let none : None ≡ only_symmetry (task_in g) (atoms_in g) e = ap (option_map exchange_of) (sym c.in-None.is) ∙ c.in_ok-exchange.ensures in
    reported (task_in g) cert c.swap_line.result NotSymmetry (exchange_line c.loop-place.place) c.swap_line.ensures (
      e,
      (c.loop-place.place, refl, at (goal.at.returns-in-None-clause-wrong c).After-as_slice),
      for_numbered (task_in g) cert (atoms_in g) e false c.requires.numbered (only_none (task_in g) (atoms_in g) e none),
    )

pub returns-in-None-clause-first : goal.returns-in-None-clause-first
returns-in-None-clause-first c =
    λ distinct allowed plan most within.
    let task = task_in c.args.grounded.now in
    let cert = certificate_of c.args.cert.now in
    reported_first task cert plan most c.swap_line.result NotSymmetry (exchange_line c.loop-place.place) c.swap_line.ensures
    (first_symmetry task cert c.loop-place.place plan most (atoms_right task cert c.requires.fluent) (states_right_all task cert distinct allowed) within c.loop-place.invariant.symmetric) tt

pub loop-place-preserved : goal.loop-place-preserved
loop-place-preserved c =
    let g = c.args.grounded.now in
    let task = task_in g in
    let cert = certificate_of c.args.cert.now in
    let place = c.loop-place.place in
    let e = pairs_in c.as_slice.result.now in
    let x = c.in-Some.exchange in
    let here = at (goal.at.loop-place-preserved c).After-as_slice in
    let some : Some (exchange_of x) ≡ only_symmetry task (atoms_in g) e = ap (option_map exchange_of) (sym c.in-Some.is) ∙ c.in_ok-exchange.ensures in
    let is = only_some task (atoms_in g) e (exchange_of x) some in
    record {
      made = ap (map exchange_of) c.in_ok-push-in-Some.ensures.items ∙ made_more cert.exchanges place e c.loop-place.made.items x here is.0 c.loop-place.invariant.made;
      symmetric = symmetric_more task cert place e here (for_numbered task cert (atoms_in g) e true c.requires.numbered is.1) c.loop-place.invariant.symmetric;
    }

pub returns-clause-symmetric : goal.returns-clause-symmetric
returns-clause-symmetric c =
    let cert = certificate_of c.args.cert.now in
    let xs = c.exchanges-exchanges.result.now in
    let past : length cert.exchanges ≤ c.loop-place.place = omega (arith, c.loop-place-test.false, ap length c.exchanges-exchanges.ensures.exchanges, length-map xs exchange_in) in
    symmetric_all (task_in c.args.grounded.now) cert c.loop-place.place past c.loop-place.invariant.symmetric
