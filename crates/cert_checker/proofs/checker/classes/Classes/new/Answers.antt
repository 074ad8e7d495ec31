use Rattle.std.proofs.Common.{◌∙◌, ℕ, [], refl, ap, length, sym, subst, arith}
use Rattle.packed_state.specs.PooledView.{pooled_states, pooled_width}
use Rattle.certificate.specs.declared.cert.Cert.{Cert}
use Rattle.certificate.specs.Certificate.{certificate_of, store_in}
use Rattle.symmetries.specs.Representatives.{task_of, atoms_of, exchanges_of}
use Rattle.symmetries_definitions.specs.Orbits.{packed_representative}
use Rattle.cert_checker.specs.CheapestPlaces.{costs_of}
use Rattle.cert_checker.specs.Classified.{AreCheapestUpTo}
use Rattle.cert_checker.proofs.CheapestLemmas.{none_by}
use Rattle.cert_checker.proofs.PackedLinesLemmas.{length-set_of}
use Rattle.cert_checker.proofs.RefusalsLemmas.{as_many_marks}
use Rattle.cert_checker.proofs.checker.classes.Classes.new.Goals as goal

pub loop-place-init : goal.loop-place-init
loop-place-init c =
    let cert = c.args.cert.now in
    let r = c.args.representatives in
    record {
      low = omega arith;
      state = ap length c.in_ok-state.ensures ∙ length-set_of c.width-width.result [] ∙ c.width-width.ensures ∙ ap pooled_width c.sets.ensures;
      cert = refl;
      representatives = refl;
      width = record { atoms = c.requires; keys = c.in_ok-keys.ensures.width ∙ c.width-width.ensures ∙ ap pooled_width c.sets.ensures };
      cheapest = none_by (packed_representative (task_of r) (atoms_of r) (exchanges_of r)) (pooled_states (store_in cert)) (costs_of (certificate_of cert)) _ _ c.in_ok-keys.ensures.states c.new-2.ensures.items;
    }

pub take-requires-clause-place : goal.take-requires-clause-place
take-requires-clause-place c =
    let cert = c.args.cert.now in
    let same = ap (λ (cert : Cert). length (certificate_of cert).lines) c.loop-place.invariant.cert in
    omega (arith, c.loop-place-test.true, as_many_marks (certificate_of cert) c.marks-place-end.result.now c.marks-place-end.ensures.marks, same)

pub loop-place-preserved : goal.loop-place-preserved
loop-place-preserved c =
    let cert = c.args.cert.now in
    record {
      low = omega (arith, c.loop-place-test.true, as_many_marks (certificate_of cert) c.marks-place-end.result.now c.marks-place-end.ensures.marks);
      state = c.in_ok-take.ensures.state ∙ ap (λ (cert : Cert). pooled_width (store_in cert)) (sym c.in_ok-take.ensures.cert);
      cert = c.in_ok-take.ensures.cert ∙ c.loop-place.invariant.cert;
      representatives = c.in_ok-take.ensures.representatives ∙ c.loop-place.invariant.representatives;
      width = c.in_ok-take.ensures.width;
      cheapest = c.in_ok-take.ensures.after;
    }

pub returns-clause-cheapest : goal.returns-clause-cheapest
returns-clause-cheapest c =
    let cert = c.args.cert.now in
    let low = c.loop-place.invariant.low in
    subst (λ (count : ℕ). AreCheapestUpTo c.loop-place.classes count)
    (omega (arith, low, c.loop-place-test.false, as_many_marks (certificate_of cert) c.marks-place-end.result.now c.marks-place-end.ensures.marks)) c.loop-place.invariant.cheapest

pub take-requires-clause-state : goal.take-requires-clause-state
take-requires-clause-state c = c.loop-place.invariant.state

pub take-requires-clause-width : goal.take-requires-clause-width
take-requires-clause-width c = c.loop-place.invariant.width

pub take-requires-clause-before : goal.take-requires-clause-before
take-requires-clause-before c = c.loop-place.invariant.cheapest

pub returns-clause-width : goal.returns-clause-width
returns-clause-width c = c.loop-place.invariant.width

pub returns-clause-cert : goal.returns-clause-cert
returns-clause-cert c = c.loop-place.invariant.cert

pub returns-clause-representatives : goal.returns-clause-representatives
returns-clause-representatives c = c.loop-place.invariant.representatives
