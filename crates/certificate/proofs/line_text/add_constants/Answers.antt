use Rattle.std.proofs.Common.{rules, arith, ◌≡◌, ◌<◌, ◌≤◌, [], ◌∙◌, ◌++◌, ap, get_or, length, map, sym, take, to_z, of_z}
use Rattle.std.specs.Int.{w64}
use Rattle.std.specs.Prelude.{ℤ}
use Rattle.std.proofs.lemmas.Int.{to_z-of_z}
use Rattle.lower_bounds.specs.PotentialFunctions.{PotentialFunction}
use Rattle.certificate_definitions.specs.CertificateNames.{weights_in}
use Rattle.certificate_definitions.specs.CertificateText.{weights_text}
use Rattle.certificate_reader.specs.Lines.{version_of}
use Rattle.certificate.specs.Evidence.{potential_of}
use Rattle.certificate.specs.Gathering.{weight_text}
use Rattle.certificate.proofs.LineTextLemmas.{added_after, then_dead_end, value_more, values_all, where_ok}
use Rattle.certificate.proofs.line_text.add_constants.Goals as goal

pub loop-value-preserved : goal.loop-value-preserved
loop-value-preserved c =
    let of : PotentialFunction → ℤ = λ (p : PotentialFunction). p.constant in
    let values = c.args.evidence.now.values.items in
    let i = c.loop-value.value-index in
    let value = c.value-item.result in
    let within : i < length values = omega (arith, c.loop-value-test.true, ap length c.deref-value-items.ensures.value) in
    let is : value ≡ get_or values i value = c.value-item.is ∙ ap (λ xs. get_or xs i value) c.deref-value-items.ensures.value in
    let number : to_z w64 (of_z w64 value.constant) ≡ value.constant = to_z-of_z w64 value.constant (search rules) in
    c.in_ok-add_weight.ensures ∙ ap (λ w. c.loop-value.text.items ++ weight_text w) number
    ∙ added_after c.args.text.now.items (weights_text (map of (map potential_of (take i values)))) (weight_text (of (potential_of value))) c.loop-value.text.items c.loop-value.invariant
    ∙ ap (λ bytes. c.args.text.now.items ++ bytes) (sym (value_more of values i value within is))

pub returns : goal.returns
returns c =
    let of : PotentialFunction → ℤ = λ (p : PotentialFunction). p.constant in
    let values = c.args.evidence.now.values.items in
    let v = version_of c.args.version in
    let past : length values ≤ c.loop-value.value-index = omega (arith, c.loop-value-test.false, ap length c.deref-value-items.ensures.value) in
    let dead_end = c.args.evidence.now.dead_ends.constant in
    let number : to_z w64 (of_z w64 dead_end) ≡ dead_end = to_z-of_z w64 dead_end (search rules) in
    where_ok c.add_dead_end_weight.result _ _ _ c.add_dead_end_weight.ensures
    (ap (λ w. c.loop-value.text.items ++ weights_text (weights_in v [] w)) number
    ∙ added_after c.args.text.now.items (weights_text (map of (map potential_of values))) (weights_text (weights_in v [] dead_end)) c.loop-value.text.items
    (c.loop-value.invariant ∙ ap (λ bytes. c.args.text.now.items ++ bytes) (values_all of values c.loop-value.value-index past))
    ∙ ap (λ bytes. c.args.text.now.items ++ bytes) (then_dead_end v (map of (map potential_of values)) dead_end))
