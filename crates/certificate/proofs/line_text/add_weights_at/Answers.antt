use Rattle.std.proofs.Common.{rules, arith, ◌≡◌, ◌<◌, ◌≤◌, [], ◌∙◌, ◌++◌, ap, get_or, length, map, subst, sym, take, to_z, of_z}
use Rattle.std.specs.Int.{w64}
use Rattle.std.specs.Prelude.{ℤ, pos}
use Rattle.std.proofs.lemmas.Int.{to_z-of_z}
use Rattle.std.proofs.lemmas.List.{get_or_read}
use Rattle.certificate.specs.declared.evidence.WrittenPotentials.{WrittenPotentials}
use Rattle.lower_bounds.specs.PotentialFunctions.{PotentialFunction}
use Rattle.certificate_definitions.specs.CertificateNames.{weights_in}
use Rattle.certificate_definitions.specs.CertificateText.{weights_text}
use Rattle.certificate_reader.specs.Lines.{version_of}
use Rattle.certificate.specs.Evidence.{potential_of}
use Rattle.certificate.specs.Gathering.{weight_text}
use Rattle.certificate.proofs.LineTextLemmas.{added_after, then_dead_end, value_more, values_all, where_ok}
use Rattle.certificate.proofs.line_text.add_weights_at.Goals as goal

pub loop-value-preserved : goal.loop-value-preserved
loop-value-preserved c =
    let of : PotentialFunction → ℤ = λ (p : PotentialFunction). get_or p.weights c.args.place (pos 0) in
    let values = c.args.evidence.now.values.items in
    let i = c.loop-value.value-index in
    let value = c.value-item.result in
    let within : i < length values = omega (arith, c.loop-value-test.true, ap length c.deref-value-items.ensures.value) in
    let is : value ≡ get_or values i value = c.value-item.is ∙ ap (λ xs. get_or xs i value) c.deref-value-items.ensures.value in
    let enough : c.args.place < length value.weights.items = subst (λ (p : WrittenPotentials). c.args.place < length p.weights.items) (sym is) (c.requires.values i value within) in
    let number : to_z w64 (of_z w64 c.index.result.now) ≡ get_or value.weights.items c.args.place (pos 0) =
    to_z-of_z w64 c.index.result.now (search rules) ∙ get_or_read value.weights.items c.args.place c.index.result.now enough c.index.ensures (pos 0) in
    c.in_ok-add_weight.ensures ∙ ap (λ w. c.loop-value.text.items ++ weight_text w) number
    ∙ added_after c.args.text.now.items (weights_text (map of (map potential_of (take i values)))) (weight_text (of (potential_of value))) c.loop-value.text.items c.loop-value.invariant
    ∙ ap (λ bytes. c.args.text.now.items ++ bytes) (sym (value_more of values i value within is))

pub returns : goal.returns
returns c =
    let of : PotentialFunction → ℤ = λ (p : PotentialFunction). get_or p.weights c.args.place (pos 0) in
    let values = c.args.evidence.now.values.items in
    let v = version_of c.args.version in
    let past : length values ≤ c.loop-value.value-index = omega (arith, c.loop-value-test.false, ap length c.deref-value-items.ensures.value) in
    let dead_end = get_or c.args.evidence.now.dead_ends.weights.items c.args.place (pos 0) in
    let number : to_z w64 (of_z w64 c.index-2.result.now) ≡ dead_end =
    to_z-of_z w64 c.index-2.result.now (search rules) ∙ get_or_read c.args.evidence.now.dead_ends.weights.items c.args.place c.index-2.result.now c.requires.dead_ends c.index-2.ensures (pos 0) in
    where_ok c.add_dead_end_weight.result _ _ _ c.add_dead_end_weight.ensures
    (ap (λ w. c.loop-value.text.items ++ weights_text (weights_in v [] w)) number
    ∙ added_after c.args.text.now.items (weights_text (map of (map potential_of values))) (weights_text (weights_in v [] dead_end)) c.loop-value.text.items
    (c.loop-value.invariant ∙ ap (λ bytes. c.args.text.now.items ++ bytes) (values_all of values c.loop-value.value-index past))
    ∙ ap (λ bytes. c.args.text.now.items ++ bytes) (then_dead_end v (map of (map potential_of values)) dead_end))
