use Rattle.std.proofs.Common.{rules, ◌≡◌, ◌+◌, ◌<◌, ◌≤◌, suc, length, map, ◌++◌, ◌∷◌, [], ap, ◌∙◌, arith}
use Rattle.std.specs.Int.{w64}
use Rattle.std.proofs.lemmas.Int.{to_z-of_z}
use Rattle.std.proofs.lemmas.List.{length-map}
use Rattle.table_rows.specs.Tables.{table_of}
use Rattle.certificate_definitions.specs.CertificateNames.{weight_said}
use Rattle.certificate.specs.Evidence.{potential_of}
use Rattle.cert_checker.specs.Given.{push_at}
use Rattle.cert_checker.proofs.HeaderLemmas.{length-pushed, pushed_all, pushed_more, pushed_to}
use Rattle.cert_checker.proofs.header.take_weights.Goals as goal

pub push_weight-requires : goal.push_weight-requires
push_weight-requires c =
    let before = c.args.evidence.now.values.items in
    omega (
      arith,
      length-map c.loop-place.evidence.values.items potential_of,
      ap length c.loop-place.invariant.values,
      length-pushed 0 c.loop-place.place c.args.weights.now (map potential_of before),
      length-map before potential_of,
      c.len-count.ensures,
      c.loop-place-test.true,
    )

pub loop-place-preserved : goal.loop-place-preserved
loop-place-preserved c =
    let before = c.args.evidence.now.values.items in
    let place = c.loop-place.place in
    let weights = c.args.weights.now in
    let next : suc place ≡ place + 1 = omega arith in
    let from_0 : place ≡ 0 + place = omega arith in
    let below : place < length (map potential_of before) = omega (arith, length-map before potential_of, c.len-count.ensures, c.loop-place-test.true) in
    record {
      values =
          c.in_ok-push_weight.ensures
          ∙ (λ i. push_at place (((to_z-of_z w64 c.weight_at.result (search rules)) ∙ c.weight_at.ensures) i) (c.loop-place.invariant.values i))
          ∙ ap (λ n. push_at place (weight_said n weights) (pushed_to 0 place weights (map potential_of before))) from_0
          ∙ pushed_more 0 place weights (map potential_of before) below
          ∙ ap (λ n. pushed_to 0 n weights (map potential_of before)) next;
      dead_ends = c.loop-place.invariant.dead_ends;
      tables = c.loop-place.invariant.tables;
      landmarks = c.loop-place.invariant.landmarks;
    }

pub returns-clause-taken : goal.returns-clause-taken
returns-clause-taken c =
    let before = c.args.evidence.now.values.items in
    let weights = c.args.weights.now in
    let place = c.loop-place.place in
    let many = length-map before potential_of in
    let past : length (map potential_of before) ≤ place = omega (arith, many, c.len-count.ensures, c.loop-place-test.false) in
    let count_is : c.len-count.result ≡ length (map potential_of before) = omega (arith, many, c.len-count.ensures) in
    let values_are = c.loop-place.invariant.values ∙ pushed_all 0 place weights (map potential_of before) past in
    let weight_is = to_z-of_z w64 c.weight_at-2.result (search rules) ∙ c.weight_at-2.ensures ∙ ap (λ n. weight_said n weights) count_is in
    let dead_weights = c.in_ok-push.ensures.items ∙ (λ i. (c.loop-place.invariant.dead_ends i).weights.items ++ weight_is i ∷ []) in
    λ i. record {
      values = values_are i;
      dead_ends = record { constant = (c.loop-place.invariant.dead_ends i).constant; weights = dead_weights i };
      tables = map table_of (c.loop-place.invariant.tables i).items;
    }
