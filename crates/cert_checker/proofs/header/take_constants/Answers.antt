use Rattle.std.proofs.Common.{rules, ◌≡◌, ◌+◌, suc, map, ◌++◌, ◌∷◌, [], sym, ap, ◌∙◌, append_assoc, arith}
use Rattle.std.specs.Int.{w64}
use Rattle.std.specs.List.{range_with_len}
use Rattle.std.proofs.lemmas.Int.{to_z-of_z}
use Rattle.std.proofs.lemmas.List.{map-append}
use Rattle.certificate.specs.Evidence.{potential_of}
use Rattle.cert_checker.specs.Given.{value_given}
use Rattle.cert_checker.proofs.HeaderLemmas.{begun_more}
use Rattle.cert_checker.proofs.header.take_constants.Goals as goal

pub loop-place-preserved : goal.loop-place-preserved
loop-place-preserved c =
    let before = map potential_of c.args.evidence.now.values.items in
    let place = c.loop-place.place in
    let constants = c.args.constants.now in
    let next : suc place ≡ place + 1 = omega arith in
    let from_0 : place ≡ 0 + place = omega arith in
    let constant_is = to_z-of_z w64 c.weight_at.result (search rules) ∙ c.weight_at.ensures in
    record {
      values =
          ap (map potential_of) c.in_ok-push.ensures.items
          ∙ map-append potential_of c.loop-place.evidence.values.items (c.of_no_atoms-value.result ∷ [])
          ∙ (λ i. c.loop-place.invariant.values i ++ (c.of_no_atoms-value.ensures ∙ (λ j. record { constant = constant_is j; weights = [] })) i ∷ [])
          ∙ append_assoc before (map (value_given constants []) (range_with_len 0 place)) (value_given constants [] place ∷ [])
          ∙ ap (λ n. before ++ (map (value_given constants []) (range_with_len 0 place) ++ value_given constants [] n ∷ [])) from_0
          ∙ ap (λ more. before ++ more) (sym (begun_more constants 0 place))
          ∙ ap (λ n. before ++ map (value_given constants []) (range_with_len 0 n)) next;
      dead_ends = c.loop-place.invariant.dead_ends;
      tables = c.loop-place.invariant.tables;
      landmarks = c.loop-place.invariant.landmarks;
    }
