use Rattle.std.proofs.Common.{ap, arith}
use Rattle.certificate_reader.specs.Words.{text_in}
use Rattle.certificate_reader.proofs.LandmarksRead.{is_share_first, no_share_alone, no_share_weight, no_share_zone}
use Rattle.certificate_reader.proofs.landmark_lines.first_share.Goals as goal

pub returns-in_default-clause-none : goal.returns-in_default-clause-none
returns-in_default-clause-none c = no_share_zone c.args.bytes.now _ _ c.first_word.ensures c.in_default.ensures.none

pub returns-in_default-following-clause-none : goal.returns-in_default-following-clause-none
returns-in_default-following-clause-none c = no_share_alone c.args.bytes.now _ _ c.first_word.ensures (ap text_in c.in_default-following.is)

pub returns-in_default-number_within-clause-none : goal.returns-in_default-number_within-clause-none
returns-in_default-number_within-clause-none c =
    no_share_weight c.args.bytes.now _ _ c.first_word.ensures c.in-Some-following.rest.now _ (ap text_in c.in-Some-following.is) _ c.first_word-2.ensures
    (λ n least most. c.in_default-number_within.ensures.none n least (omega (arith, most)))

pub returns-clause-some : goal.returns-clause-some
returns-clause-some c =
    let zone = c.in-Some.ensures.some in
    let weight = c.in-Some-number_within.ensures.some in
    is_share_first c.args.bytes.now _ _ c.first_word.ensures c.in-Some-following.rest.now _ (ap text_in c.in-Some-following.is) _ c.first_word-2.ensures
    c.in-Some.zone c.in-Some-number_within.weight zone.0 zone.2 weight.0 weight.1 (omega (arith, weight.2))
