use Rattle.std.proofs.Common.{rules, ◌≡◌, ap, sym, ◌∙◌}
use Rattle.std.specs.Fmt.{signed_decimal}
use Rattle.std.specs.Int.{w64}
use Rattle.std.specs.Str.{bytes_eq}
use Rattle.std.proofs.lemmas.Int.{to_z-of_z}
use Rattle.certificate_definitions.specs.Certificates.{is_weight}
use Rattle.certificate_reader.proofs.NumberLemmas.{weight_is_text, weight_is_read, weight_is_spelled_so}
use Rattle.certificate_reader.proofs.number.weight.Goals as goal
use Rattle.certificate_reader.proofs.number.weight.Goals.{else-is_weight-via-then-is_weight+else-is_weight_spelled, else-is_weight-via-else-is_weight}

pub returns-in_default-clause-none : goal.returns-in_default-clause-none
returns-in_default-clause-none c = λ w is same. c.in_default.ensures.cases.0 (weight_is_text w is c.args.word.now same)

pub returns-in_default-parse-clause-none : goal.returns-in_default-parse-clause-none
returns-in_default-parse-clause-none c = λ w is same.
    absurd (cc (c.in_default-parse.is, weight_is_read w is c.in-Ok.text.now c.parse.result (same ∙ sym c.in-Ok.ensures.cases.0) c.parse.ensures.value.0))

pub returns-else-is_weight-clause-none : goal.returns-else-is_weight-clause-none
returns-else-is_weight-clause-none c = λ w is same.
    let read = weight_is_read w is c.in-Ok.text.now c.parse.result (same ∙ sym c.in-Ok.ensures.cases.0) c.parse.ensures.value.0 in
    let weight_is : c.in-Ok-parse.weight ≡ w = cc (c.in-Ok-parse.is, read) in
    elim c.else-is_weight.branch [
      | else-is_weight-via-then-is_weight+else-is_weight_spelled b ↦
          weight_is_spelled_so w is c.args.word.now c.in-Ok-parse.weight weight_is (ap (λ z. bytes_eq (signed_decimal z) c.args.word.now) (sym (to_z-of_z w64 c.in-Ok-parse.weight (search rules))) ∙ sym b.is_weight_spelled.ensures ∙ b.if-is_weight_spelled.false) same
      | else-is_weight-via-else-is_weight b ↦ absurd (cc (sym b.if-is_weight.false ∙ c.is_weight.ensures ∙ ap is_weight (to_z-of_z w64 c.in-Ok-parse.weight (search rules) ∙ weight_is) ∙ is))
    ]
