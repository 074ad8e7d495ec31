use Rattle.std.proofs.Common.{◌∙◌, ◌++◌, ap, codes}
use Rattle.certificate_reader.specs.Lines.{claim_of, version_of}
use Rattle.certificate_definitions.specs.CertificateText.{claims, line_text, weights_text}
use Rattle.certificate.specs.Evidence.{evidence_of, constants_in}
use Rattle.certificate.proofs.LineTextLemmas.{where_added, head_text}
use Rattle.certificate.proofs.line_text.add_head.Goals as goal

pub returns : goal.returns
returns c =
    let constants = constants_in (version_of c.args.version) (evidence_of c.args.evidence.now) in
    where_added c.extend_from_slice-3.result _ _ (codes "\n") _ c.extend_from_slice-3.ensures.items
    (ap (λ xs. xs ++ codes "\n")
    (c.in_ok-add_constants.ensures
    ∙ ap (λ xs. xs ++ weights_text constants)
    (c.in_ok-extend_from_slice-2.ensures.items
    ∙ ap (λ xs. xs ++ codes "\nconstant")
    (c.in_ok-add_claim.ensures
    ∙ ap (λ xs. xs ++ line_text (claims (claim_of c.args.claim))) (c.in_ok-extend_from_slice.ensures.items ∙ ap (λ xs. c.args.text.now.items ++ xs) c.version_line.ensures))))
    ∙ head_text c.args.text.now.items (version_of c.args.version) (claim_of c.args.claim) constants)
