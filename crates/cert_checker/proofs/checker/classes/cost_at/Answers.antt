use Rattle.std.proofs.Common.{◌∙◌, ◌<◌, Some, ap, get_or, length, arith}
use Rattle.std.proofs.lemmas.Option.{slice_get-get_or}
use Rattle.certificate.specs.Certificate.{certificate_of}
use Rattle.certificate_reader.specs.declared.line.Mark.TheVariants.{Expanded}
use Rattle.certificate_definitions.specs.Certificates.{StateLine}
use Rattle.cert_checker.proofs.CertCheckerLemmas.{slice_get-map}
use Rattle.cert_checker.proofs.RefusalsLemmas.{as_many_marks, has_cost}
use Rattle.cert_checker.proofs.checker.classes.cost_at.Goals as goal

pub returns : goal.returns
returns c =
    let cert = certificate_of c.args.cert.now in
    let marks = c.marks.result.now in
    let listed = get_or marks c.args.place (record { cost = 0; mark = Expanded }) in
    let within : c.args.place < length marks = omega (arith, c.requires, as_many_marks cert marks c.marks.ensures.marks) in
    let (l, at, cost_is, mark_is) = has_cost cert marks c.args.place listed c.marks.ensures.marks (slice_get-get_or marks c.args.place (record { cost = 0; mark = Expanded }) within) in
    slice_get-map (λ (l : StateLine). l.cost) cert.lines c.args.place l at ∙ ap Some cost_is
