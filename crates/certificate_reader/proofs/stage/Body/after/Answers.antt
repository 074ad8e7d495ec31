use Rattle.std.proofs.Common.{ap, map, refl, sym, subst, IsTrue}
use Rattle.certificate_reader.specs.Lines.{line_of, name_of, text_line_of}
use Rattle.certificate_definitions.specs.CertificateText.{is_line}
use Rattle.certificate_definitions.specs.CertificateMachine.{in_body}
use Rattle.certificate_reader.specs.Stages.{IsStep, body_of, format_of}
use Rattle.certificate_reader.proofs.stage.Body.after.Goals as goal

pub returns-in-Swap : goal.returns-in-Swap
returns-in-Swap c =
    let is = ap text_line_of c.in-Swap.is in
    subst (λ line. IsStep (in_body (body_of c.args.self)) line c.after_swap.result) (sym is)
    (c.after_swap.ensures (map name_of c.in-Swap.objects.items) (subst (λ line. IsTrue (is_line (format_of c.args.self.format) line)) is c.requires.line))

pub returns-in-Weight : goal.returns-in-Weight
returns-in-Weight c =
    let is = ap text_line_of c.in-Weight.is in
    subst (λ line. IsStep (in_body (body_of c.args.self)) line c.after_atom.result) (sym is)
    (c.after_atom.ensures (record { weights = c.in-Weight.weights.items; atom = record { predicate = name_of c.in-Weight.predicate; objects = map name_of c.in-Weight.objects.items } })
    (subst (λ line. IsTrue (is_line (format_of c.args.self.format) line)) is c.requires.line))

pub returns-in-Part : goal.returns-in-Part
returns-in-Part c =
    let is = ap text_line_of c.in-Part.is in
    subst (λ line. IsStep (in_body (body_of c.args.self)) line c.after_part.result) (sym is) c.after_part.ensures

pub returns-in-Listed : goal.returns-in-Listed
returns-in-Listed c =
    let is = ap text_line_of c.in-Listed.is in
    subst (λ line. IsStep (in_body (body_of c.args.self)) line c.after_state.result) (sym is)
    (c.after_state.ensures (line_of c.in-Listed.line) refl (subst (λ line. IsTrue (is_line (format_of c.args.self.format) line)) is c.requires.line))
