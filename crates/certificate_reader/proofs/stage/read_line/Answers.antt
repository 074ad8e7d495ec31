use Rattle.std.proofs.Common.{◌≢◌, rules, subst, IsTrue}
use Rattle.certificate_reader.specs.declared.fault.NextFault.TheVariants.{Text}
use Rattle.certificate_reader.specs.declared.fault.TextFault.TheVariants.{Version}
use Rattle.certificate_reader.specs.Lines.{text_line_of}
use Rattle.certificate_definitions.specs.CertificateText.{is_line}
use Rattle.certificate_reader.specs.Stages.{format_of, place_of}
use Rattle.certificate_reader.proofs.PlaceRead.{reported_after, reported_at}
use Rattle.certificate_reader.proofs.stage.read_line.Goals.{in_default-via-in-Text+in_default, in_default-via-in_default}
use Rattle.certificate_reader.proofs.stage.read_line.Goals as goal

pub returns-in-Err-after : goal.returns-in-Err-after
returns-in-Err-after c =
    reported_after (place_of c.args.stage) c.requires.within (text_line_of c.in-Ok.line)
    (subst (λ f. IsTrue (is_line f (text_line_of c.in-Ok.line))) c.format.ensures c.in-Ok.ensures.1) c.args.bytes.now c.in-Ok.ensures.0
    c.in-Err-after.fault c.in-Err-after.ensures

pub returns-in_default : goal.returns-in_default
returns-in_default c =
    let not_other : c.in-Err.fault ≢ Text Version = elim c.in_default.branch [ in_default-via-in-Text+in_default w ↦ search rules | in_default-via-in_default w ↦ search rules ] in
    reported_at (place_of c.args.stage) c.requires.within c.args.bytes.now (format_of c.format.result) c.format.ensures c.in-Err.fault not_other
    c.in-Err.ensures
