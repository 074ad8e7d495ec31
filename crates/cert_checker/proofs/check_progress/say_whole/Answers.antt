use Rattle.std.proofs.Common.{◌≡◌, ℕ, List, ◌∙◌, length, sym, ap, ap₂}
use Rattle.devices.specs.Progress.{nothing}
use Rattle.devices.proofs.ProgressLemmas.{said_once}
use Rattle.std.proofs.lemmas.List.{length-map}
use Rattle.task.specs.TaskParts.{atom_of}
use Rattle.certificate.specs.Certificate.{certificate_of}
use Rattle.cert_checker.specs.CheckProgress.{whole_line}
use Rattle.cert_checker.proofs.check_progress.say_whole.Goals as goal

pub returns-in-Ok : goal.returns-in-Ok
returns-in-Ok g c =
    said_once (λ (line : List ℕ). line ≡ whole_line (length (certificate_of c.args.cert.now).atoms) (length (certificate_of c.args.cert.now).lines)) g.E.Sink.may_lack_memory (g.E.Sink.failures c.args.err.now) (g.E.Sink.taken c.args.err.now) (g.E.Sink.failures c.say_line.new.err) (g.E.Sink.taken c.say_line.new.err)
    c.as_bytes.result.now (c.as_bytes.ensures.value ∙ c.in-Ok.ensures
    ∙ ap₂ whole_line (sym (length-map c.atoms.result.now atom_of) ∙ ap length c.atoms.ensures.atoms) c.line_count.ensures) c.say_line.ensures

pub returns-in_default : goal.returns-in_default
returns-in_default g c = nothing
