use Rattle.std.proofs.Common.{◌≡◌, ℕ, List, ◌∙◌}
use Rattle.devices.specs.Progress.{nothing}
use Rattle.devices.proofs.ProgressLemmas.{said_once}
use Rattle.cert_checker.specs.ReadProgress.{lines_line}
use Rattle.cert_checker.proofs.read_progress.say_lines.Goals as goal

pub returns-in-Ok : goal.returns-in-Ok
returns-in-Ok g c =
    said_once (λ (line : List ℕ). line ≡ lines_line c.args.lines) g.E.Sink.may_lack_memory (g.E.Sink.failures c.args.err.now) (g.E.Sink.taken c.args.err.now) (g.E.Sink.failures c.say_line.new.err) (g.E.Sink.taken c.say_line.new.err)
    c.as_bytes.result.now (c.as_bytes.ensures.value ∙ c.in-Ok.ensures) c.say_line.ensures

pub returns-in_default : goal.returns-in_default
returns-in_default g c = nothing
