use Rattle.std.proofs.Common.{rules, ◌∙◌, ap, IsTrue}
use Rattle.file_answers.specs.Files.{text_in}
use Rattle.planner_main.specs.Progress.{IsFailedLineOf}
use Rattle.devices.specs.Progress.{nothing}
use Rattle.devices.proofs.ProgressLemmas.{said_once}
use Rattle.planner_main.proofs.program.writing.say_failed.Goals as goal

pub returns-in_default : goal.returns-in_default
returns-in_default g c = nothing

pub returns-then-not-target : goal.returns-then-not-target
returns-then-not-target g c = nothing

pub returns-in-Ok : goal.returns-in-Ok
returns-in-Ok g c =
    let asked : IsTrue c.args.target.now.progress = search rules in
    said_once (IsFailedLineOf c.args.target.now.progress (text_in c.args.target.now.name)) g.E.Sink.may_lack_memory _ _ _ _ c.as_bytes.result.now
    (asked, (c.in-Some.name.now, ap text_in c.in-Some.is, c.as_bytes.ensures.value ∙ c.in-Ok.ensures)) c.say.ensures

pub returns-in_default-failed_line : goal.returns-in_default-failed_line
returns-in_default-failed_line g c = nothing
