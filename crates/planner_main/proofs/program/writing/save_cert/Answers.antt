use Rattle.std.proofs.Common.{◌∙◌, inl, sym}
use Rattle.std.specs.Option.{option_map}
use Rattle.file_answers.specs.Files.{text_in}
use Rattle.devices.specs.Progress.{nothing, stream}
use Rattle.devices.proofs.ProgressLemmas.{said_of_more}
use Rattle.planner_main.proofs.SizeReported.{size_said}
use Rattle.planner_main.proofs.program.writing.save_cert.Goals as goal

pub returns-in-Ok-Some-clause-progress : goal.returns-in-Ok-Some-clause-progress
returns-in-Ok-Some-clause-progress g c =
    size_said c.args.target.now.progress (text_in c.args.target.now.name) (option_map g.D.Document.text c.args.document.now) c.in-Ok-Some.size (sym c.in-Ok-Some.field-0-is ∙ c.in-Ok-Some.ensures.counted) g.E.Sink.may_lack_memory
    (stream (g.E.Sink.failures c.args.err.now) (g.E.Sink.taken c.args.err.now)) (stream (g.E.Sink.failures c.say_size.new.err) (g.E.Sink.taken c.say_size.new.err))
    c.say_size.result c.say_size.ensures.said c.say_size.ensures.quiet

pub returns-in-Ok-None-clause-progress : goal.returns-in-Ok-None-clause-progress
returns-in-Ok-None-clause-progress g c = nothing

pub returns-in-Err-clause-progress : goal.returns-in-Err-clause-progress
returns-in-Err-clause-progress g c = said_of_more (λ line is. inl is) c.say_failed.ensures
