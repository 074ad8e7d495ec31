use Rattle.std.proofs.Common.{rules, ◌∙◌, IsTrue}
use Rattle.planner_main.proofs.SizeReported.{said_if}
use Rattle.planner_main.proofs.program.writing.say_size.Goals as goal

pub returns-clause-said : goal.returns-clause-said
returns-clause-said g c =
    let asked : IsTrue c.args.target.now.progress = search rules in
    said_if c.args.target.now.progress asked c.args.size c.as_bytes.result.now (c.as_bytes.ensures.value ∙ c.in_ok-line.ensures) g.E.Sink.may_lack_memory _ _ _ _ c.say.ensures
