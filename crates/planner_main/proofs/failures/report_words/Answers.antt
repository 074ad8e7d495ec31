use Rattle.std.proofs.Common.{inl, refl, subst, ◌∙◌}
use Rattle.devices.specs.Devices.{IsWritten}
use Rattle.planner_main.proofs.failures.report_words.Goals as goal

pub returns-in-Ok : goal.returns-in-Ok
returns-in-Ok g c =
    let (text, is) = c.in-Ok.ensures.text in
    inl (
      refl,
      c.in-Ok.ensures.words,
      (
        text,
        subst (IsWritten g.E.Sink.may_lack_memory (g.E.Sink.failures c.args.err.now) (g.E.Sink.failures c.say.new.err) (g.E.Sink.taken c.args.err.now) (g.E.Sink.taken c.say.new.err))
            (c.as_bytes.ensures.value ∙ is) c.say.ensures,
      ),
    )
