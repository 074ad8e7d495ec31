use Rattle.std.proofs.Common.{refl}
use Rattle.planner_main.proofs.ProgramWords.{text_if_named_kept}
use Rattle.planner_main.proofs.program.explaining.report_of_explain.Goals as goal

pub returns-clause-report : goal.returns-clause-report
returns-clause-report g c =
    let subject = rw (c.deref.ensures.value, c.deref-2.ensures.value, c.named.ensures.text) at c.in_ok-explanation.ensures.subject in
    let noted = rw (c.deref.ensures.value, c.deref-2.ensures.value) at c.in_ok-explanation.ensures.noted in
    let said = rw (c.deref.ensures.value, c.deref-2.ensures.value, c.named.ensures.named) at c.in_ok-explanation.ensures.said in (
      c.in_ok-explanation.explanation,
      refl,
      (
        _,
        _,
        _,
        c.in_ok-pair.ensures.domain,
        c.in_ok-pair.ensures.problem,
        text_if_named_kept _ _ c.in_ok-pair.ensures.kept _ _ c.in_ok-text.ensures.text,
        (subject, said, noted),
      ),
    )
