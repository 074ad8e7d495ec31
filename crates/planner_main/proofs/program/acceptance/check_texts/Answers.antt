use Rattle.std.proofs.Common.{refl, sym, ◌∙◌}
use Rattle.task.specs.Task.{task_of}
use Rattle.devices.specs.Texts.{items_in}
use Rattle.planner_main.proofs.CertificateReported.{checked_in, fails_as_counted, reported_unfailed}
use Rattle.planner_main.proofs.program.acceptance.check_texts.Goals as goal

pub returns-in-None-clause-report : goal.returns-in-None-clause-report
returns-in-None-clause-report g c = λ known kept.
    let checked = c.in_ok-checked.checked in (
      checked,
      refl,
      checked_in g.R.Source.remaining (task_of checked.task) c.args.cert.now c.checked.new.cert known kept
          c.args.texts.now.pair.domain.items c.args.texts.now.pair.problem.items (items_in c.args.texts.now.plan) c.args.texts.now.asked.instances checked.answer
          c.in_ok-checked.ensures.task c.in_ok-checked.ensures.answer (sym c.failure_of.ensures ∙ c.in-None.is),
    )

pub returns-in-None-clause-unfailed : goal.returns-in-None-clause-unfailed
returns-in-None-clause-unfailed g c = reported_unfailed c.in_ok-checked.checked.answer _ _ c.in_ok-checked.ensures.failures (sym c.failure_of.ensures ∙ c.in-None.is)

pub returns-in-Some-clause-failures : goal.returns-in-Some-clause-failures
returns-in-Some-clause-failures g c = fails_as_counted c.in_ok-checked.checked.answer _ _ c.in_ok-checked.ensures.failures c.in-Some.fault (sym c.failure_of.ensures ∙ c.in-Some.is)
