use Rattle.std.proofs.Common.{ℕ, List, subst}
use Rattle.file_answers.specs.SaidOf.{IsTrueLineOf}
use Rattle.devices.specs.Progress.{nothing, stream}
use Rattle.devices.proofs.ProgressLemmas.{said_of_more}
use Rattle.planner_main.proofs.program.solution.solved.Goals as goal

pub returns-then-asked-clause-progress : goal.returns-then-asked-clause-progress
returns-then-asked-clause-progress g c =
    let domain = c.args.pair.now.domain.items in
    let limits = c.args.asked.limits in
    said_of_more (λ line is. (
      c.if-asked.true,
      subst (λ (problem : List ℕ). IsTrueLineOf domain problem limits.seconds limits.states limits.instances line) c.deref-2.ensures.value
          (subst (λ (text : List ℕ). IsTrueLineOf text c.deref-2.result.now limits.seconds limits.states limits.instances line) c.deref.ensures.value is),
    )) (c.solve_files_and_say.ensures.said (stream (g.E.Sink.failures c.args.err.now) (g.E.Sink.taken c.args.err.now)) nothing)

pub returns-else-asked-clause-progress : goal.returns-else-asked-clause-progress
returns-else-asked-clause-progress g c = nothing
