use Rattle.std.proofs.Common.{[], false, refl}
use Rattle.task.specs.Task.{task_of}
use Rattle.formulas.specs.State.{state_of}
use Rattle.explain_plans.proofs.FoundLemmas.{found_none}
use Rattle.explain_plans.proofs.false_parts.Context.first_false_parts.Goals as goal

pub returns : goal.returns
returns c =
    c.in_ok-find.ensures []
    (found_none (task_of c.args.self.task.now) (state_of c.args.self.state.now) (record { parts = c.new.result; more = false }) c.new.ensures.items refl)
