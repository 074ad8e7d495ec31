use Rattle.std.proofs.Common.{rules, ◌≡◌, ◌++◌, ◌∷◌, [], map, true, false}
use Rattle.std.specs.Prelude.{is_some}
use Rattle.task.specs.Task.{task_of}
use Rattle.formulas.specs.State as view
use Rattle.plan_file.specs.PlanFile.{step_of}
use Rattle.plan_file.proofs.ReadSoFar.{none_taken, instance_taken}
use Rattle.plan_file.proofs.steps.Meaning.take.Goals as goal

pub returns-then-is_some : goal.returns-then-is_some
returns-then-is_some c = λ steps mean.
    let refused : is_some c.args.self.now.refusal ≡ true = search rules in
    none_taken (task_of c.args.task.now) steps (step_of c.args.action c.args.objects.now) c.args.self.now.refusal refused (map view.instance_of c.args.self.now.instances.items) mean

pub returns-in_ok-push-in-Ok : goal.returns-in_ok-push-in-Ok
returns-in_ok-push-in-Ok c = λ steps mean.
    let unrefused : is_some c.args.self.now.refusal ≡ false = search rules in
    let more : c.push.new.self.items ≡ c.args.self.now.instances.items ++ c.in-Ok.instance ∷ [] = search rules in
    instance_taken (task_of c.args.task.now) steps (step_of c.args.action c.args.objects.now) view.instance_of c.args.self.now.instances.items c.push.new.self.items c.in-Ok.instance more
    c.args.self.now.refusal unrefused mean c.in-Ok.ensures.means
