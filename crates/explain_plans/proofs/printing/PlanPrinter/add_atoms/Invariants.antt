use Rattle.std.proofs.Common.{◌≡◌, take, ◌++◌}
use Rattle.std.specs.List.{flat_map}
use Rattle.task.specs.Task.{task_of}
use Rattle.explain_plans.specs.LentAtoms.{lent_atoms}
use Rattle.explain_plans.specs.Traces.{spaced_text}
use Rattle.explain_plans.proofs.printing.PlanPrinter.add_atoms.Given as goal

-- the atoms so far are added
abbrev pub invariant-loop-atom : goal.invariant-loop-atom
invariant-loop-atom l = l.text.items ≡ l.initial.text.items ++ flat_map (spaced_text (task_of l.self.task.now)) (lent_atoms (take l.atom-index l.atoms))
