use Rattle.std.proofs.Common.{subst}
use Rattle.grounding.specs.Ground.{task_in}
use Rattle.search_spaces.specs.SearchSpace.{ground_in}
use Rattle.solver.specs.Attempts.{IfDone}
use Rattle.solver.specs.Solver.{IsAnswerWithin}
use Rattle.solver.proofs.parts.part_after.Goals as goal

pub returns-in-Done : goal.returns-in-Done
returns-in-Done g c =
    let setting = c.args.session.now.setting in
    subst (IfDone (IsAnswerWithin (task_in (ground_in setting.space)) setting.limits)) c.in-Done.is c.requires.answer
