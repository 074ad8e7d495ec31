use Rattle.std.proofs.Common.{◌∙◌, [], ap, sym}
use Rattle.model.specs.Task.{Task}
use Rattle.model.specs.NumberedAtoms.{numbered_atoms}
use Rattle.guides.proofs.GuideLemmas.{all_numbered}
use Rattle.landmark_tests.proofs.asked.left_in.Goals as goal

pub left-requires : goal.left-requires
left-requires c =
    let made = c.in_ok-ground.ensures.ground_task in
    all_numbered c.in_ok-ground.ground [] (made.atoms ∙ ap (λ (t : Task). numbered_atoms t []) (sym made.task))
