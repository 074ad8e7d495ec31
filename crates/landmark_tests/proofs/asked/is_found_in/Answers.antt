use Rattle.std.proofs.Common.{◌∙◌, [], ap, sym}
use Rattle.model.specs.Task.{Task}
use Rattle.model.specs.NumberedAtoms.{numbered_atoms}
use Rattle.guides.proofs.GuideLemmas.{all_numbered}
use Rattle.landmark_tests.proofs.asked.is_found_in.Goals as goal

pub is_found-requires : goal.is_found-requires
is_found-requires c =
    let made = c.in_ok-ground.ensures.ground_task in
    all_numbered c.in_ok-ground.ground [] (made.atoms ∙ ap (λ (t : Task). numbered_atoms t []) (sym made.task))
