use Rattle.std.proofs.Common.{◌≡◌, Option, sym, subst}
use Rattle.std.specs.Prelude.{IfSome}
use Rattle.grounding.specs.Ground.{task_in, atoms_in}
use Rattle.search_spaces.specs.SearchSpace.{ground_in}
use Rattle.potentials.specs.Potentials.{potentials_of}
use Rattle.solver.specs.Improved.{AreDeadSettledOrHigh}
use Rattle.solver.specs.declared.by_tables.Draft.{Draft}
use Rattle.solver.proofs.by_landmarks.solve_within.Goals as goal

pub answer_asking-requires-clause-dead_ends_improved : goal.answer_asking-requires-clause-dead_ends_improved
answer_asking-requires-clause-dead_ends_improved g c =
    let known = ground_in c.args.setting.space in
    let given = subst (λ (o : Option Draft). IfSome o (λ (d : Draft). potentials_of d.dead_ends ≡ potentials_of c.args.stopped.now.dead_ends.now)) c.in-Some.is c.in_ok-draft.ensures.given_dead_ends in
    subst (AreDeadSettledOrHigh (task_in known) (atoms_in known)) (sym given) c.requires.dead_ends_improved
