use Rattle.std.proofs.Common.{ℕ, Bool, List, length, ap}
use Rattle.grounding.specs.declared.ground.Ground.{Ground}
use Rattle.grounding.specs.Ground.{task_in, atoms_in}
use Rattle.model.specs.Grounding.{ground_system}
use Rattle.model.specs.Runs.{System}
use Rattle.solver.proofs.fair_tables.search_or_ask.Goals as goal

abbrev means : Ground → System (List Bool) ℕ
means k = ground_system (task_in k) (atoms_in k)

pub begin_by-requires : goal.begin_by-requires
begin_by-requires g c = ap (λ (k : Ground). length (atoms_in k)) c.requires.ground

pub go_on_by-requires-clause-system : goal.go_on_by-requires-clause-system
go_on_by-requires-clause-system g c = ap means c.requires.ground

pub go_on_by-requires-clause-width : goal.go_on_by-requires-clause-width
go_on_by-requires-clause-width g c = ap (λ (k : Ground). length (atoms_in k)) c.requires.ground

-- what was said on the way to the pause, and after it
pub returns-in-Paused-clause-said : goal.returns-in-Paused-clause-said
returns-in-Paused-clause-said g c = λ origin said. c.finish_or_ask.ensures.said origin (c.go_on_by.ensures.said origin said)
