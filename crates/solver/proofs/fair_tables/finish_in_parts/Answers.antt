use Rattle.std.proofs.Common.{ℕ, Bool, List, length, ap}
use Rattle.grounding.specs.declared.ground.Ground.{Ground}
use Rattle.grounding.specs.Ground.{task_in, atoms_in}
use Rattle.model.specs.Grounding.{ground_system}
use Rattle.model.specs.Runs.{System}
use Rattle.solver.proofs.fair_tables.finish_in_parts.Goals as goal

abbrev means : Ground → System (List Bool) ℕ
means k = ground_system (task_in k) (atoms_in k)

pub finish_with_tables-requires-clause-system : goal.finish_with_tables-requires-clause-system
finish_with_tables-requires-clause-system g c = ap means c.requires.ground

pub finish_with_tables-requires-clause-guide_width : goal.finish_with_tables-requires-clause-guide_width
finish_with_tables-requires-clause-guide_width g c = ap (λ (k : Ground). length (atoms_in k)) c.requires.ground
