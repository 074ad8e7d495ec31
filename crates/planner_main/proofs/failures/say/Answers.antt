use Rattle.planner_main.proofs.ProgramWords.{written_by}
use Rattle.planner_main.proofs.failures.say.Goals as goal

pub returns : goal.returns
returns g c = written_by _ _ _ _ _ _ c.write_all.result c.write_all.ensures.ok c.write_all.ensures.beginning c.write_all.ensures.failures c.write_all.ensures.memory
