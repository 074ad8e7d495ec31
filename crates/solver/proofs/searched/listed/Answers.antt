use Rattle.solver.proofs.FoundLines.{expanded_listed, dead_listed, waiting_listed}
use Rattle.solver.proofs.searched.listed.Goals as goal

pub returns-in-Expanded : goal.returns-in-Expanded
returns-in-Expanded c = λ value is_dead s marked is. expanded_listed value is_dead s c.args.node c.in-Expanded.is

pub returns-in-Dead : goal.returns-in-Dead
returns-in-Dead c = λ value is_dead s marked is. dead_listed value is_dead s c.args.node c.in-Dead.is marked

pub returns-in-Unexpanded : goal.returns-in-Unexpanded
returns-in-Unexpanded c = λ value is_dead s marked is. waiting_listed value is_dead s c.args.node c.args.estimate c.in-Unexpanded.is marked is
