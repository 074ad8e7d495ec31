use Rattle.line_evidence.proofs.RoleLemmas.{expanded_role, dead_role, waiting_role}
use Rattle.line_evidence.proofs.marked.listed.Goals as goal

pub returns-in-Expanded : goal.returns-in-Expanded
returns-in-Expanded c = λ value is_dead s marked is. expanded_role value is_dead s c.args.node c.in-Expanded.is

pub returns-in-Dead : goal.returns-in-Dead
returns-in-Dead c = λ value is_dead s marked is. dead_role value is_dead s c.args.node c.in-Dead.is marked

pub returns-in-Unexpanded : goal.returns-in-Unexpanded
returns-in-Unexpanded c = λ value is_dead s marked is. waiting_role value is_dead s c.args.node c.args.estimate c.in-Unexpanded.is marked is
