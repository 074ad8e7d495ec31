use Rattle.std.proofs.Common.{take, []}
use Rattle.std.specs.List.{list_any}
use Rattle.formulas.specs.Marks.{Marks}
use Rattle.formulas.specs.State.{instance_of}
use Rattle.explain_tasks.specs.Unused.{is_of_schema}
use Rattle.explain_tasks.proofs.tables.schema_table.Given as goal

-- what the instances so far give is marked
abbrev pub invariant-loop-instance : goal.invariant-loop-instance
invariant-loop-instance l = Marks (λ n. list_any (λ one. is_of_schema n (instance_of one)) (take l.instance-index l.instances)) [] l.table.items
