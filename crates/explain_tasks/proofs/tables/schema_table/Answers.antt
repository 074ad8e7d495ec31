use Rattle.std.proofs.Common.{[], ap}
use Rattle.formulas.specs.Marks.{is_marked}
use Rattle.formulas.proofs.FluentMarks.{marks_all, marks_more, table_of}
use Rattle.formulas.specs.State.{instance_of}
use Rattle.explain_tasks.specs.Unused.{is_of_schema}
use Rattle.explain_tasks.proofs.tables.schema_table.Goals as goal

pub loop-instance-init : goal.loop-instance-init
loop-instance-init c = λ n. ap (λ l. is_marked l n) c.new-table.ensures.items

pub loop-instance-preserved : goal.loop-instance-preserved
loop-instance-preserved c =
    marks_more (λ n one. is_of_schema n (instance_of one)) c.args.instances.now c.loop-instance.instance-index []
    c.instance-item.result c.loop-instance.table.items c.mark.new.table.items c.loop-instance-test.true c.instance-item.is c.loop-instance.invariant c.in_ok-mark.ensures

pub returns : goal.returns
returns c =
    table_of is_of_schema instance_of c.args.instances.now c.loop-instance.table.items
    (marks_all (λ n one. is_of_schema n (instance_of one)) c.args.instances.now c.loop-instance.instance-index [] c.loop-instance.table.items c.loop-instance-test.false c.loop-instance.invariant)
