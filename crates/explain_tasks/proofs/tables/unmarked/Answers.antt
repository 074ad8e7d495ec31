use Rattle.formulas.specs.Marks.{is_marked}
use Rattle.explain_tasks.proofs.TableLemmas.{without_more}
use Rattle.explain_tasks.proofs.tables.unmarked.Goals as goal

pub loop-number-preserved : goal.loop-number-preserved
loop-number-preserved c =
    without_more (is_marked c.args.table.now) c.loop-number.number c.loop-number.found.items c.add_if_unmarked.new.found.items c.in_ok-add_if_unmarked.ensures c.loop-number.invariant
