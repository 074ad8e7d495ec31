use Rattle.std.proofs.Common.{◌∙◌, ap}
use Rattle.formulas.specs.Marks.{is_marked}
use Rattle.formulas.proofs.FluentMarks.{longer}
use Rattle.formulas.proofs.marks.mark.Goals as goal

pub loop-table-preserved : goal.loop-table-preserved
loop-table-preserved c = λ n. ap (λ l. is_marked l n) c.in_ok-push.ensures.items ∙ longer c.loop-table.table.items n ∙ c.loop-table.invariant n
