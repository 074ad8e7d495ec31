use Rattle.std.proofs.Common.{◌∙◌, sym}
use Rattle.tables.proofs.tables.IndexedTables.first_standing.Goals as goal

pub returns-then-branch : goal.returns-then-branch
returns-then-branch c = λ i at. sym (c.in_ok-is_instance_shut_out.ensures i at) ∙ c.if-branch.true

pub returns-else-branch : goal.returns-else-branch
returns-else-branch c = λ i at. sym (c.in_ok-is_instance_shut_out.ensures i at) ∙ c.if-branch.false
