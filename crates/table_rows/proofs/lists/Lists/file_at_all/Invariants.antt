use Rattle.std.proofs.Common.{take}
use Rattle.table_rows.specs.Lists.{IsFiledAt}
use Rattle.table_rows.proofs.lists.Lists.file_at_all.Given as goal

abbrev pub invariant-loop-place : goal.invariant-loop-place
invariant-loop-place l = IsFiledAt (take l.place-index l.places) l.number l.initial.self l.self
