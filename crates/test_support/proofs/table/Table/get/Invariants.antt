use Rattle.std.proofs.Common.{◌≡◌, drop}
use Rattle.test_support.specs.Table.{contents_of}
use Rattle.test_support.proofs.table.Table.get.Given as goal

-- the first file with this name is not among those so far
abbrev pub invariant-loop-entry : goal.invariant-loop-entry
invariant-loop-entry l = contents_of l.self.entries.items l.name ≡ contents_of (drop l.entry-index l.self.entries.items) l.name
