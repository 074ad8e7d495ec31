use Rattle.std.proofs.Common.{◌≡◌, drop}
use Rattle.test_support.specs.Table.{contents_of, reads_before_of}
use Rattle.test_support.proofs.table.TableFiles.open.Given as goal

-- the first file with this name is not among those so far
abbrev pub invariant-loop-entry : goal.invariant-loop-entry
invariant-loop-entry l =
    (contents_of l.fn.self.entries.items l.name ≡ contents_of (drop l.entry-index l.fn.self.entries.items) l.name)
    × (reads_before_of l.fn.self.entries.items l.name ≡ reads_before_of (drop l.entry-index l.fn.self.entries.items) l.name)
