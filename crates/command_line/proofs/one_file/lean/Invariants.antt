use Rattle.std.proofs.Common.{◌≡◌, ◌++◌, length}
use Rattle.std.specs.Prelude.{replicate, reverse}
use Rattle.std.specs.Path.{components_remaining, parent_dir}
use Rattle.command_line.specs.OneFile.{lean, leave_out}
use Rattle.command_line.specs.View.{texts}
use Rattle.command_line.proofs.one_file.lean.Given as goal

abbrev pub invariant-components : goal.invariant-components
invariant-components l = texts l.parts.items ++ leave_out (length l.up.items) (reverse (components_remaining l.rest)) ≡ lean l.path

abbrev pub decreases-components : goal.decreases-components
decreases-components l = length (components_remaining l.rest)

abbrev pub invariant-left : goal.invariant-left
invariant-left l = texts l.parts.items ++ replicate (length l.up.items) parent_dir ≡ lean l.path

abbrev pub decreases-left : goal.decreases-left
decreases-left l = length l.up.items
