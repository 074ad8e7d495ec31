use Rattle.std.proofs.Common.{◌+◌, ◌-◌, length}
use Rattle.search.proofs.bases.mark.Given as goal

abbrev pub decreases-numbers : goal.decreases-numbers
decreases-numbers l = l.number + 1 - length l.used.items
