use Rattle.std.proofs.Common.{◌≡◌, take}
use Rattle.formulas.proofs.instance.copied.Given as goal

-- the copy has the objects so far
abbrev pub invariant-loop-object : goal.invariant-loop-object
invariant-loop-object l = l.copy.items ≡ take l.object-index l.object-items
