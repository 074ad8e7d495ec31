use Rattle.std.proofs.Common.{◌≡◌, true, take}
use Rattle.std.specs.List.{list_all}
use Rattle.task.specs.TaskParts.{formula_of}
use Rattle.grounding.specs.Outright as outright
use Rattle.grounding.proofs.outright.+outright.Given as goal

-- the parts so far are built so
abbrev pub invariant-are_outright-loop-part : goal.invariant-are_outright-loop-part
invariant-are_outright-loop-part l = list_all (λ part. outright.is_outright (formula_of part)) (take l.part-index l.parts) ≡ true
