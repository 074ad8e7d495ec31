use Rattle.std.proofs.Common.{◌≡◌, take}
use Rattle.std.specs.List.{flat_map}
use Rattle.task.specs.TaskParts.{formula_of}
use Rattle.explain_tasks.specs.Forms.{added, forms_in}
use Rattle.explain_tasks.proofs.forms.Forms.+look.Given as goal

-- what the parts so far give is added
abbrev pub invariant-look_at_each-loop-part : goal.invariant-look_at_each-loop-part
invariant-look_at_each-loop-part l = l.self ≡ added l.initial.self (flat_map (λ part. forms_in (formula_of part)) (take l.part-index l.parts))
