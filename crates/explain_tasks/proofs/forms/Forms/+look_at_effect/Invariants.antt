use Rattle.std.proofs.Common.{◌≡◌, take}
use Rattle.std.specs.List.{flat_map}
use Rattle.task.specs.TaskParts.{effect_of}
use Rattle.explain_tasks.specs.Forms.{added, forms_in_effect}
use Rattle.explain_tasks.proofs.forms.Forms.+look_at_effect.Given as goal

-- what the parts so far give is added
abbrev pub invariant-loop-part : goal.invariant-loop-part
invariant-loop-part l = l.self ≡ added l.initial.self (flat_map (λ part. forms_in_effect (effect_of part)) (take l.part-index l.part-items))
