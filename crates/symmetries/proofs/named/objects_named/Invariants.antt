use Rattle.std.proofs.Common.{◌≡◌, map, take}
use Rattle.std.specs.List.{flat_map}
use Rattle.formulas.specs.MentionViews.{mention_of}
use Rattle.task.specs.TaskParts.{object_of}
use Rattle.symmetries.specs.Named.{named_by}
use Rattle.symmetries.proofs.named.objects_named.Given as goal

-- the objects that the mentions so far name
abbrev pub invariant-loop-mention : goal.invariant-loop-mention
invariant-loop-mention l = map object_of l.found.items ≡ flat_map (λ one. named_by (mention_of one)) (take l.mention-index l.mentions)
