use Rattle.std.proofs.Common.{◌≡◌, true, take}
use Rattle.std.specs.List.{list_all}
use Rattle.packed_state.specs.Packed.{bits_of}
use Rattle.grounding_instances.specs.Numbers.{numbered_of}
use Rattle.model.specs.NumberedLiterals.{agrees}
use Rattle.grounding.proofs.condition.all_agree.Given as goal

-- the literals so far are true
abbrev pub invariant-loop-literal : goal.invariant-loop-literal
invariant-loop-literal l = list_all (λ literal. agrees (bits_of l.state) (numbered_of literal)) (take l.literal-index l.literals) ≡ true
