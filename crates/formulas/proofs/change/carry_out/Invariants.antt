use Rattle.std.proofs.Common.{◌≡◌, map, take}
use Rattle.formulas.specs.State.{state_of}
use Rattle.formulas.specs.Changes.{after_pass}
use Rattle.formulas.specs.Effects.{lent_literal}
use Rattle.formulas.proofs.change.carry_out.Given as goal

-- the literals so far have taken effect
abbrev pub invariant-loop-literal : goal.invariant-loop-literal
invariant-loop-literal l = state_of l.next ≡ after_pass l.pass (state_of l.initial.next) (map lent_literal (take l.literal-index l.literals))
