use Rattle.std.proofs.Common.{◌≡◌, drop, map}
use Rattle.packed_state.specs.Packed.{bits_of}
use Rattle.grounding.specs.Views.{numbered_of}
use Rattle.explain_goals.specs.Settled.{allows_all}
use Rattle.explain_goals.proofs.reached.allows_all.Given as goal

-- the remaining ones decide
abbrev pub invariant-loop-literal : goal.invariant-loop-literal
invariant-loop-literal l = allows_all (bits_of l.set) (map numbered_of l.literals) ≡ allows_all (bits_of l.set) (map numbered_of (drop l.literal-index l.literals))
