use Rattle.std.proofs.Common.{◌≡◌, false, drop, get_or}
use Rattle.std.specs.List.{list_all}
use Rattle.packed_state.specs.Packed.{bits_of}
use Rattle.landmarks.proofs.values.are_true.Given as goal

-- the remaining numbers decide
abbrev pub invariant-loop-number : goal.invariant-loop-number
invariant-loop-number l =
    list_all (λ number. get_or (bits_of l.state) number false) l.numbers ≡ list_all (λ number. get_or (bits_of l.state) number false) (drop l.number-index l.numbers)
