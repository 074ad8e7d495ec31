use Rattle.packed_state.specs.Packed.{bits_of}
use Rattle.symmetries.proofs.Kept.{IsOnTheWay}
use Rattle.symmetries.proofs.representatives.Representatives.represent.Given as goal

abbrev pub invariant-rounds : goal.invariant-rounds
invariant-rounds l = IsOnTheWay l.self (bits_of l.initial.state) l.count l.counter 0 (bits_of l.state) l.next

abbrev pub invariant-images : goal.invariant-images
invariant-images l = IsOnTheWay l.self (bits_of l.fn.state) l.count l.counter-2 l.counter (bits_of l.state) l.next
