use Rattle.std.proofs.Common.{◌≡◌, true, take}
use Rattle.std.specs.List.{list_all}
use Rattle.packed_state.specs.Packed.{bits_of}
use Rattle.table_rows.specs.Placed.{placed_of, is_so}
use Rattle.table_rows.proofs.placed.all_are_so.Given as goal

-- the literals so far are true
abbrev pub invariant-loop-literal : goal.invariant-loop-literal
invariant-loop-literal l = list_all (λ literal. is_so (bits_of l.set) (placed_of literal)) (take l.literal-index l.literals) ≡ true
