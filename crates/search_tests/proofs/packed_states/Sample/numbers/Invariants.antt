use Rattle.std.specs.Prelude.{◌<◌}
use Rattle.std.specs.List.{All}
use Rattle.search_tests.proofs.packed_states.Sample.numbers.Given as goal

-- the numbers so far are below the width
abbrev pub invariant-loop-number : goal.invariant-loop-number
invariant-loop-number l = All (λ n. n < l.width) l.numbers.items
