use Rattle.std.proofs.Common.{◌≡◌, ◌*◌, ◌++◌}
use Rattle.std.specs.List.{filter, range_with_len}
use Rattle.packed_state.specs.Words.{word_has, BeginsWith}
use Rattle.packed_state.proofs.words.push_numbers.Given as goal

abbrev pub invariant-words : goal.invariant-words
invariant-words l =
    BeginsWith l.fn.into.items l.into.items
    × (l.into.items ≡ l.fn.into.items ++ filter (word_has l.words) (range_with_len 0 (64 * l.place)))
