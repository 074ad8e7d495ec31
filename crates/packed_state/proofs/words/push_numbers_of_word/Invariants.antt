use Rattle.std.proofs.Common.{◌≡◌, ◌++◌}
use Rattle.packed_state.specs.Words.{numbers_of_word, BeginsWith}
use Rattle.packed_state.proofs.words.push_numbers_of_word.Given as goal

-- what was added, and what the rest has, is what the word has
abbrev pub invariant-rest : goal.invariant-rest
invariant-rest l =
    BeginsWith l.fn.into.items l.into.items
    × (l.into.items ++ numbers_of_word l.first l.rest ≡ l.fn.into.items ++ numbers_of_word l.first l.word)

abbrev pub decreases-rest : goal.decreases-rest
decreases-rest l = l.rest
