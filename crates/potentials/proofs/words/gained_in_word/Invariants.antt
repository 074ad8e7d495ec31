use Rattle.std.proofs.Common.{◌≡◌, ◌+ℤ◌}
use Rattle.potentials.specs.Words.{gained_in_word}
use Rattle.potentials.proofs.words.gained_in_word.Given as goal

-- the sum so far, together with the gain of the rest, is the gain of the word
abbrev pub invariant-rest : goal.invariant-rest
invariant-rest l = (l.total +ℤ gained_in_word l.weights l.first l.rest l.after) ≡ gained_in_word l.weights l.first l.changed l.after

abbrev pub decreases-rest : goal.decreases-rest
decreases-rest l = l.rest
