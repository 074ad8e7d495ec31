use Rattle.std.proofs.Common.{◌%◌, ◌/◌, ◌==◌, get_or, ap}
use Rattle.std.proofs.lemmas.Nat.Bits.{shr_and_one}
use Rattle.packed_state.specs.Words.{word_has}
use Rattle.packed_state.proofs.words.has.Goals as goal

pub returns : goal.returns
unfolding word_has
returns c = ap (λ bit. bit == 1) (shr_and_one (get_or c.args.words.now (c.args.number / 64) 0) (c.args.number % 64))
