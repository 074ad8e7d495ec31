use Rattle.std.proofs.Common.{length}
use Rattle.packed_state.specs.Packed.{bits_of}
use Rattle.symmetries.proofs.RunWords.{differing_at, first_below, word_inside}
use Rattle.symmetries.proofs.run.Run.differing.Goals as goal

pub bounds-words-self : goal.bounds-words-self
bounds-words-self c =
    let width = length (bits_of c.args.state.now) in
    word_inside width c.args.self.lower c.words-words.result.now c.words-words.ensures.packed (first_below c.args.self width c.requires).0

pub bounds-words-self-2 : goal.bounds-words-self-2
bounds-words-self-2 c =
    let width = length (bits_of c.args.state.now) in
    word_inside width c.args.self.upper c.words-words.result.now c.words-words.ensures.packed (first_below c.args.self width c.requires).1

pub returns : goal.returns
returns c = differing_at c.args.self (bits_of c.args.state.now) c.words-words.result.now c.words-words.ensures.packed c.words-words.ensures.bits
