use Rattle.std.proofs.Common.{◌∷◌, ◌∙◌, [], ℕ, ap, length, sym, subst}
use Rattle.packed_state.specs.Words.{AreWordsOf}
use Rattle.packed_state.specs.Packed.{bits_of}
use Rattle.packed_state.proofs.PackedLemmas.{length-bits}
use Rattle.search_tests.proofs.RoomLemmas.{one_word}
use Rattle.search_tests.proofs.rooms.enter.Goals as goal

pub copy_words-requires : goal.copy_words-requires
copy_words-requires c = subst (λ (width : ℕ). AreWordsOf width (c.args.word ∷ [])) (sym c.requires) (one_word c.args.word c.ranges.word.fits)

pub returns-clause-width : goal.returns-clause-width
returns-clause-width c = ap length c.copy_words.ensures ∙ length-bits (length (bits_of c.args.state.now)) (c.args.word ∷ []) ∙ c.requires
