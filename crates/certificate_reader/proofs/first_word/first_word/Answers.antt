use Rattle.std.proofs.Common.{sym, ◌∙◌}
use Rattle.certificate_reader.proofs.WordLemmas.{word_then_rest, word_alone}
use Rattle.certificate_reader.proofs.first_word.first_word.Goals as goal

pub returns-in_default : goal.returns-in_default
returns-in_default c = word_alone c.args.bytes.now (sym c.first_blank.ensures ∙ c.in_default.is)

pub returns : goal.returns
returns c = word_then_rest c.args.bytes.now c.in-Some.end (sym c.first_blank.ensures ∙ c.in-Some.is)
