use Rattle.std.proofs.Common.{length, sym, ◌∙◌, arith}
use Rattle.std.proofs.lemmas.Bool.{le-leb}
use Rattle.certificate_reader.proofs.NamesRead.{has_capital, is_all_lower}
use Rattle.certificate_reader.proofs.lower_names.is_lower_name.Goals as goal

pub returns-then-not-is_lower : goal.returns-then-not-is_lower
returns-then-not-is_lower c = has_capital c.args.word.now (sym c.is_lower.ensures ∙ c.if-not-is_lower.true)

pub returns : goal.returns
returns c =
    c.is_name.ensures
    ∙ is_all_lower c.args.word.now (le-leb (length c.args.word.now) 255 (omega (arith, c.if-word-gt-LONGEST_NAME.false))) (sym c.is_lower.ensures ∙ c.if-not-is_lower.false)
