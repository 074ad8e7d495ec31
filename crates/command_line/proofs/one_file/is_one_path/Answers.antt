use Rattle.std.proofs.Common.{◌∙◌, ap, sym}
use Rattle.std.specs.Cmp.Lexicographic.{pointwise}
use Rattle.std.specs.Str.{bytes_eq}
use Rattle.command_line.specs.OneFile.{lean}
use Rattle.command_line.specs.View.{texts}
use Rattle.command_line.proofs.LeanLemmas.{same_texts}
use Rattle.command_line.proofs.one_file.is_one_path.Goals as goal

pub returns : goal.returns
returns c =
    c.eq.ensures ∙ same_texts c.in_ok-one.one.items c.in_ok-other.other.items
    ∙ ap (λ parts. pointwise bytes_eq parts (texts c.in_ok-other.other.items)) c.in_ok-one.ensures
    ∙ ap (pointwise bytes_eq (lean c.args.one.now)) c.in_ok-other.ensures
