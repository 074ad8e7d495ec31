use Rattle.std.proofs.Common.{ap, sym, ◌∙◌}
use Rattle.std.specs.Prelude.{is_some}
use Rattle.certificate_reader.specs.Words.{numbers_then, text_in}
use Rattle.certificate_reader.proofs.LandmarksRead.{ends_there}
use Rattle.certificate_reader.proofs.NumbersRead.{no_numbers}
use Rattle.certificate_reader.proofs.ParseLemmas.{may_continue}
use Rattle.certificate_reader.proofs.parts.numbers.Goals as goal

pub returns-then-is_some-clause-none : goal.returns-then-is_some-clause-none
returns-then-is_some-clause-none c =
    let (bytes, at) = may_continue c.in_ok-numbers.left (sym c.is_some.ensures ∙ c.if-is_some.true) in
    no_numbers (text_in c.args.rest) c.args.atom_count c.requires.few c.in_ok-numbers.numbers.items (text_in c.in_ok-numbers.left) c.in_ok-numbers.ensures (ap is_some at)

pub returns-clause-some : goal.returns-clause-some
returns-clause-some c = (
  c.in_ok-numbers.ensures.rising,
  ap (numbers_then c.in_ok-numbers.numbers.items) (sym (ends_there c.in_ok-numbers.left (sym c.is_some.ensures ∙ c.if-is_some.false))) ∙ c.in_ok-numbers.ensures.splits,
)
