use Rattle.std.proofs.Common.{rules, tests, ◌∙◌, sym, ◌&&◌}
use Rattle.std.specs.Prelude.{◌==◌}
use Rattle.std.specs.Bool.{beq}
use Rattle.std.proofs.lemmas.Iterator.{YieldsList-from_slice}
use Rattle.std.proofs.lemmas.Iterator.Search.{any_from_yields_List}
use Rattle.grounding.specs.Views.{NumberedLiteral, numbered_of}
use Rattle.model.specs.NumberedLiterals as model
use Rattle.potentials.proofs.ListLemmas.{any_map}
use Rattle.potentials.proofs.said.is_among.Goals as goal

pub returns : goal.returns
returns c =
    let test = λ (l : model.NumberedLiteral). l.atom == c.args.literal.atom && beq l.value c.args.literal.value in
    any_from_yields_List (λ (x : NumberedLiteral). test (numbered_of x)) _ _ _ c.any.ensures.ran (YieldsList-from_slice c.args.literals.now cc) (λ x b q k. search (rules, tests))
    ∙ sym (any_map test numbered_of c.args.literals.now)
