use Rattle.std.proofs.Common.{rules, tests, ◌∙◌, sym, ◌&&◌}
use Rattle.std.specs.Prelude.{◌==◌}
use Rattle.std.specs.Bool.{beq}
use Rattle.std.proofs.lemmas.Iterator.{YieldsList-from_slice}
use Rattle.std.proofs.lemmas.Iterator.Search.{any_from_yields_List}
use Rattle.grounding.specs.declared.changes.CountingChange.{CountingChange}
use Rattle.grounding.specs.Changes.{counting_of}
use Rattle.model.specs.NumberedLiterals as model
use Rattle.potentials.proofs.ListLemmas.{any_map}
use Rattle.potentials.specs.Swing.{is_always, adds}
use Rattle.potentials.proofs.swing.has.Goals as goal

pub returns : goal.returns
returns c =
    let test = λ (k : model.NumberedChange). k.atom == c.args.atom && beq k.is_unconditional (is_always c.args.kind) && beq k.value (adds c.args.kind) in
    any_from_yields_List (λ (x : CountingChange). test (counting_of x)) _ _ _ c.any.ensures.ran (YieldsList-from_slice c.args.changes.now cc) (λ x b q k. search (rules, tests))
    ∙ sym (any_map test counting_of c.args.changes.now)
