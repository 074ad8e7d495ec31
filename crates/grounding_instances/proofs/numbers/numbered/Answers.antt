use Rattle.std.proofs.Common.{◌∙◌, ap, map}
use Rattle.std.specs.List.{filter_map}
use Rattle.std.proofs.lemmas.List.{take_all}
use Rattle.task.specs.TaskParts.{atom_of}
use Rattle.formulas.specs.Literals.{literal_of}
use Rattle.model.specs.NumberedLiterals.{numbered_literal}
use Rattle.grounding_instances.specs.Numbers.{numbered_of}
use Rattle.grounding_instances.proofs.NumberedParts.{filtered-more}
use Rattle.grounding_instances.proofs.numbers.numbered.Goals as goal

pub loop-literal-preserved : goal.loop-literal-preserved
loop-literal-preserved c =
    filtered-more (numbered_literal (map atom_of c.args.atoms.now.keys)) literal_of c.args.literals.now c.loop-literal.literal-index c.literal-item.result
    (map numbered_of c.loop-literal.found.items) (map numbered_of c.add_numbered.new.found.items) c.loop-literal-test.true c.literal-item.is c.loop-literal.invariant c.in_ok-add_numbered.ensures

pub returns : goal.returns
returns c =
    c.loop-literal.invariant
    ∙ ap (λ l. filter_map (numbered_literal (map atom_of c.args.atoms.now.keys)) (map literal_of l)) (take_all c.loop-literal.literal-index c.args.literals.now c.loop-literal-test.false)
