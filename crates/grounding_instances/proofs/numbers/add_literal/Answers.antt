use Rattle.std.proofs.Common.{◌∙◌, map, refl, sym}
use Rattle.task.specs.TaskParts.{atom_of}
use Rattle.grounding_instances.specs.declared.numbers.NumberedLiteral.{NumberedLiteral}
use Rattle.grounding_instances.proofs.NumberedParts.{literal-pushed, literal-unnumbered}
use Rattle.grounding_instances.proofs.numbers.add_literal.Goals as goal

pub returns-in_ok-push-in-Some : goal.returns-in_ok-push-in-Some
returns-in_ok-push-in-Some c =
    let one : NumberedLiteral = record { atom = c.in-Some.number; value = c.args.value } in
    literal-pushed (map atom_of c.args.atoms.now.keys) (atom_of c.args.atom.now) c.args.value c.in-Some.number c.args.found.now.items c.push.new.self.items one refl
    (sym c.number_of.ensures ∙ c.in-Some.is) c.in_ok-push-in-Some.ensures.items

pub returns-in-None : goal.returns-in-None
returns-in-None c =
    literal-unnumbered (map atom_of c.args.atoms.now.keys) (atom_of c.args.atom.now) c.args.value c.args.found.now.items (sym c.number_of.ensures ∙ c.in-None.is)
