-- Names and terms of the code, in the model's terms.
use Rattle.pddl_tree.specs.declared.terms.Name.{Name}
use Rattle.pddl_tree.specs.declared.terms.Term.{Term}
use Rattle.pddl_tree.specs.declared.terms.Term.TheVariants.{Variable, Object}
use Rattle.model.specs.Trees as tree

abbrev pub name_of : Name → tree.Name
name_of n = record { text = n.text.now; span = record { start = n.span.start; end = n.span.end } }

abbrev pub term_of : Term → tree.Term
term_of (Variable n) = tree.variable (name_of n)
term_of (Object n) = tree.object (name_of n)
