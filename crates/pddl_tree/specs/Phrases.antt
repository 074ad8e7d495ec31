-- How the grammar reads what follows some words of formulas and effects.
use Rattle.std.specs.Prelude.{map}
use Rattle.pddl_tree.specs.declared.refusals.Literals.{Literals}
use Rattle.pddl_tree.specs.declared.refusals.Literals.TheVariants as literals
use Rattle.pddl_tree.specs.declared.values.EffectValue.{EffectValue}
use Rattle.pddl_tree.specs.Tree.{effect_of, increase_of}
use Rattle.model.specs.Trees.{Formula, Effect, Atom}
use Rattle.model.specs.Trees as tree
use Rattle.model.specs.Grammar.{Phrase, gives, ◌>>=◌, ◌>>◌, many, listed, formula, term, effect_list, conditional, conditional_atom, atom, close, value_of_all}
use Rattle.model.specs.Grammar as grammar

-- after the `=` of an equality
abbrev pub the_equality : Phrase Formula
the_equality = term >>= λ t. term >>= λ u. close >> gives (tree.equal t u)

-- a formula in its parentheses, and the `)` of the enclosing list
abbrev pub the_last : Phrase Formula
the_last = listed formula >>= λ f. close >> gives f

-- after `imply`
abbrev pub the_implication : Phrase Formula
the_implication = listed formula >>= λ f. listed formula >>= λ g. close >> gives (tree.imply f g)

-- an effect in its parentheses, and the `)` of the enclosing list
abbrev pub the_last_effect : Phrase Effect
the_last_effect = listed effect_list >>= λ e. close >> gives e

-- after `when`
abbrev pub the_when : Phrase Effect
the_when = listed formula >>= λ f. listed conditional >>= λ ls. close >> gives (tree.when f ls)

-- an atom in its parentheses, and the `)` of the enclosing list
abbrev pub the_last_atom : Literals → Phrase Atom
the_last_atom literals.Plain = listed atom >>= λ a. close >> gives a
the_last_atom literals.UnderWhen = listed conditional_atom >>= λ a. close >> gives a

-- the items of an `:effect`, and the `)` of their `and`; and their value
abbrev pub the_items : Phrase grammar.EffectValue
the_items = many (listed grammar.item) >>= λ xs. gives (value_of_all xs)

abbrev pub value_tree : EffectValue → grammar.EffectValue
value_tree v = record { effect = effect_of v.effect; increases = map increase_of v.increases.items }
