-- The code's places, and the nonterminals that the model requires there.
use Rattle.std.specs.Prelude.{[], map}
use Rattle.pddl_tree.specs.declared.refusals.Place.{Place}
use Rattle.pddl_tree.specs.declared.refusals.Place.TheVariants as place
use Rattle.pddl_tree.specs.Tree.{file_of}
use Rattle.pddl_tree.specs.declared.refusals.ListElement.{ListElement}
use Rattle.pddl_tree.specs.declared.refusals.ListElement.TheVariants as listed
use Rattle.pddl_tree.specs.Token.{part_view}
use Rattle.model.specs.GrammarWords.{requirements}
use Rattle.model.specs.Grammar.{Sort, close, key, define_word, parts, value, section, type, conditional, total_cost, minimize_word, amount}
use Rattle.model.specs.Grammar as grammar

abbrev pub listed_view : ListElement → grammar.ListElement
listed_view listed.Names = grammar.names
listed_view listed.Variables = grammar.variables

-- a nonterminal required there, with the refusal numbers of the place
abbrev pub expected : Place → Sort
expected place.Incomplete = define_word
expected place.Parts = parts []
expected (place.Value seen) = value (map part_view seen.now)
expected (place.Section f) = section (file_of f) requirements []
expected place.Keys = key
expected (place.Type l) = type (listed_view l)
expected place.UnderWhen = conditional
expected place.TotalCost = total_cost
expected place.Metric = minimize_word
expected place.Number = amount
expected place.Elsewhere = close
