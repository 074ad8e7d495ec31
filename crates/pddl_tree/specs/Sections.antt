-- The parts of an action and the sections of a file, and how the grammar reads some of them.
use Rattle.std.specs.Option.{option_map}
use Rattle.std.specs.Prelude.{map, fold, [], ◌≡◌, ℕ, List, true, Some}
use Rattle.pddl_tree.specs.Terms.{name_of}
use Rattle.pddl_tree.specs.Tree.{formula_of, groups_of, predicate_of, action_of, fact_of}
use Rattle.pddl_tree.specs.declared.sections.Contents.{Contents}
use Rattle.tokens.specs.declared.word.Word.{Word}
use Rattle.faults.specs.Fault.{number_of}
use Rattle.pddl_tree.specs.declared.word_fault.WordRefusal.{WordRefusal}
use Rattle.pddl_tree.specs.Token.{from, first}
use Rattle.pddl_tree.specs.Reading.{number_seen}
use Rattle.model.specs.Trees.{TaskFile, Name, Action}
use Rattle.model.specs.GrammarWords.{PartKeyword, SectionKeyword, keyword, of_section}
use Rattle.model.specs.Grammar.{Phrase, gives, ◌>>=◌, ◌>>◌, and_then, a_name, close, action_name, parts, part_after, with_part, action_from, sections, section_after, with_section, has_section, sections_of}
use Rattle.model.specs.Grammar as grammar
use Rattle.model.specs.GrammarWords as grammar_words

-- the parts of an action after those that have occurred, added to the action
abbrev pub parts_on : List PartKeyword → Action → Phrase Action
parts_on seen a = parts seen >>= λ ps. gives (fold with_part a ps)

-- the value of a part, which is then recorded, added to the action
abbrev pub part_into : List PartKeyword → PartKeyword → Action → Phrase Action
part_into seen p a = and_then (part_after seen p) (λ x. gives (with_part a x))

-- an action, from its name on
abbrev pub the_action : Phrase Action
the_action = action_name >>= λ n. parts [] >>= λ ps. gives (action_from n ps)

abbrev pub contents_of : Contents → grammar.Contents
contents_of c = record {
  types = groups_of c.types;
  constants = groups_of c.constants;
  predicates = map predicate_of c.predicates.items;
  functions = map predicate_of c.functions.items;
  actions = map action_of c.actions.items;
  domain = name_of c.domain;
  objects = groups_of c.objects;
  init = map fact_of c.init.items;
  goal = formula_of c.goal;
  metric = option_map name_of c.metric;
}

-- the sections of a file after those that have occurred, added to the contents
abbrev pub sections_on : TaskFile → List SectionKeyword → grammar.Contents → Phrase grammar.Contents
sections_on f seen c = sections f seen >>= λ ss. gives (fold with_section c ss)

-- a section with this keyword, added to the contents
abbrev pub section_into : SectionKeyword → grammar.Contents → Phrase grammar.Contents
section_into k c = and_then (section_after k) (λ x. gives (with_section c x))

-- what follows `:domain`
abbrev pub the_domain : Phrase Name
the_domain = a_name >>= λ n. close >> gives n

-- the word at an index is not the keyword of a section that may still occur, and is reported as such
abbrev pub IsNotNew : List Word → ℕ → TaskFile → List SectionKeyword → WordRefusal → Type 0
IsNotNew words at f seen refusal =
    ((k : SectionKeyword) → first (from words at) ≡ Some (keyword (of_section k)) → has_section (sections_of f) k ≡ true → has_section seen k ≡ true)
    × ((number_of refusal.code ≡ number_seen (grammar.section f grammar_words.requirements []) (first (from words at))) × (refusal.at ≡ at))
