-- Definitions of other modules that most proofs of this crate use.
pub use Rattle.std.proofs.Common.{ℕ, ◌++◌, ◌+◌, ◌-◌, ◌<◌, ◌||◌, ◌∙◌, ◌∷◌, ◌≡◌, ◌≤◌, Err, List, None, Ok, Option, Result, Some, [], ap, arith, cond, drop, false, fold, length, map, refl, rules, subst, suc, sym, true, zero}
pub use Rattle.std.specs.Option.{option_and_then, option_map}
pub use Rattle.faults.specs.declared.refused.Refused.TheVariants.{At, NoMemory}
pub use Rattle.model.specs.Grammar.{◌>>=◌, Contents, Phrase, Section, Sort, Tree, Value, a_name, after, and_then, close, define_word, effect_list, file, formula, function_list, gives, has_part, has_section, is_section, item, listed, many, required_of, sections, sections_of, tree_from, with_section}
pub use Rattle.model.specs.GrammarMachine.{Outcome, run, stopped}
pub use Rattle.model.specs.GrammarWords.{Token, closes, dash, free, keyword, of_part, of_section, opens, reserved, token_of, tokens_of}
pub use Rattle.model.specs.Refusals.{number_at, start}
pub use Rattle.model.specs.Trees.{TaskFile, Name, effects, formulas}
pub use Rattle.pddl_tree.specs.Place.{listed_view}
pub use Rattle.pddl_tree.specs.Reading.{MayContinue, Reading, Reads, ReadsInto, Stops, Reports, bind, by_rule, closes_first, made, number_seen, one_of, opens_first, part, phrase, stops}
pub use Rattle.pddl_tree.specs.Typed.{the_either}
pub use Rattle.pddl_tree.specs.Terms.{name_of}
pub use Rattle.pddl_tree.specs.Refusal.{WordFault, reported}
pub use Rattle.pddl_tree.specs.Token.{first, from, part_view, section_view}
pub use Rattle.pddl_tree.specs.Tree.{action_of, effect_of, file_of, formula_of, group_of, increase_of, predicate_of}
pub use Rattle.tokens.specs.Word.{word_of}
pub use Rattle.tokens.specs.declared.word.Word.{Word}
