-- Typed lists: how the grammar reads one name, and one group.
use Rattle.std.specs.Prelude.{◌≡◌, ◌+◌, ◌≤◌, ℕ, Bool, true, false, List, ◌∷◌, Option, Some, None, Result, Ok, Err, length}
use Rattle.std.specs.Option.{option_and_then}
use Rattle.faults.specs.Fault.{number_of}
use Rattle.tokens.specs.declared.word.Word.{Word}
use Rattle.pddl_tree.specs.declared.terms.Name.{Name}
use Rattle.pddl_tree.specs.declared.word_fault.WordRefusal.{WordRefusal}
use Rattle.pddl_tree.specs.Terms.{name_of}
use Rattle.pddl_tree.specs.Token.{from, first}
use Rattle.pddl_tree.specs.Reading.{number_seen}
use Rattle.model.specs.Trees as tree
use Rattle.model.specs.GrammarWords.{Token, closes, dash}
use Rattle.model.specs.Grammar.{ListElement, listed_in, Phrase, gives, ◌>>=◌, ◌>>◌, either_word, a_name, many, close}

-- a name of a typed list was read, or there was none
abbrev pub NamesOne : ListElement → List Word → ℕ → Result (Name × ℕ) WordRefusal → Type 0
NamesOne l words at (Ok (n, next)) = (option_and_then (listed_in l) (first (from words at)) ≡ Some (name_of n)) × ((next ≡ at + 1) × (next ≤ length words))
NamesOne l words at (Err refusal) = (option_and_then (listed_in l) (first (from words at)) ≡ None) × ((number_of refusal.code ≡ number_seen close (first (from words at))) × (refusal.at ≡ at))

-- whether the first word ends a group's names
abbrev pub ends_group_first : Option Token → Bool
ends_group_first (Some dash) = true
ends_group_first (Some closes) = true
ends_group_first _ = false

-- after the `(` of an `either`
abbrev pub the_either : Phrase (List tree.Name)
the_either = either_word >> (a_name >>= λ n. many a_name >>= λ ns. gives (n ∷ ns))
