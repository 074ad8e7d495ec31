-- The head of a file: `( define ( domain NAME )`, or `problem` in place of `domain`; and what follows it, up to the end.
use Rattle.std.specs.Prelude.{◌≡◌, ℕ, ◌<◌, ◌≤◌, ◌⊎◌, List, [], ◌∷◌, length, take, fold, Result, Ok, Err, ⊤}
use Rattle.tokens.specs.declared.word.Word.{Word}
use Rattle.pddl_tree.specs.declared.terms.Name as code
use Rattle.pddl_tree.specs.declared.word_fault.WordRefusal.{WordRefusal}
use Rattle.pddl_tree.specs.Terms.{name_of}
use Rattle.pddl_tree.specs.Token.{from}
use Rattle.pddl_tree.specs.Refusal.{WordFault}
use Rattle.pddl_tree.specs.Reading.{Reading, made, stops, bind, part, phrase, Stops, Reports}
use Rattle.model.specs.GrammarWords.{Token}
use Rattle.model.specs.Trees.{TaskFile, Name}
use Rattle.model.specs.Grammar.{Tree, Phrase, gives, ◌>>=◌, file, sections, tree_from, with_section, no_contents}
use Rattle.model.specs.Refusals.{Begins, by_word}

-- the number of words in a head
abbrev pub head_length : ℕ
head_length = 6

-- this many of the words are a prefix of a file of this kind
abbrev pub HasHead : TaskFile → List Token → Type 0
HasHead f w = (head_length ≤ length w) × Begins f (take head_length w)

-- the words end within the head, or their first words are not the head of a file of this kind
abbrev pub HasNoHead : TaskFile → List Token → Type 0
HasNoHead f w = (length w < head_length) ⊎ (Begins f (take head_length w) → ⊥)

-- what must follow the head
abbrev pub after_head : TaskFile → Name → Phrase Tree
after_head f n = sections f [] >>= λ ss. gives (tree_from f n (fold with_section no_contents ss))

-- the name, and the index after the head; or where the words stop within it
abbrev pub ReadsHead : TaskFile → List Word → ℕ → Result (code.Name × ℕ) WordRefusal → Type 0
ReadsHead f words at (Ok (n, next)) = part (file f) (from words at) ≡ phrase (after_head f (name_of n)) (from words next)
ReadsHead f words at (Err refusal) = Stops words (part (file f) (from words at)) refusal

-- no word follows what was read
abbrev pub at_end : {A : Type 0} → A → List Token → Reading A
at_end x [] = made x []
at_end x (t ∷ w) = stops (by_word t) (t ∷ w)

abbrev pub no_more : List Token → Reading ⊤
no_more [] = made tt []
no_more (t ∷ w) = stops (by_word t) (t ∷ w)

-- the words from an index on are all of this tree
abbrev pub ReadsAll : {A : Type 0} → (List Token → Reading A) → List Word → ℕ → A → Result ⊤ WordFault → Type 0
ReadsAll read words at tree (Ok _) = bind (read (from words at)) at_end ≡ made tree []
ReadsAll read words at tree (Err fault) = Reports words (bind (read (from words at)) at_end) fault
