-- The grammar as a function of words: the tree read first, with the remaining words; or where the words stop and with which
-- number. And the results of parser calls, in these terms.
use Rattle.std.specs.Prelude.{◌≡◌, ℕ, suc, zero, ◌+◌, ◌<◌, ◌≤◌, Bool, true, false, List, [], ◌∷◌, Option, Some, None, Result, Ok, Err, length}
use Rattle.tokens.specs.declared.word.Word.{Word}
use Rattle.pddl_tree.specs.Token.{from, first}
use Rattle.faults.specs.declared.refused.Refused.TheVariants.{At, NoMemory}
use Rattle.faults.specs.Fault.{number_of}
use Rattle.pddl_tree.specs.declared.word_fault.WordRefusal.{WordRefusal}
use Rattle.pddl_tree.specs.Refusal.{WordFault}
use Rattle.pddl_tree.specs.declared.refusals.Place.{Place}
use Rattle.pddl_tree.specs.Place.{expected}
use Rattle.model.specs.GrammarWords.{Token, opens, closes, reserved, and}
use Rattle.model.specs.Grammar.{Sort, Value, Phrase, gives, ◌>>=◌, after}
use Rattle.model.specs.Refusals.{number_at}

pub data Reading (A : Type 0) : Type 0 where
  made : A → List Token → Reading A
  stops : ℕ → List Token → Reading A

-- one nonterminal, and then what depends on its tree
abbrev pub bind : {A B : Type 0} → Reading A → (A → List Token → Reading B) → Reading B
bind (made x w) f = f x w
bind (stops n w) f = stops n w

-- a phrase, if nonterminals are read like this
abbrev pub phrase_by : {A : Type 0} → ((s : Sort) → List Token → Reading (Value s)) → Phrase A → List Token → Reading A
phrase_by part (gives x) w = made x w
phrase_by part (s >>= h) w = bind (part s w) (λ x v. phrase_by part (h x) v)

-- what must follow a word, or none if it may not occur there
abbrev pub by_rule : {A : Type 0} → ((s : Sort) → List Token → Reading (Value s)) → Option (Phrase A) → List Token → Reading A → Reading A
by_rule part (Some p) w here = phrase_by part p w
by_rule part None w here = here

-- a nonterminal, in fewer than this many words
unfoldable pub within : ℕ → (s : Sort) → List Token → Reading (Value s)
within zero s w = stops 7 []
within (suc n) s [] = stops 7 []
within (suc n) s (t ∷ w) = by_rule (within n) (after s t) w (stops (number_at s t) (t ∷ w))

-- a nonterminal, and a phrase
unfoldable pub part : (s : Sort) → List Token → Reading (Value s)
part s w = within (suc (length w)) s w

abbrev pub phrase : {A : Type 0} → Phrase A → List Token → Reading A
phrase p w = phrase_by part p w

-- the number of a word, or of the end of the words, where this is required
abbrev pub number_seen : Sort → Option Token → ℕ
number_seen s None = 7
number_seen s (Some t) = number_at s t

-- ---- the result of a call that reads the words from an index on; nothing is stated for running out of memory

-- the index after what was read, which has at least one word
abbrev pub IsAfter : List Word → ℕ → ℕ → Type 0
IsAfter words at next = (at < next) × (next ≤ length words)

-- the refused word, by its number and index
abbrev pub Stops : {A : Type 0} → List Word → Reading A → WordRefusal → Type 0
Stops words r refusal = r ≡ stops (number_of refusal.code) (from words refusal.at)

abbrev pub Reports : {A : Type 0} → List Word → Reading A → WordFault → Type 0
Reports words r (At refusal) = Stops words r refusal
Reports words r NoMemory = Unit {0}

-- the tree, and the index after it
abbrev pub Reads : {T A : Type 0} → (List Token → Reading A) → List Word → ℕ → (T → A) → Result (T × ℕ) WordFault → Type 0
Reads read words at view (Ok (x, next)) = (read (from words at) ≡ made (view x) (from words next)) × IsAfter words at next
Reads read words at view (Err fault) = Reports words (read (from words at)) fault

abbrev pub ReadsWords : {T A : Type 0} → (List Token → Reading A) → List Word → ℕ → (T → A) → Result (T × ℕ) WordRefusal → Type 0
ReadsWords read words at view (Ok (x, next)) = (read (from words at) ≡ made (view x) (from words next)) × IsAfter words at next
ReadsWords read words at view (Err refusal) = Stops words (read (from words at)) refusal

-- the index after the words with this tree
abbrev pub ReadsInto : {A : Type 0} → (List Token → Reading A) → List Word → ℕ → A → Result ℕ WordFault → Type 0
ReadsInto read words at tree (Ok next) = (read (from words at) ≡ made tree (from words next)) × IsAfter words at next
ReadsInto read words at tree (Err fault) = Reports words (read (from words at)) fault

abbrev pub Passes : {A : Type 0} → (List Token → Reading A) → List Word → ℕ → A → Result ℕ WordRefusal → Type 0
Passes read words at tree (Ok next) = (read (from words at) ≡ made tree (from words next)) × IsAfter words at next
Passes read words at tree (Err refusal) = Stops words (read (from words at)) refusal

-- what was read is in its place, if anything was read
abbrev pub IsPut : {T : Type 0} → Result (T × ℕ) WordFault → T → Result ℕ WordFault → Type 0
IsPut (Ok (x, next)) placed result = (placed ≡ x) × (result ≡ Ok next)
IsPut (Err fault) placed result = result ≡ Err fault

-- the index from which the rest is read as this
abbrev pub MayContinue : {A : Type 0} → (List Token → Reading A) → (List Token → Reading A) → List Word → ℕ → Result ℕ WordFault → Type 0
MayContinue read other words at (Ok next) = (read (from words at) ≡ other (from words next)) × IsAfter words at next
MayContinue read other words at (Err fault) = Reports words (read (from words at)) fault

-- one more element of a list, and the index from which the list continues
abbrev pub one_of : {X : Type 0} → (List Token → Reading (List X)) → X → List Token → Reading (List X)
one_of list x w = bind (list w) (λ xs v. made (x ∷ xs) v)

abbrev pub ReadsOne : {T X : Type 0} → (List Token → Reading (List X)) → List Word → ℕ → (T → X) → Result (T × ℕ) WordFault → Type 0
ReadsOne list words at view (Ok (x, next)) = (list (from words at) ≡ one_of list (view x) (from words next)) × IsAfter words at next
ReadsOne list words at view (Err fault) = Reports words (list (from words at)) fault

-- ---- tests of the first word

abbrev pub closes_first : Option Token → Bool
closes_first (Some closes) = true
closes_first _ = false

abbrev pub and_first : Option Token → Bool
and_first (Some (reserved and n)) = true
and_first _ = false

abbrev pub opens_first : Option Token → Bool
opens_first (Some opens) = true
opens_first _ = false

-- `(` was read, or was not there
abbrev pub Opens : List Word → ℕ → Place → Result ℕ WordRefusal → Type 0
Opens words at place (Ok next) = (first (from words at) ≡ Some opens) × ((next ≡ at + 1) × (next ≤ length words))
Opens words at place (Err refusal) = (opens_first (first (from words at)) ≡ false) × ((number_of refusal.code ≡ number_seen (expected place) (first (from words at))) × (refusal.at ≡ at))
