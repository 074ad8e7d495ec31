-- The names of each task read from files can be written and read back: they are names of words, folded to lower case, and all
-- different, since a name declared twice is a fault.
use Rattle.std.proofs.Common.{◌≡◌, ℕ, ◌+◌, ◌≤◌, inl, inr, Bool, true, false, not, ◌&&◌, ◌||◌, true≢false, List, [], ◌∷◌, ◌++◌, length, map, Some, refl, sym, ap, ◌∙◌, subst, arith}
use Rattle.std.specs.Prelude.{IsTrue, Contains, nat_le, slice_get, if◌then◌else◌}
use Rattle.std.specs.Char.{is_ascii_alphabetic, to_ascii_lowercase}
use Rattle.std.specs.Cmp.Lexicographic.{same_text}
use Rattle.std.specs.List.{list_all, list_any}
use Rattle.std.specs.Option.{option_map_or}
use Rattle.std.proofs.lemmas.Bool.{and_parts, le-leb, or_left, or_right}
use Rattle.std.proofs.lemmas.Bool.Decides.{nat_tests}
use Rattle.std.proofs.lemmas.Cmp.{nat_list_eq_equiv}
use Rattle.std.proofs.lemmas.List.{length-map}
use Rattle.std.proofs.lemmas.List.Folds.{list_all-append, list_any-append, Any-from_list_any}
use Rattle.std.proofs.lemmas.Simd.{map-map}
use Rattle.std.proofs.lemmas.Str.Ascii.{lowercase-lowercase}
use Rattle.model.specs.Words.{Word, Kind, Form, Part, form, bytes, size, is_name, is_name_byte, kind_by, longest_run, IsWordAt, AreGapsAndWords}
use Rattle.model.specs.Words as words
use Rattle.model.specs.Trees.{TaskFile, domain_file, problem_file, Group, Predicate, Action, Domain, Problem, names_of}
use Rattle.model.specs.Trees as tree
use Rattle.model.specs.GrammarWords.{number, large_number, number_of_digits, name_from, named, token_from, token_of, tokens_of}
use Rattle.model.specs.Limits.{max_number}
use Rattle.model.specs.Grammar.{name_in}
use Rattle.model.specs.Task.{Name, Object, Schema, Task}
use Rattle.model.specs.Resolution.{TypingFault, folded, is_known, is_same, with_name, Declared, declared, declared_in_group, declared_objects, type_names, object_in, predicate_in, names_of_predicates, known_in_domain, schema_in, task_of_trees, Placed, placed, words_of}
use Rattle.model.specs.Typing.{IsWellTyped, phases, refused, repeated, repeated_after, type_faults}
use Rattle.model.specs.PlanText.{schema_names, object_names}
use Rattle.model.specs.PlanWriting.{is_lower_name, differ, are_lower_names, has_names}
use Rattle.model.specs.Files.{IsTaskOf}
use Rattle.model.proofs.GrammarNames.{word_passes, GroupsPass, PredicatesPass, ActionsPass, DomainPasses, ProblemPasses, domain_passes, problem_passes}
use Rattle.model.proofs.ListLemmas.{Contains-cases, Contains-none, map-Contains}
use Rattle.model.proofs.Tests.{passes_map, passes_weaker}
use Rattle.model.proofs.TypingLemmas.{each_empty}

-- ---- a name in lower case

-- a letter stays a letter in lower case, and so does a byte of a name, and a name
lower_letter : (byte : ℕ) → is_ascii_alphabetic byte ≡ true → is_ascii_alphabetic (to_ascii_lowercase byte) ≡ true
lower_letter byte letter = grind (arith, nat_tests)

lower_name_byte : (byte : ℕ) → is_name_byte byte ≡ true → is_name_byte (to_ascii_lowercase byte) ≡ true
lower_name_byte byte h = grind (arith, nat_tests)

lower_is_name : (text : List ℕ) → is_name text ≡ true → is_name (map to_ascii_lowercase text) ≡ true
lower_is_name [] h = h
lower_is_name (byte ∷ others) h =
    let both = and_parts (is_ascii_alphabetic byte) (list_all is_name_byte others) h in
    let rest = passes_map is_name_byte to_ascii_lowercase others ∙ passes_weaker is_name_byte (λ b. is_name_byte (to_ascii_lowercase b)) lower_name_byte others both.1 in
    λ i. lower_letter byte both.0 i && rest i

-- what is in lower case is unchanged by folding
lower_stays : (text : List ℕ) → map to_ascii_lowercase (map to_ascii_lowercase text) ≡ map to_ascii_lowercase text
lower_stays [] = refl
lower_stays (byte ∷ text) = λ i. lowercase-lowercase byte i ∷ lower_stays text i

-- a name that is no longer than a run may be
lower_name : (text : List ℕ) → is_name text ≡ true → length text ≤ longest_run → is_lower_name (map to_ascii_lowercase text) ≡ true
lower_name text named short =
    let lower = map to_ascii_lowercase text in
    let same : is_same (map to_ascii_lowercase lower) lower ≡ true = ap (λ n. is_same n lower) (lower_stays text) ∙ nat_list_eq_equiv.refl lower in
    let within : nat_le (length lower) longest_run ≡ true = le-leb (length lower) longest_run (omega (arith, length-map text to_ascii_lowercase)) in
    λ i. (lower_is_name text named i && same i) && within i

-- ---- names among words

-- a name of a tree whose bytes, folded, are a name in lower case
abbrev has_lower_name : tree.Name → Bool
has_lower_name n = is_lower_name (folded n)

-- a part that is a word of kind name is a run, and a name
named_run : (f : Form) (text : List ℕ) → kind_by f text ≡ Some words.name → (f ≡ words.run) × (is_name text ≡ true)
named_run words.blank text e = absurd (cc)
named_run words.comment text e = absurd (cc)
named_run words.opening text e = absurd (cc)
named_run words.closing text e = absurd (cc)
named_run words.stray text e = absurd (cc)
named_run words.run text e = (refl, grind arith)

-- the name that a token is made from is the token's
named_keeps : (text : List ℕ) (n : tree.Name) → name_in (named text n) ≡ Some n
named_keeps text n = grind arith

-- a word of a text that is a name, folded, is a name in lower case
word_named : (start : ℕ) (part : Part) (w : Word) → IsWordAt start part w → word_passes has_lower_name (token_of w) ≡ true
word_named start part w at = by_kind w.kind refl
  where
    number_named : (b : Bool) (n : ℕ) (name : tree.Name) → word_passes has_lower_name (if b then number n name else large_number) ≡ true
    number_named true n name = refl
    number_named false n name = refl

    by_kind : (k : Kind) → w.kind ≡ k → word_passes has_lower_name (token_from k (map to_ascii_lowercase w.text) (name_from w)) ≡ true
    by_kind words.name is =
        let run = named_run (form part) (bytes part) (at.kind ∙ ap Some is) in
        let short : length w.text ≤ longest_run = subst (λ text. length text ≤ longest_run) (sym at.text) (at.short run.0) in
        ap (λ o. option_map_or has_lower_name o true) (named_keeps (map to_ascii_lowercase w.text) (name_from w))
        ∙ lower_name w.text (ap is_name at.text ∙ run.1) short
    by_kind words.variable is = refl
    by_kind words.keyword is = refl
    by_kind words.number is = number_named (nat_le (number_of_digits (map to_ascii_lowercase w.text)) max_number) _ _
    by_kind words.dash is = refl
    by_kind words.equals is = refl
    by_kind words.opens is = refl
    by_kind words.closes is = refl

-- each word of a text, from any offset on
words_named : (start : ℕ) (parts : List Part) (ws : List Word) → AreGapsAndWords start parts ws → list_all (word_passes has_lower_name) (tokens_of ws) ≡ true
words_named start [] ws none = ap (λ vs. list_all (word_passes has_lower_name) (tokens_of vs)) none
words_named start (part ∷ parts) [] in_turn = refl
words_named start (part ∷ parts) (w ∷ ws) (inl (gap, rest)) = words_named (start + size part) parts (w ∷ ws) rest
words_named start (part ∷ parts) (w ∷ ws) (inr (at, rest)) = λ i. word_named start part w at i && words_named (start + size part) parts ws rest i

-- ---- empty lists

left_none : {X : Type 0} (xs ys : List X) → xs ++ ys ≡ [] → xs ≡ []
left_none [] ys none = refl
left_none (x ∷ xs) ys none = absurd (cc)

right_none : {X : Type 0} (xs ys : List X) → xs ++ ys ≡ [] → ys ≡ []
right_none [] ys none = none
right_none (x ∷ xs) ys none = absurd (cc)

map_none : {X Y : Type 0} (f : X → Y) (xs : List X) → map f xs ≡ [] → xs ≡ []
map_none f [] none = refl
map_none f (x ∷ xs) none = absurd (cc)

-- ---- distinct names

abbrev folded_word : Placed → Name
folded_word w = folded w.word

-- a name stays known when one is added
known_with-before : (before : List Name) (new name : tree.Name) → is_known before name ≡ true → is_known (with_name before new) name ≡ true
known_with-before before new name known =
    elim (is_known before new) as (λ b. is_known (if b then before else before ++ folded new ∷ []) name ≡ true) [
      | true ↦ known
      | false ↦ list_any-append (is_same (folded name)) before (folded new ∷ []) ∙ or_left (is_known before name) _ known
    ]

-- and the added one is known
known_with-new : (before : List Name) (new name : tree.Name) → is_same (folded name) (folded new) ≡ true → is_known (with_name before new) name ≡ true
known_with-new before new name same =
    elim (is_known before new) as (λ b. is_known before new ≡ b → is_known (if b then before else before ++ folded new ∷ []) name ≡ true) [
      | true ↦ λ known. ap (λ text. list_any (is_same text) before) (same_text (folded name) (folded new) (sym same)) ∙ known
      | false ↦ λ _. list_any-append (is_same (folded name)) before (folded new ∷ []) ∙ or_right (is_known before name) _ (or_left (is_same (folded name) (folded new)) false same)
    ] refl

-- if no word is listed as repeated, the first is none of the names before it, and none of the others is listed
unrepeated : (before : List Name) (v : Placed) (ws : List Placed) → repeated_after before (v ∷ ws) ≡ [] → (is_known before v.word ≡ false) × (repeated_after (with_name before v.word) ws ≡ [])
unrepeated before v ws =
    elim (is_known before v.word) as (λ b. (if b then v ∷ [] else []) ++ repeated_after (with_name before v.word) ws ≡ [] → (b ≡ false) × (repeated_after (with_name before v.word) ws ≡ [])) [
      | true ↦ λ none. absurd (cc)
      | false ↦ λ none. (refl, none)
    ]

-- and no word is one of the names before it
none_known : (before : List Name) (ws : List Placed) (w : Placed) → repeated_after before ws ≡ [] → Contains ws w → is_known before w.word ≡ true → ⊥
none_known before [] w none at known = Contains-none w at
none_known before (v ∷ ws) w none at known =
    let both = unrepeated before v ws none in
    elim (Contains-cases v ws w at) [
      | inl is ↦ true≢false (sym known ∙ ap (λ (u : Placed). is_known before u.word) (sym is) ∙ both.0)
      | inr later ↦ none_known (with_name before v.word) ws w both.1 later (known_with-before before v.word w.word known)
    ]

-- none equals the first
first_differs : (before : List Name) (v : Placed) (ws : List Placed) → repeated_after (with_name before v.word) ws ≡ [] → not (list_any (is_same (folded_word v)) (map folded_word ws)) ≡ true
first_differs before v ws none = by_test (list_any (is_same (folded_word v)) (map folded_word ws)) refl
  where
    by_test : (b : Bool) → list_any (is_same (folded_word v)) (map folded_word ws) ≡ b → not b ≡ true
    by_test false e = refl
    by_test true e =
        let same = Any-from_list_any (is_same (folded_word v)) (map folded_word ws) e in
        let there = map-Contains folded_word ws same.1 (same.0, same.2, same.3) in
        let text : folded_word v ≡ folded_word there.0 = same_text (folded_word v) same.1 (sym same.4) ∙ sym there.2 in
        absurd (none_known (with_name before v.word) ws there.0 none there.1
        (known_with-new before v.word there.0.word (ap (is_same (folded_word there.0)) text ∙ nat_list_eq_equiv.refl (folded_word there.0))))

-- if no word is repeated, the names are distinct
differ_unrepeated : (before : List Name) (ws : List Placed) → repeated_after before ws ≡ [] → differ (map folded_word ws) ≡ true
differ_unrepeated before [] none = refl
differ_unrepeated before (v ∷ ws) none =
    let both = unrepeated before v ws none in
    let later = differ_unrepeated (with_name before v.word) ws both.1 in
    λ i. first_differs before v ws both.1 i && later i

-- words whose folded names are in lower case, and of which none is refused as repeated
names_of_words : (ws : List Placed) → list_all (λ (w : Placed). has_lower_name w.word) ws ≡ true → refused 16 (repeated ws) ≡ [] → are_lower_names (map folded_word ws) ≡ true
names_of_words ws named none =
    let lower = passes_map is_lower_name folded_word ws ∙ named in
    λ i. lower i && differ_unrepeated [] ws (map_none _ (repeated ws) none) i

-- ---- the task's names

-- the words that declare predicates and actions
abbrev predicate_words : Domain → List Placed
predicate_words d = map (λ (q : Predicate). placed domain_file q.name) d.predicates

abbrev action_words : Domain → List Placed
action_words d = map (λ (a : Action). placed domain_file a.name) d.actions

-- the declarations in a file's typed lists
declared_named : (file : TaskFile) (groups : List Group) → list_all has_lower_name (names_of groups) ≡ true → list_all (λ (x : Declared). has_lower_name x.name) (declared file groups) ≡ true
declared_named file [] named = refl
declared_named file (g ∷ groups) named =
    let both = and_parts (list_all has_lower_name g.names) (list_all has_lower_name (names_of groups)) (sym (list_all-append has_lower_name g.names (names_of groups)) ∙ named) in
    let here = passes_map (λ (x : Declared). has_lower_name x.name) (λ (n : tree.Name). record { file = file; name = n; types = g.types }) g.names ∙ both.0 in
    list_all-append (λ (x : Declared). has_lower_name x.name) (declared_in_group file g) (declared file groups) ∙ (λ i. here i && declared_named file groups both.1 i)

module _ (d : Domain) (p : Problem) (well_typed : IsWellTyped d p) where
  -- no fault is in the phase at this place
  none_at : (place : ℕ) (faults : List TypingFault) → slice_get (phases d p) place ≡ Some faults → faults ≡ []
  none_at = each_empty (phases d p) well_typed

  objects_named : GroupsPass has_lower_name d.constants → GroupsPass has_lower_name p.objects → are_lower_names (object_names (task_of_trees d p)) ≡ true
  objects_named constants objects =
      let xs = declared_objects d p in
      let all = list_all-append (λ (x : Declared). has_lower_name x.name) (declared domain_file d.constants) (declared problem_file p.objects) ∙ (λ i. declared_named domain_file d.constants constants i && declared_named problem_file p.objects objects i) in
      let named = passes_map (λ (w : Placed). has_lower_name w.word) (λ (x : Declared). placed x.file x.name) xs ∙ all in
      let same : map (λ (o : Object). o.name) (map (object_in (type_names d)) xs) ≡ map folded_word (words_of xs) = map-map _ _ xs ∙ sym (map-map _ _ xs) in
      ap are_lower_names same ∙ names_of_words (words_of xs) named
      (right_none (type_faults (type_names d) xs) (refused 16 (repeated (words_of xs))) (left_none _ _ (none_at 2 _ refl)))

  predicates_named : PredicatesPass has_lower_name d.predicates → are_lower_names (names_of_predicates (task_of_trees d p).predicates) ≡ true
  predicates_named predicates =
      let named = passes_map (λ (w : Placed). has_lower_name w.word) (λ (q : Predicate). placed domain_file q.name) d.predicates ∙ predicates in
      let same : names_of_predicates (map (predicate_in (type_names d)) d.predicates) ≡ map folded_word (predicate_words d) = map-map _ _ d.predicates ∙ sym (map-map _ _ d.predicates) in
      ap are_lower_names same ∙ names_of_words (predicate_words d) named (left_none _ _ (none_at 3 _ refl))

  schemas_named : ActionsPass has_lower_name d.actions → are_lower_names (schema_names (task_of_trees d p)) ≡ true
  schemas_named actions =
      let named = passes_map (λ (w : Placed). has_lower_name w.word) (λ (a : Action). placed domain_file a.name) d.actions ∙ actions in
      let same : map (λ (s : Schema). s.name) (map (schema_in (known_in_domain d)) d.actions) ≡ map folded_word (action_words d) = map-map _ _ d.actions ∙ sym (map-map _ _ d.actions) in
      ap are_lower_names same ∙ names_of_words (action_words d) named (left_none _ _ (none_at 5 _ refl))

module _ (domain problem : List ℕ) (task : Task) (is : IsTaskOf domain problem task) where
  in_domain : DomainPasses has_lower_name is.domain_tree
  in_domain = domain_passes has_lower_name _ is.domain_tree is.domain_reads.tree (words_named 0 is.domain_reads.reads.parts is.domain_reads.words is.domain_reads.reads.in_turn)

  in_problem : ProblemPasses has_lower_name is.problem_tree
  in_problem = problem_passes has_lower_name _ is.problem_tree is.problem_reads.tree (words_named 0 is.problem_reads.reads.parts is.problem_reads.words is.problem_reads.reads.in_turn)

  task_objects_named : are_lower_names (object_names (task_of_trees is.domain_tree is.problem_tree)) ≡ true
  task_objects_named = objects_named is.domain_tree is.problem_tree is.well_typed in_domain.0 in_problem

  -- the names of a task read from files can be written and read back
  pub task_has_names : IsTrue (has_names task)
  task_has_names = subst (λ u. has_names u ≡ true) (sym is.resolved) (λ i. schemas_named is.domain_tree is.problem_tree is.well_typed in_domain.1 i && task_objects_named i)

  -- and so can those of its atoms
  pub task_has_atom_names : IsTrue (are_lower_names (names_of_predicates task.predicates) && are_lower_names (object_names task))
  task_has_atom_names =
      subst (λ (u : Task). (are_lower_names (names_of_predicates u.predicates) && are_lower_names (object_names u)) ≡ true) (sym is.resolved)
      (λ i. predicates_named is.domain_tree is.problem_tree is.well_typed in_domain.2 i && task_objects_named i)
