-- How the machine reads a whole file, in the terms of the public contracts.
use Rattle.pddl_tree.proofs.Names.{◌≡◌, ℕ, zero, suc, ◌-◌, ◌<◌, ◌≤◌, List, [], ◌∷◌, map, drop, length, fold, Option, None, Some, refl, sym, ◌∙◌, ap, arith, option_map, Word, word_of, from, first, At, NoMemory, WordFault, reported, Reading, made, stops, bind, part, phrase, number_seen, Reports, Tree, Section, Contents, gives, close, file, sections, tree_from, with_section, TaskFile, Name, Token, token_of, tokens_of, start, Outcome, run, stopped}
use Rattle.std.proofs.Common.{◌≢◌}
use Rattle.std.specs.Prelude.{IfSome, slice_get}
use Rattle.std.proofs.lemmas.List.{length-drop, length-map}
use Rattle.std.proofs.lemmas.Option.{slice_get_past, slice_get-map}
use Rattle.pddl_tree.specs.Refusal.{fault_of}
use Rattle.pddl_tree.specs.Head.{at_end, no_more, after_head}
use Rattle.pddl_tree.specs.Sections.{sections_on}
use Rattle.pddl_tree.proofs.Read.{ends_as, run_part}
use Rattle.pddl_tree.proofs.Looks.{reported_first}
use Rattle.model.specs.Words.{end_of}
use Rattle.model.specs.Words as text
use Rattle.model.specs.Grammar.{IsFile, no_contents}
use Rattle.model.specs.Refusals.{IsWhole, IsRefused, end_of_all, span_by, span_of_place, by_word}
use Rattle.model.specs.GrammarMachine.{finished}
use Rattle.model.proofs.GrammarMeaning.{run_file, file_run}
use Rattle.model.proofs.GrammarRefusals.{refused_at}

abbrev token : Word → Token
token w = token_of (word_of w)

pub same_tokens : (words : List Word) → map token words ≡ tokens_of (map word_of words)
same_tokens [] = refl
same_tokens (w ∷ words) = ap (λ ts. token w ∷ ts) (same_tokens words)

pub file_read : (f : TaskFile) (words : List Word) (t : Tree) → run (from words 0) (start f) ≡ finished t → IsFile f (tokens_of (map word_of words)) t
file_read f words t e = run_file f (tokens_of (map word_of words)) t (ap (λ w. run w (start f)) (sym (same_tokens words)) ∙ e)

abbrev StopsAs : TaskFile → List Word → Option (ℕ × ℕ) → Type 0
StopsAs f words o = IfSome o (λ p. run (from words 0) (start f) ≡ stopped p.0 (from words p.1))

pub refused_by : (f : TaskFile) (words : List Word) (o : Option (ℕ × ℕ)) → StopsAs f words o → IfSome (fault_of (map word_of words) o) (IsRefused f (map word_of words))
refused_by f words None h = tt
refused_by f words (Some p) h =
    refused_at f (map word_of words) p.0 p.1 (ap (λ w. run w (start f)) (sym (same_tokens words)) ∙ h ∙ ap (λ w. stopped p.0 (drop p.1 w)) (same_tokens words))

pub taken_by : (f : TaskFile) (words : List Word) (o : Option (ℕ × ℕ)) → StopsAs f words o → IsWhole f (tokens_of (map word_of words)) → fault_of (map word_of words) o ≡ None
taken_by f words None h whole = refl
taken_by f words (Some p) h whole =
    let same : finished whole.0 ≡ stopped p.0 (from words p.1) = sym (file_run whole.1) ∙ ap (λ w. run w (start f)) (sym (same_tokens words)) ∙ h in
    absurd (cc)

-- the end of the last word
last_end : (words : List text.Word) (w : text.Word) (i : ℕ) → length words ≡ suc i → slice_get words i ≡ Some w → end_of_all words ≡ end_of w
last_end [] w i n e = absurd (omega arith)
last_end (x ∷ []) w zero n e = let same : x ≡ w = cc in ap end_of same
last_end (x ∷ []) w (suc i) n e = absurd (cc)
last_end (x ∷ y ∷ rest) w zero n e = absurd (omega arith)
last_end (x ∷ y ∷ rest) w (suc i) n e = last_end (y ∷ rest) w i (omega arith) e

pub past_end : (words : List Word) (at : ℕ) (w : Word) → length words ≤ at → Some w ≡ slice_get words (length words - 1) → span_of_place (map word_of words) at ≡ record { start = end_of (word_of w); end = end_of (word_of w) }
past_end [] at w h e = absurd (cc)
past_end (x ∷ rest) at w h e =
    let ws = map word_of (x ∷ rest) in
    let last : slice_get ws (length rest) ≡ Some (word_of w) =
    slice_get-map word_of (x ∷ rest) (length rest) ∙ ap (λ i. option_map word_of (slice_get (x ∷ rest) i)) (omega arith) ∙ ap (option_map word_of) (sym e) in
    let ends : end_of_all ws ≡ end_of (word_of w) = last_end ws (word_of w) (length rest) (ap suc (length-map rest word_of)) last in
    ap (span_by ws) (slice_get_past ws at (simp length-map h)) ∙ ap (λ n. record { start = n; end = n }) ends

-- an index within the words is not past them
pub not_past : (words : List Word) (at : ℕ) → at < length words → from words at ≢ []
not_past words at h e =
    let n : length (from words at) ≡ 0 = ap length e in
    absurd (omega (arith, simp (length-drop, length-map) at n))

-- a word after a file's last one
pub trailing : (words : List Word) (at : ℕ) → at < length words → no_more (from words at) ≡ stops (number_seen close (first (from words at))) (from words at)
trailing words at h = by_words (from words at) (not_past words at h)
  where
    by_words : (w : List Token) → w ≢ [] → no_more w ≡ stops (number_seen close (first w)) w
    by_words [] apart = absurd (apart refl)
    by_words (t ∷ w) apart = refl

-- it is reported whatever was read before
pub trailing_all : {A : Type 0} (x : A) (w : List Token) (n : ℕ) (v : List Token) → no_more w ≡ stops n v → at_end x w ≡ stops n v
trailing_all x [] n v e = absurd (cc)
trailing_all x (t ∷ w) n v e = let number : by_word t ≡ n = cc in let left : t ∷ w ≡ v = cc in λ i. stops (number i) (left i)

pub ruleset of_rest = (reported_first, trailing_all)

-- ---- a file by its sections

-- how the machine ends, by what is read after the head
abbrev pub outcome : TaskFile → Name → Reading Contents → Outcome Tree
outcome f n (made c w) = finished (tree_from f n c)
outcome f n (stops m w) = stopped m w

pub file_ends : (f : TaskFile) (n : Name) (w v : List Token) → part (file f) w ≡ phrase (after_head f n) v → run w (start f) ≡ outcome f n (bind (phrase (sections_on f [] no_contents) v) at_end)
file_ends f n w v e = run_part (file f) w gives ∙ ap (λ r. ends_as r gives) e ∙ by_sections (part (sections f []) v)
  where
    by_sections : (r : Reading (List Section)) → ends_as (bind r (λ ss u. made (tree_from f n (fold with_section no_contents ss)) u)) gives ≡ outcome f n (bind (bind r (λ ss u. made (fold with_section no_contents ss) u)) at_end)
    by_sections (made ss []) = refl
    by_sections (made ss (t ∷ u)) = refl
    by_sections (stops m u) = refl

-- in terms of what is reported
pub head_stops : (f : TaskFile) (words : List Word) (refusal : WordFault) → Reports words (part (file f) (from words 0)) refusal → StopsAs f words (reported refusal)
head_stops f words (At r) h = run_part (file f) (from words 0) gives ∙ ap (λ r. ends_as r gives) h
head_stops f words NoMemory h = tt

pub all_stop : (f : TaskFile) (n : Name) (words : List Word) (at : ℕ) (refusal : WordFault) → part (file f) (from words 0) ≡ phrase (after_head f n) (from words at) → Reports words (bind (phrase (sections_on f [] no_contents) (from words at)) at_end) refusal → StopsAs f words (reported refusal)
all_stop f n words at (At r) e h = file_ends f n (from words 0) (from words at) e ∙ ap (outcome f n) h
all_stop f n words at NoMemory e h = tt
