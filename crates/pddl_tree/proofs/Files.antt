-- The sections of a file, one after another.
use Rattle.pddl_tree.proofs.Names.{◌≡◌, ℕ, ◌+◌, true, false, cond, ◌||◌, List, [], ◌∷◌, map, fold, Option, Some, None, Result, Ok, Err, refl, sym, ◌∙◌, ap, arith, option_and_then, section_view, Word, from, first, WordFault, made, stops, bind, part, phrase, number_seen, closes_first, opens_first, ReadsInto, MayContinue, Stops, TaskFile, Token, opens, closes, keyword, of_section, of_part, Section, Contents, Phrase, gives, ◌>>=◌, and_then, after, sections, define_word, with_section, is_section, has_section, sections_of, required_of}
use Rattle.std.proofs.Common.{Bool, ◌&&◌}
use Rattle.std.specs.List.{list_all}
use Rattle.model.proofs.Tests.{passes_map}
use Rattle.pddl_tree.specs.declared.token.SectionKeyword as code
use Rattle.pddl_tree.specs.declared.word_fault.WordRefusal.{WordRefusal}
use Rattle.pddl_tree.specs.Sections.{sections_on, section_into, IsNotNew}
use Rattle.pddl_tree.proofs.Read.{taken, phrase_then, read_in_turn}
use Rattle.pddl_tree.proofs.Looks.{is_closes, refused_here, reported_first, reported_along}
use Rattle.model.specs.GrammarWords.{SectionKeyword, requirement_key, left_out_keyword, unknown_keyword}
use Rattle.model.specs.GrammarWords as words
use Rattle.model.specs.Grammar.{section, section_of, section_after, keyword_in, seen_with, has_all, left_of}
use Rattle.model.proofs.GrammarBegins.{is_left, same_section}

-- the code's test that all of these sections have occurred
pub all_seen : (tested : List code.SectionKeyword) (all seen : List SectionKeyword) (b c : Bool) → map section_view tested ≡ all → b ≡ list_all (λ k. has_section seen (section_view k)) tested → b ≡ c → has_all all seen ≡ c
all_seen tested all seen b c are is same = ap (λ l. has_all l seen) (sym are) ∙ passes_map (has_section seen) section_view tested ∙ sym is ∙ same

-- ---- remaining sections

none_left : (all seen : List SectionKeyword) → has_all all seen ≡ true → left_of all seen ≡ []
none_left [] seen e = refl
none_left (k ∷ all) seen e = by_first (has_section seen k) (none_left all seen) e
  where
    by_first : (b : Bool) → (has_all all seen ≡ true → left_of all seen ≡ []) → b && has_all all seen ≡ true → cond b (left_of all seen) (k ∷ left_of all seen) ≡ []
    by_first true rest e = rest e
    by_first false rest e = absurd (cc)

-- if not all sections have occurred, one remains
data AreLeft (left : List SectionKeyword) : Type 0 where
  some_left : (k : SectionKeyword) (others : List SectionKeyword) → left ≡ k ∷ others → AreLeft left

are_left : (all seen : List SectionKeyword) → has_all all seen ≡ false → AreLeft (left_of all seen)
are_left [] seen e = absurd (cc)
are_left (k ∷ all) seen e = by_first (has_section seen k) (are_left all seen) e
  where
    by_first : (b : Bool) → (has_all all seen ≡ false → AreLeft (left_of all seen)) → b && has_all all seen ≡ false → AreLeft (cond b (left_of all seen) (k ∷ left_of all seen))
    by_first true rest e = rest e
    by_first false rest e = some_left k (left_of all seen) refl

-- a remaining section is one of all, and has not occurred
left_is : (j : SectionKeyword) (all seen : List SectionKeyword) → has_section (left_of all seen) j ≡ true → (has_section all j ≡ true) × (has_section seen j ≡ false)
left_is j [] seen e = absurd (cc)
left_is j (k ∷ all) seen e = by_first (has_section seen k) refl (is_section j k) refl (left_is j all seen) e
  where
    by_first : (b : Bool) → has_section seen k ≡ b → (c : Bool) → is_section j k ≡ c → (has_section (left_of all seen) j ≡ true → (has_section all j ≡ true) × (has_section seen j ≡ false)) → has_section (cond b (left_of all seen) (k ∷ left_of all seen)) j ≡ true → (is_section j k || has_section all j ≡ true) × (has_section seen j ≡ false)
    by_first true was c is rest e = let h = rest e in (by_or (is_section j k) (has_section all j) h.0, h.1)
      where
        by_or : (b c : Bool) → c ≡ true → b || c ≡ true
        by_or true c e = refl
        by_or false c e = e
    by_first false was true is rest e = (ap (λ b. b || has_section all j) is, ap (has_section seen) (same_section j k is) ∙ was)
    by_first false was false is rest e = let h = rest (sym (ap (λ b. b || has_section (left_of all seen) j) is) ∙ e) in (ap (λ b. b || has_section all j) is ∙ h.0, h.1)

-- ---- one section

-- what follows the keyword of a section has that keyword
of_kind : (j : SectionKeyword) {B : Type 0} (q : SectionKeyword → Section → Phrase B) → and_then (section_after j) (λ x. q (keyword_in x) x) ≡ and_then (section_after j) (λ x. q j x)
of_kind words.requirements q = refl
of_kind words.types q = refl
of_kind words.constants q = refl
of_kind words.predicates q = refl
of_kind words.functions q = refl
of_kind words.action q = refl
of_kind words.domain_keyword q = refl
of_kind words.objects q = refl
of_kind words.init q = refl
of_kind words.goal q = refl
of_kind words.metric q = refl

-- the `(` and the keyword of a section that has not occurred, and what follows them
begun : (f : TaskFile) (seen : List SectionKeyword) (j : SectionKeyword) (c : Contents) (list : List Word) (at : ℕ) → first (from list at) ≡ Some opens → first (from list (at + 1)) ≡ Some (keyword (of_section j))
    → has_section (sections_of f) j ≡ true → has_section seen j ≡ false → phrase (sections_on f seen c) (from list at) ≡ bind (phrase (section_into j c) (from list (at + 2))) (λ d w. phrase (sections_on f (seen_with seen j) d) w)
begun f seen j c list at o e here new = by_left (left_of (sections_of f) seen) refl (is_left j (sections_of f) seen here new)
  where
    by_left : (l : List SectionKeyword) → left_of (sections_of f) seen ≡ l → has_section l j ≡ true → phrase (sections_on f seen c) (from list at) ≡ bind (phrase (section_into j c) (from list (at + 2))) (λ d w. phrase (sections_on f (seen_with seen j) d) w)
    by_left [] are has = absurd (cc)
    by_left (i ∷ others) are has =
        ap (λ r. bind r (λ ss w. made (fold with_section c ss) w)) (taken (sections f seen) list at opens o (ap (section_of f seen) are)
        ∙ ap (λ r. bind r (λ x w. bind (part (sections f (seen_with seen (keyword_in x))) w) (λ xs v. made (x ∷ xs) v))) (taken (section f i others) list (at + 1) (keyword (of_section j)) e (ap (λ b. cond b (Some (section_after j)) None) has))
        ∙ sym (phrase_then (section_after j) (λ x. sections f (seen_with seen (keyword_in x)) >>= λ xs. gives (x ∷ xs)) (from list (at + 1 + 1))))
        ∙ read_in_turn (section_after j) (λ x. sections f (seen_with seen (keyword_in x)) >>= λ xs. gives (x ∷ xs)) (λ ss. gives (fold with_section c ss)) (from list (at + 1 + 1))
        ∙ ap (λ p. phrase p (from list (at + 1 + 1))) (of_kind j (λ k x. sections_on f (seen_with seen k) (with_section c x)))
        ∙ sym (read_in_turn (section_after j) (λ x. gives (with_section c x)) (λ d. sections_on f (seen_with seen j) d) (from list (at + 1 + 1)))
        ∙ ap (λ n. bind (phrase (section_into j c) (from list n)) (λ d w. phrase (sections_on f (seen_with seen j) d) w)) (omega arith)

pub section_answers : (f : TaskFile) (seen : List SectionKeyword) (j : SectionKeyword) (c d : Contents) (list : List Word) (at : ℕ) (r : Result ℕ WordFault) → first (from list at) ≡ Some opens → first (from list (at + 1)) ≡ Some (keyword (of_section j))
    → has_section (sections_of f) j ≡ true → has_section seen j ≡ false → ReadsInto (phrase (section_into j c)) list (at + 2) d r → MayContinue (phrase (sections_on f seen c)) (phrase (sections_on f (seen_with seen j) d)) list at r
section_answers f seen j c d list at (Ok next) o e here new h = (begun f seen j c list at o e here new ∙ ap (λ r. bind r (λ d w. phrase (sections_on f (seen_with seen j) d) w)) h.0, (omega (arith, h.1.0), h.1.1))
section_answers f seen j c d list at (Err fault) o e here new h =
    reported_along list _ _ fault (begun f seen j c list at o e here new) (reported_first list _ (λ d w. phrase (sections_on f (seen_with seen j) d) w) fault h)

-- `)` after everything required
pub sections_end : (f : TaskFile) (seen : List SectionKeyword) (c : Contents) (list : List Word) (at : ℕ) → closes_first (first (from list at)) ≡ true → has_all (required_of f) seen ≡ true → phrase (sections_on f seen c) (from list at) ≡ made c (from list (at + 1))
sections_end f seen c list at e all =
    ap (λ r. bind r (λ ss w. made (fold with_section c ss) w)) (taken (sections f seen) list at closes (is_closes (first (from list at)) e) (ap (λ b. cond b (Some (gives [])) None) all))

-- ---- words that may not occur there

-- any word, if all sections have occurred
pub sections_full : (f : TaskFile) (seen : List SectionKeyword) (list : List Word) (at : ℕ) → has_all (sections_of f) seen ≡ true → closes_first (first (from list at)) ≡ false → part (sections f seen) (from list at) ≡ stops (number_seen define_word (first (from list at))) (from list at)
sections_full f seen list at all e = let h = by_word (first (from list at)) e in refused_here (sections f seen) define_word list at h.0 h.1
  where
    by_word : (o : Option Token) → closes_first o ≡ false → (option_and_then (after (sections f seen)) o ≡ None) × (number_seen define_word o ≡ number_seen (sections f seen) o)
    by_word None e = (refl, refl)
    by_word (Some closes) e = absurd (cc)
    by_word (Some opens) e = (ap (section_of f seen) (none_left (sections_of f) seen all), refl)
    by_word (Some t) e = (refl, refl)

-- a word other than `(`
pub sections_not_open : (f : TaskFile) (seen : List SectionKeyword) (list : List Word) (at : ℕ) → opens_first (first (from list at)) ≡ false → closes_first (first (from list at)) ≡ false → part (sections f seen) (from list at) ≡ stops (number_seen define_word (first (from list at))) (from list at)
sections_not_open f seen list at n e = let h = by_word (first (from list at)) n e in refused_here (sections f seen) define_word list at h.0 h.1
  where
    by_word : (o : Option Token) → opens_first o ≡ false → closes_first o ≡ false → (option_and_then (after (sections f seen)) o ≡ None) × (number_seen define_word o ≡ number_seen (sections f seen) o)
    by_word None n e = (refl, refl)
    by_word (Some closes) n e = absurd (cc)
    by_word (Some opens) n e = absurd (cc)
    by_word (Some t) n e = (refl, refl)

-- `)` before everything required
pub sections_missing : (f : TaskFile) (seen : List SectionKeyword) (c : Contents) (list : List Word) (at : ℕ) → has_all (required_of f) seen ≡ false → closes_first (first (from list at)) ≡ true → phrase (sections_on f seen c) (from list at) ≡ stops (number_seen define_word (first (from list at))) (from list at)
sections_missing f seen c list at none e = let h = by_word (first (from list at)) e in ap (λ r. bind r (λ ss w. made (fold with_section c ss) w)) (refused_here (sections f seen) define_word list at h.0 h.1)
  where
    by_word : (o : Option Token) → closes_first o ≡ true → (option_and_then (after (sections f seen)) o ≡ None) × (number_seen define_word o ≡ number_seen (sections f seen) o)
    by_word (Some closes) e = (ap (λ b. cond b (Some (gives [])) None) none, refl)
    by_word o e = absurd (cc)

-- no keyword of a remaining section after `(`
pub no_section : (f : TaskFile) (seen : List SectionKeyword) (list : List Word) (at : ℕ) (refusal : WordRefusal) → first (from list at) ≡ Some opens → has_all (sections_of f) seen ≡ false → IsNotNew list (at + 1) f seen refusal → Stops list (part (sections f seen) (from list at)) refusal
no_section f seen list at refusal o some h = by_left (are_left (sections_of f) seen some)
  where
    by_left : AreLeft (left_of (sections_of f) seen) → Stops list (part (sections f seen) (from list at)) refusal
    by_left (some_left k others are) =
        taken (sections f seen) list at opens o (ap (section_of f seen) are)
        ∙ ap (λ r. bind r (λ x w. bind (part (sections f (seen_with seen (keyword_in x))) w) (λ xs v. made (x ∷ xs) v))) (refused_here (section f k others) (section f words.requirements []) list (at + 1) (by_first (first (from list (at + 1))) refl) (number (first (from list (at + 1)))))
        ∙ (λ i. stops (sym h.1.0 i) (from list (sym h.1.1 i)))
      where
        number : (x : Option Token) → number_seen (section f words.requirements []) x ≡ number_seen (section f k others) x
        number None = refl
        number (Some (keyword j)) = refl
        number (Some t) = refl

        not_left : (j : SectionKeyword) → first (from list (at + 1)) ≡ Some (keyword (of_section j)) → (b : Bool) → has_section (k ∷ others) j ≡ b → b ≡ false
        not_left j is false e = refl
        not_left j is true e = let l = left_is j (sections_of f) seen (ap (λ l. has_section l j) are ∙ e) in absurd (let s = h.0 j is l.0 in let n = l.1 in cc)

        by_first : (x : Option Token) → first (from list (at + 1)) ≡ x → option_and_then (after (section f k others)) x ≡ None
        by_first None is = refl
        by_first (Some (keyword (of_section j))) is = ap (λ b. cond b (Some (section_after j)) None) (not_left j is (has_section (k ∷ others) j) refl)
        by_first (Some (keyword (of_part p))) is = refl
        by_first (Some (keyword requirement_key)) is = refl
        by_first (Some (keyword left_out_keyword)) is = refl
        by_first (Some (keyword unknown_keyword)) is = refl
        by_first (Some t) is = refl
