-- The head of a file, from its words one by one.
use Rattle.pddl_tree.proofs.Names.{◌≡◌, ℕ, ◌+◌, suc, List, [], ◌∷◌, map, length, false, Option, Some, None, refl, sym, ◌∙◌, ap, subst, arith, option_map, option_and_then, Word, word_of, from, first, made, stops, by_rule, part, number_seen, opens_first, TaskFile, Name, Token, opens, closes, free, reserved, token_of, tokens_of, Sort, Value, Phrase, gives, ◌>>=◌, and_then, after, file, define_word, a_name, close, start, number_at}
use Rattle.std.proofs.Common.{inl, inr, take}
use Rattle.pddl_tree.specs.Head.{HasHead, HasNoHead, after_head}
use Rattle.model.specs.Trees.{domain_file, problem_file}
use Rattle.model.specs.GrammarWords as words
use Rattle.model.specs.Grammar.{kind_list, kind_word}
use Rattle.model.specs.Refusals.{Begins, after_all}
use Rattle.model.proofs.GrammarBegins.{begins}
use Rattle.pddl_tree.proofs.Read.{part_here, part_none, part_of, from_first}
use Rattle.pddl_tree.proofs.Looks.{refused_here}
use Rattle.pddl_tree.proofs.Reported.{same_tokens}

-- ---- one word

-- a single word is taken
abbrev IsAlone : {A : Type 0} → Option (Phrase A) → Type 0
IsAlone None = Unit {0}
IsAlone (Some (gives x)) = Unit {0}
IsAlone (Some (s >>= h)) = ⊥

record IsOneWord (s : Sort) (w : List Token) (x : Value s) (v : List Token) : Type 0 where
  token : Token
  whole : w ≡ token ∷ v
  rule : after s token ≡ Some (gives x)

one_word : (s : Sort) → ((t : Token) → IsAlone (after s t)) → (w : List Token) (x : Value s) (v : List Token) → part s w ≡ made x v → IsOneWord s w x v
one_word s alone [] x v e = let none = part_none s in absurd (cc)
one_word s alone (t ∷ w) x v e = by_after (after s t) refl (alone t) (sym (part_of s w t) ∙ e)
  where
    by_after : (o : Option (Phrase (Value s))) → after s t ≡ o → IsAlone o → by_rule part o w (stops (number_at s t) (t ∷ w)) ≡ made x v → IsOneWord s (t ∷ w) x v
    by_after None is alone e = absurd (cc)
    by_after (Some (gives y)) is alone e =
        let same : y ≡ x = cc in let left : w ≡ v = cc in
        record { token = t; whole = ap (λ u. t ∷ u) left; rule = is ∙ ap (λ z. Some (gives z)) same }
    by_after (Some (u >>= h)) is alone e = absurd alone

define_alone : (t : Token) → IsAlone (after define_word t)
define_alone (free words.define n) = tt
define_alone t = tt

kind_alone : (f : TaskFile) (t : Token) → IsAlone (after (kind_word f) t)
kind_alone domain_file (free words.domain n) = tt
kind_alone problem_file (free words.problem n) = tt
kind_alone domain_file t = tt
kind_alone problem_file t = tt

name_alone : (t : Token) → IsAlone (after a_name t)
name_alone (free f n) = tt
name_alone (reserved r n) = tt
name_alone t = tt

close_alone : (t : Token) → IsAlone (after close t)
close_alone closes = tt
close_alone t = tt

-- ---- the words of a head

-- one more word
on_word : {T : Type 0} (s : Sort) (t : Token) (w : List Token) (x : Value s) (k : Value s → Phrase T) → after s t ≡ Some (gives x) → after_all (t ∷ w) (s >>= k) ≡ after_all w (k x)
on_word s t w x k e = ap (λ o. option_and_then (λ q. after_all w q) (option_map (λ p. and_then p k) o)) e

-- the words of a head lead to what follows it
head_leads : (f : TaskFile) (t1 t3 t4 t5 : Token) (n : Name) → after define_word t1 ≡ Some (gives tt) → after (kind_word f) t3 ≡ Some (gives tt) → after a_name t4 ≡ Some (gives n) → after close t5 ≡ Some (gives tt)
    → after_all (opens ∷ t1 ∷ opens ∷ t3 ∷ t4 ∷ t5 ∷ []) (start f) ≡ Some (after_head f n)
head_leads f t1 t3 t4 t5 n defines is named closed =
    on_word define_word t1 (opens ∷ t3 ∷ t4 ∷ t5 ∷ []) tt (λ _. kind_list >>= λ _. kind_word f >>= λ _. a_name >>= λ m. close >>= λ _. after_head f m) defines
    ∙ on_word (kind_word f) t3 (t4 ∷ t5 ∷ []) tt (λ _. a_name >>= λ m. close >>= λ _. after_head f m) is
    ∙ on_word a_name t4 (t5 ∷ []) n (λ m. close >>= λ _. after_head f m) named
    ∙ on_word close t5 [] tt (λ _. after_head f n) closed

pub opened : (list : List Word) (at next : ℕ) → first (from list at) ≡ Some opens → next ≡ at + 1 → from list at ≡ opens ∷ from list next
opened list at next o is = from_first list at opens o ∙ ap (λ i. opens ∷ from list i) (sym is)

pub has_head : (f : TaskFile) (n : Name) {w0 w1 w2 w3 w4 w5 w6 : List Token} → w0 ≡ opens ∷ w1 → part define_word w1 ≡ made tt w2 → w2 ≡ opens ∷ w3 → part (kind_word f) w3 ≡ made tt w4 → part a_name w4 ≡ made n w5 → part close w5 ≡ made tt w6 → HasHead f w0
has_head f n {w0} {w1} {w2} {w3} {w4} {w5} {w6} o defines p is named closed =
    let d = one_word define_word define_alone w1 tt w2 defines in let k = one_word (kind_word f) (kind_alone f) w3 tt w4 is in
    let a = one_word a_name name_alone w4 n w5 named in let c = one_word close close_alone w5 tt w6 closed in
    let whole : w0 ≡ opens ∷ d.token ∷ opens ∷ k.token ∷ a.token ∷ c.token ∷ w6 =
    o ∙ ap (λ w. opens ∷ w) (d.whole ∙ ap (λ w. d.token ∷ w) (p ∙ ap (λ w. opens ∷ w) (k.whole ∙ ap (λ w. k.token ∷ w) (a.whole ∙ ap (λ w. a.token ∷ w) c.whole)))) in
    let size : length w0 ≡ suc (suc (suc (suc (suc (suc (length w6)))))) = ap length whole in
    (omega (arith, size), subst (λ w. Begins f (take 6 w)) (sym whole) (begins f (opens ∷ d.token ∷ opens ∷ k.token ∷ a.token ∷ c.token ∷ []) (after_head f n) (head_leads f d.token k.token a.token c.token n d.rule k.rule a.rule c.rule)))

-- a head is not missing
pub no_head : (f : TaskFile) (list : List Word) → HasHead f (from list 0) → HasNoHead f (tokens_of (map word_of list)) → ⊥
no_head f list head (inl short) =
    let same : length (map (λ w. token_of (word_of w)) list) ≡ length (tokens_of (map word_of list)) = ap length (same_tokens list) in
    omega (arith, same, head.0)
no_head f list head (inr none) = none (subst (λ w. Begins f (take 6 w)) (same_tokens list) head.1)

-- no `(` where the file's list, or that of its kind, is required
pub file_not_open : (f : TaskFile) (list : List Word) (at : ℕ) → opens_first (first (from list at)) ≡ false → part (file f) (from list at) ≡ stops (number_seen close (first (from list at))) (from list at)
file_not_open f list at e = let h = by_word (first (from list at)) e in refused_here (file f) close list at h.0 h.1
  where
    by_word : (o : Option Token) → opens_first o ≡ false → (option_and_then (after (file f)) o ≡ None) × (number_seen close o ≡ number_seen (file f) o)
    by_word None e = (refl, refl)
    by_word (Some opens) e = absurd (cc)
    by_word (Some t) e = (refl, refl)

pub kind_not_open : (list : List Word) (at : ℕ) → opens_first (first (from list at)) ≡ false → part kind_list (from list at) ≡ stops (number_seen define_word (first (from list at))) (from list at)
kind_not_open list at e = let h = by_word (first (from list at)) e in refused_here kind_list define_word list at h.0 h.1
  where
    by_word : (o : Option Token) → opens_first o ≡ false → (option_and_then (after kind_list) o ≡ None) × (number_seen define_word o ≡ number_seen kind_list o)
    by_word None e = (refl, refl)
    by_word (Some opens) e = absurd (cc)
    by_word (Some t) e = (refl, refl)

pub ruleset of_heads = (file_not_open, kind_not_open, part_here)
