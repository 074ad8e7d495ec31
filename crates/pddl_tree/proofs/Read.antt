-- How the grammar reads words: the first word decides, and the machine ends accordingly.
use Rattle.pddl_tree.proofs.Names.{◌≡◌, ℕ, suc, zero, ◌+◌, ◌<◌, ◌≤◌, List, [], ◌∷◌, map, drop, length, Option, Some, None, refl, sym, ◌∙◌, ap, arith, option_map, Word, word_of, from, first, Token, token_of, Sort, Value, Tree, Phrase, gives, ◌>>=◌, and_then, after, Outcome, stopped, run, number_at, Reading, made, stops, bind, by_rule, phrase}
use Rattle.std.proofs.Common.{add-one}
use Rattle.model.specs.GrammarMachine.{go_on}
use Rattle.pddl_tree.specs.Reading.{phrase_by, within, part}

-- what the first word decides
abbrev pub by_first : (s : Sort) → Option Token → List Token → List Token → Reading (Value s)
by_first s None w here = stops 7 here
by_first s (Some t) w here = by_rule part (after s t) w (stops (number_at s t) here)

abbrev Parts : Type 0
Parts = (s : Sort) → List Token → Reading (Value s)

-- ---- the rest is shorter

abbrev Shortens : Parts → Type 0
Shortens f = (s : Sort) (w : List Token) (x : Value s) (v : List Token) → f s w ≡ made x v → length v < length w

phrase_shortens : {A : Type 0} (f : Parts) → Shortens f → (p : Phrase A) (w : List Token) (x : A) (v : List Token) → phrase_by f p w ≡ made x v → length v ≤ length w
phrase_shortens f h (gives y) w x v e = let same : w ≡ v = cc in omega (arith, ap length same)
phrase_shortens f h (s >>= k) w x v e = by_part (f s w) refl (λ y u. phrase_shortens f h (k y) u x v) e
  where
    by_part : (r : Reading (Value s)) → f s w ≡ r → ((y : Value s) (u : List Token) → phrase_by f (k y) u ≡ made x v → length v ≤ length u) → bind r (λ x v. phrase_by f (k x) v) ≡ made x v → length v ≤ length w
    by_part (made y u) is rest e = let one = h s w y u is in let left = rest y u e in omega arith
    by_part (stops n u) is rest e = absurd (cc)

within_shortens : (n : ℕ) → Shortens (within n)
unfolding within
within_shortens zero s w x v e = absurd (cc)
within_shortens (suc n) s [] x v e = absurd (cc)
within_shortens (suc n) s (t ∷ w) x v e = by_after (within_shortens n) (after s t) e
  where
    by_after : Shortens (within n) → (o : Option (Phrase (Value s))) → by_rule (within n) o w (stops (number_at s t) (t ∷ w)) ≡ made x v → length v < suc (length w)
    by_after short (Some p) e = let left = phrase_shortens (within n) short p w x v e in omega arith
    by_after short None e = absurd (cc)

-- ---- the bound on the number of words makes no difference

abbrev Agree : ℕ → Parts → Parts → Type 0
Agree n f g = (s : Sort) (w : List Token) → length w < n → f s w ≡ g s w

phrases_agree : {A : Type 0} (n : ℕ) (f g : Parts) → Shortens f → Agree n f g → (p : Phrase A) (w : List Token) → length w < n → phrase_by f p w ≡ phrase_by g p w
phrases_agree n f g short same (gives y) w l = refl
phrases_agree n f g short same (s >>= k) w l = by_part (f s w) refl (λ y u. phrases_agree n f g short same (k y) u) ∙ ap (λ r. bind r (λ x v. phrase_by g (k x) v)) (same s w l)
  where
    by_part : (r : Reading (Value s)) → f s w ≡ r → ((y : Value s) (u : List Token) → length u < n → phrase_by f (k y) u ≡ phrase_by g (k y) u) → bind r (λ x v. phrase_by f (k x) v) ≡ bind r (λ x v. phrase_by g (k x) v)
    by_part (made y u) is rest = let less = short s w y u is in rest y u (omega arith)
    by_part (stops m u) is rest = refl

within_agree : (n m : ℕ) → n ≤ m → Agree n (within n) (within m)
unfolding within
within_agree zero m le s w l = absurd (omega arith)
within_agree (suc n) zero le s w l = absurd (omega arith)
within_agree (suc n) (suc m) le s [] l = refl
within_agree (suc n) (suc m) le s (t ∷ w) l = by_after (within_agree n m (omega arith)) (after s t)
  where
    by_after : Agree n (within n) (within m) → (o : Option (Phrase (Value s))) → by_rule (within n) o w (stops (number_at s t) (t ∷ w)) ≡ by_rule (within m) o w (stops (number_at s t) (t ∷ w))
    by_after same (Some p) = phrases_agree n (within n) (within m) (within_shortens n) same p w (omega arith)
    by_after same None = refl

-- ---- the first word

pub part_none : (s : Sort) → part s [] ≡ stops 7 []
unfolding part within
part_none s = refl

pub part_of : (s : Sort) (w : List Token) (t : Token) → part s (t ∷ w) ≡ by_first s (Some t) w (t ∷ w)
unfolding part within
part_of s w t = by_after (after s t)
  where
    same : Agree (suc (length w)) (within (suc (length w))) part
    same s v l = sym (within_agree (suc (length v)) (suc (length w)) (omega arith) s v (omega arith))

    by_after : (o : Option (Phrase (Value s))) → by_rule (within (suc (length w))) o w (stops (number_at s t) (t ∷ w)) ≡ by_rule part o w (stops (number_at s t) (t ∷ w))
    by_after (Some p) = phrases_agree (suc (length w)) (within (suc (length w))) part (within_shortens (suc (length w))) same p w (omega arith)
    by_after None = refl

abbrev rest_of : List Token → List Token
rest_of [] = []
rest_of (t ∷ w) = w

rest-drop : (n : ℕ) (w : List Token) → rest_of (drop n w) ≡ drop (suc n) w
rest-drop zero [] = refl
rest-drop zero (t ∷ w) = refl
rest-drop (suc n) [] = refl
rest-drop (suc n) (t ∷ w) = rest-drop n w

by_words : (s : Sort) (w : List Token) → part s w ≡ by_first s (first w) (rest_of w) w
unfolding part within
by_words s [] = refl
by_words s (t ∷ w) = part_of s w t

pub part_here : (s : Sort) (words : List Word) (at : ℕ) → part s (from words at) ≡ by_first s (first (from words at)) (from words (at + 1)) (from words at)
part_here s words at =
    let all = map (λ w. token_of (word_of w)) words in
    by_words s (from words at) ∙ ap (λ v. by_first s (first (from words at)) v (from words at)) (rest-drop at all ∙ ap (λ i. drop i all) (sym (add-one at)))

first_is : (w : List Token) (t : Token) → first w ≡ Some t → w ≡ t ∷ rest_of w
first_is [] t e = absurd (cc)
first_is (u ∷ w) t e = let same : u ≡ t = cc in ap (λ x. x ∷ w) same

-- the words from an index on, given the one at the index
pub from_first : (words : List Word) (at : ℕ) (t : Token) → first (from words at) ≡ Some t → from words at ≡ t ∷ from words (at + 1)
from_first words at t e =
    let all = map (λ w. token_of (word_of w)) words in
    first_is (from words at) t e ∙ ap (λ w. t ∷ w) (rest-drop at all ∙ ap (λ i. drop i all) (sym (add-one at)))

-- a word that may occur there is taken
pub taken : (s : Sort) {p : Phrase (Value s)} (words : List Word) (at : ℕ) (t : Token) → first (from words at) ≡ Some t → after s t ≡ Some p → part s (from words at) ≡ phrase p (from words (at + 1))
taken s words at t e f =
    part_here s words at ∙ ap (λ o. by_first s o (from words (at + 1)) (from words at)) e ∙ ap (λ o. by_rule part o (from words (at + 1)) (stops (number_at s t) (from words at))) f

-- ---- the machine

abbrev pub ends_as : {A T : Type 0} → Reading A → (A → Phrase T) → Outcome T
ends_as (made x w) k = run w (k x)
ends_as (stops n w) k = stopped n w

abbrev Ends : ℕ → Parts → Type 0
Ends n f = (s : Sort) (w : List Token) → length w < n → (k : Value s → Phrase Tree) → run w (s >>= k) ≡ ends_as (f s w) k

run_phrase_by : {A : Type 0} (n : ℕ) (f : Parts) → Shortens f → Ends n f → (p : Phrase A) (w : List Token) → length w < n → (k : A → Phrase Tree) → run w (and_then p k) ≡ ends_as (phrase_by f p w) k
run_phrase_by n f short ends (gives y) w l k = refl
run_phrase_by n f short ends (s >>= h) w l k = ends s w l (λ x. and_then (h x) k) ∙ by_part (f s w) refl (λ y u l. run_phrase_by n f short ends (h y) u l k)
  where
    by_part : (r : Reading (Value s)) → f s w ≡ r → ((y : Value s) (u : List Token) → length u < n → run u (and_then (h y) k) ≡ ends_as (phrase_by f (h y) u) k) → ends_as r (λ x. and_then (h x) k) ≡ ends_as (bind r (λ x v. phrase_by f (h x) v)) k
    by_part (made y u) is rest = let less = short s w y u is in rest y u (omega arith)
    by_part (stops m u) is rest = refl

run_within : (n : ℕ) → Ends n (within n)
unfolding within
run_within zero s w l k = absurd (omega arith)
run_within (suc n) s [] l k = refl
run_within (suc n) s (t ∷ w) l k = by_after (run_within n) (after s t)
  where
    by_after : Ends n (within n) → (o : Option (Phrase (Value s))) → go_on (option_map (λ p. and_then p k) o) (run w) (stopped (number_at s t) (t ∷ w)) ≡ ends_as (by_rule (within n) o w (stops (number_at s t) (t ∷ w))) k
    by_after ends (Some p) = run_phrase_by n (within n) (within_shortens n) ends p w (omega arith) k
    by_after ends None = refl

-- the machine goes through a nonterminal as the grammar reads it
pub run_part : (s : Sort) (w : List Token) (k : Value s → Phrase Tree) → run w (s >>= k) ≡ ends_as (part s w) k
unfolding part
run_part s w k = run_within (suc (length w)) s w (omega arith) k

-- ---- sequences

pub bind_bind : {A B C : Type 0} (r : Reading A) (f : A → List Token → Reading B) (g : B → List Token → Reading C) → bind (bind r f) g ≡ bind r (λ x w. bind (f x w) g)
bind_bind (made x w) f g = refl
bind_bind (stops n w) f g = refl

pub bind_made : {A : Type 0} (r : Reading A) → bind r (λ x w. made x w) ≡ r
bind_made (made x w) = refl
bind_made (stops n w) = refl

pub phrase_then : {A B : Type 0} (p : Phrase A) (k : A → Phrase B) (w : List Token) → phrase (and_then p k) w ≡ bind (phrase p w) (λ x v. phrase (k x) v)
phrase_then (gives x) k w = refl
phrase_then (s >>= h) k w = by_part (λ y u. phrase_then (h y) k u) (part s w)
  where
    by_part : ((y : Value s) (u : List Token) → phrase (and_then (h y) k) u ≡ bind (phrase (h y) u) (λ x v. phrase (k x) v)) → (r : Reading (Value s)) → bind r (λ x v. phrase (and_then (h x) k) v) ≡ bind (bind r (λ x v. phrase (h x) v)) (λ x v. phrase (k x) v)
    by_part rest (made y u) = rest y u
    by_part rest (stops n u) = refl

pub in_turn : {A B C : Type 0} (p : Phrase A) (f : A → Phrase B) (k : B → Phrase C) → and_then (and_then p f) k ≡ and_then p (λ x. and_then (f x) k)
in_turn (gives a) f k = refl
in_turn (s >>= h) f k = λ i. s >>= λ x. in_turn (h x) f k i

-- what is read first, mapped by g, and then what k gives
pub read_in_turn : {A B C : Type 0} (p : Phrase A) (f : A → Phrase B) (k : B → Phrase C) (w : List Token) → bind (phrase (and_then p f) w) (λ y v. phrase (k y) v) ≡ phrase (and_then p (λ x. and_then (f x) k)) w
read_in_turn p f k w = sym (phrase_then (and_then p f) k w) ∙ ap (λ q. phrase q w) (in_turn p f k)
