-- What tests of the next word say about what is read there.
use Rattle.pddl_tree.proofs.Names.{◌≡◌, ℕ, ◌+◌, true, false, List, [], ◌∷◌, ◌++◌, map, Option, Some, None, refl, sym, ◌∙◌, ap, subst, ◌≤◌, arith, option_map, option_and_then, At, NoMemory, WordFault, Word, from, first, Reading, made, stops, bind, by_rule, part, phrase, number_seen, one_of, Reports, Reads, ReadsInto, closes_first, opens_first, the_either, Name, Token, opens, closes, reserved, Sort, Value, Phrase, gives, ◌>>=◌, and_then, after, listed, many, a_name, close, number_at}
use Rattle.std.specs.Prelude.{Result, Ok, Err}
use Rattle.std.specs.Result.{IsErrAnd}
use Rattle.std.proofs.lemmas.Result.{err_from_is_err_and}
use Rattle.std.proofs.lemmas.List.{map-append, append_assoc, append-nil}
use Rattle.pddl_tree.specs.Token.{reserved_view}
use Rattle.pddl_tree.specs.declared.token.ReservedName.{ReservedName}
use Rattle.pddl_tree.specs.Reading.{IsPut, and_first}
use Rattle.pddl_tree.proofs.Read.{by_first, part_none, part_of, part_here, taken, bind_bind, bind_made, phrase_then}
use Rattle.model.specs.GrammarWords as words
use Rattle.model.specs.GrammarWords.{large_number}
use Rattle.model.specs.Grammar.{amount, increase_amount, more, either_word, conditional, conditional_literal}

-- the next word is `)` or `and`
pub is_closes : (o : Option Token) → closes_first o ≡ true → o ≡ Some closes
is_closes (Some closes) e = refl
is_closes o e = absurd (cc)

pub is_and : (o : Option Token) → and_first o ≡ true → (n : Name) × (o ≡ Some (reserved words.and n))
is_and (Some (reserved words.and n)) e = (n, refl)
is_and o e = absurd (cc)

-- ---- refusals that are passed on

pub passed : {T E : Type 0} (P : Result T E → Type 0) (r : Result T E) {e : E} → IsErrAnd r (λ y. y ≡ e) → P (Err e) → P r
passed P r h p = let is = err_from_is_err_and r h in subst P (sym (is.1 ∙ ap Err is.2)) p

-- what is reported for a reading is reported for one that begins with it
pub reported_first : {A B : Type 0} (list : List Word) (r : Reading A) (f : A → List Token → Reading B) (e : WordFault) → Reports list r e → Reports list (bind r f) e
reported_first list r f (At refusal) h = ap (λ r. bind r f) h
reported_first list r f NoMemory h = tt

pub reported_along : {A : Type 0} (list : List Word) (r q : Reading A) (e : WordFault) → r ≡ q → Reports list q e → Reports list r e
reported_along list r q e is h = subst (λ r. Reports list r e) (sym is) h

-- what is read from a later index on
pub read_later : {T A : Type 0} (f g : List Token → Reading A) (list : List Word) (at next : ℕ) (view : T → A) (r : Result (T × ℕ) WordFault) → at ≤ next → f (from list at) ≡ g (from list next) → Reads g list next view r → Reads f list at view r
read_later f g list at next view (Ok (x, i)) less e h = (e ∙ h.0, (omega (arith, h.1.0), h.1.1))
read_later f g list at next view (Err fault) less e h = reported_along list _ _ fault e h

-- what was read, and put in its place
pub put_in : {T A B : Type 0} (read : List Token → Reading A) (list : List Word) (at : ℕ) (view : T → A) (k : A → B) (r : Result (T × ℕ) WordFault) (placed : T) (result : Result ℕ WordFault) → Reads read list at view r → IsPut r placed result → ReadsInto (λ w. bind (read w) (λ x v. made (k x) v)) list at (k (view placed)) result
put_in {A = A} {B} read list at view k (Ok (x, next)) placed result h is =
    subst (ReadsInto (λ w. bind (read w) (λ x v. made (k x) v)) list at (k (view placed))) (sym is.1) (ap (λ r. bind r (λ x v. made (k x) v)) h.0 ∙ ap (λ x. made (k (view x)) (from list next)) (sym is.0), h.1)
put_in {A = A} {B} read list at view k (Err fault) placed result h is = subst (ReadsInto (λ w. bind (read w) (λ x v. made (k x) v)) list at (k (view placed))) (sym is) (reported_first list (read (from list at)) (λ x v. made (k x) v) fault h)

-- ---- words

-- a word that may not occur there, reported as where something else is required
pub refused_here : (s u : Sort) (list : List Word) (at : ℕ) → option_and_then (after s) (first (from list at)) ≡ None → number_seen u (first (from list at)) ≡ number_seen s (first (from list at)) → part s (from list at) ≡ stops (number_seen u (first (from list at))) (from list at)
refused_here s u list at none same = part_here s list at ∙ by_word (first (from list at)) none ∙ ap (λ n. stops n (from list at)) (sym same)
  where
    by_word : (o : Option Token) → option_and_then (after s) o ≡ None → by_first s o (from list (at + 1)) (from list at) ≡ stops (number_seen s o) (from list at)
    by_word None e = refl
    by_word (Some t) e = ap (λ p. by_rule part p (from list (at + 1)) (stops (number_at s t) (from list at))) e

-- a reserved word that may occur there
pub by_reserved : (s : Sort) {p : Phrase (Value s)} (list : List Word) (at : ℕ) {word q : ReservedName} (n : Name) → Some (reserved (reserved_view word) n) ≡ first (from list at) → word ≡ q → after s (reserved (reserved_view q) n) ≡ Some p → part s (from list at) ≡ phrase p (from list (at + 1))
by_reserved s list at {q = q} n occurs is rule = taken s list at (reserved (reserved_view q) n) (sym occurs ∙ ap (λ r. Some (reserved (reserved_view r) n)) is) rule

-- no `(` where a list is required
pub not_open : (s : Sort) (list : List Word) (at : ℕ) → opens_first (first (from list at)) ≡ false → part (listed s) (from list at) ≡ stops (number_seen close (first (from list at))) (from list at)
not_open s list at e = let h = by_word (first (from list at)) e in refused_here (listed s) close list at h.0 h.1
  where
    by_word : (o : Option Token) → opens_first o ≡ false → (option_and_then (after (listed s)) o ≡ None) × (number_seen close o ≡ number_seen (listed s) o)
    by_word None e = (refl, refl)
    by_word (Some opens) e = absurd (cc)
    by_word (Some t) e = (refl, refl)

pub open_here : (s : Sort) (list : List Word) (at : ℕ) → first (from list at) ≡ Some opens → part (listed s) (from list at) ≡ part s (from list (at + 1))
open_here s list at o = taken (listed s) list at opens o refl ∙ bind_made (part s (from list (at + 1)))

pub ruleset of_lists_inside = (open_here, not_open)

pub ruleset of_words_inside = (part_here, not_open)

-- what is reported where an amount is required is what is reported where a number is
pub number_of_an_amount : (o : Option Token) → number_seen amount o ≡ number_seen increase_amount o
number_of_an_amount None = refl
number_of_an_amount (Some large_number) = refl
number_of_an_amount (Some t) = refl

-- ---- another nonterminal is required, depending on the next word

-- what is read as u, mapped by f
abbrev pub as_other : (s u : Sort) → (Value u → Value s) → Option Token → Type 0
as_other s u f None = Unit {0}
as_other s u f (Some t) = (after s t ≡ option_map (λ p. and_then p (λ x. gives (f x))) (after u t)) × (number_at s t ≡ number_at u t)

pub other_of : (s u : Sort) (f : Value u → Value s) (w : List Token) → as_other s u f (first w) → part s w ≡ bind (part u w) (λ x v. made (f x) v)
other_of s u f [] h = part_none s ∙ ap (λ r. bind r (λ x v. made (f x) v)) (sym (part_none u))
other_of s u f (t ∷ w) h =
    part_of s w t ∙ (λ i. by_rule part (h.0 i) w (stops (h.1 i) (t ∷ w))) ∙ by_after (after u t) ∙ ap (λ r. bind r (λ x v. made (f x) v)) (sym (part_of u w t))
  where
    by_after : (o : Option (Phrase (Value u))) → by_rule part (option_map (λ p. and_then p (λ x. gives (f x))) o) w (stops (number_at u t) (t ∷ w)) ≡ bind (by_rule part o w (stops (number_at u t) (t ∷ w))) (λ x v. made (f x) v)
    by_after (Some p) = phrase_then p (λ x. gives (f x)) w
    by_after None = refl

-- ---- lists

-- a word that closes no list belongs to an item
item_of : (s : Sort) (w : List Token) → closes_first (first w) ≡ false → part (many s) w ≡ bind (part s w) (one_of (part (many s)))
item_of s [] e = part_none (many s) ∙ ap (λ r. bind r (one_of (part (many s)))) (sym (part_none s))
item_of s (t ∷ w) e = part_of (many s) w t ∙ by_word s t w e ∙ ap (λ r. bind r (one_of (part (many s)))) (sym (part_of s w t))
  where
    by_after : (s : Sort) (t : Token) (w : List Token) (o : Option (Phrase (Value s))) → by_rule part (option_map (more s) o) w (stops (number_at s t) (t ∷ w)) ≡ bind (by_rule part o w (stops (number_at s t) (t ∷ w))) (one_of (part (many s)))
    by_after s t w (Some p) = phrase_then p (λ x. many s >>= λ xs. gives (x ∷ xs)) w
    by_after s t w None = refl

    by_word : (s : Sort) (t : Token) (w : List Token) → closes_first (Some t) ≡ false → by_first (many s) (Some t) w (t ∷ w) ≡ bind (by_first s (Some t) w (t ∷ w)) (one_of (part (many s)))
    by_word s closes w e = absurd (cc)
    by_word s t w e = by_after s t w (after s t)

pub item_here : (s : Sort) (list : List Word) (at : ℕ) → closes_first (first (from list at)) ≡ false → part (many s) (from list at) ≡ bind (part s (from list at)) (one_of (part (many s)))
item_here s list at e = item_of s (from list at) e

pub end_here : (s : Sort) (list : List Word) (at : ℕ) → closes_first (first (from list at)) ≡ true → part (many s) (from list at) ≡ made [] (from list (at + 1))
end_here s list at e = taken (many s) list at closes (is_closes (first (from list at)) e) refl

pub ruleset of_lists = (item_here, end_here, append-nil, not_open, open_here)

-- these elements of a list were read, and the rest of the list follows
pub record IsReadOn {X : Type 0} (read : List Token → Reading (List X)) (list : List Word) (at : ℕ) (done : List X) (next : ℕ) : Type 0 where
  pub goes : read (from list at) ≡ bind (read (from list next)) (λ xs w. made (done ++ xs) w)

pub one_more : {X : Type 0} {read : List Token → Reading (List X)} {list : List Word} {at next end : ℕ} {done : List X} (x : X) → IsReadOn read list at done next → read (from list next) ≡ one_of read x (from list end) → IsReadOn read list at (done ++ x ∷ []) end
one_more {read = read} {list} {end = end} {done} x h one =
    record {
      goes = h.goes ∙ ap (λ r. bind r (λ xs w. made (done ++ xs) w)) one ∙ bind_bind (read (from list end)) (λ xs w. made (x ∷ xs) w) (λ xs w. made (done ++ xs) w)
          ∙ (λ i. bind (read (from list end)) (λ xs w. made (sym (append_assoc done (x ∷ []) xs) i) w));
    }

pub on_more : {V X : Type 0} {read : List Token → Reading (List X)} (view : V → X) {list : List Word} {at next end : ℕ} (done done' : List V) (x : V) → IsReadOn read list at (map view done) next
    → read (from list next) ≡ one_of read (view x) (from list end) → done' ≡ done ++ x ∷ [] → IsReadOn read list at (map view done') end
on_more {X = X} {read} view {list} {at} {end = end} done done' x h one e =
    let P : List X → Type 0 = λ xs. IsReadOn read list at xs end in
    subst P (sym (ap (map view) e ∙ map-append view done (x ∷ []))) (one_more (view x) h one)

-- an item
pub one_item : (s : Sort) (list : List Word) (at end : ℕ) (x : Value s) → closes_first (first (from list at)) ≡ false → part s (from list at) ≡ made x (from list end) → part (many s) (from list at) ≡ one_of (part (many s)) x (from list end)
one_item s list at end x e one = item_of s (from list at) e ∙ ap (λ r. bind r (one_of (part (many s)))) one

-- an item in its parentheses
pub one_inside : (s : Sort) (list : List Word) (at inside end : ℕ) (x : Value s) → first (from list at) ≡ Some opens → inside ≡ at + 1 → part s (from list inside) ≡ made x (from list end) → part (many (listed s)) (from list at) ≡ one_of (part (many (listed s))) x (from list end)
one_inside s list at inside end x o is one =
    one_item (listed s) list at end x (ap closes_first o) (open_here s list at o ∙ ap (λ i. part s (from list i)) (sym is) ∙ one)

-- names, at least one
pub some_names : (list : List Word) (at end : ℕ) (n : Name) → part a_name (from list at) ≡ made n (from list end) → bind (part a_name (from list at)) (one_of (part (many a_name))) ≡ part (many a_name) (from list at)
some_names list at end n e = sym (item_of a_name (from list at) (by_word (first (from list at)) (sym (part_here a_name list at) ∙ e)))
  where
    by_word : (o : Option Token) → by_first a_name o (from list (at + 1)) (from list at) ≡ made n (from list end) → closes_first o ≡ false
    by_word (Some closes) e = absurd (cc)
    by_word None e = refl
    by_word (Some t) e = refl

-- the names of an `either`
pub either_answers : {T : Type 0} (view : T → List Name) (list : List Word) (at next end : ℕ) (n : Name) (r : Result (T × ℕ) WordFault) → at ≤ next → part either_word (from list at) ≡ made tt (from list next) → part a_name (from list next) ≡ made n (from list end) → Reads (part (many a_name)) list next view r → Reads (phrase the_either) list at view r
either_answers view list at next end n r less e a h =
    read_later (phrase the_either) (part (many a_name)) list at next view r less (ap (λ r. bind r (λ _ w. bind (part a_name w) (one_of (part (many a_name))))) e ∙ some_names list next end n a) h

-- ---- under a `when`

pub literal_here : (list : List Word) (at : ℕ) → and_first (first (from list at)) ≡ false → part conditional (from list at) ≡ bind (part conditional_literal (from list at)) (λ l w. made (l ∷ []) w)
literal_here list at e = other_of conditional conditional_literal (λ l. l ∷ []) (from list at) (by_word (first (from list at)) e)
  where
    by_word : (o : Option Token) → and_first o ≡ false → as_other conditional conditional_literal (λ l. l ∷ []) o
    by_word None e = tt
    by_word (Some (reserved words.and n)) e = absurd (cc)
    by_word (Some t) e = (refl, refl)

pub literals_here : (list : List Word) (at : ℕ) → and_first (first (from list at)) ≡ true → part conditional (from list at) ≡ bind (part (many (listed conditional_literal)) (from list (at + 1))) (λ ls w. made ls w)
literals_here list at e = let word = is_and (first (from list at)) e in taken conditional list at (reserved words.and word.0) word.1 refl

pub ruleset of_conditional = (literal_here, literals_here)
