-- The parts of an action, one after another.
use Rattle.pddl_tree.proofs.Names.{◌≡◌, ℕ, ◌+◌, true, false, cond, List, [], ◌∷◌, ◌++◌, fold, Option, Some, None, Result, Ok, Err, refl, sym, ◌∙◌, ap, arith, option_and_then, Word, from, first, WordFault, made, stops, bind, part, phrase, number_seen, closes_first, opens_first, ReadsInto, MayContinue, formulas, Token, opens, closes, keyword, of_part, gives, ◌>>=◌, after, formula, has_part}
use Rattle.pddl_tree.specs.Sections.{parts_on, part_into}
use Rattle.pddl_tree.proofs.Read.{part_here, part_none, part_of, taken, read_in_turn}
use Rattle.pddl_tree.proofs.Looks.{is_closes, refused_here, reported_first, reported_along}
use Rattle.model.specs.Trees.{Action}
use Rattle.model.specs.Trees as tree
use Rattle.model.specs.GrammarWords.{PartKeyword}
use Rattle.model.specs.GrammarWords as words
use Rattle.model.specs.Grammar.{value, precondition_list, parts, part_after, parts_after, with_part}

-- the keyword of a part that has not occurred, and what follows it
begun : (seen : List PartKeyword) (p : PartKeyword) (a : Action) (list : List Word) (at : ℕ) → first (from list at) ≡ Some (keyword (of_part p)) → has_part seen p ≡ false
    → phrase (parts_on seen a) (from list at) ≡ bind (phrase (part_into (seen ++ p ∷ []) p a) (from list (at + 1))) (λ b w. phrase (parts_on (seen ++ p ∷ []) b) w)
begun seen p a list at e new =
    let one = part_after (seen ++ p ∷ []) p in
    ap (λ r. bind r (λ ps w. made (fold with_part a ps) w)) (taken (parts seen) list at (keyword (of_part p)) e (ap (λ b. cond b None (Some (parts_after seen p))) new))
    ∙ read_in_turn one (λ x. parts (seen ++ p ∷ []) >>= λ xs. gives (x ∷ xs)) (λ ps. gives (fold with_part a ps)) (from list (at + 1))
    ∙ sym (read_in_turn one (λ x. gives (with_part a x)) (λ b. parts_on (seen ++ p ∷ []) b) (from list (at + 1)))

pub part_answers : (seen : List PartKeyword) (p : PartKeyword) (a b : Action) (list : List Word) (at : ℕ) (r : Result ℕ WordFault) → first (from list at) ≡ Some (keyword (of_part p)) → has_part seen p ≡ false
    → ReadsInto (phrase (part_into (seen ++ p ∷ []) p a)) list (at + 1) b r → MayContinue (phrase (parts_on seen a)) (phrase (parts_on (seen ++ p ∷ []) b)) list at r
part_answers seen p a b list at (Ok next) e new h = (begun seen p a list at e new ∙ ap (λ r. bind r (λ b w. phrase (parts_on (seen ++ p ∷ []) b) w)) h.0, (omega (arith, h.1.0), h.1.1))
part_answers seen p a b list at (Err fault) e new h =
    reported_along list _ _ fault (begun seen p a list at e new) (reported_first list _ (λ b w. phrase (parts_on (seen ++ p ∷ []) b) w) fault h)

-- `)` after the parameters, or where they are missing
pub parts_end : (seen : List PartKeyword) (a : Action) (list : List Word) (at : ℕ) → closes_first (first (from list at)) ≡ true → has_part seen words.parameters ≡ true → phrase (parts_on seen a) (from list at) ≡ made a (from list (at + 1))
parts_end seen a list at e all = ap (λ r. bind r (λ ps w. made (fold with_part a ps) w)) (taken (parts seen) list at closes (is_closes (first (from list at)) e) (ap (λ b. cond b (Some (gives [])) None) all))

pub parameters_missing : (seen : List PartKeyword) (a : Action) (list : List Word) (at : ℕ) → closes_first (first (from list at)) ≡ true → has_part seen words.parameters ≡ false → phrase (parts_on seen a) (from list at) ≡ stops (number_seen (parts []) (first (from list at))) (from list at)
parameters_missing seen a list at e none = let h = by_word (first (from list at)) e in ap (λ r. bind r (λ ps w. made (fold with_part a ps) w)) (refused_here (parts seen) (parts []) list at h.0 h.1)
  where
    by_word : (o : Option Token) → closes_first o ≡ true → (option_and_then (after (parts seen)) o ≡ None) × (number_seen (parts []) o ≡ number_seen (parts seen) o)
    by_word (Some closes) e = (ap (λ b. cond b (Some (gives [])) None) none, refl)
    by_word o e = absurd (cc)

-- the `(` of a value
pub value_not_open : (seen : List PartKeyword) (list : List Word) (at : ℕ) → opens_first (first (from list at)) ≡ false → part (value seen) (from list at) ≡ stops (number_seen (value seen) (first (from list at))) (from list at)
value_not_open seen list at e = refused_here (value seen) (value seen) list at (by_word (first (from list at)) e) refl
  where
    by_word : (o : Option Token) → opens_first o ≡ false → option_and_then (after (value seen)) o ≡ None
    by_word None e = refl
    by_word (Some opens) e = absurd (cc)
    by_word (Some t) e = refl

pub ruleset of_value = (value_not_open, part_here)

-- a precondition: `)`, or a word of a formula
pub no_formula : (list : List Word) (at : ℕ) → closes_first (first (from list at)) ≡ true → part precondition_list (from list at) ≡ made (tree.and (formulas [])) (from list (at + 1))
no_formula list at e = taken precondition_list list at closes (is_closes (first (from list at)) e) refl

pub formula_here : (list : List Word) (at : ℕ) → closes_first (first (from list at)) ≡ false → part precondition_list (from list at) ≡ part formula (from list at)
formula_here list at e = by_words (from list at) e
  where
    by_words : (w : List Token) → closes_first (first w) ≡ false → part precondition_list w ≡ part formula w
    by_words [] e = part_none precondition_list ∙ sym (part_none formula)
    by_words (closes ∷ w) e = absurd (cc)
    by_words (t ∷ w) e = part_of precondition_list w t ∙ sym (part_of formula w t)

pub ruleset of_precondition = (no_formula, formula_here)
