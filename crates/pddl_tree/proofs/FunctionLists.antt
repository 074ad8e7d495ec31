-- The list of `:functions`.
use Rattle.pddl_tree.proofs.Names.{◌≡◌, ℕ, ◌+◌, true, false, List, [], ◌∷◌, Option, Some, None, refl, sym, ◌∙◌, option_and_then, Word, from, first, made, stops, bind, part, number_seen, closes_first, opens_first, Token, opens, closes, dash, after, function_list, close}
use Rattle.std.proofs.lemmas.List.{append-nil}
use Rattle.pddl_tree.specs.Costs.{dash_first}
use Rattle.pddl_tree.proofs.Read.{part_here, part_none, part_of, taken, bind_made}
use Rattle.pddl_tree.proofs.Looks.{is_closes, refused_here}
use Rattle.model.specs.Grammar.{function_type, number_type}

pub functions_end : (list : List Word) (at : ℕ) → closes_first (first (from list at)) ≡ true → part function_list (from list at) ≡ made [] (from list (at + 1))
functions_end list at e = taken function_list list at closes (is_closes (first (from list at)) e) refl

-- after a function without a type, as before one
pub untyped_here : (list : List Word) (at : ℕ) → dash_first (first (from list at)) ≡ false → part function_type (from list at) ≡ part function_list (from list at)
untyped_here list at e = by_words (from list at) e
  where
    by_words : (w : List Token) → dash_first (first w) ≡ false → part function_type w ≡ part function_list w
    by_words [] e = part_none function_type ∙ sym (part_none function_list)
    by_words (dash ∷ w) e = absurd (cc)
    by_words (t ∷ w) e = part_of function_type w t ∙ sym (part_of function_list w t)

pub typed_here : (list : List Word) (at : ℕ) → dash_first (first (from list at)) ≡ true → part function_type (from list at) ≡ bind (part number_type (from list (at + 1))) (λ _ w. part function_list w)
typed_here list at e = taken function_type list at dash (by_word (first (from list at)) e) refl ∙ (λ i. bind (part number_type (from list (at + 1))) (λ _ w. bind_made (part function_list w) i))
  where
    by_word : (o : Option Token) → dash_first o ≡ true → o ≡ Some dash
    by_word (Some dash) e = refl
    by_word o e = absurd (cc)

pub functions_not_open : (list : List Word) (at : ℕ) → closes_first (first (from list at)) ≡ false → opens_first (first (from list at)) ≡ false → part function_list (from list at) ≡ stops (number_seen close (first (from list at))) (from list at)
functions_not_open list at c o = let h = by_word (first (from list at)) c o in refused_here function_list close list at h.0 h.1
  where
    by_word : (w : Option Token) → closes_first w ≡ false → opens_first w ≡ false → (option_and_then (after function_list) w ≡ None) × (number_seen close w ≡ number_seen function_list w)
    by_word None c o = (refl, refl)
    by_word (Some closes) c o = absurd (cc)
    by_word (Some opens) c o = absurd (cc)
    by_word (Some t) c o = (refl, refl)

pub ruleset of_functions = (functions_end, append-nil)

pub ruleset of_function = (untyped_here, typed_here, functions_not_open, part_here)
