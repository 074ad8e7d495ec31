-- What is true in the state that a packed state stands for, by the numbers of atoms, where the numbered atoms are of fluent
-- predicates and none is twice.
use Rattle.std.proofs.Common.{◌≡◌, ◌∙◌, ℕ, Bool, true, false, not, ◌&&◌, ◌||◌, List, [], ◌∷◌, get_or, Option, None, Some, refl, sym, ap, true≢false}
use Rattle.std.specs.Prelude.{is_some}
use Rattle.std.specs.List.{list_all, filter_map, cons_option}
use Rattle.std.specs.Option.{option_map, option_map_or}
use Rattle.std.specs.FinSet.{contains, contains-from_list}
use Rattle.std.proofs.lemmas.Bool.{false_from_ne_true}
use Rattle.model.specs.Task.{Atom, Task}
use Rattle.model.specs.Fluents.{is_fluent, HasInitialStatics}
use Rattle.model.specs.SureLiterals.{Literal, is_true, is_false, are_same, are_different, literal_holds}
use Rattle.model.specs.NumberedAtoms.{occurs_in, number_of, are_distinct}
use Rattle.model.specs.NumberedLiterals.{NumberedLiteral, numbered_literal, agrees}
use Rattle.model.specs.Grounding.{chosen, state_of_bits}
use Rattle.model.proofs.Atoms.{atoms_total}
use Rattle.model.proofs.ListLemmas.{Contains-place}
use Rattle.model.proofs.NumberingLemmas.{occurs_in-got, got-number_of, number_of-got, occurs_in-Contains}
use Rattle.model.proofs.PackedStates.{contains-numbered, contains-packed, chosen-occurs_in}
use Rattle.model.proofs.PackedStates as packed
use Rattle.grounding.specs.Unnumbered.{is_initial_static, may_hold}

and_true : (b : Bool) → b ≡ (b && true)
and_true true = refl
and_true false = refl

and_four : (x m y n : Bool) → ((x && m) && (y && n)) ≡ ((x && y) && (m && n))
and_four true true y n = refl
and_four true false true n = refl
and_four true false false n = refl
and_four false m y n = refl

module _ (t : Task) (atoms : List Atom) (distinct : are_distinct atoms ≡ true) (fluent : (q : Atom) → occurs_in atoms q ≡ true → is_fluent t q.predicate ≡ true) where
  -- a numbered atom is true where its bit is set
  pub contains-bit : (bits : List Bool) (a : Atom) (n : ℕ) → number_of atoms a ≡ Some n → contains (state_of_bits t atoms bits) a ≡ get_or bits n false
  contains-bit bits a n is =
      let at = got-number_of atoms a n is in
      contains-numbered (is_fluent t) t.init atoms distinct bits n a (fluent a (occurs_in-got atoms n a at)) at

  pub unnumbered-apart : (a : Atom) → number_of atoms a ≡ None → occurs_in atoms a ≡ false
  unnumbered-apart a none =
      false_from_ne_true (occurs_in atoms a) (λ there.
      let place = Contains-place atoms a (occurs_in-Contains atoms a there) in
      let some = number_of-got atoms place.0 a distinct place.1 in absurd (cc))

  -- and one without a number where it is a static atom that is true at the start
  pub contains-static : (bits : List Bool) (a : Atom) → number_of atoms a ≡ None → contains (state_of_bits t atoms bits) a ≡ is_initial_static t a
  contains-static bits a none =
      let unchosen : occurs_in (chosen atoms bits) a ≡ false = false_from_ne_true (occurs_in (chosen atoms bits) a) (λ there.
      true≢false (sym (chosen-occurs_in atoms bits a there) ∙ unnumbered-apart a none)) in
      contains-packed (is_fluent t) t.init atoms bits a
      ∙ (λ i. unchosen i || (not (is_fluent t a.predicate) && sym (contains-from_list atoms_total t.init a) i))

  -- the static atoms are those of the start
  pub packed-statics : (bits : List Bool) → HasInitialStatics t (state_of_bits t atoms bits)
  packed-statics bits a static = packed.contains-static (is_fluent t) t.init atoms fluent bits a static ∙ sym (contains-from_list atoms_total t.init a)

  -- ---- literals

  literal-packed : (bits : List Bool) (l : Literal) → literal_holds (state_of_bits t atoms bits) l ≡ (option_map_or (agrees bits) (numbered_literal atoms l) true && may_hold t atoms l)
  literal-packed bits (is_true a) =
      elim (number_of atoms a) as (λ o. number_of atoms a ≡ o → contains (state_of_bits t atoms bits) a
      ≡ (option_map_or (agrees bits) (option_map (λ (number : ℕ). record { atom = number; value = true }) o) true && (is_some o || is_initial_static t a))) [
        | None ↦ λ none. contains-static bits a none
        | Some n ↦ λ is. contains-bit bits a n is ∙ and_true (get_or bits n false)
      ] refl
  literal-packed bits (is_false a) =
      elim (number_of atoms a) as (λ o. number_of atoms a ≡ o → not (contains (state_of_bits t atoms bits) a)
      ≡ (option_map_or (agrees bits) (option_map (λ (number : ℕ). record { atom = number; value = false }) o) true && (is_some o || not (is_initial_static t a)))) [
        | None ↦ λ none. ap not (contains-static bits a none)
        | Some n ↦ λ is. ap not (contains-bit bits a n is) ∙ and_true (not (get_or bits n false))
      ] refl
  literal-packed bits (are_same a b) = refl
  literal-packed bits (are_different a b) = refl

  first-numbered : (bits : List Bool) (o : Option NumberedLiteral) (rest : List NumberedLiteral) → list_all (agrees bits) (cons_option o rest) ≡ (option_map_or (agrees bits) o true && list_all (agrees bits) rest)
  first-numbered bits None rest = refl
  first-numbered bits (Some l) rest = refl

  -- literals are all true where those with numbers are and those without may be
  pub literals-packed : (bits : List Bool) (ls : List Literal)
      → list_all (literal_holds (state_of_bits t atoms bits)) ls ≡ (list_all (agrees bits) (filter_map (numbered_literal atoms) ls) && list_all (may_hold t atoms) ls)
  literals-packed bits [] = refl
  literals-packed bits (l ∷ ls) =
      let numbered = filter_map (numbered_literal atoms) ls in
      (λ i. literal-packed bits l i && literals-packed bits ls i)
      ∙ and_four (option_map_or (agrees bits) (numbered_literal atoms l) true) (may_hold t atoms l) (list_all (agrees bits) numbered) (list_all (may_hold t atoms) ls)
      ∙ ap (λ b. b && (may_hold t atoms l && list_all (may_hold t atoms) ls)) (sym (first-numbered bits (numbered_literal atoms l) numbered))
