-- The numbers of atoms, and literals one after another.
use Rattle.std.proofs.Common.{◌≡◌, ◌∙◌, ℕ, ◌+◌, ◌<◌, Bool, true, false, not, List, [], ◌∷◌, ◌++◌, length, map, take, get_or, Option, None, Some, refl, sym, ap, append-nil}
use Rattle.std.specs.Prelude.{if◌then◌else◌, cond, nat_lt, position}
use Rattle.std.specs.List.{filter_map, position_or_len, cons_option}
use Rattle.std.specs.Option.{option_map}
use Rattle.std.specs.Ordering.{eq_by_cmp}
use Rattle.std.proofs.lemmas.List.{length-map, map_push, take_more}
use Rattle.std.proofs.lemmas.List.Elements.{filter_map-append}
use Rattle.task.specs.declared.atoms.Atom.{Atom}
use Rattle.task.specs.TaskParts.{atom_of}
use Rattle.task.proofs.AtomEquality.{eq-alike}
use Rattle.formulas.proofs.Equality.{atom_eq}
use Rattle.model.specs.Task as task
use Rattle.model.specs.Meaning.{atom_cmp}
use Rattle.model.specs.SureLiterals.{Literal, is_true, is_false}
use Rattle.model.specs.NumberedAtoms.{number_of}
use Rattle.model.specs.NumberedLiterals as model
use Rattle.model.specs.NumberedLiterals.{numbered_literal}
use Rattle.grounding_instances.specs.declared.numbers.NumberedLiteral.{NumberedLiteral}
use Rattle.grounding_instances.specs.Numbers.{numbered_of}

place-alike : (a : Atom) (keys : List Atom) → position_or_len (atom_eq a) keys ≡ position_or_len (eq_by_cmp atom_cmp (atom_of a)) (map atom_of keys)
place-alike a [] = refl
place-alike a (k ∷ keys) = λ i. cond (not (eq-alike a k i)) (1 + place-alike a keys i) 0

-- the index in the code's list is the number
pub position-alike : (a : Atom) (keys : List Atom) → position (atom_eq a) keys ≡ number_of (map atom_of keys) (atom_of a)
position-alike a keys = λ i. cond (nat_lt (place-alike a keys i) (sym (length-map keys atom_of) i)) (Some (place-alike a keys i)) None

-- ---- one literal

module _ (atoms : List task.Atom) (q : task.Atom) (value : Bool) where
  abbrev said : Literal
  said = if value then is_true q else is_false q

  by_number : numbered_literal atoms said ≡ option_map (λ (n : ℕ). let l : model.NumberedLiteral = record { atom = n; value = value } in l) (number_of atoms q)
  by_number =
      elim value as (λ b. numbered_literal atoms (if b then is_true q else is_false q) ≡ option_map (λ (n : ℕ). let l : model.NumberedLiteral = record { atom = n; value = b } in l) (number_of atoms q)) [
        | true ↦ refl
        | false ↦ refl
      ]

  pub literal-pushed : (n : ℕ) (before after : List NumberedLiteral) (one : NumberedLiteral) → numbered_of one ≡ record { atom = n; value = value } → number_of atoms q ≡ Some n → after ≡ before ++ one ∷ []
      → map numbered_of after ≡ map numbered_of before ++ filter_map (numbered_literal atoms) (said ∷ [])
  literal-pushed n before after one same has push =
      ap (map numbered_of) push ∙ map_push numbered_of before one ∙ ap (λ l. map numbered_of before ++ l ∷ []) same
      ∙ sym (ap (λ o. map numbered_of before ++ cons_option o []) (by_number ∙ ap (option_map (λ (n : ℕ). let l : model.NumberedLiteral = record { atom = n; value = value } in l)) has))

  pub literal-unnumbered : (before : List NumberedLiteral) → number_of atoms q ≡ None → map numbered_of before ≡ map numbered_of before ++ filter_map (numbered_literal atoms) (said ∷ [])
  literal-unnumbered before none =
      sym (append-nil (map numbered_of before))
      ∙ sym (ap (λ o. map numbered_of before ++ cons_option o []) (by_number ∙ ap (option_map (λ (n : ℕ). let l : model.NumberedLiteral = record { atom = n; value = value } in l)) none))

-- ---- one literal after another

pub filtered-more : {X Y Z : Type 0} (h : Y → Option Z) (f : X → Y) (xs : List X) (i : ℕ) (x : X) (before after : List Z) → i < length xs → x ≡ get_or xs i x
    → before ≡ filter_map h (map f (take i xs)) → after ≡ before ++ filter_map h (f x ∷ []) → after ≡ filter_map h (map f (take (i + 1) xs))
filtered-more h f xs i x before after below at so_far here =
    here ∙ ap (λ l. l ++ filter_map h (f x ∷ [])) so_far
    ∙ sym (ap (λ l. filter_map h (map f l)) (take_more xs i x below ∙ ap (λ y. take i xs ++ y ∷ []) (sym at))
    ∙ ap (filter_map h) (map_push f (take i xs) x)
    ∙ filter_map-append h (map f (take i xs)) (f x ∷ []))
