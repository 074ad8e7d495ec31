-- The state after the passes over changes, change by change.
use Rattle.std.specs.Prelude.{◌≡◌, ℕ, ◌+◌, ◌<◌, ◌≤◌, true, false, cond, List, [], ◌∷◌, ◌++◌, length, map, filter, take, IsTrue, refl}
use Rattle.std.proofs.Common.{sym, ◌∙◌, ap, get_or}
use Rattle.std.specs.FinSet.{from_list, union, difference}
use Rattle.std.proofs.lemmas.List.{take_more, map-append}
use Rattle.task.specs.declared.atoms.ObjectId.{ObjectId}
use Rattle.task.specs.declared.atoms.LiftedAtom.{LiftedAtom}
use Rattle.task.specs.declared.schemas.EffectLiteral.{EffectLiteral}
use Rattle.task.specs.declared.schemas.EffectLiteral.TheVariants.{Add, Delete}
use Rattle.task.specs.TaskParts.{object_of, lifted_atom_of, effect_literal_of}
use Rattle.formulas.specs.declared.effects.Change as code
use Rattle.formulas.specs.declared.effects.GroundLiteral as code_effects
use Rattle.std.specs.Borrow.{Bor}
use Rattle.formulas.specs.declared.change.Pass.{Pass}
use Rattle.formulas.specs.declared.change.Pass.TheVariants.{Deletes, Adds}
use Rattle.formulas.specs.State.{FitsLiteral}
use Rattle.formulas.specs.Changes.{after_pass}
use Rattle.formulas.specs.Effects.{change_of, lent_literal}
use Rattle.model.specs.Task as task
use Rattle.model.specs.WellTyped.{is_task, is_lifted_atom, is_effect_literal, max_arguments}
use Rattle.model.specs.Meaning.{State, Change, added_by, deleted_by, GroundLiteral, holds, literals_in}
use Rattle.model.proofs.Atoms.{difference-append, union-append, difference-none, union-none, added_by-append, deleted_by-append}
use Rattle.formulas.proofs.Tasks.{terms_few}

pub after-none : (pass : Pass) (s : State) → after_pass pass s [] ≡ s
after-none Deletes s = difference-none s
after-none Adds s = union-none s

after-append : (pass : Pass) (s : State) (xs ys : List GroundLiteral) → after_pass pass s (xs ++ ys) ≡ after_pass pass (after_pass pass s xs) ys
after-append Deletes s xs ys = ap (λ l. difference s (from_list l)) (deleted_by-append xs ys) ∙ difference-append s (deleted_by xs) (deleted_by ys)
after-append Adds s xs ys = ap (λ l. union s (from_list l)) (added_by-append xs ys) ∙ union-append s (added_by xs) (added_by ys)

-- ---- the literals of changes whose conditions hold

module _ (t : task.Task) (before : State) where
  abbrev kept : List Change → List Change
  kept changes = filter (λ (c : Change). holds t c.condition c.binding before) changes

  literals_in-append : (xs ys : List Change) → literals_in t before (xs ++ ys) ≡ literals_in t before xs ++ literals_in t before ys
  literals_in-append [] ys = refl
  literals_in-append (c ∷ xs) ys =
      elim (holds t c.condition c.binding before) as (λ held. map (λ (d : Change). d.literal) (cond held (c ∷ kept (xs ++ ys)) (kept (xs ++ ys)))
      ≡ map (λ (d : Change). d.literal) (cond held (c ∷ kept xs) (kept xs)) ++ literals_in t before ys) [
        | true ↦ ap (λ l. c.literal ∷ l) (literals_in-append xs ys)
        | false ↦ literals_in-append xs ys
      ]

  -- the literal of a single change, if its condition holds and if it does not
  pub literal_in : (c : Change) → holds t c.condition c.binding before ≡ true → literals_in t before (c ∷ []) ≡ c.literal ∷ []
  literal_in c held = ap (λ h. map (λ (d : Change). d.literal) (cond h (c ∷ []) [])) held

  pub no_literal_in : (c : Change) → holds t c.condition c.binding before ≡ false → literals_in t before (c ∷ []) ≡ []
  no_literal_in c not_held = ap (λ h. map (λ (d : Change). d.literal) (cond h (c ∷ []) [])) not_held

-- ---- one after another

-- the literals of the changes so far
abbrev pub literals_before : task.Task → State → List code.Change → ℕ → List GroundLiteral
literals_before t before xs i = literals_in t before (map change_of (take i xs))

pub one_more : (t : task.Task) (before : State) (xs : List code.Change) (i : ℕ) (x : code.Change) → i < length xs → x ≡ get_or xs i x
    → literals_before t before xs (i + 1) ≡ literals_before t before xs i ++ literals_in t before (change_of x ∷ [])
one_more t before xs i x lt at =
    ap (λ l. literals_in t before (map change_of l)) (take_more xs i x lt ∙ ap (λ y. take i xs ++ y ∷ []) (sym at))
    ∙ ap (literals_in t before) (map-append change_of (take i xs) (x ∷ [])) ∙ literals_in-append t before (map change_of (take i xs)) (change_of x ∷ [])

-- one more literal takes effect
pub carried_more : (pass : Pass) (s : State) (xs : List (Bor code_effects.GroundLiteral)) (i : ℕ) (x : Bor code_effects.GroundLiteral) → i < length xs → x ≡ get_or xs i x
    → (here after : State) → here ≡ after_pass pass s (map lent_literal (take i xs)) → after ≡ after_pass pass here (lent_literal x ∷ [])
    → after ≡ after_pass pass s (map lent_literal (take (i + 1) xs))
carried_more pass s xs i x lt at here after so_far is =
    is ∙ ap (λ b. after_pass pass b (lent_literal x ∷ [])) so_far
    ∙ sym (ap (after_pass pass s) (ap (map lent_literal) (take_more xs i x lt ∙ ap (λ y. take i xs ++ y ∷ []) (sym at)) ∙ map-append lent_literal (take i xs) (x ∷ []))
    ∙ after-append pass s (map lent_literal (take i xs)) (lent_literal x ∷ []))

-- ---- well-typed literals

module _ (t : task.Task) (l : EffectLiteral) (a : LiftedAtom) (objects : List ObjectId) (given : FitsLiteral t (effect_literal_of l) (map object_of objects)) where
  typed_add : l ≡ Add a → IsTrue (is_lifted_atom t given.scope (lifted_atom_of a))
  typed_add is = ap (λ g. is_effect_literal t given.scope (effect_literal_of g)) (sym is) ∙ given.typed

  typed_delete : l ≡ Delete a → IsTrue (is_lifted_atom t given.scope (lifted_atom_of a))
  typed_delete is = ap (λ g. is_effect_literal t given.scope (effect_literal_of g)) (sym is) ∙ given.typed

  pub add_few : l ≡ Add a → IsTrue (is_task t) → length a.terms.items ≤ max_arguments
  add_few is well = terms_few t given.scope a well (typed_add is)

  pub delete_few : l ≡ Delete a → IsTrue (is_task t) → length a.terms.items ≤ max_arguments
  delete_few is well = terms_few t given.scope a well (typed_delete is)
