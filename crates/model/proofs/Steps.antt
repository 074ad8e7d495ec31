-- The result of an action, and what is true after some changes: in a form that computes on a given task.
use Rattle.std.specs.Prelude.{◌≡◌, ℕ, Bool, true, false, not, cond, ◌&&◌, ◌||◌, nat_eq, List, [], ◌∷◌, ◌++◌, map, filter, slice_get, None, Some, refl}
use Rattle.std.proofs.Common.{◌∙◌, ap}
use Rattle.std.specs.List.{list_all, list_any}
use Rattle.std.specs.Option.{option_and_then}
use Rattle.std.specs.Ordering.{eq_by_cmp}
use Rattle.std.specs.FinSet.{contains, from_list, difference, contains-from_list, contains-difference, contains-union}
use Rattle.model.specs.Task.{Atom, Formula, Formulas, atom, equal, and, or, imply, exists, forall, no_formula, more_formulas, Schema, Task, Instance}
use Rattle.model.specs.Task as task
use Rattle.model.specs.Meaning.{State, atom_cmp, object_of, objects_of, ground_atom, GroundLiteral, Change, literals_in, added_by, deleted_by, after_changes, fits, can_apply, holds, all_hold, some_holds, changes_of, step}
use Rattle.model.proofs.Atoms.{atoms_total}

-- ---- whether a formula holds if these atoms are true

abbrev mutual
  pub holds_where : Task → (Atom → Bool) → Formula → List ℕ → Bool
  holds_where t is_true (atom a) binding = is_true (ground_atom binding a)
  holds_where t is_true (equal u v) binding = nat_eq (object_of binding u) (object_of binding v)
  holds_where t is_true (and parts) binding = all_hold_where t is_true parts binding
  holds_where t is_true (or parts) binding = some_holds_where t is_true parts binding
  holds_where t is_true (task.not part) binding = not (holds_where t is_true part binding)
  holds_where t is_true (imply premise conclusion) binding = not (holds_where t is_true premise binding) || holds_where t is_true conclusion binding
  holds_where t is_true (exists types part) binding = list_any (λ one. holds_where t is_true part (binding ++ one ∷ [])) (objects_of t types)
  holds_where t is_true (forall types part) binding = list_all (λ one. holds_where t is_true part (binding ++ one ∷ [])) (objects_of t types)

  all_hold_where : Task → (Atom → Bool) → Formulas → List ℕ → Bool
  all_hold_where t is_true no_formula binding = true
  all_hold_where t is_true (more_formulas first rest) binding = holds_where t is_true first binding && all_hold_where t is_true rest binding

  some_holds_where : Task → (Atom → Bool) → Formulas → List ℕ → Bool
  some_holds_where t is_true no_formula binding = false
  some_holds_where t is_true (more_formulas first rest) binding = holds_where t is_true first binding || some_holds_where t is_true rest binding

mutual
  -- a formula holds in a state exactly if it holds where the state's atoms are true
  pub holds-where : (t : Task) (f : Formula) (binding : List ℕ) (s : State) → holds t f binding s ≡ holds_where t (contains s) f binding
  holds-where t (atom a) binding s = refl
  holds-where t (equal u v) binding s = refl
  holds-where t (and parts) binding s = all_hold-where t parts binding s
  holds-where t (or parts) binding s = some_holds-where t parts binding s
  holds-where t (task.not part) binding s = ap not (holds-where t part binding s)
  holds-where t (imply premise conclusion) binding s = λ i. not (holds-where t premise binding s i) || holds-where t conclusion binding s i
  holds-where t (exists types part) binding s = λ i. list_any (λ one. holds-where t part (binding ++ one ∷ []) s i) (objects_of t types)
  holds-where t (forall types part) binding s = λ i. list_all (λ one. holds-where t part (binding ++ one ∷ []) s i) (objects_of t types)

  all_hold-where : (t : Task) (fs : Formulas) (binding : List ℕ) (s : State) → all_hold t fs binding s ≡ all_hold_where t (contains s) fs binding
  all_hold-where t no_formula binding s = refl
  all_hold-where t (more_formulas first rest) binding s = λ i. holds-where t first binding s i && all_hold-where t rest binding s i

  some_holds-where : (t : Task) (fs : Formulas) (binding : List ℕ) (s : State) → some_holds t fs binding s ≡ some_holds_where t (contains s) fs binding
  some_holds-where t no_formula binding s = refl
  some_holds-where t (more_formulas first rest) binding s = λ i. holds-where t first binding s i || some_holds-where t rest binding s i

-- ---- what is true after some changes

-- the literals of the changes whose conditions hold if these atoms are true
abbrev pub literals_where : Task → (Atom → Bool) → List Change → List GroundLiteral
literals_where t is_true changes =
    map (λ (c : Change). c.literal) (filter (λ (c : Change). holds_where t is_true c.condition c.binding) changes)

-- the state after the changes of some effects, the last first
abbrev pub state_after : Task → List Atom → List (List Change) → State
state_after t init [] = from_list init
state_after t init (changes ∷ earlier) = after_changes t (state_after t init earlier) changes

abbrev pub is_in : Atom → List Atom → Bool
is_in q atoms = list_any (eq_by_cmp atom_cmp q) atoms

abbrev after_these : (Atom → Bool) → List GroundLiteral → Atom → Bool
after_these before literals q = (before q && not (is_in q (deleted_by literals))) || is_in q (added_by literals)

-- whether an atom is true then
abbrev pub true_after : Task → List Atom → List (List Change) → Atom → Bool
true_after t init [] q = is_in q init
true_after t init (changes ∷ earlier) q = after_these (true_after t init earlier) (literals_where t (true_after t init earlier) changes) q

pub contains-state_after : (t : Task) (init : List Atom) (changes : List (List Change)) (q : Atom) → contains (state_after t init changes) q ≡ true_after t init changes q
contains-state_after t init [] q = contains-from_list atoms_total init q
contains-state_after t init (changes ∷ earlier) q =
    let before = state_after t init earlier in
    let literals = literals_in t before changes in
    contains-union atoms_total (difference before (from_list (deleted_by literals))) (from_list (added_by literals)) q
    ∙ (λ i.
    (contains-difference atoms_total before (from_list (deleted_by literals)) q
    ∙ (λ j. contains before q && not (contains-from_list atoms_total (deleted_by literals) q j))) i
    || contains-from_list atoms_total (added_by literals) q i)
    ∙ (λ i. after_these (contains before) (literals-where i) q)
    ∙ (λ i. after_these (λ a. contains-state_after t init earlier a i) (literals_where t (λ a. contains-state_after t init earlier a i) changes) q)
  where
    literals-where : literals_in t (state_after t init earlier) changes ≡ literals_where t (contains (state_after t init earlier)) changes
    literals-where = λ i. map (λ (c : Change). c.literal) (filter (λ (c : Change). holds-where t c.condition c.binding (state_after t init earlier) i) changes)

-- whether a formula holds then
pub holds-after : (t : Task) (init : List Atom) (changes : List (List Change)) (f : Formula) (binding : List ℕ)
    → holds t f binding (state_after t init changes) ≡ holds_where t (true_after t init changes) f binding
holds-after t init changes f binding =
    holds-where t f binding (state_after t init changes) ∙ (λ i. holds_where t (λ q. contains-state_after t init changes q i) f binding)

-- ---- the result of an action

module _ (t : Task) (s : State) (a : Instance) (schema : Schema) (is : slice_get t.schemas a.schema ≡ Some schema) (fit : fits t schema a.objects ≡ true) where
  step_of_schema : step t s a ≡ cond (can_apply t schema a.objects s) (Some (after_changes t s (changes_of t schema.effect a.objects))) None
  step_of_schema =
      ap (option_and_then (λ found. cond (fits t found a.objects && can_apply t found a.objects s) (Some (after_changes t s (changes_of t found.effect a.objects))) None)) is
      ∙ ap (λ b. cond (b && can_apply t schema a.objects s) (Some (after_changes t s (changes_of t schema.effect a.objects))) None) fit

  -- if the schema is applicable
  pub leads : can_apply t schema a.objects s ≡ true → step t s a ≡ Some (after_changes t s (changes_of t schema.effect a.objects))
  leads holding = step_of_schema ∙ ap (λ b. cond b (Some (after_changes t s (changes_of t schema.effect a.objects))) None) holding

  -- if it is not
  pub leads_nowhere : can_apply t schema a.objects s ≡ false → step t s a ≡ None
  leads_nowhere failing = step_of_schema ∙ ap (λ b. cond b (Some (after_changes t s (changes_of t schema.effect a.objects))) None) failing
