-- The image of an effect takes the image of a state to the image of the state that the effect leads to.
use Rattle.std.proofs.Common.{◌≡◌, ◌∙◌, ℕ, Bool, true, false, not, ◌&&◌, ◌||◌, List, [], ◌∷◌, ◌++◌, map, length, refl, sym, ap}
use Rattle.std.specs.Prelude.{nat_lt, cond, filter}
use Rattle.std.specs.List.{list_all, list_any}
use Rattle.std.specs.Ordering.{eq_by_cmp}
use Rattle.std.specs.FinSet.{contains, from_list, difference, contains-from_list, contains-union, contains-difference}
use Rattle.std.proofs.lemmas.Bool.{and_parts}
use Rattle.std.proofs.lemmas.List.{map_push}
use Rattle.std.proofs.lemmas.List.Folds.{list_any-append}
use Rattle.model.specs.Task.{Union, Atom, Formula, and, no_formula, EffectLiteral, add, delete, Effect, Effects, literal, both, each, when, no_effect, more_effects, Task}
use Rattle.model.specs.Meaning.{State, atom_cmp, holds, GroundLiteral, adds, deletes, Change, ground_literal, change_under, changes_of, changes_of_all, literals_in, added_by, deleted_by, after_changes}
use Rattle.model.specs.WellTyped.{is_formula, is_effect_literal, is_effect, are_effects, max_variables}
use Rattle.model.specs.NumberedAtoms.{occurs_in}
use Rattle.model.proofs.Atoms.{atoms_total}
use Rattle.symmetries_definitions.specs.Exchanges.{image_of_atom, image_of_state, image_of_formula, image_of_literal, image_of_effect, image_of_effects}
use Rattle.symmetries_definitions.specs.Symmetries.{IsSymmetry}
use Rattle.symmetries_definitions.proofs.Lists.{any-flat_map}
use Rattle.symmetries_definitions.proofs.Images.{atom-image, same_atoms, contains-image, is_image}
use Rattle.symmetries_definitions.proofs.ObjectImages.{some_object}
use Rattle.symmetries_definitions.proofs.FormulaImages.{lifted_bound, one_longer, holds-image}

abbrev image_of_ground : (ℕ → ℕ) → GroundLiteral → GroundLiteral
image_of_ground to (adds a) = adds (image_of_atom to a)
image_of_ground to (deletes a) = deletes (image_of_atom to a)

literal-image : (task : Task) (to : ℕ → ℕ) (scope : List Union) (b : List ℕ) (l : EffectLiteral) → is_effect_literal task scope l ≡ true → length scope ≡ length b
    → ground_literal (map to b) (image_of_literal to l) ≡ image_of_ground to (ground_literal b l)
literal-image task to scope b (add a) typed long = ap adds (atom-image to b a (lifted_bound task scope task.predicates a b typed long))
literal-image task to scope b (delete a) typed long = ap deletes (atom-image to b a (lifted_bound task scope task.predicates a b typed long))

-- ---- some change of an effect, and of its image

-- the first test passes a change if the second passes its image
abbrev IsCarried : Task → (ℕ → ℕ) → (Change → Bool) → (Change → Bool) → Type 0
IsCarried task to p q =
    (condition : Formula) (scope : List Union) (b : List ℕ) (l : GroundLiteral) → is_formula task scope condition ≡ true → length scope ≡ length b
    → q (record { condition = image_of_formula to condition; binding = map to b; literal = image_of_ground to l }) ≡ p (record { condition = condition; binding = b; literal = l })

module _ (task : Task) (to : ℕ → ℕ) (symmetry : IsSymmetry task to) (p q : Change → Bool) (carried : IsCarried task to p q) where
  change-image : (condition : Formula) (scope : List Union) (b : List ℕ) (l : EffectLiteral) → is_formula task scope condition ≡ true → is_effect_literal task scope l ≡ true → length scope ≡ length b
      → q (change_under (image_of_formula to condition) (map to b) (image_of_literal to l)) ≡ p (change_under condition b l)
  change-image condition scope b l known typed long =
      ap (λ g. q (record { condition = image_of_formula to condition; binding = map to b; literal = g })) (literal-image task to scope b l typed long)
      ∙ carried condition scope b (ground_literal b l) known long

  literals-image : (condition : Formula) (scope : List Union) (b : List ℕ) (ls : List EffectLiteral) → is_formula task scope condition ≡ true → list_all (is_effect_literal task scope) ls ≡ true → length scope ≡ length b
      → list_any q (map (change_under (image_of_formula to condition) (map to b)) (map (image_of_literal to) ls)) ≡ list_any p (map (change_under condition b) ls)
  literals-image condition scope b [] known typed long = refl
  literals-image condition scope b (l ∷ ls) known typed long =
      let parts = and_parts (is_effect_literal task scope l) (list_all (is_effect_literal task scope) ls) typed in
      λ i. change-image condition scope b l known parts.0 long i || literals-image condition scope b ls known parts.1 long i

  mutual
    pub some_change-image : (e : Effect) (scope : List Union) (b : List ℕ) → is_effect task scope e ≡ true → length scope ≡ length b
        → list_any q (changes_of task (image_of_effect to e) (map to b)) ≡ list_any p (changes_of task e b)
    some_change-image (literal l) scope b typed long = ap (λ t. t || false) (change-image (and no_formula) scope b l refl typed long)
    some_change-image (both parts) scope b typed long = some_changes-image parts scope b typed long
    some_change-image (each types part) scope b typed long =
        let parts = and_parts (nat_lt (length scope) max_variables) (is_effect task (scope ++ types ∷ []) part) typed in
        any-flat_map q (λ one. changes_of task (image_of_effect to part) (map to b ++ one ∷ [])) _
        ∙ some_object task to symmetry types (λ one. list_any p (changes_of task part (b ++ one ∷ [])))
        (λ one. list_any q (changes_of task (image_of_effect to part) (map to b ++ one ∷ [])))
        (λ o. ap (λ l. list_any q (changes_of task (image_of_effect to part) l)) (sym (map_push to b o))
        ∙ some_change-image part (scope ++ types ∷ []) (b ++ o ∷ []) parts.1 (one_longer scope b types o long))
        ∙ sym (any-flat_map p (λ one. changes_of task part (b ++ one ∷ [])) _)
    some_change-image (when condition literals) scope b typed long =
        let parts = and_parts (is_formula task scope condition) (list_all (is_effect_literal task scope) literals) typed in
        literals-image condition scope b literals parts.0 parts.1 long

    some_changes-image : (es : Effects) (scope : List Union) (b : List ℕ) → are_effects task scope es ≡ true → length scope ≡ length b
        → list_any q (changes_of_all task (image_of_effects to es) (map to b)) ≡ list_any p (changes_of_all task es b)
    some_changes-image no_effect scope b typed long = refl
    some_changes-image (more_effects first rest) scope b typed long =
        let parts = and_parts (is_effect task scope first) (are_effects task scope rest) typed in
        list_any-append q (changes_of task (image_of_effect to first) (map to b)) (changes_of_all task (image_of_effects to rest) (map to b))
        ∙ (λ i. some_change-image first scope b parts.0 long i || some_changes-image rest scope b parts.1 long i)
        ∙ sym (list_any-append p (changes_of task first b) (changes_of_all task rest b))

-- ---- what is true after some changes

abbrev adds_it : Atom → GroundLiteral → Bool
adds_it a (adds b) = eq_by_cmp atom_cmp a b
adds_it a (deletes b) = false

abbrev deletes_it : Atom → GroundLiteral → Bool
deletes_it a (adds b) = false
deletes_it a (deletes b) = eq_by_cmp atom_cmp a b

-- the change takes effect in the state, and its literal passes
abbrev makes : Task → State → (GroundLiteral → Bool) → Change → Bool
makes task s test c = holds task c.condition c.binding s && test c.literal

-- a list of literals has the atom if one of them passes, for added and deleted atoms alike
module _ (task : Task) (s : State) (atoms_of : List GroundLiteral → List Atom) (a : Atom) (test : GroundLiteral → Bool) (none : occurs_in (atoms_of []) a ≡ false)
    (more : (l : GroundLiteral) (ls : List GroundLiteral) → occurs_in (atoms_of (l ∷ ls)) a ≡ (test l || occurs_in (atoms_of ls) a)) where
  made_by : (changes : List Change) → occurs_in (atoms_of (literals_in task s changes)) a ≡ list_any (makes task s test) changes
  made_by [] = none
  made_by (c ∷ changes) = by_condition (made_by changes) (holds task c.condition c.binding s)
    where
      by_condition : occurs_in (atoms_of (literals_in task s changes)) a ≡ list_any (makes task s test) changes → (held : Bool)
          → occurs_in (atoms_of (map (λ (d : Change). d.literal) (cond held (c ∷ filter (λ (d : Change). holds task d.condition d.binding s) changes) (filter (λ (d : Change). holds task d.condition d.binding s) changes)))) a
          ≡ ((held && test c.literal) || list_any (makes task s test) changes)
      by_condition rest true = more c.literal (literals_in task s changes) ∙ ap (λ b. test c.literal || b) rest
      by_condition rest false = rest

more_added : (a : Atom) (l : GroundLiteral) (ls : List GroundLiteral) → occurs_in (added_by (l ∷ ls)) a ≡ (adds_it a l || occurs_in (added_by ls) a)
more_added a (adds b) ls = refl
more_added a (deletes b) ls = refl

more_deleted : (a : Atom) (l : GroundLiteral) (ls : List GroundLiteral) → occurs_in (deleted_by (l ∷ ls)) a ≡ (deletes_it a l || occurs_in (deleted_by ls) a)
more_deleted a (adds b) ls = refl
more_deleted a (deletes b) ls = refl

true_after : (task : Task) (s : State) (changes : List Change) (a : Atom)
    → contains (after_changes task s changes) a ≡ ((contains s a && not (list_any (makes task s (deletes_it a)) changes)) || list_any (makes task s (adds_it a)) changes)
true_after task s changes a =
    let literals = literals_in task s changes in
    contains-union atoms_total (difference s (from_list (deleted_by literals))) (from_list (added_by literals)) a
    ∙ (λ i. contains-difference atoms_total s (from_list (deleted_by literals)) a i || contains-from_list atoms_total (added_by literals) a i)
    ∙ (λ i. (contains s a && not (contains-from_list atoms_total (deleted_by literals) a i)) || occurs_in (added_by literals) a)
    ∙ (λ i. (contains s a && not (made_by task s deleted_by a (deletes_it a) refl (more_deleted a) changes i)) || made_by task s added_by a (adds_it a) refl (more_added a) changes i)

-- ---- the state that an effect leads to

module _ (task : Task) (to : ℕ → ℕ) (symmetry : IsSymmetry task to) where
  adds-image : (a : Atom) (l : GroundLiteral) → adds_it (image_of_atom to a) (image_of_ground to l) ≡ adds_it a l
  adds-image a (adds b) = same_atoms to symmetry.both_ways a b
  adds-image a (deletes b) = refl

  deletes-image : (a : Atom) (l : GroundLiteral) → deletes_it (image_of_atom to a) (image_of_ground to l) ≡ deletes_it a l
  deletes-image a (adds b) = refl
  deletes-image a (deletes b) = same_atoms to symmetry.both_ways a b

  makes-image : (s : State) (test test' : GroundLiteral → Bool) → ((l : GroundLiteral) → test' (image_of_ground to l) ≡ test l)
      → IsCarried task to (makes task s test) (makes task (image_of_state to s) test')
  makes-image s test test' same condition scope b l typed long =
      λ i. holds-image task to symmetry condition scope b s typed long i && same l i

  pub after-image : (e : Effect) (scope : List Union) (b : List ℕ) (s : State) → is_effect task scope e ≡ true → length scope ≡ length b
      → after_changes task (image_of_state to s) (changes_of task (image_of_effect to e) (map to b)) ≡ image_of_state to (after_changes task s (changes_of task e b))
  after-image e scope b s typed long =
      is_image to symmetry.both_ways (after_changes task s (changes_of task e b)) (after_changes task (image_of_state to s) (changes_of task (image_of_effect to e) (map to b)))
      (λ a.
      true_after task (image_of_state to s) (changes_of task (image_of_effect to e) (map to b)) (image_of_atom to a)
      ∙ (λ i. (contains-image to symmetry.both_ways s a i
      && not (some_change-image task to symmetry (makes task s (deletes_it a)) (makes task (image_of_state to s) (deletes_it (image_of_atom to a)))
      (makes-image s (deletes_it a) (deletes_it (image_of_atom to a)) (deletes-image a)) e scope b typed long i))
      || some_change-image task to symmetry (makes task s (adds_it a)) (makes task (image_of_state to s) (adds_it (image_of_atom to a)))
      (makes-image s (adds_it a) (adds_it (image_of_atom to a)) (adds-image a)) e scope b typed long i)
      ∙ sym (true_after task s (changes_of task e b) a))
