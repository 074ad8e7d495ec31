-- The groups of a join, one atom after another, and what they exclude.
use Rattle.std.proofs.Common.{◌≡◌, ◌∙◌, ◌⊎◌, inl, inr, ⊎_elim, ℕ, zero, suc, ◌+◌, ◌<◌, Bool, true, false, not, ◌&&◌, List, [], ◌∷◌, ◌++◌, length, map, get_or, Option, None, Some, refl, sym, ap, subst, arith, true≢false}
use Rattle.std.specs.Prelude.{slice_get, slice_index, nat_lt, filter, IfSome}
use Rattle.std.specs.List.{list_any}
use Rattle.std.specs.Option.{option_map, option_map_or}
use Rattle.std.specs.BTreeSet.{BTreeSet}
use Rattle.std.specs.Borrow.{Bor}
use Rattle.std.specs.FinSet.{contains, contains-from_list}
use Rattle.std.proofs.lemmas.Bool.{ltb-true, ltb-false, or_left, or_right}
use Rattle.std.proofs.lemmas.Option.{slice_get_within, slice_get-map, slice_get_read}
use Rattle.task.specs.declared.atoms.Atom.{Atom}
use Rattle.task.specs.declared.atoms.ObjectId.{ObjectId}
use Rattle.task.specs.declared.schemas.Formula.{Formula}
use Rattle.task.specs.TaskParts.{atom_of, object_of, term_of, lifted_atom_of, union_of}
use Rattle.grounding_instances.specs.declared.joins.Joint.{Joint}
use Rattle.grounding_instances.specs.declared.joins.Index.{Index}
use Rattle.grounding_instances.specs.declared.joins.Join.{Join}
use Rattle.grounding_instances.specs.declared.parameters.Parameter.{Parameter}
use Rattle.grounding_instances.specs.Parameters.{Choice, lent_formula}
use Rattle.grounding_instances.specs.Joins.{has, IsJoint, key_in, key_number, IsPlaced, ArePlaced, Grows, IsIndex, AreIndexes, AddsIndexes, IsJoin, IsJoined, AreJoined, IsGroupAmong, IsGroup, AreCandidates}
use Rattle.grounding_instances.proofs.RisingObjects.{rising-objects}
use Rattle.model.specs.Task as task
use Rattle.model.specs.Task.{Task, Term}
use Rattle.model.specs.Meaning as meaning
use Rattle.model.specs.Meaning.{initial_state, ground_atom}
use Rattle.model.specs.StaticallyFalse.{is_statically_false}
use Rattle.model.proofs.Atoms.{atoms_total}
use Rattle.model.proofs.ListLemmas.{Contains-place}
use Rattle.model.proofs.NumberingLemmas.{occurs_in-Contains}
use Rattle.model.proofs.StaticLemmas.{or_false}
use Rattle.model.proofs.EnumerationLemmas.{is_bound, object_of-more}

-- ---- one atom after another

placed-grows : (j : Joint) (before after : List (BTreeSet ObjectId)) (a : task.Atom) → Grows before after → IsPlaced j before a → IsPlaced j after a
placed-grows j before after a grows placed of_predicate object key place here group at =
    let was = grows key group at in
    was.2 object (placed of_predicate object key place here was.0 was.1)

-- one more
pub placed-more : (j : Joint) (before after : List (BTreeSet ObjectId)) (items : List Atom) (i : ℕ) (listed : Atom) → i < length items → listed ≡ get_or items i listed
    → Grows before after → IsPlaced j after (atom_of listed) → ArePlaced j before (map atom_of items) i → ArePlaced j after (map atom_of items) (i + 1)
placed-more j before after items i listed below is grows placed so_far n a n_below at =
    elim (nat_lt n i) as (λ b. nat_lt n i ≡ b → IsPlaced j after a) [
      | true ↦ λ earlier. placed-grows j before after a grows (so_far n a (ltb-true n i earlier) at)
      | false ↦ λ last.
          let same : n ≡ i = omega (arith, ltb-false n i last, n_below) in
          let got : Some a ≡ Some (atom_of listed) =
          sym at ∙ ap (slice_get (map atom_of items)) same ∙ slice_get-map atom_of items i ∙ ap (option_map atom_of) (slice_get_read items (length items) i listed refl below is) in
          subst (IsPlaced j after) (sym (some-same a (atom_of listed) got)) placed
    ] refl
  where
    some-same : (x y : task.Atom) → Some x ≡ Some y → x ≡ y
    some-same x y same = cc

-- ---- an object in no group makes its literal statically false

last-at : (xs : List ℕ) (x : ℕ) → slice_index (xs ++ x ∷ []) (length xs) ≡ x
last-at [] x = refl
last-at (first ∷ xs) x = last-at xs x

any-at : {X : Type 0} (p : X → Bool) (xs : List X) (i : ℕ) (x : X) → slice_get xs i ≡ Some x → p x ≡ true → list_any p xs ≡ true
any-at p [] i x at passes = absurd (cc)
any-at p (first ∷ xs) zero x at passes =
    let same : first ≡ x = cc in
    or_left (p first) (list_any p xs) (ap p same ∙ passes)
any-at p (first ∷ xs) (suc i) x at passes = or_right (p first) (list_any p xs) (any-at p xs i x at passes)

module _ (t : Task) (number : ℕ) (j : Joint) (joint : IsJoint t number j) (objects : List ℕ) (long : length objects ≡ number) (one : ℕ) where
  abbrev terms : List Term
  terms = map term_of j.atom.now.terms.items

  abbrev chosen : List ℕ
  chosen = objects ++ one ∷ []

  abbrev ground : task.Atom
  ground = ground_atom chosen (lifted_atom_of j.atom.now)

  named : (place : ℕ) (x : Term) → slice_get terms place ≡ Some x → slice_get ground.objects place ≡ Some (meaning.object_of chosen x)
  named place x at = slice_get-map (meaning.object_of chosen) terms place ∙ ap (option_map (meaning.object_of chosen)) at

  own : slice_get ground.objects j.place ≡ Some one
  own = named j.place (task.variable number) joint.place ∙ ap (λ n. Some (slice_index chosen n)) (sym long) ∙ ap Some (last-at objects one)

  at_key : (place : ℕ) → option_map_or (is_bound number) (slice_get terms place) false ≡ true
      → slice_get ground.objects place ≡ Some (option_map_or (meaning.object_of objects) (slice_get terms place) 0)
  at_key place bound =
      elim (slice_get terms place) as (λ o. slice_get terms place ≡ o → option_map_or (is_bound number) o false ≡ true
      → slice_get ground.objects place ≡ Some (option_map_or (meaning.object_of objects) o 0)) [
        | None ↦ λ _ none. absurd (true≢false (sym none))
        | Some x ↦ λ at known. named place x at ∙ ap Some (object_of-more objects (one ∷ []) x (ap (λ n. is_bound n x) long ∙ known))
      ] refl bound

  key : key_in j.key ground.objects ≡ Some (key_number j objects)
  key =
      elim j.key as (λ k. IfSome k (λ place. option_map_or (is_bound number) (slice_get terms place) false ≡ true)
      → key_in k ground.objects ≡ Some (option_map_or (λ place. option_map_or (meaning.object_of objects) (slice_get terms place) 0) k 0)) [
        | None ↦ λ _. refl
        | Some place ↦ λ bound. at_key place bound
      ] joint.key

  pub left_out : (groups : List (BTreeSet ObjectId)) (set : BTreeSet ObjectId) → ArePlaced j groups t.init (length t.init) → slice_get groups (key_number j objects) ≡ Some set → has set one ≡ false
      → is_statically_false t (task.atom (lifted_atom_of j.atom.now)) chosen ≡ true
  left_out groups set placed at none =
      let absent : contains (initial_state t) ground ≡ false =
      elim (contains (initial_state t) ground) as (λ b. contains (initial_state t) ground ≡ b → b ≡ false) [
        | false ↦ λ _. refl
        | true ↦ λ there.
            let place = Contains-place t.init ground (occurs_in-Contains t.init ground (sym (contains-from_list atoms_total t.init ground) ∙ there)) in
            absurd (true≢false (sym (placed place.0 ground (slice_get_within t.init place.0 ground place.1) place.1 refl one (key_number j objects) own key set at) ∙ none))
      ] refl in
      or_false _ ∙ (λ i. not (joint.static i) && not (absent i))

-- ---- candidates

all_pass : (xs : List ℕ) → filter (λ _. true) xs ≡ xs
all_pass [] = refl
all_pass (x ∷ xs) = ap (λ l. x ∷ l) (all_pass xs)

pub all-candidates : (t : Task) (objects : List ℕ) (choice : Choice) (candidates : List ℕ) → candidates ≡ choice.objects → AreCandidates t objects choice candidates
all-candidates t objects choice candidates same = record {
  may = λ _. true;
  are = same ∙ sym (all_pass choice.objects);
  closes = λ one no. absurd (true≢false no);
}

pub group-candidates : (t : Task) (number : ℕ) (choice : Choice) (j : Join) → IsJoin t number choice j → (objects : List ℕ) → length objects ≡ number → (found : List ObjectId) → IsGroup t j objects found
    → AreCandidates t objects choice (map object_of found)
group-candidates t number choice j join objects long found those =
    let group = those.group in
    let index = join.indexes group.place group.index group.there in
    record {
      may = has those.set;
      are = ap (map object_of) those.are ∙ rising-objects t (union_of j.types.now) those.set.keys those.ordered ∙ sym (ap (filter (has those.set)) join.objects);
      closes = λ one none. any-at (λ f. is_statically_false t f (objects ++ one ∷ [])) choice.literals index.place (task.atom (lifted_atom_of group.index.joint.atom.now)) index.at
          (left_out t number group.index.joint index.joint objects long one group.index.groups.items those.set index.placed group.at none);
    }

-- ---- indexes, one more at a time

pub index-added : (t : Task) (number : ℕ) (before after : List Index) (index : Index) (joint : Joint) → after ≡ before ++ index ∷ [] → index.joint ≡ joint
    → IsJoint t number joint → ArePlaced index.joint index.groups.items t.init (length t.init) → AddsIndexes t (task.atom (lifted_atom_of joint.atom.now)) number before after
index-added t number before after index joint push same is placed formulas place at so_far n one there =
    ⊎_elim (λ old. so_far n one old)
    (λ last. subst (IsIndex t formulas number) (sym last) (record {
      place = place;
      at = at ∙ ap (λ (j : Joint). Some (task.atom (lifted_atom_of j.atom.now))) (sym same);
      joint = subst (IsJoint t number) (sym same) is;
      placed = placed;
    }))
    (pushed_at before index n one (sym (ap (λ l. slice_get l n) push) ∙ there))
  where
    pushed_at : (xs : List Index) (x : Index) (k : ℕ) (y : Index) → slice_get (xs ++ x ∷ []) k ≡ Some y → (slice_get xs k ≡ Some y) ⊎ (y ≡ x)
    pushed_at [] x zero y is = inr (cc)
    pushed_at [] x (suc k) y is = absurd (cc)
    pushed_at (first ∷ xs) x zero y is = inl is
    pushed_at (first ∷ xs) x (suc k) y is = pushed_at xs x k y is

pub adds-more : (t : Task) (number : ℕ) (formula same : task.Formula) (before between after : List Index) → formula ≡ same
    → AddsIndexes t formula number before between → AddsIndexes t same number between after → AddsIndexes t formula number before after
adds-more t number formula same before between after is first second formulas place at so_far = second formulas place (at ∙ ap Some is) (first formulas place at so_far)

-- the indexes of one more literal
pub indexes-more : (t : Task) (number : ℕ) (before after : List Index) (literals : List (Bor Formula)) (i : ℕ) (literal : Bor Formula) → i < length literals → literal ≡ get_or literals i literal
    → AddsIndexes t (lent_formula literal) number before after → AreIndexes t (map lent_formula literals) number before → AreIndexes t (map lent_formula literals) number after
indexes-more t number before after literals i literal below is adds so_far =
    adds (map lent_formula literals) i (slice_get-map lent_formula literals i ∙ ap (option_map lent_formula) (slice_get_read literals (length literals) i literal refl below is)) so_far

-- ---- the smallest group, with one more index

pub smaller-group : (items indexes : List Index) (objects : List ℕ) (first second smallest : Option (Bor (BTreeSet ObjectId))) (i : ℕ) (index : Index) → items ≡ indexes
    → i < length items → index ≡ get_or items i index
    → IfSome first (λ group. IsGroupAmong indexes objects group.now)
    → IfSome second (λ group. slice_get index.groups.items (key_number index.joint objects) ≡ Some group.now)
    → (smallest ≡ first) ⊎ (smallest ≡ second) → IfSome smallest (λ group. IsGroupAmong indexes objects group.now)
smaller-group items indexes objects first second smallest i index all below is so_far here either =
    let there : slice_get indexes i ≡ Some index = ap (λ l. slice_get l i) (sym all) ∙ slice_get_read items (length items) i index refl below is in
    let among : IfSome second (λ group. IsGroupAmong indexes objects group.now) =
    elim second as (λ o. IfSome o (λ group. slice_get index.groups.items (key_number index.joint objects) ≡ Some group.now) → IfSome o (λ group. IsGroupAmong indexes objects group.now)) [
      | None ↦ λ _. tt
      | Some group ↦ λ at. record { place = i; index = index; there = there; at = at }
    ] here in
    ⊎_elim (λ same. subst (λ o. IfSome o (λ group. IsGroupAmong indexes objects group.now)) (sym same) so_far)
    (λ same. subst (λ o. IfSome o (λ group. IsGroupAmong indexes objects group.now)) (sym same) among) either

-- ---- parameters

-- one more parameter
pub joined-more : (t : Task) (number : ℕ) (before : List Parameter) (p : Parameter) → AreJoined t number before → IsJoined t (number + length before) p → AreJoined t number (before ++ p ∷ [])
joined-more t number [] p all one =
    let same : number + 0 ≡ number = omega arith in (subst (λ n. IsJoined t n p) same one, tt)
joined-more t number (first ∷ before) p all one =
    let same : number + suc (length before) ≡ number + 1 + length before = omega arith in
    (all.0, joined-more t (number + 1) before p all.1 (subst (λ n. IsJoined t n p) same one))
