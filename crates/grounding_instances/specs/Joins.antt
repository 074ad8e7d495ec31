-- Which objects the static initial atoms allow for a parameter.
use Rattle.std.specs.Prelude.{◌≡◌, ℕ, ◌+◌, ◌<◌, Bool, true, false, List, [], ◌∷◌, ◌++◌, map, filter, slice_get, length, Option, None, Some, IfSome}
use Rattle.std.specs.Option.{option_map_or}
use Rattle.std.specs.List.{list_any}
use Rattle.std.specs.List.Sorted.{IsStrictlySortedBy}
use Rattle.std.specs.BTreeSet as sorted
use Rattle.std.specs.BTreeSet.{BTreeSet}
use Rattle.task.specs.declared.atoms.ObjectId.{ObjectId}
use Rattle.task.specs.contracts.atoms.ObjectIdOrd.TheImpl as object_ord
use Rattle.task.specs.TaskParts.{term_of, lifted_atom_of, union_of}
use Rattle.grounding_instances.specs.declared.joins.Joint.{Joint}
use Rattle.grounding_instances.specs.declared.joins.Index.{Index}
use Rattle.grounding_instances.specs.declared.joins.Join.{Join}
use Rattle.grounding_instances.specs.declared.parameters.Parameter.{Parameter}
use Rattle.grounding_instances.specs.Parameters.{Choice, choice_of}
use Rattle.model.specs.Task as task
use Rattle.model.specs.Meaning as meaning
use Rattle.model.specs.Fluents.{is_fluent}
use Rattle.model.specs.StaticallyFalse.{is_statically_false}
use Rattle.model.proofs.EnumerationLemmas.{is_bound}

-- the set contains the object with this number
abbrev pub has : BTreeSet ObjectId → ℕ → Bool
has set number = sorted.contains (object_ord.ghosts).cmp set (record { 0 = number })

-- The joint's atom has a static predicate, the parameter with this number is at its position, and at the key's position, if there
-- is one, is an object or an earlier parameter.
pub record IsJoint (t : task.Task) (number : ℕ) (j : Joint) : Type 0 where
  pub static : is_fluent t j.atom.now.predicate.0 ≡ false
  pub place : slice_get (map term_of j.atom.now.terms.items) j.place ≡ Some (task.variable number)
  pub key : IfSome j.key (λ place. option_map_or (is_bound number) (slice_get (map term_of j.atom.now.terms.items) place) false ≡ true)

-- the object at the key's position; 0 if there is no key
abbrev pub key_in : Option ℕ → List ℕ → Option ℕ
key_in None objects = Some 0
key_in (Some place) objects = slice_get objects place

-- the object that the key denotes, given the objects of the earlier parameters
abbrev pub key_number : Joint → List ℕ → ℕ
key_number j objects = option_map_or (λ place. option_map_or (meaning.object_of objects) (slice_get (map term_of j.atom.now.terms.items) place) 0) j.key 0

-- the group with this number, if there is one, contains this object
abbrev pub HasAt : List (BTreeSet ObjectId) → ℕ → ℕ → Type 0
HasAt groups number object = (group : BTreeSet ObjectId) → slice_get groups number ≡ Some group → has group object ≡ true

-- if the atom has the joint's predicate, its object is in the group of its key
abbrev pub IsPlaced : Joint → List (BTreeSet ObjectId) → task.Atom → Type 0
IsPlaced j groups a =
    a.predicate ≡ j.atom.now.predicate.0 → (object key : ℕ) → slice_get a.objects j.place ≡ Some object → key_in j.key a.objects ≡ Some key → HasAt groups key object

-- this holds for the first `n` of these atoms
abbrev pub ArePlaced : Joint → List (BTreeSet ObjectId) → List task.Atom → ℕ → Type 0
ArePlaced j groups atoms count = (n : ℕ) (a : task.Atom) → n < count → slice_get atoms n ≡ Some a → IsPlaced j groups a

-- each of the groups keeps its objects
abbrev pub Grows : List (BTreeSet ObjectId) → List (BTreeSet ObjectId) → Type 0
Grows old new =
    (key : ℕ) (set : BTreeSet ObjectId) → slice_get new key ≡ Some set
    → (before : BTreeSet ObjectId) × (slice_get old key ≡ Some before) × ((object : ℕ) → has before object ≡ true → has set object ≡ true)

-- The index's joint is one of these formulas, and each initial atom has its object in the group of its key.
pub record IsIndex (t : task.Task) (formulas : List task.Formula) (number : ℕ) (index : Index) : Type 0 where
  pub place : ℕ
  pub at : slice_get formulas place ≡ Some (task.atom (lifted_atom_of index.joint.atom.now))
  pub joint : IsJoint t number index.joint
  pub placed : ArePlaced index.joint index.groups.items t.init (length t.init)

-- each of them is such an index
abbrev pub AreIndexes : task.Task → List task.Formula → ℕ → List Index → Type 0
AreIndexes t formulas number indexes = (n : ℕ) (index : Index) → slice_get indexes n ≡ Some index → IsIndex t formulas number index

-- the new indexes are of this formula
abbrev pub AddsIndexes : task.Task → task.Formula → ℕ → List Index → List Index → Type 0
AddsIndexes t formula number old new =
    (formulas : List task.Formula) (place : ℕ) → slice_get formulas place ≡ Some formula → AreIndexes t formulas number old → AreIndexes t formulas number new

-- the join is over the choice's types, and its indexes are of the choice's literals
pub record IsJoin (t : task.Task) (number : ℕ) (choice : Choice) (j : Join) : Type 0 where
  pub objects : choice.objects ≡ meaning.objects_of t (union_of j.types.now)
  pub indexes : AreIndexes t choice.literals number j.indexes.items

-- this is the group of one of the indexes for the earlier objects
pub record IsGroupAmong (indexes : List Index) (objects : List ℕ) (group : BTreeSet ObjectId) : Type 0 where
  pub place : ℕ
  pub index : Index
  pub there : slice_get indexes place ≡ Some index
  pub at : slice_get index.groups.items (key_number index.joint objects) ≡ Some group

-- the objects of the join's types in one of the groups for the earlier objects
pub record IsGroup (t : task.Task) (j : Join) (objects : List ℕ) (found : List ObjectId) : Type 0 where
  pub set : BTreeSet ObjectId
  pub group : IsGroupAmong j.indexes.items objects set
  pub ordered : IsStrictlySortedBy (object_ord.ghosts).cmp set.keys
  pub are : found ≡ filter (λ (o : ObjectId). meaning.is_of t (union_of j.types.now) o.0) set.keys

-- the parameter's join is of its own choice
abbrev pub IsJoined : task.Task → ℕ → Parameter → Type 0
IsJoined t number p = IsJoin t number (choice_of p) p.join

-- the same for each of the parameters, from this number on
abbrev pub AreJoined : task.Task → ℕ → List Parameter → Type 0
AreJoined t number [] = Unit {0}
AreJoined t number (p ∷ parameters) = IsJoined t number p × AreJoined t (number + 1) parameters

-- The choice's objects, in order, except some that make one of its literals statically false, given the objects of the earlier
-- parameters.
pub record AreCandidates (t : task.Task) (objects : List ℕ) (choice : Choice) (candidates : List ℕ) : Type 0 where
  pub may : ℕ → Bool
  pub are : candidates ≡ filter may choice.objects
  pub closes : (one : ℕ) → may one ≡ false → list_any (λ f. is_statically_false t f (objects ++ one ∷ [])) choice.literals ≡ true
