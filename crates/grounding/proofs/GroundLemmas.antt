-- What is kept for an instance, found by its number.
use Rattle.std.proofs.Common.{arith, ◌≡◌, ◌∙◌, ℕ, ◌<◌, ◌+◌, Bool, true, false, List, [], ◌∷◌, ◌++◌, map, length, take, get_or, Option, None, Some, inl, inr, refl, sym, ap, subst, true≢false}
use Rattle.std.specs.Prelude.{slice_get, is_none}
use Rattle.std.specs.Global.{Box, Vec}
use Rattle.std.specs.Option.{option_map, option_map_or}
use Rattle.std.proofs.lemmas.List.{map_push, take_more}
use Rattle.std.proofs.lemmas.Option.{slice_get-get_or, slice_get_read, slice_get-map, slice_get_within, get_or_from_slice_get}
use Rattle.grounding_instances.specs.Numbering.{instances_in}
use Rattle.grounding.specs.declared.condition.Condition.{Condition}
use Rattle.grounding.specs.declared.ground.Ground.{Ground}
use Rattle.grounding.specs.Conditions.{literals_in}
use Rattle.model.specs.Task.{Atom, Schema, Task, Instance}
use Rattle.model.specs.Meaning.{is_instance, fits}
use Rattle.model.specs.StaticallyFalse.{kept_instances}
use Rattle.model.specs.NumberedLiterals.{NumberedLiteral, NumberedChange, numbered_literals, literals_of_instance, literals_of_number, counting_of_instance, counting_of_number}
use Rattle.grounding.specs.declared.changes.CountingChange.{CountingChange}
use Rattle.grounding.specs.declared.changes.ChangeCondition.{ChangeCondition}
use Rattle.grounding.specs.NumberedEffects.{change_of_effect}
use Rattle.grounding.specs.Changes.{counting_of, guard_in, effect_in, IsCompiled, AreCompiled, AreChangesOf}
use Rattle.grounding.specs.Preconditions.{IsPrecondition}
use Rattle.grounding.specs.Ground.{task_in, atoms_in}
use Rattle.grounding.proofs.EffectLemmas.{changes-of_effects}
use Rattle.grounding.proofs.InPlaceLemmas.{got-push}
use Rattle.grounding.proofs.StepLemmas.{kept-is_instance}

pub got : {X : Type 0} (xs : List X) (k : ℕ) (x : X) → k < length xs → x ≡ get_or xs k x → slice_get xs k ≡ Some x
got xs k x below at = slice_get_read xs (length xs) k x refl below at

pub got-mapped : {X Y : Type 0} (f : X → Y) (xs : List X) (k : ℕ) (x : X) → k < length xs → x ≡ get_or xs k x → slice_get (map f xs) k ≡ Some (f x)
got-mapped f xs k x below at = slice_get-map f xs k ∙ ap (option_map f) (got xs k x below at)

-- ---- instances

-- each number below their count is that of an instance
pub named : (t : Task) (number : ℕ) → number < length (kept_instances t) → (i : Instance) × (slice_get (kept_instances t) number ≡ Some i)
named t number within = (get_or (kept_instances t) number anything, slice_get-get_or (kept_instances t) number anything within)
  where
    anything : Instance
    anything = record { schema = 0; objects = [] }

pub schema-of : (t : Task) (i : Instance) → is_instance t i ≡ true → (s : Schema) × (slice_get t.schemas i.schema ≡ Some s)
schema-of t i instance =
    elim (slice_get t.schemas i.schema) as (λ o. option_map_or (λ (schema : Schema). fits t schema i.objects) o false ≡ true → (s : Schema) × (o ≡ Some s)) [
      | None ↦ λ none. absurd (true≢false (sym none))
      | Some s ↦ λ _. (s, refl)
    ] instance

pub counting-effect : (c : CountingChange) → counting_of c ≡ change_of_effect (effect_in c)
counting-effect c = ap (λ (b : Bool). changed b) (same c.condition)
  where
    changed : Bool → NumberedChange
    changed b = record { atom = c.atom; value = c.value; is_unconditional = b }

    same : (o : Option (Box ChangeCondition)) → is_none o ≡ is_none (guard_in o)
    same None = refl
    same (Some x) = refl

all-counting : (changes : List CountingChange) → map counting_of changes ≡ map change_of_effect (map effect_in changes)
all-counting [] = refl
all-counting (c ∷ changes) = (λ j. counting-effect c j ∷ all-counting changes j)

module _ (t : Task) (atoms : List Atom) (number : ℕ) (i : Instance) (at : slice_get (kept_instances t) number ≡ Some i) where
  abbrev literals_by : Schema → List NumberedLiteral
  literals_by s = numbered_literals t atoms s.precondition i.objects

  pub literals-of : (c : Condition) → IsPrecondition t atoms i c → literals_in c ≡ literals_of_number t atoms number
  literals-of c is =
      let s = schema-of t i (kept-is_instance t number i at) in
      (is s.0 s.1).literals ∙ sym (ap (λ o. option_map_or (literals_of_instance t atoms) o []) at ∙ ap (λ o. option_map_or literals_by o []) s.1)

  pub counting-of : (changes : Vec CountingChange) → AreChangesOf t atoms i changes → map counting_of changes.items ≡ counting_of_number t atoms number
  counting-of changes are =
      all-counting changes.items ∙ ap (map change_of_effect) are.effects ∙ changes-of_effects t atoms i
      ∙ sym (ap (λ o. option_map_or (counting_of_instance t atoms) o []) at)

-- ---- what is in a ground task at the number of an instance

module _ (g : Ground) (number : ℕ) (i : Instance) (at : slice_get (kept_instances (task_in g)) number ≡ Some i) where
  kept-at : slice_get (instances_in g.numbering) number ≡ Some i
  kept-at = ap (λ l. slice_get l number) g.numbering.kept ∙ at

  pub condition-at : (c : Condition) → c ≡ get_or g.conditions.items number c → IsPrecondition (task_in g) (atoms_in g) i c
  condition-at c is =
      let within = slice_get_within (instances_in g.numbering) number i kept-at in
      g.preconditions.each number i c kept-at (got g.conditions.items number c (omega (arith, within, g.preconditions.as_long)) is)

  pub changes-at : (changes : Vec CountingChange) → changes ≡ get_or g.changes.items number changes → AreChangesOf (task_in g) (atoms_in g) i changes
  changes-at changes is =
      let within = slice_get_within (instances_in g.numbering) number i kept-at in
      g.changes_made.each number i changes kept-at (got g.changes.items number changes (omega (arith, within, g.changes_made.as_long)) is)

-- ---- lists that are made item by item

pub costs-more : {X : Type 0} (f : X → ℕ) (xs : List X) (k : ℕ) (x : X) → slice_get xs k ≡ Some x → map f (take k xs) ++ f x ∷ [] ≡ map f (take (k + 1) xs)
costs-more f xs k x at =
    sym (ap (map f) (take_more xs k x (slice_get_within xs k x at) ∙ ap (λ y. take k xs ++ y ∷ []) (get_or_from_slice_get xs k x x at)) ∙ map_push f (take k xs) x)

-- one more that is compiled
pub compiled-more : (t : Task) (atoms : List Atom) (before after : List CountingChange) (last : CountingChange) → after ≡ before ++ last ∷ []
    → AreCompiled t atoms before → IsCompiled t atoms last.condition → AreCompiled t atoms after
compiled-more t atoms before after last is all here k c at =
    elim (got-push before last c k (ap (λ (l : List CountingChange). slice_get l k) (sym is) ∙ at)) [
      | inl earlier ↦ all k c earlier
      | inr there ↦ subst (λ (d : CountingChange). IsCompiled t atoms d.condition) there.1 here
    ]
