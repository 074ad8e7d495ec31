-- The code's lists of objects and of parameters, extended one at a time.
use Rattle.std.proofs.Common.{◌≡◌, ◌∙◌, ℕ, ◌+◌, ◌<◌, List, [], ◌∷◌, ◌++◌, length, map, take, get_or, Some, refl, sym, ap, arith, suc}
use Rattle.std.specs.Prelude.{slice_get}
use Rattle.std.specs.Option.{option_map}
use Rattle.std.proofs.lemmas.List.{map_push, take_more, length-append, length-map}
use Rattle.std.proofs.lemmas.Option.{slice_get-get_or, get_or_from_slice_get, slice_get-map}
use Rattle.task.specs.declared.atoms.ObjectId.{ObjectId}
use Rattle.task.specs.declared.schemas.TypeUnion.{TypeUnion}
use Rattle.task.specs.TaskParts.{object_of, union_of}
use Rattle.grounding_instances.specs.declared.parameters.Parameter.{Parameter}
use Rattle.grounding_instances.specs.Literals.{decided_literals}
use Rattle.grounding_instances.specs.Parameters.{choice_of, choices_from, lent_formula}
use Rattle.model.specs.Task as task
use Rattle.model.specs.Task.{Task, Union}
use Rattle.model.specs.Meaning.{objects_of}
use Rattle.grounding_instances.proofs.ChosenObjects.{choices-push}

-- ---- objects

pub there_is : (xs : List ObjectId) (k : ℕ) → k < length xs → (first : ObjectId) × (slice_get xs k ≡ Some first)
there_is xs k below = let d : ObjectId = record { 0 = 0 } in (get_or xs k d, slice_get-get_or xs k d below)

-- the objects after one more
pub chosen-more : (objects firsts chosen : List ObjectId) (k : ℕ) (d first : ObjectId) → slice_get firsts k ≡ Some first → chosen ≡ objects ++ get_or firsts k d ∷ []
    → map object_of chosen ≡ map object_of objects ++ first.0 ∷ []
chosen-more objects firsts chosen k d first at is =
    ap (map object_of) (is ∙ ap (λ (o : ObjectId). objects ++ o ∷ []) (get_or_from_slice_get firsts k first d at)) ∙ map_push object_of objects first

-- its number
pub number-at : (firsts : List ObjectId) (k : ℕ) (first : ObjectId) → slice_get firsts k ≡ Some first → slice_get (map object_of firsts) k ≡ Some first.0
number-at firsts k first at = slice_get-map object_of firsts k ∙ ap (λ o. option_map object_of o) at

-- ---- parameters

choices-long : (t : Task) (precondition : task.Formula) (count : ℕ) (unions : List Union) → length (choices_from t precondition count unions) ≡ length unions
choices-long t precondition count [] = refl
choices-long t precondition count (types ∷ unions) = ap suc (choices-long t precondition (count + 1) unions)

-- one more parameter
pub parameters-more : (t : Task) (precondition : task.Formula) (items : List TypeUnion) (i count : ℕ) (types : TypeUnion) (before after : List Parameter) (p : Parameter)
    → i < length items → types ≡ get_or items i types
    → map choice_of before ≡ choices_from t precondition 0 (map union_of (take i items)) → length before ≡ i → count ≡ i
    → map object_of p.objects.items ≡ objects_of t (union_of types) → map lent_formula p.literals.items ≡ decided_literals (count + 1) precondition
    → after ≡ before ++ p ∷ []
    → (map choice_of after ≡ choices_from t precondition 0 (map union_of (take (i + 1) items))) × (length after ≡ i + 1)
parameters-more t precondition items i count types before after p below at so_far long is objects literals push =
    let scope = map union_of (take i items) in
    let first : length scope ≡ i = omega (arith, sym (choices-long t precondition 0 scope), ap length (sym so_far), length-map before choice_of, long) in
    let next : map union_of (take (i + 1) items) ≡ scope ++ union_of types ∷ [] =
    ap (map union_of) (take_more items i types below ∙ ap (λ u. take i items ++ u ∷ []) (sym at)) ∙ map_push union_of (take i items) types in
    let required : count + 1 ≡ 0 + length scope + 1 = omega (arith, first, is) in (
      ap (map choice_of) push ∙ map_push choice_of before p
          ∙ (λ j. so_far j ++ record { objects = objects j; literals = (literals ∙ ap (λ n. decided_literals n precondition) required) j } ∷ [])
          ∙ sym (choices-push t precondition 0 scope (union_of types))
          ∙ ap (choices_from t precondition 0) (sym next),
      omega (arith, ap length push, length-append before (p ∷ []), long),
    )

pub no-choices : (parameters : List Parameter) → length parameters ≡ 0 → map choice_of parameters ≡ []
no-choices [] none = refl
no-choices (p ∷ parameters) none = absurd (omega (arith, none))

-- the schema's parameters are within the limit
pub few-choices : (t : Task) (precondition : task.Formula) (unions : List TypeUnion) (parameters : List Parameter) → map choice_of parameters ≡ choices_from t precondition 0 (map union_of unions) → length parameters ≡ length unions
few-choices t precondition unions parameters is =
    omega (arith, length-map parameters choice_of, ap length is, choices-long t precondition 0 (map union_of unions), length-map unions union_of)
