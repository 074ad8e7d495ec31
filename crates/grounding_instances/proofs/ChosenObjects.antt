-- Partially bound instances: what the objects so far make statically false, and one object after another.
use Rattle.std.proofs.Common.{◌≡◌, ◌∙◌, ℕ, zero, suc, ◌+◌, ◌≤◌, Bool, true, false, List, [], ◌∷◌, ◌++◌, length, map, drop, None, Some, refl, sym, ap, subst, arith, append_assoc, append-nil}
use Rattle.std.specs.Prelude.{IsTrue, slice_get, filter, cond}
use Rattle.std.specs.Cmp.{first_so, second_so}
use Rattle.std.specs.Cmp.Lexicographic.{pointwise, as_long}
use Rattle.std.specs.List.{list_all, list_any, flat_map}
use Rattle.std.specs.Option.{option_map, option_map_or}
use Rattle.std.proofs.lemmas.List.{length-append}
use Rattle.std.proofs.lemmas.List.Elements.{filter-append}
use Rattle.std.proofs.lemmas.Option.{slice_get_past}
use Rattle.task.specs.TaskParts.{shape_of_schema}
use Rattle.task.proofs.Shapes.{Shape, found as schema_found}
use Rattle.formulas.specs.State.{FitsFormulas}
use Rattle.formulas.proofs.ObjectWalk.{all_of}
use Rattle.formulas.proofs.Quantifiers.{pointwise_push}
use Rattle.model.specs.Task as task
use Rattle.model.specs.Task.{Task, Union, Instance, Schema}
use Rattle.model.specs.Meaning.{is_of, objects_of, fits, is_instance}
use Rattle.model.specs.WellTyped.{is_task, is_schema, is_formula}
use Rattle.model.specs.Instances.{instances_of_schema}
use Rattle.model.specs.StaticallyFalse.{is_statically_false, is_kept}
use Rattle.model.proofs.Tests.{passes_got}
use Rattle.model.proofs.EnumerationLemmas.{closed_within, begun, begun-one, begun-next, begun-pruned, flat_map-here, found-more, instances_left, instances-here, instances-end}
use Rattle.grounding_instances.specs.declared.fault.GroundLimit.TheVariants.{Instances, Atoms}
use Rattle.faults.specs.declared.refused.Refused.TheVariants.{At, NoMemory}
use Rattle.grounding_instances.specs.Literals.{decided_literals}
use Rattle.grounding_instances.specs.Parameters.{Choice, choices_from, ranges_of}
use Rattle.grounding_instances.specs.Joins.{AreCandidates}
use Rattle.grounding_instances.specs.Kept.{IsBegun, GroundFault, ReportsInstances, instances_of_number}
use Rattle.grounding_instances.proofs.DecidedLiterals.{literals-close, literals-typed}

-- ---- lists

first-same : {X : Type 0} (x y : X) (xs ys : List X) → x ∷ xs ≡ y ∷ ys → (x ≡ y) × (xs ≡ ys)
first-same x y xs ys same = (cc, cc)

-- one more parameter
pub choices-push : (t : Task) (precondition : task.Formula) (count : ℕ) (unions : List Union) (types : Union)
    → choices_from t precondition count (unions ++ types ∷ [])
    ≡ choices_from t precondition count unions ++ record { objects = objects_of t types; literals = decided_literals (count + length unions + 1) precondition } ∷ []
choices-push t precondition count [] types =
    let same : count + 1 ≡ count + 0 + 1 = omega arith in
    ap (λ n. record { objects = objects_of t types; literals = decided_literals n precondition } ∷ []) same
choices-push t precondition count (first ∷ unions) types =
    let same : count + 1 + length unions + 1 ≡ count + suc (length unions) + 1 = omega arith in
    ap (λ l. record { objects = objects_of t first; literals = decided_literals (count + 1) precondition } ∷ l)
    (choices-push t precondition (count + 1) unions types
    ∙ ap (λ n. choices_from t precondition (count + 1) unions ++ record { objects = objects_of t types; literals = decided_literals n precondition } ∷ []) same)

-- ---- the objects so far

module _ (t : Task) (schema : ℕ) (objects : List ℕ) (literals : List task.Formula) (left : List Choice) (so_far : IsBegun t schema objects literals left) where
  counts : length so_far.scope ≡ length objects
  counts = as_long (is_of t) so_far.scope objects so_far.fits

  -- if they make a literal statically false that they decide, no instance that begins with them is kept
  pub pruned : list_any (λ f. is_statically_false t f objects) literals ≡ true → filter (is_kept t) (begun schema objects (ranges_of left)) ≡ []
  pruned some =
      begun-pruned t schema objects (ranges_of left)
      (ap (λ o. option_map_or (λ (s : Schema). closed_within t s.precondition objects) o false) so_far.at
      ∙ literals-close t so_far.found.precondition objects (ap (list_any (λ f. is_statically_false t f objects)) (sym so_far.decided) ∙ some))

  typed_schema : IsTrue (is_task t) → is_schema t so_far.found ≡ true
  typed_schema well =
      passes_got (is_schema t) t.schemas schema so_far.found so_far.at (second_so _ _ (first_so _ _ (first_so _ _ well)))

  -- the literals are well-typed for them
  pub literals-fit : IsTrue (is_task t) → FitsFormulas t literals objects
  literals-fit well = record {
    scope = so_far.scope;
    typed = ap (list_all (is_formula t so_far.scope)) (so_far.decided ∙ ap (λ n. decided_literals n so_far.found.precondition) (sym counts))
        ∙ literals-typed t so_far.scope so_far.rest so_far.found.precondition
        (subst (λ unions. is_formula t unions so_far.found.precondition ≡ true) so_far.split (second_so _ _ (first_so _ _ (typed_schema well))));
    fits = so_far.fits;
  }

  -- if no object is left to choose, they make an instance
  pub whole-instance : left ≡ [] → IsTrue (is_instance t (record { schema = schema; objects = objects }))
  whole-instance none =
      elim so_far.rest as (λ rest. so_far.rest ≡ rest → left ≡ choices_from t so_far.found.precondition (length objects) rest → is_instance t (record { schema = schema; objects = objects }) ≡ true) [
        | [] ↦ λ is _.
            ap (λ o. option_map_or (λ (s : Schema). fits t s objects) o false) so_far.at
            ∙ ap (λ unions. pointwise (is_of t) unions objects) (so_far.split ∙ ap (λ l. so_far.scope ++ l) is ∙ append-nil so_far.scope)
            ∙ so_far.fits
        | types ∷ unions ↦ λ _ some. absurd (no_cons (sym none ∙ some))
      ] refl so_far.choices
    where
      no_cons : {c : Choice} {cs : List Choice} → [] ≡ c ∷ cs → ⊥
      no_cons same = absurd (cc)

  -- otherwise one more object is chosen
  pub one-chosen : (choice : Choice) (later : List Choice) (i first : ℕ) → left ≡ choice ∷ later → slice_get choice.objects i ≡ Some first
      → IsBegun t schema (objects ++ first ∷ []) choice.literals later
  one-chosen choice later i first is got =
      elim so_far.rest as (λ rest. so_far.rest ≡ rest → choice ∷ later ≡ choices_from t so_far.found.precondition (length objects) rest → IsBegun t schema (objects ++ first ∷ []) choice.literals later) [
        | [] ↦ λ _ none. absurd (cc)
        | types ∷ unions ↦ λ at some.
            let same = first-same choice _ later (choices_from t so_far.found.precondition (length objects + 1) unions) some in
            let long : length objects + 1 ≡ length (objects ++ first ∷ []) = omega (arith, length-append objects (first ∷ [])) in
            record {
              found = so_far.found;
              at = so_far.at;
              scope = so_far.scope ++ types ∷ [];
              rest = unions;
              split = so_far.split ∙ ap (λ l. so_far.scope ++ l) at ∙ sym (append_assoc so_far.scope (types ∷ []) unions);
              fits = pointwise_push (is_of t) so_far.scope objects types first so_far.fits
                  (passes_got (is_of t types) (objects_of t types) i first (ap (λ (c : Choice). slice_get c.objects i) (sym same.0) ∙ got) (all_of t types (objects_of t types) refl));
              decided = ap (λ (c : Choice). c.literals) same.0 ∙ ap (λ n. decided_literals n so_far.found.precondition) long;
              choices = same.1 ∙ ap (λ n. choices_from t so_far.found.precondition n unions) long;
            }
      ] refl (sym is ∙ so_far.choices)

-- if no object is left to choose, there is one instance
pub one-left : (schema : ℕ) (objects : List ℕ) (left : List Choice) → left ≡ [] → record { schema = schema; objects = objects } ∷ [] ≡ begun schema objects (ranges_of left)
one-left schema objects left none = sym (ap (λ l. begun schema objects (ranges_of l)) none ∙ begun-one schema objects)

-- ---- one object after another

-- adding instances never makes them fewer
pub reports-more : (max : ℕ) (e : GroundFault) (xs ys : List Instance) → length xs ≤ length ys → ReportsInstances max xs e → ReportsInstances max ys e
reports-more max (At Instances) xs ys fewer reported = omega (arith, fewer, reported)
reports-more max (At Atoms) xs ys fewer reported = reported
reports-more max NoMemory xs ys fewer reported = tt

module _ (keep : Instance → Bool) (now here later left whole : List Instance) (split : left ≡ here ++ later) (all : now ++ filter keep left ≡ whole) where
  pub part-more : (next : List Instance) → next ≡ now ++ filter keep here → next ++ filter keep later ≡ whole
  part-more next is = ap (λ l. l ++ filter keep later) is ∙ found-more keep now left here later whole split all

  pub part-reported : (max : ℕ) (e : GroundFault) → ReportsInstances max (now ++ filter keep here) e → ReportsInstances max whole e
  part-reported max e reported =
      reports-more max e (now ++ filter keep here) whole
      (omega (arith, length-append (now ++ filter keep here) (filter keep later), ap length (found-more keep now left here later whole split all))) reported

-- the instances whose next object is one of these
abbrev pub begun_from : ℕ → List ℕ → List (List ℕ) → List ℕ → List Instance
begun_from schema objects ranges firsts = flat_map (λ first. begun schema (objects ++ first ∷ []) ranges) firsts

pub begun-here : (schema : ℕ) (objects : List ℕ) (ranges : List (List ℕ)) (firsts : List ℕ) (i first : ℕ) → slice_get firsts i ≡ Some first
    → begun_from schema objects ranges (drop i firsts) ≡ begun schema (objects ++ first ∷ []) ranges ++ begun_from schema objects ranges (drop (i + 1) firsts)
begun-here schema objects ranges firsts i first got = flat_map-here (λ first. begun schema (objects ++ first ∷ []) ranges) firsts i first got

-- ---- schema by schema

pub left-here : (t : Task) (number : ℕ) → instances_left t number ≡ instances_of_number t number ++ instances_left t (number + 1)
left-here t number =
    elim (slice_get t.schemas number) as (λ o. slice_get t.schemas number ≡ o → instances_left t number ≡ option_map_or (instances_of_schema t number) o [] ++ instances_left t (number + 1)) [
      | None ↦ λ none. instances-end t number none ∙ sym (instances-end t (number + 1) (later_none t.schemas number none))
      | Some s ↦ λ at. instances-here t number s at
    ] refl
  where
    later_none : (xs : List Schema) (n : ℕ) → slice_get xs n ≡ None → slice_get xs (n + 1) ≡ None
    later_none xs n none = slice_get_past xs (n + 1) (omega (arith, past xs n none))
      where
        past : (ys : List Schema) (k : ℕ) → slice_get ys k ≡ None → length ys ≤ k
        past [] k is = omega arith
        past (y ∷ ys) zero is = absurd (cc)
        past (y ∷ ys) (suc k) is = omega (arith, past ys k is)

-- ---- the first choice, and all instances of a schema

-- the instances that begin with one of its objects
pub begun-split : (schema : ℕ) (objects firsts : List ℕ) (left : List Choice) (choice : Choice) (later : List Choice) → left ≡ choice ∷ later → firsts ≡ choice.objects
    → begun_from schema objects (ranges_of later) firsts ≡ begun schema objects (ranges_of left)
begun-split schema objects firsts left choice later is same =
    ap (begun_from schema objects (ranges_of later)) same
    ∙ sym (begun-next schema objects choice.objects (ranges_of later))
    ∙ sym (ap (λ l. begun schema objects (ranges_of l)) is)

-- Candidates leave out objects whose instances are not kept.
thinned : (keep : Instance → Bool) (give : ℕ → List Instance) (may : ℕ → Bool) (xs : List ℕ) → ((i one : ℕ) → slice_get xs i ≡ Some one → may one ≡ false → filter keep (give one) ≡ [])
    → filter keep (flat_map give (filter may xs)) ≡ filter keep (flat_map give xs)
thinned keep give may [] none = refl
thinned keep give may (x ∷ xs) none =
    let rest = filter may xs in
    let later = thinned keep give may xs (λ i one at. none (suc i) one at) in
    elim (may x) as (λ b. may x ≡ b → filter keep (flat_map give (cond b (x ∷ rest) rest)) ≡ filter keep (give x ++ flat_map give xs)) [
      | true ↦ λ _.
          filter-append keep (give x) (flat_map give rest) ∙ ap (λ l. filter keep (give x) ++ l) later ∙ sym (filter-append keep (give x) (flat_map give xs))
      | false ↦ λ no.
          later ∙ sym (filter-append keep (give x) (flat_map give xs) ∙ ap (λ l. l ++ filter keep (flat_map give xs)) (none zero x refl no))
    ] refl

pub begun-candidates : (t : Task) (schema : ℕ) (objects : List ℕ) (literals : List task.Formula) (left : List Choice) → IsBegun t schema objects literals left
    → (choice : Choice) (later : List Choice) → left ≡ choice ∷ later → (candidates : List ℕ) → AreCandidates t objects choice candidates
    → filter (is_kept t) (begun_from schema objects (ranges_of later) candidates) ≡ filter (is_kept t) (begun schema objects (ranges_of left))
begun-candidates t schema objects literals left so_far choice later is candidates those =
    ap (λ l. filter (is_kept t) (begun_from schema objects (ranges_of later) l)) those.are
    ∙ thinned (is_kept t) (λ first. begun schema (objects ++ first ∷ []) (ranges_of later)) those.may choice.objects
    (λ i one at no. pruned t schema (objects ++ one ∷ []) choice.literals later (one-chosen t schema objects literals left so_far choice later i one is at) (those.closes one no))
    ∙ ap (filter (is_kept t)) (begun-split schema objects choice.objects left choice later is refl)

filtered-place : (may : ℕ → Bool) (xs : List ℕ) (i x : ℕ) → slice_get (filter may xs) i ≡ Some x → (k : ℕ) × (slice_get xs k ≡ Some x)
filtered-place may [] i x at = absurd (cc)
filtered-place may (first ∷ xs) i x at =
    let rest = filter may xs in
    elim (may first) as (λ b. slice_get (cond b (first ∷ rest) rest) i ≡ Some x → (k : ℕ) × (slice_get (first ∷ xs) k ≡ Some x)) [
      | true ↦ elim i as (λ n. slice_get (first ∷ rest) n ≡ Some x → (k : ℕ) × (slice_get (first ∷ xs) k ≡ Some x)) [
        | zero ↦ λ here. (0, here)
        | suc n ↦ λ later. let place = filtered-place may xs n x later in (suc place.0, place.1)
      ]
      | false ↦ λ later. let place = filtered-place may xs i x later in (suc place.0, place.1)
    ] at

-- a candidate is one of the choice's objects
pub candidate-place : (t : Task) (objects : List ℕ) (choice : Choice) (candidates : List ℕ) → AreCandidates t objects choice candidates → (i x : ℕ) → slice_get candidates i ≡ Some x
    → (k : ℕ) × (slice_get choice.objects k ≡ Some x)
candidate-place t objects choice candidates those i x at = filtered-place those.may choice.objects i x (ap (λ l. slice_get l i) (sym those.are) ∙ at)

ranges-from : (t : Task) (precondition : task.Formula) (count : ℕ) (unions : List Union) → ranges_of (choices_from t precondition count unions) ≡ map (objects_of t) unions
ranges-from t precondition count [] = refl
ranges-from t precondition count (types ∷ unions) = ap (λ l. objects_of t types ∷ l) (ranges-from t precondition (count + 1) unions)

module _ (t : Task) (number : ℕ) (shape : Shape) (is : Some shape ≡ option_map shape_of_schema (slice_get t.schemas number)) (choices : List Choice) (from : choices ≡ choices_from t shape.1 0 shape.0) where
  abbrev it : (s : Schema) × (slice_get t.schemas number ≡ Some s) × (shape ≡ shape_of_schema s)
  it = schema_found (slice_get t.schemas number) shape is

  -- with no object chosen yet
  pub begun-all : (objects : List ℕ) → objects ≡ [] → begun number objects (ranges_of choices) ≡ instances_of_number t number
  begun-all objects none =
      (λ i. begun number (none i) (ranges_of (from i)))
      ∙ ap (begun number []) (ranges-from t shape.1 0 shape.0)
      ∙ ap (λ (s : Shape). begun number [] (map (objects_of t) s.0)) it.2
      ∙ sym (ap (λ o. option_map_or (instances_of_schema t number) o []) it.1)

  pub begun-start : (objects : List ℕ) (literals : List task.Formula) → objects ≡ [] → literals ≡ decided_literals 0 shape.1 → IsBegun t number objects literals choices
  begun-start objects literals none decided =
      let long : 0 ≡ length objects = sym (ap length none) in
      record {
        found = it.0;
        at = it.1;
        scope = [];
        rest = it.0.parameters;
        split = refl;
        fits = ap (pointwise (is_of t) []) none;
        decided = decided ∙ (λ i. decided_literals (long i) (ap (λ (s : Shape). s.1) it.2 i));
        choices = from ∙ (λ i. choices_from t (ap (λ (s : Shape). s.1) it.2 i) (long i) (ap (λ (s : Shape). s.0) it.2 i));
      }
