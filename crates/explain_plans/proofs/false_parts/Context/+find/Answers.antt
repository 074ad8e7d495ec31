use Rattle.std.proofs.Common.{rules, ℕ, List, refl, ◌∙◌, ap, sym, subst, drop, map, ◌++◌, ◌∷◌, []}
use Rattle.std.specs.Prelude.{OnOk}
use Rattle.std.specs.List.{flat_map}
use Rattle.task.specs.declared.schemas.Formula.{the_lemmas}
use Rattle.task.specs.Task.{task_of}
use Rattle.task.specs.TaskParts.{object_of, formula_of, union_of}
use Rattle.formulas.specs.State.{state_of, FitsFormula}
use Rattle.formulas.specs.Objects.{objects_left}
use Rattle.formulas.proofs.Trees.{typed_by_all}
use Rattle.formulas.proofs.ObjectWalk.{rest_among, next_of}
use Rattle.formulas.proofs.Quantifiers.{one_more, extended_fits}
use Rattle.model.specs.Task.{forall}
use Rattle.model.specs.WellTyped.{is_formula}
use Rattle.model.proofs.Tests.{passes_at, passes_map}
use Rattle.explain_plans.specs.FalseParts.{Part, false_parts}
use Rattle.task.specs.Names.{names_in}
use Rattle.explain_plans.specs.Parts.{Finds}
use Rattle.explain_plans.proofs.FoundLemmas.{finds_when_full, finds_next, finds_end, finds_next_part, finds_last_part, parts_by_all}
use Rattle.explain_plans.proofs.false_parts.Context.+find.Goals as goal

-- ---- formulas

pub find-returns-then-found : goal.find-returns-then-found
find-returns-then-found t c =
    let task = task_of c.args.self.task.now in
    let state = state_of c.args.self.state.now in
    finds_when_full task state (false_parts task (formula_of c.args.formula.now) (map object_of c.args.self.objects.now.items) (names_in c.args.self.names.now) state) c.args.found.now c.if-found.true

pub find-find_in_each-requires : goal.find-find_in_each-requires
find-find_in_each-requires t c = (
  search (rules, the_lemmas),
  record {
    scope = c.requires.scope;
    typed = typed_by_all c.args.formula.now c.in-And.parts c.deref.result.now c.in-And.is c.deref.ensures.value (task_of c.args.self.task.now) c.requires.scope c.requires.typed;
    fits = c.requires.fits;
  },
)

pub find-returns-in-And : goal.find-returns-in-And
find-returns-in-And t c =
    let task = task_of c.args.self.task.now in
    let state = state_of c.args.self.state.now in
    let objects = map object_of c.args.self.objects.now.items in
    subst (λ l. OnOk c.find_in_each.result (Finds task state l c.args.found.now c.find_in_each.new.found))
    (sym (parts_by_all c.args.formula.now c.in-And.parts c.deref.result.now c.in-And.is c.deref.ensures.value task objects (names_in c.args.self.names.now) state))
    c.find_in_each.ensures

pub find-returns-in-Forall : goal.find-returns-in-Forall
find-returns-in-Forall t c =
    let task = task_of c.args.self.task.now in
    let state = state_of c.args.self.state.now in
    let objects = map object_of c.args.self.objects.now.items in
    let names = names_in c.args.self.names.now in
    let types = union_of c.in-Forall.types in
    subst (λ l. OnOk c.find_for_each.result (Finds task state l c.args.found.now c.find_for_each.new.found))
    (ap (λ g. false_parts task (forall types (formula_of g)) objects names state) c.deref-in-Forall.ensures
    ∙ sym (ap (λ g. false_parts task (formula_of g) objects names state) c.in-Forall.is))
    c.find_for_each.ensures

-- ---- their lists

pub find_in_each-find-requires : goal.find_in_each-find-requires
find_in_each-find-requires t c =
    let typed = is_formula (task_of c.args.self.task.now) c.requires.scope in (
      search (rules, the_lemmas),
      record {
        scope = c.requires.scope;
        typed = passes_at (λ part. typed (formula_of part)) c.args.parts.now c.loop-part.part-index c.part-item.result c.loop-part-test.true c.part-item.is
            (sym (passes_map typed formula_of c.args.parts.now) ∙ c.requires.typed);
        fits = c.requires.fits;
      },
    )

pub find_in_each-loop-part-init : goal.find_in_each-loop-part-init
find_in_each-loop-part-init t c = λ _ so. so

pub find_in_each-loop-part-preserved : goal.find_in_each-loop-part-preserved
find_in_each-loop-part-preserved t c =
    let task = task_of c.args.self.task.now in
    let state = state_of c.args.self.state.now in
    λ last later. c.loop-part.invariant last
    (finds_next_part task state (map object_of c.args.self.objects.now.items) (names_in c.loop-part.names.now) c.args.parts.now c.loop-part.part-index c.part-item.result
    c.loop-part-test.true c.part-item.is (names_in c.names_after-names.result.now) c.names_after-names.ensures c.loop-part.found c.find.new.found last c.in_ok-find.ensures later)

pub find_in_each-returns : goal.find_in_each-returns
find_in_each-returns t c =
    let task = task_of c.args.self.task.now in
    let state = state_of c.args.self.state.now in
    c.loop-part.invariant c.loop-part.found
    (finds_last_part task state (map object_of c.args.self.objects.now.items) (names_in c.loop-part.names.now) c.args.parts.now c.loop-part.part-index c.loop-part-test.false c.loop-part.found)

-- ---- their objects

pub find_for_each-loop-object-init : goal.find_for_each-loop-object-init
find_for_each-loop-object-init t c = (λ _ so. so, λ _ so. so)

pub find_for_each-find-requires : goal.find_for_each-find-requires
find_for_each-find-requires t c =
    let task = task_of c.args.self.task.now in
    let types = union_of c.args.types.now in
    let part = formula_of c.args.part.now in
    let objects = c.args.self.objects.now.items in
    let one = c.in-Some.object in
    let all = ap objects_left c.into_iter-object-iterator.ensures.into_iter_gives ∙ c.objects_of-object-items.ensures in (
      search (rules, the_lemmas),
      subst (FitsFormula task part) (sym (one_more objects c.with_object-objects.result.items one objects refl c.with_object-objects.ensures))
          (extended_fits task types part objects c.requires one.0 (next_of _ _ one.0 c.in-Some.ensures.steps task types _ all c.loop-object.invariant.0)),
    )

pub find_for_each-loop-object-preserved : goal.find_for_each-loop-object-preserved
find_for_each-loop-object-preserved t c =
    let task = task_of c.args.self.task.now in
    let state = state_of c.args.self.state.now in
    let part = formula_of c.args.part.now in
    let objects = c.args.self.objects.now.items in
    let one = c.in-Some.object in
    let gives : ℕ → List Part = λ n. false_parts task part (map object_of objects ++ n ∷ []) (drop 1 (names_in c.args.self.names.now)) state in
    let here = subst (λ l. Finds task state (false_parts task part l (drop 1 (names_in c.args.self.names.now)) state) c.loop-object.found c.find.new.found)
    (one_more objects c.with_object-objects.result.items one objects refl c.with_object-objects.ensures)
    (subst (λ ns. Finds task state (false_parts task part (map object_of c.with_object-objects.result.items) ns state) c.loop-object.found c.find.new.found)
    c.without_first-names.ensures c.in_ok-find.ensures) in (
      rest_among _ _ one.0 c.in-Some.ensures.steps _ c.loop-object.invariant.0,
      λ last later. c.loop-object.invariant.1 last (finds_next task state gives _ _ one.0 c.in-Some.ensures.steps _ _ last here later),
    )

pub find_for_each-returns : goal.find_for_each-returns
find_for_each-returns t c =
    let task = task_of c.args.self.task.now in
    let state = state_of c.args.self.state.now in
    let part = formula_of c.args.part.now in
    let gives : ℕ → List Part = λ n. false_parts task part (map object_of c.args.self.objects.now.items ++ n ∷ []) (drop 1 (names_in c.args.self.names.now)) state in
    let all = ap objects_left c.into_iter-object-iterator.ensures.into_iter_gives ∙ c.objects_of-object-items.ensures in
    subst (λ l. Finds task state (flat_map gives l) c.args.found.now c.loop-object.found) all
    (c.loop-object.invariant.1 _ (finds_end task state gives _ c.in-None.ensures.steps.0 _))
