use Rattle.std.proofs.Common.{rules, arith, ℕ, Bool, refl, ◌∙◌, ap, sym, subst, map, ◌++◌, ◌∷◌, []}
use Rattle.task.specs.declared.schemas.Formula.{the_lemmas}
use Rattle.task.specs.Task.{task_of}
use Rattle.formulas.specs.State.{FitsFormula}
use Rattle.formulas.specs.Objects.{objects_left}
use Rattle.task.specs.TaskParts.{object_of, formula_of, union_of}
use Rattle.model.specs.Task.{Formula}
use Rattle.model.specs.StaticallyFalse.{is_statically_false}
use Rattle.model.specs.WellTyped.{is_formula}
use Rattle.model.proofs.Tests.{passes_at, passes_map}
use Rattle.formulas.proofs.FluentTests.{any_here, any_nowhere}
use Rattle.formulas.proofs.Trees.{list_any_map, typed_by_all}
use Rattle.std.specs.List.{list_any}
use Rattle.formulas.proofs.ObjectWalk.{rest_among, next_of, any_next, passes_here}
use Rattle.formulas.proofs.Quantifiers.{one_more, one_less, extended_fits}
use Rattle.grounding_instances.specs.Initial.{facts_of}
use Rattle.grounding_instances.proofs.Closings.{atom-fluent, atom-static, equal-closed, closed_by_parts, closed_by_objects}
use Rattle.grounding_instances.proofs.statics.Statics.+statically_false.Goals as goal

-- ---- the form of the formula

pub is_statically_false-some_is_statically_false-requires : goal.is_statically_false-some_is_statically_false-requires
is_statically_false-some_is_statically_false-requires t c = (
  search (rules, the_lemmas),
  record {
    scope = c.requires.scope;
    typed = typed_by_all c.args.formula.now c.in-And.parts c.deref-in-And.result.now c.in-And.is c.deref-in-And.ensures.value (task_of c.args.self.now.task.now) c.requires.scope c.requires.typed;
    fits = c.requires.fits;
  },
)

pub is_statically_false-returns-in-And : goal.is_statically_false-returns-in-And
is_statically_false-returns-in-And t c =
    c.some_is_statically_false.ensures
    ∙ sym (closed_by_parts (task_of c.args.self.now.task.now) (map object_of c.args.binding.now.items) c.args.formula.now c.in-And.parts c.deref-in-And.result.now c.in-And.is c.deref-in-And.ensures.value)

-- ---- its parts

pub some_is_statically_false-is_statically_false-requires : goal.some_is_statically_false-is_statically_false-requires
some_is_statically_false-is_statically_false-requires t c =
    let typed = is_formula (task_of c.args.self.now.task.now) c.requires.scope in (
      search (rules, the_lemmas),
      record {
        scope = c.requires.scope;
        typed = passes_at (λ part. typed (formula_of part)) c.args.parts.now c.loop-part.part-index c.part-item.result c.loop-part-test.true c.part-item.is
            (sym (passes_map typed formula_of c.args.parts.now) ∙ c.requires.typed);
        fits = c.requires.fits;
      },
    )

pub some_is_statically_false-returns-then-is_statically_false : goal.some_is_statically_false-returns-then-is_statically_false
some_is_statically_false-returns-then-is_statically_false t c =
    let test : Formula → Bool = λ part. is_statically_false (task_of c.args.self.now.task.now) part (map object_of c.args.binding.now.items) in
    any_here (λ part. test (formula_of part)) c.args.parts.now c.loop-part.part-index c.part-item.result c.loop-part-test.true c.part-item.is
    (sym c.is_statically_false.ensures ∙ c.if-is_statically_false.true)
    ∙ sym (list_any_map test formula_of c.args.parts.now)

pub some_is_statically_false-returns : goal.some_is_statically_false-returns
some_is_statically_false-returns t c =
    let test : Formula → Bool = λ part. is_statically_false (task_of c.args.self.now.task.now) part (map object_of c.args.binding.now.items) in
    any_nowhere (λ part. test (formula_of part)) c.args.parts.now c.loop-part.part-index c.loop-part-test.false c.loop-part.invariant
    ∙ sym (list_any_map test formula_of c.args.parts.now)

-- ---- the objects of a `forall`

pub is_statically_false_for_some-loop-object-init : goal.is_statically_false_for_some-loop-object-init
is_statically_false_for_some-loop-object-init t c = (c.copied-tried.ensures, λ _ so. so, refl)

pub is_statically_false_for_some-is_statically_false-requires : goal.is_statically_false_for_some-is_statically_false-requires
is_statically_false_for_some-is_statically_false-requires t c =
    let task = task_of c.args.self.now.task.now in
    let types = union_of c.args.types.now in
    let part = formula_of c.args.part.now in
    let at = c.loop-object in
    let one = c.in-Some.object in
    let objects = one_more at.tried.items c.push.new.self.items one c.args.binding.now.items at.invariant.0 c.push.ensures.items in
    let all = ap objects_left c.into_iter-object-iterator.ensures.into_iter_gives ∙ c.objects_of-object-items.ensures in (
      search (rules, the_lemmas),
      subst (FitsFormula task part) (sym objects)
          (extended_fits task types part c.args.binding.now.items c.requires one.0 (next_of _ _ one.0 c.in-Some.ensures.steps task types _ all at.invariant.1)),
    )

pub is_statically_false_for_some-returns-then-is_statically_false : goal.is_statically_false_for_some-returns-then-is_statically_false
is_statically_false_for_some-returns-then-is_statically_false t c =
    let task = task_of c.args.self.now.task.now in
    let types = union_of c.args.types.now in
    let part = formula_of c.args.part.now in
    let binding = c.args.binding.now.items in
    let at = c.loop-object in
    let one = c.in-Some.object in
    let objects = one_more at.tried.items c.push.new.self.items one binding at.invariant.0 c.push.ensures.items in
    let test : ℕ → Bool = λ n. is_statically_false task part (map object_of binding ++ n ∷ []) in
    let all = ap objects_left c.into_iter-object-iterator.ensures.into_iter_gives ∙ c.objects_of-object-items.ensures in
    passes_here _ _ one.0 c.in-Some.ensures.steps test _ (ap (is_statically_false task part) (sym objects) ∙ sym c.is_statically_false.ensures ∙ c.if-is_statically_false.true) at.invariant.2
    ∙ ap (list_any test) all ∙ sym (closed_by_objects task (map object_of binding) types part)

pub is_statically_false_for_some-loop-object-preserved : goal.is_statically_false_for_some-loop-object-preserved
is_statically_false_for_some-loop-object-preserved t c =
    let task = task_of c.args.self.now.task.now in
    let part = formula_of c.args.part.now in
    let binding = c.args.binding.now.items in
    let at = c.loop-object in
    let one = c.in-Some.object in
    let objects = one_more at.tried.items c.push.new.self.items one binding at.invariant.0 c.push.ensures.items in
    let test : ℕ → Bool = λ n. is_statically_false task part (map object_of binding ++ n ∷ []) in (
      one_less at.tried.items c.push.new.self.items c.pop.new.self.items one binding at.invariant.0 c.push.ensures.items _ (omega (arith, c.push.ensures.len)) c.pop.ensures.rest,
      rest_among _ _ one.0 c.in-Some.ensures.steps _ at.invariant.1,
      any_next _ _ one.0 c.in-Some.ensures.steps test _ (ap (is_statically_false task part) (sym objects) ∙ sym c.is_statically_false.ensures ∙ c.if-is_statically_false.false) at.invariant.2,
    )

pub is_statically_false_for_some-returns : goal.is_statically_false_for_some-returns
is_statically_false_for_some-returns t c =
    let task = task_of c.args.self.now.task.now in
    let types = union_of c.args.types.now in
    let part = formula_of c.args.part.now in
    let binding = map object_of c.args.binding.now.items in
    let test : ℕ → Bool = λ n. is_statically_false task part (binding ++ n ∷ []) in
    let all = ap objects_left c.into_iter-object-iterator.ensures.into_iter_gives ∙ c.objects_of-object-items.ensures in
    sym (ap (list_any test) c.in-None.ensures.steps.0) ∙ c.loop-object.invariant.2 ∙ ap (list_any test) all ∙ sym (closed_by_objects task binding types part)

-- ---- atoms and equalities

pub is_statically_false-returns-then-is_fluent : goal.is_statically_false-returns-then-is_fluent
is_statically_false-returns-then-is_fluent t c =
    atom-fluent (task_of c.args.self.now.task.now) (facts_of c.args.self.now.initial) c.args.self.now.is_initial (map object_of c.args.binding.now.items) c.args.formula.now c.in-Atom.atom c.in-Atom.is
    (sym c.is_fluent.ensures ∙ c.if-is_fluent.true)

pub is_statically_false-returns-else-is_fluent : goal.is_statically_false-returns-else-is_fluent
is_statically_false-returns-else-is_fluent t c =
    atom-static (task_of c.args.self.now.task.now) (facts_of c.args.self.now.initial) c.args.self.now.is_initial (map object_of c.args.binding.now.items) c.args.formula.now c.in-Atom.atom c.in-Atom.is
    c.holds.result (sym c.is_fluent.ensures ∙ c.if-is_fluent.false) c.holds.ensures

pub is_statically_false-returns-in-Equal : goal.is_statically_false-returns-in-Equal
is_statically_false-returns-in-Equal t c =
    equal-closed (task_of c.args.self.now.task.now) (facts_of c.args.self.now.initial) c.args.self.now.is_initial (map object_of c.args.binding.now.items) c.args.formula.now _ _ c.in-Equal.is
    c.holds-in-Equal.result c.holds-in-Equal.ensures
