use Rattle.std.proofs.Common.{rules, arith, ℕ, Bool, refl, ◌∙◌, ap, sym, subst, map, ◌++◌, ◌∷◌, []}
use Rattle.std.specs.List.{list_all, list_any}
use Rattle.task.specs.declared.schemas.Formula.{the_lemmas}
use Rattle.task.specs.Task.{task_of}
use Rattle.formulas.specs.State.{FitsFormula}
use Rattle.task.specs.TaskParts.{object_of, formula_of, union_of}
use Rattle.model.specs.Task.{Formula}
use Rattle.model.specs.Meaning as meaning
use Rattle.model.specs.WellTyped.{is_formula}
use Rattle.formulas.proofs.Tasks.{atom_few}
use Rattle.model.proofs.Tests.{passes_at, passes_not, passes_whole, passes_map}
use Rattle.formulas.proofs.FluentTests.{any_here, any_nowhere}
use Rattle.formulas.proofs.Trees.{list_any_map, holds_by_all, typed_by_all, holds_by_some, typed_by_some}
use Rattle.formulas.specs.Objects.{objects_left}
use Rattle.formulas.proofs.ObjectWalk.{rest_among, next_of, all_next, fails_here, any_next, passes_here}
use Rattle.formulas.proofs.Quantifiers.{one_more, one_less, extended_fits}
use Rattle.formulas.proofs.truth.Evaluation.+truth.Goals as goal

-- ---- formulas

pub holds-ground_atom-requires : goal.holds-ground_atom-requires
holds-ground_atom-requires g t c =
    atom_few (task_of c.args.self.now.task.now) c.args.formula.now c.in-Atom.atom c.args.binding.now.items c.in-Atom.is c.requires c.args.self.now.task.now.well_typed

pub holds-all_hold-requires : goal.holds-all_hold-requires
holds-all_hold-requires g t c κs within = (
  search (rules, the_lemmas),
  (
    within,
    record {
      scope = c.requires.scope;
      typed = typed_by_all c.args.formula.now c.in-And.parts c.deref.result.now c.in-And.is c.deref.ensures.value (task_of c.args.self.now.task.now) c.requires.scope c.requires.typed;
      fits = c.requires.fits;
    },
  ),
)

pub holds-some_holds-requires : goal.holds-some_holds-requires
holds-some_holds-requires g t c κs within = (
  search (rules, the_lemmas),
  (
    within,
    record {
      scope = c.requires.scope;
      typed = typed_by_some c.args.formula.now c.in-Or.parts c.deref-in-Or.result.now c.in-Or.is c.deref-in-Or.ensures.value (task_of c.args.self.now.task.now) c.requires.scope c.requires.typed;
      fits = c.requires.fits;
    },
  ),
)

pub holds-returns-in-And : goal.holds-returns-in-And
holds-returns-in-And g t c =
    search (
      rules,
      holds_by_all c.args.formula.now c.in-And.parts c.deref.result.now c.in-And.is c.deref.ensures.value (task_of c.args.self.now.task.now) (map object_of c.args.binding.now.items) (g.V.Valuation.facts c.args.self.now.state.now),
    )

pub holds-returns-in-Or : goal.holds-returns-in-Or
holds-returns-in-Or g t c =
    search (
      rules,
      holds_by_some c.args.formula.now c.in-Or.parts c.deref-in-Or.result.now c.in-Or.is c.deref-in-Or.ensures.value (task_of c.args.self.now.task.now) (map object_of c.args.binding.now.items) (g.V.Valuation.facts c.args.self.now.state.now),
    )

-- ---- their lists

pub all_hold-holds-requires : goal.all_hold-holds-requires
all_hold-holds-requires g t c κs within =
    let typed = is_formula (task_of c.args.self.now.task.now) c.requires.scope in (
      search (rules, the_lemmas),
      (
        within,
        record {
          scope = c.requires.scope;
          typed = passes_at (λ part. typed (formula_of part)) c.args.parts.now c.loop-part.part-index c.part-item.result c.loop-part-test.true c.part-item.is
              (sym (passes_map typed formula_of c.args.parts.now) ∙ c.requires.typed);
          fits = c.requires.fits;
        },
      ),
    )

pub all_hold-returns-then-not-holds : goal.all_hold-returns-then-not-holds
all_hold-returns-then-not-holds g t c =
    let test : Formula → Bool = λ part. meaning.holds (task_of c.args.self.now.task.now) part (map object_of c.args.binding.now.items) (g.V.Valuation.facts c.args.self.now.state.now) in
    passes_not (λ part. test (formula_of part)) c.args.parts.now c.loop-part.part-index c.part-item.result c.loop-part-test.true c.part-item.is
    (sym c.holds.ensures ∙ c.if-not-holds.true)
    ∙ sym (passes_map test formula_of c.args.parts.now)

pub all_hold-returns : goal.all_hold-returns
all_hold-returns g t c =
    let test : Formula → Bool = λ part. meaning.holds (task_of c.args.self.now.task.now) part (map object_of c.args.binding.now.items) (g.V.Valuation.facts c.args.self.now.state.now) in
    passes_whole (λ part. test (formula_of part)) c.args.parts.now c.loop-part.part-index c.loop-part-test.false c.loop-part.invariant
    ∙ sym (passes_map test formula_of c.args.parts.now)

pub some_holds-holds-requires : goal.some_holds-holds-requires
some_holds-holds-requires g t c κs within =
    let typed = is_formula (task_of c.args.self.now.task.now) c.requires.scope in (
      search (rules, the_lemmas),
      (
        within,
        record {
          scope = c.requires.scope;
          typed = passes_at (λ part. typed (formula_of part)) c.args.parts.now c.loop-part.part-index c.part-item.result c.loop-part-test.true c.part-item.is
              (sym (passes_map typed formula_of c.args.parts.now) ∙ c.requires.typed);
          fits = c.requires.fits;
        },
      ),
    )

pub some_holds-returns-then-holds : goal.some_holds-returns-then-holds
some_holds-returns-then-holds g t c =
    let test : Formula → Bool = λ part. meaning.holds (task_of c.args.self.now.task.now) part (map object_of c.args.binding.now.items) (g.V.Valuation.facts c.args.self.now.state.now) in
    any_here (λ part. test (formula_of part)) c.args.parts.now c.loop-part.part-index c.part-item.result c.loop-part-test.true c.part-item.is
    (sym c.holds.ensures ∙ c.if-holds.true)
    ∙ sym (list_any_map test formula_of c.args.parts.now)

pub some_holds-returns : goal.some_holds-returns
some_holds-returns g t c =
    let test : Formula → Bool = λ part. meaning.holds (task_of c.args.self.now.task.now) part (map object_of c.args.binding.now.items) (g.V.Valuation.facts c.args.self.now.state.now) in
    any_nowhere (λ part. test (formula_of part)) c.args.parts.now c.loop-part.part-index c.loop-part-test.false c.loop-part.invariant
    ∙ sym (list_any_map test formula_of c.args.parts.now)

-- ---- their objects

pub holds_for_all-loop-object-init : goal.holds_for_all-loop-object-init
holds_for_all-loop-object-init g t c = (c.copied-extended.ensures, λ _ so. so, refl)

pub holds_for_all-holds-requires : goal.holds_for_all-holds-requires
holds_for_all-holds-requires g t c κs within =
    let task = task_of c.args.self.now.task.now in
    let types = union_of c.args.types.now in
    let part = formula_of c.args.part.now in
    let at = c.loop-object in
    let one = c.in-Some.object in
    let objects = one_more at.extended.items c.push.new.self.items one c.args.binding.now.items at.invariant.0 c.push.ensures.items in
    let all = ap objects_left c.into_iter-object-iterator.ensures.into_iter_gives ∙ c.objects_of-object-items.ensures in (
      search (rules, the_lemmas),
      (
        within,
        subst (FitsFormula task part) (sym objects)
            (extended_fits task types part c.args.binding.now.items c.requires one.0 (next_of _ _ one.0 c.in-Some.ensures.steps task types _ all at.invariant.1)),
      ),
    )

pub holds_for_all-returns-then-not-holds : goal.holds_for_all-returns-then-not-holds
holds_for_all-returns-then-not-holds g t c =
    let task = task_of c.args.self.now.task.now in
    let part = formula_of c.args.part.now in
    let state = g.V.Valuation.facts c.args.self.now.state.now in
    let binding = c.args.binding.now.items in
    let at = c.loop-object in
    let one = c.in-Some.object in
    let objects = one_more at.extended.items c.push.new.self.items one binding at.invariant.0 c.push.ensures.items in
    let test : ℕ → Bool = λ n. meaning.holds task part (map object_of binding ++ n ∷ []) state in
    let all = ap objects_left c.into_iter-object-iterator.ensures.into_iter_gives ∙ c.objects_of-object-items.ensures in
    fails_here _ _ one.0 c.in-Some.ensures.steps test _ (ap (λ l. meaning.holds task part l state) (sym objects) ∙ sym c.holds.ensures ∙ c.if-not-holds.true) at.invariant.2
    ∙ ap (list_all test) all

pub holds_for_all-loop-object-preserved : goal.holds_for_all-loop-object-preserved
holds_for_all-loop-object-preserved g t c =
    let task = task_of c.args.self.now.task.now in
    let part = formula_of c.args.part.now in
    let state = g.V.Valuation.facts c.args.self.now.state.now in
    let binding = c.args.binding.now.items in
    let at = c.loop-object in
    let one = c.in-Some.object in
    let objects = one_more at.extended.items c.push.new.self.items one binding at.invariant.0 c.push.ensures.items in
    let test : ℕ → Bool = λ n. meaning.holds task part (map object_of binding ++ n ∷ []) state in (
      one_less at.extended.items c.push.new.self.items c.pop.new.self.items one binding at.invariant.0 c.push.ensures.items _ (omega (arith, c.push.ensures.len)) c.pop.ensures.rest,
      rest_among _ _ one.0 c.in-Some.ensures.steps _ at.invariant.1,
      all_next _ _ one.0 c.in-Some.ensures.steps test _ (ap (λ l. meaning.holds task part l state) (sym objects) ∙ sym c.holds.ensures ∙ c.if-not-holds.false) at.invariant.2,
    )

pub holds_for_all-returns : goal.holds_for_all-returns
holds_for_all-returns g t c =
    let task = task_of c.args.self.now.task.now in
    let part = formula_of c.args.part.now in
    let state = g.V.Valuation.facts c.args.self.now.state.now in
    let binding = map object_of c.args.binding.now.items in
    let test : ℕ → Bool = λ n. meaning.holds task part (binding ++ n ∷ []) state in
    let all = ap objects_left c.into_iter-object-iterator.ensures.into_iter_gives ∙ c.objects_of-object-items.ensures in
    sym (ap (list_all test) c.in-None.ensures.steps.0) ∙ c.loop-object.invariant.2 ∙ ap (list_all test) all

pub holds_for_some-loop-candidate-init : goal.holds_for_some-loop-candidate-init
holds_for_some-loop-candidate-init g t c = (c.copied-tried.ensures, λ _ so. so, refl)

pub holds_for_some-holds-requires : goal.holds_for_some-holds-requires
holds_for_some-holds-requires g t c κs within =
    let task = task_of c.args.self.now.task.now in
    let types = union_of c.args.types.now in
    let part = formula_of c.args.part.now in
    let at = c.loop-candidate in
    let one = c.in-Some.candidate in
    let objects = one_more at.tried.items c.push.new.self.items one c.args.binding.now.items at.invariant.0 c.push.ensures.items in
    let all = ap objects_left c.into_iter-candidate-iterator.ensures.into_iter_gives ∙ c.objects_of-candidate-items.ensures in (
      search (rules, the_lemmas),
      (
        within,
        subst (FitsFormula task part) (sym objects)
            (extended_fits task types part c.args.binding.now.items c.requires one.0 (next_of _ _ one.0 c.in-Some.ensures.steps task types _ all at.invariant.1)),
      ),
    )

pub holds_for_some-returns-then-holds : goal.holds_for_some-returns-then-holds
holds_for_some-returns-then-holds g t c =
    let task = task_of c.args.self.now.task.now in
    let part = formula_of c.args.part.now in
    let state = g.V.Valuation.facts c.args.self.now.state.now in
    let binding = c.args.binding.now.items in
    let at = c.loop-candidate in
    let one = c.in-Some.candidate in
    let objects = one_more at.tried.items c.push.new.self.items one binding at.invariant.0 c.push.ensures.items in
    let test : ℕ → Bool = λ n. meaning.holds task part (map object_of binding ++ n ∷ []) state in
    let all = ap objects_left c.into_iter-candidate-iterator.ensures.into_iter_gives ∙ c.objects_of-candidate-items.ensures in
    passes_here _ _ one.0 c.in-Some.ensures.steps test _ (ap (λ l. meaning.holds task part l state) (sym objects) ∙ sym c.holds.ensures ∙ c.if-holds.true) at.invariant.2
    ∙ ap (list_any test) all

pub holds_for_some-loop-candidate-preserved : goal.holds_for_some-loop-candidate-preserved
holds_for_some-loop-candidate-preserved g t c =
    let task = task_of c.args.self.now.task.now in
    let part = formula_of c.args.part.now in
    let state = g.V.Valuation.facts c.args.self.now.state.now in
    let binding = c.args.binding.now.items in
    let at = c.loop-candidate in
    let one = c.in-Some.candidate in
    let objects = one_more at.tried.items c.push.new.self.items one binding at.invariant.0 c.push.ensures.items in
    let test : ℕ → Bool = λ n. meaning.holds task part (map object_of binding ++ n ∷ []) state in (
      one_less at.tried.items c.push.new.self.items c.pop.new.self.items one binding at.invariant.0 c.push.ensures.items _ (omega (arith, c.push.ensures.len)) c.pop.ensures.rest,
      rest_among _ _ one.0 c.in-Some.ensures.steps _ at.invariant.1,
      any_next _ _ one.0 c.in-Some.ensures.steps test _ (ap (λ l. meaning.holds task part l state) (sym objects) ∙ sym c.holds.ensures ∙ c.if-holds.false) at.invariant.2,
    )

pub holds_for_some-returns : goal.holds_for_some-returns
holds_for_some-returns g t c =
    let task = task_of c.args.self.now.task.now in
    let part = formula_of c.args.part.now in
    let state = g.V.Valuation.facts c.args.self.now.state.now in
    let binding = map object_of c.args.binding.now.items in
    let test : ℕ → Bool = λ n. meaning.holds task part (binding ++ n ∷ []) state in
    let all = ap objects_left c.into_iter-candidate-iterator.ensures.into_iter_gives ∙ c.objects_of-candidate-items.ensures in
    sym (ap (list_any test) c.in-None.ensures.steps.0) ∙ c.loop-candidate.invariant.2 ∙ ap (list_any test) all
