use Rattle.std.proofs.Common.{rules, ℕ, refl, ◌∙◌, ap, sym, subst, map, ◌++◌, ◌∷◌, [], List}
use Rattle.std.specs.List.{flat_map}
use Rattle.std.proofs.lemmas.List.{take_all}
use Rattle.task.specs.declared.schemas.Formula.{the_lemmas}
use Rattle.task.specs.Task.{task_of}
use Rattle.formulas.specs.State.{FitsFormula}
use Rattle.formulas.specs.Literals.{literal_of}
use Rattle.task.specs.TaskParts.{object_of, formula_of, union_of}
use Rattle.model.specs.Task.{forall}
use Rattle.formulas.specs.Objects.{objects_left}
use Rattle.model.specs.SureLiterals.{Literal, sure}
use Rattle.model.specs.WellTyped.{is_formula}
use Rattle.model.proofs.Tests.{passes_at, passes_map}
use Rattle.formulas.proofs.Tasks.{atom_few}
use Rattle.formulas.proofs.Trees.{typed_by_all, sure_by_parts}
use Rattle.formulas.proofs.ObjectWalk.{rest_among, next_of, added_next, added_all}
use Rattle.formulas.proofs.Quantifiers.{one_more, extended_fits}
use Rattle.formulas.proofs.literals.+add_sure.Goals as goal

pub ground_atom-requires : goal.ground_atom-requires
ground_atom-requires t c =
    atom_few (task_of c.args.task.now) c.args.formula.now c.in-Atom.atom c.args.binding.now.items c.in-Atom.is c.requires c.args.task.now.well_typed

pub add_sure-requires : goal.add_sure-requires
add_sure-requires t c =
    let task = task_of c.args.task.now in
    let scope = c.requires.scope in
    let items = c.deref-part-items.result.now in (
      search (rules, the_lemmas),
      record {
        scope = scope;
        typed = passes_at (λ part. is_formula task scope (formula_of part)) items c.loop-part.part-index c.part-item.result c.loop-part-test.true c.part-item.is
            (sym (passes_map (is_formula task scope) formula_of items)
            ∙ typed_by_all c.args.formula.now c.in-And.parts items c.in-And.is c.deref-part-items.ensures.value task scope c.requires.typed);
        fits = c.requires.fits;
      },
    )

pub returns-after-loop-part : goal.returns-after-loop-part
returns-after-loop-part t c =
    let task = task_of c.args.task.now in
    let binding = map object_of c.args.binding.now.items in
    let items = c.deref-part-items.result.now in
    let first = map literal_of c.args.found.now.items in
    c.loop-part.invariant
    ∙ ap (λ l. first ++ l)
    (ap (flat_map (λ part. sure task (formula_of part) binding)) (take_all c.loop-part.part-index items c.loop-part-test.false)
    ∙ sym (sure_by_parts c.args.formula.now c.in-And.parts items c.in-And.is c.deref-part-items.ensures.value task binding))

pub loop-object-init : goal.loop-object-init
loop-object-init t c = (λ _ so. so, refl)

pub add_sure-requires-in-loop-object : goal.add_sure-requires-in-loop-object
add_sure-requires-in-loop-object t c =
    let task = task_of c.args.task.now in
    let types = union_of c.in-Forall.types in
    let part = formula_of c.in-Forall.part.value in
    let binding = c.args.binding.now.items in
    let one = c.in-Some.object in
    let given : FitsFormula task (forall types part) (map object_of binding) = subst (λ f. FitsFormula task (formula_of f) (map object_of binding)) c.in-Forall.is c.requires in
    let all = ap objects_left c.into_iter-object-iterator.ensures.into_iter_gives ∙ c.objects_of-object-items.ensures in (
      search (rules, the_lemmas),
      subst (λ p. FitsFormula task (formula_of p) (map object_of c.with_object.result.items)) (sym c.deref-in-loop-object.ensures)
          (subst (FitsFormula task part) (sym (one_more binding c.with_object.result.items one binding refl c.with_object.ensures))
          (extended_fits task types part binding given one.0 (next_of _ _ one.0 c.in-Some.ensures.steps task types _ all c.loop-object.invariant.0))),
    )

pub loop-object-preserved : goal.loop-object-preserved
loop-object-preserved t c =
    let part = formula_of c.in-Forall.part.value in
    let task = task_of c.args.task.now in
    let binding = c.args.binding.now.items in
    let one = c.in-Some.object in
    let found = map literal_of c.loop-object.found.items in (
      rest_among _ _ one.0 c.in-Some.ensures.steps _ c.loop-object.invariant.0,
      added_next _ _ one.0 c.in-Some.ensures.steps (λ n. sure task part (map object_of binding ++ n ∷ [])) _ found (map literal_of c.add_sure-in-loop-object.new.found.items)
          (c.in_ok-add_sure-in-Forall.ensures ∙ ap (λ p. found ++ sure task (formula_of p) (map object_of c.with_object.result.items)) c.deref-in-loop-object.ensures
          ∙ ap (λ l. found ++ sure task part l) (one_more binding c.with_object.result.items one binding refl c.with_object.ensures))
          c.loop-object.invariant.1,
    )

pub returns-in-None : goal.returns-in-None
returns-in-None t c =
    let task = task_of c.args.task.now in
    let part = formula_of c.in-Forall.part.value in
    let binding = map object_of c.args.binding.now.items in
    let gives : ℕ → List Literal = λ n. sure task part (binding ++ n ∷ []) in
    let first = map literal_of c.args.found.now.items in
    let all = ap objects_left c.into_iter-object-iterator.ensures.into_iter_gives ∙ c.objects_of-object-items.ensures in
    added_all gives _ (map literal_of c.loop-object.found.items) _ c.in-None.ensures.steps.0 c.loop-object.invariant.1
    ∙ ap (λ l. first ++ flat_map gives l) all
    ∙ ap (λ f. first ++ sure task (formula_of f) binding) (sym c.in-Forall.is)
