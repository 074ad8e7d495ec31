use Rattle.std.proofs.Common.{rules, ℕ, refl, ◌∙◌, ap, sym, subst, map, ◌++◌, ◌∷◌, [], List}
use Rattle.std.specs.List.{flat_map}
use Rattle.std.proofs.lemmas.List.{take_all}
use Rattle.task.specs.declared.schemas.Effect.{the_lemmas}
use Rattle.task.specs.Task.{task_of}
use Rattle.formulas.specs.State.{FitsEffect}
use Rattle.formulas.specs.Effects.{change_of}
use Rattle.task.specs.TaskParts.{object_of, effect_of, union_of}
use Rattle.formulas.specs.Objects.{objects_left}
use Rattle.model.specs.Task.{each}
use Rattle.model.specs.Meaning.{Change, changes_of}
use Rattle.model.specs.WellTyped.{is_effect}
use Rattle.model.proofs.Tests.{passes_at}
use Rattle.formulas.proofs.ChangeLists.{changes_when}
use Rattle.formulas.proofs.Trees.{typed_by_effects, changes_by_parts}
use Rattle.formulas.proofs.ObjectWalk.{rest_among, next_of, added_next, added_all}
use Rattle.formulas.proofs.Quantifiers.{one_more, extended_effect_fits}
use Rattle.formulas.proofs.effects.+add_changes.Goals as goal

pub add_changes-requires : goal.add_changes-requires
add_changes-requires t c =
    let task = task_of c.args.task.now in
    let scope = c.requires.scope in (
      search (rules, the_lemmas),
      record {
        scope = scope;
        typed = passes_at (λ part. is_effect task scope (effect_of part)) c.deref-part-items.result.now c.loop-part.part-index c.part-item.result c.loop-part-test.true c.part-item.is
            (typed_by_effects task scope c.args.effect.now c.in-And.parts c.deref-part-items.result.now c.in-And.is c.deref-part-items.ensures.value c.requires.typed);
        fits = c.requires.fits;
      },
    )

pub returns-after-loop-part : goal.returns-after-loop-part
returns-after-loop-part t c =
    let task = task_of c.args.task.now in
    let binding = map object_of c.args.binding.now.items in
    let items = c.deref-part-items.result.now in
    let first = map change_of c.args.found.now.items in
    c.loop-part.invariant
    ∙ ap (λ l. first ++ l)
    (ap (flat_map (λ part. changes_of task (effect_of part) binding)) (take_all c.loop-part.part-index items c.loop-part-test.false)
    ∙ sym (changes_by_parts task binding c.args.effect.now c.in-And.parts items c.in-And.is c.deref-part-items.ensures.value))

pub returns-in_ok-add_changes_in-in-When : goal.returns-in_ok-add_changes_in-in-When
returns-in_ok-add_changes_in-in-When t c =
    c.in_ok-add_changes_in-in-When.ensures
    ∙ ap (λ l. map change_of c.args.found.now.items ++ l)
    (changes_when (task_of c.args.task.now) (map object_of c.args.binding.now.items) c.args.effect.now c.in-When.condition c.in-When.literals c.deref-in-When.result.now c.in-When.is c.deref-in-When.ensures.value)

pub loop-object-init : goal.loop-object-init
loop-object-init t c = (λ _ so. so, refl)

pub add_changes-requires-in-loop-object : goal.add_changes-requires-in-loop-object
add_changes-requires-in-loop-object t c =
    let task = task_of c.args.task.now in
    let types = union_of c.in-Forall.types in
    let part = effect_of c.in-Forall.part.value in
    let binding = c.args.binding.now.items in
    let one = c.in-Some.object in
    let given : FitsEffect task (each types part) (map object_of binding) = subst (λ e. FitsEffect task (effect_of e) (map object_of binding)) c.in-Forall.is c.requires in
    let all = ap objects_left c.into_iter-object-iterator.ensures.into_iter_gives ∙ c.objects_of-object-items.ensures in (
      search (rules, the_lemmas),
      subst (λ p. FitsEffect task (effect_of p) (map object_of c.with_object.result.items)) (sym c.deref.ensures)
          (subst (FitsEffect task part) (sym (one_more binding c.with_object.result.items one binding refl c.with_object.ensures))
          (extended_effect_fits task types part binding given one.0 (next_of _ _ one.0 c.in-Some.ensures.steps task types _ all c.loop-object.invariant.0))),
    )

pub loop-object-preserved : goal.loop-object-preserved
loop-object-preserved t c =
    let part = effect_of c.in-Forall.part.value in
    let task = task_of c.args.task.now in
    let binding = c.args.binding.now.items in
    let one = c.in-Some.object in
    let found = map change_of c.loop-object.found.items in (
      rest_among _ _ one.0 c.in-Some.ensures.steps _ c.loop-object.invariant.0,
      added_next _ _ one.0 c.in-Some.ensures.steps (λ n. changes_of task part (map object_of binding ++ n ∷ [])) _ found (map change_of c.add_changes-in-loop-object.new.found.items)
          (c.in_ok-add_changes-in-Forall.ensures ∙ ap (λ p. found ++ changes_of task (effect_of p) (map object_of c.with_object.result.items)) c.deref.ensures
          ∙ ap (λ l. found ++ changes_of task part l) (one_more binding c.with_object.result.items one binding refl c.with_object.ensures))
          c.loop-object.invariant.1,
    )

pub returns-in-None : goal.returns-in-None
returns-in-None t c =
    let task = task_of c.args.task.now in
    let part = effect_of c.in-Forall.part.value in
    let binding = map object_of c.args.binding.now.items in
    let gives : ℕ → List Change = λ n. changes_of task part (binding ++ n ∷ []) in
    let first = map change_of c.args.found.now.items in
    let all = ap objects_left c.into_iter-object-iterator.ensures.into_iter_gives ∙ c.objects_of-object-items.ensures in
    added_all gives _ (map change_of c.loop-object.found.items) _ c.in-None.ensures.steps.0 c.loop-object.invariant.1
    ∙ ap (λ l. first ++ flat_map gives l) all
    ∙ ap (λ e. first ++ changes_of task (effect_of e) binding) (sym c.in-Forall.is)
