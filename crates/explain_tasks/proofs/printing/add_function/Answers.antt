use Rattle.std.proofs.Common.{◌≡◌, ◌∙◌, ◌++◌, List, ℕ, ap, map, subst, take}
use Rattle.std.specs.Prelude.{codes}
use Rattle.std.specs.List.{flat_map}
use Rattle.std.proofs.lemmas.List.{take_all}
use Rattle.task.specs.NumberedNames.{function_name}
use Rattle.task.specs.Task.{task_of}
use Rattle.task.specs.TaskParts.{object_of, term_of}
use Rattle.task.specs.declared.atoms.Term.{Term}
use Rattle.model.specs.Meaning as meaning
use Rattle.model.specs.PlanWriting.{object_text}
use Rattle.explain_tasks.proofs.NoteLemmas.{four_added}
use Rattle.explain_tasks.proofs.printing.add_function.Goals as goal

pub returns : goal.returns
returns c =
    let task = task_of c.args.task.now in
    let terms = c.args.function.now.terms.items in
    let index = c.loop-term.term-index in
    let objects = map object_of c.args.instance.now.objects.items in
    let name = function_name task c.args.function.now.predicate.0 in
    let begun = c.extend_from_slice.new.self.items in
    let named = c.extend_from_slice-2.new.self.items in
    let whole : take index terms ≡ terms = subst (λ (ts : List Term). take index ts ≡ ts) c.deref-term-items.ensures.value (take_all index c.deref-term-items.result.now c.loop-term-test.false) in
    four_added c.args.line.now.items (codes "(") name (flat_map (object_text task) (map (meaning.object_of objects) (map term_of terms))) (codes ")")
    begun named c.loop-term.line.items c.extend_from_slice-3.new.self.items
    c.in_ok-extend_from_slice.ensures.items
    (c.in_ok-extend_from_slice-2.ensures.items ∙ ap (λ (n : List ℕ). begun ++ n) c.name_of_function.ensures)
    (c.loop-term.invariant ∙ ap (λ (ts : List Term). named ++ flat_map (object_text task) (map (meaning.object_of objects) (map term_of ts))) whole)
    c.in_ok-extend_from_slice-3.ensures.items
