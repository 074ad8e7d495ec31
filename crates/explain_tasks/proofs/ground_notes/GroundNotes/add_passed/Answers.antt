use Rattle.std.proofs.Common.{◌≡◌, ◌∙◌, ◌++◌, ◌∷◌, [], List, ℕ, ap, map, subst}
use Rattle.std.specs.Prelude.{codes, OnOk}
use Rattle.std.specs.Fmt.{decimal}
use Rattle.std.specs.Str.Lossy.{utf8_lossy}
use Rattle.std.specs.String.{string_bytes}
use Rattle.task.specs.Task.{task_of}
use Rattle.model.specs.PlanWriting.{schema_name}
use Rattle.explain_tasks.specs.NoteLines.{passed_text}
use Rattle.explain_tasks.proofs.NoteLemmas.{four_parts}
use Rattle.explain_tasks.proofs.ground_notes.GroundNotes.add_passed.Goals as goal

pub returns : goal.returns
returns c =
    let task = task_of c.args.task.now in
    let most = c.args.self.now.most in
    let begun = c.in_ok-line.line.items in
    let so_far = c.extend_from_slice-2.new.self.items in
    let text : c.as_slice.result.now ≡ passed_text task most c.args.number =
    c.as_slice.ensures.value
    ∙ four_parts (codes "Whether costs of `") (schema_name task c.args.number) (codes "` have no value was not looked at, as it has more than ") (decimal most ++ codes " instances.")
    begun c.extend_from_slice.new.self.items so_far c.extend_from_slice-3.new.self.items
    c.in_ok-line.ensures.items
    (c.in_ok-extend_from_slice.ensures.items ∙ ap (λ (n : List ℕ). begun ++ n) c.name_of_schema.ensures)
    c.in_ok-extend_from_slice-2.ensures.items
    (c.in_ok-extend_from_slice-3.ensures.items ∙ ap (λ (n : List ℕ). so_far ++ n) (c.as_bytes.ensures.value ∙ c.in_ok-ending.ensures)) in
    subst (λ (t : List ℕ). OnOk c.add_line.result (map string_bytes c.add_line.new.lines.items ≡ map string_bytes c.args.lines.now.items ++ utf8_lossy t ∷ [])) text c.add_line.ensures
