use Rattle.std.proofs.Common.{◌≡◌, ◌∙◌, ◌++◌, ◌∷◌, [], List, ℕ, map, subst}
use Rattle.std.specs.Prelude.{codes, OnOk}
use Rattle.std.specs.Str.Lossy.{utf8_lossy}
use Rattle.std.specs.String.{string_bytes}
use Rattle.task.specs.NumberedNames.{ground_text}
use Rattle.task.specs.Task.{task_of}
use Rattle.task.specs.TaskParts.{atom_of}
use Rattle.explain_tasks.specs.NoteLines.{missing_text}
use Rattle.explain_tasks.proofs.NoteLemmas.{three_parts}
use Rattle.explain_tasks.proofs.printing.add_missing_line.Goals as goal

pub returns : goal.returns
returns c =
    let task = task_of c.args.task.now in
    let atom = atom_of c.args.atom.now in
    let begun = c.in_ok-line.line.items in
    let text : c.as_slice.result.now ≡ missing_text task atom =
    c.as_slice.ensures.value
    ∙ three_parts (codes "The goal asks for ") (ground_text task atom) (codes ", which is false at the start, and which no action can make true.") begun c.add_atom.new.text.items c.extend_from_slice.new.self.items
    c.in_ok-line.ensures.items c.in_ok-add_atom.ensures
    c.in_ok-extend_from_slice.ensures.items in
    subst (λ (t : List ℕ). OnOk c.add_line.result (map string_bytes c.add_line.new.lines.items ≡ map string_bytes c.args.lines.now.items ++ utf8_lossy t ∷ [])) text c.add_line.ensures
