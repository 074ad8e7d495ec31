use Rattle.std.proofs.Common.{◌≡◌, ◌∙◌, ◌++◌, List, ℕ, append_assoc, ap, map, subst}
use Rattle.std.specs.Prelude.{codes, OnOk}
use Rattle.std.specs.String.{string_bytes}
use Rattle.explain_tasks.specs.NoteLines.{line_if}
use Rattle.explain_tasks.proofs.notes.TaskNotes.add_goal.Goals as goal

pub returns : goal.returns
returns c =
    let old = map string_bytes c.args.lines.now.items in
    let first = line_if c.args.self.now.has_empty_goal (codes "The goal is empty, so it is true at the start.") in
    let second = line_if c.args.self.now.starts_at_goal (codes "The goal is true at the start.") in
    subst (λ (all : List (List ℕ)). OnOk c.add_text_if-2.result (map string_bytes c.add_text_if-2.new.lines.items ≡ all))
    (ap (λ (l : List (List ℕ)). l ++ second) c.in_ok-add_text_if.ensures ∙ append_assoc old first second)
    c.add_text_if-2.ensures
