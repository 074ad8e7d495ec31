use Rattle.std.proofs.Common.{map}
use Rattle.std.specs.String.{string_bytes}
use Rattle.explain_goals.specs.AddedLines.{AddsLines}
use Rattle.explain_goals.proofs.goal_notes.GoalNotes.add_lines.Given as goal

-- lines are added to those that were there
abbrev pub invariant-notes : goal.invariant-notes
invariant-notes l = AddsLines (map string_bytes l.initial.lines.items) (map string_bytes l.lines.items)
