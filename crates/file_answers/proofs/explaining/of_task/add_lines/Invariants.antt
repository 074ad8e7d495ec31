use Rattle.std.proofs.Common.{◌≡◌, ◌++◌, map, take}
use Rattle.std.specs.String.{string_bytes}
use Rattle.file_answers.specs.ExplanationLines.{on_lines}
use Rattle.file_answers.proofs.explaining.of_task.add_lines.Given as goal

abbrev pub invariant-lines : goal.invariant-lines
invariant-lines l = string_bytes l.text ≡ string_bytes l.initial.text ++ on_lines (map string_bytes (take l.line-index l.lines))
