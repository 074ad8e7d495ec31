use Rattle.std.proofs.Common.{◌≡◌, ◌++◌, take}
use Rattle.lower_bounds.specs.LandmarkLines.{numbers_text}
use Rattle.landmark_zones.proofs.line_text.add_numbers.Given as goal

-- the text has the numbers so far
abbrev pub invariant-loop-number : goal.invariant-loop-number
invariant-loop-number l = l.text.items ≡ l.initial.text.items ++ numbers_text (take l.number-index l.numbers)
