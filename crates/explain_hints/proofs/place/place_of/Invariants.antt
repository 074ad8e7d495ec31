use Rattle.std.proofs.Common.{◌≡◌, ◌+◌, ◌≤◌, take}
use Rattle.explain_hints.specs.Places.{lines_ended, bytes_since}
use Rattle.explain_hints.proofs.place.place_of.Given as goal

abbrev pub invariant-loop-byte : goal.invariant-loop-byte
invariant-loop-byte l = record {
  line : l.line ≡ lines_ended (take l.byte-index l.before) + 1;
  column : l.column ≡ bytes_since (take l.byte-index l.before) + 1;
  few_lines : l.line ≤ l.byte-index + 1;
  few_columns : l.column ≤ l.byte-index + 1;
}
