use Rattle.std.proofs.Common.{◌≡◌, ℕ, ◌≤◌, ◌<◌, get_or}
use Rattle.explain_hints.specs.Places.{BeginsLine}
use Rattle.explain_hints.proofs.line.line_start.Given as goal

abbrev pub invariant-loop-i : goal.invariant-loop-i
invariant-loop-i l = record {
  order : l.start ≤ l.i;
  no_end : (k : ℕ) → l.start ≤ k → k < l.i → get_or l.text k 0 ≡ 10 → ⊥;
  begins : BeginsLine l.text l.start;
}
