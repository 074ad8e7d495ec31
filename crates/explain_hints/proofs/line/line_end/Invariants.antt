use Rattle.std.proofs.Common.{◌≡◌, ℕ, ◌-◌, ◌≤◌, ◌<◌, get_or, length}
use Rattle.explain_hints.proofs.line.line_end.Given as goal

abbrev pub invariant-loop-end : goal.invariant-loop-end
invariant-loop-end l = record {
  order : l.offset ≤ l.end;
  within : l.end ≤ length l.text;
  no_end : (k : ℕ) → l.offset ≤ k → k < l.end → get_or l.text k 0 ≡ 10 → ⊥;
}

abbrev pub decreases-loop-end : goal.decreases-loop-end
decreases-loop-end l = length l.text - l.end
