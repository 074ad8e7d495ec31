use Rattle.std.proofs.Common.{◌≡◌, ◌+◌, ◌-◌, ◌≤◌, ◌<◌, length, drop}
use Rattle.std.specs.List.{prefix_len}
use Rattle.tokens.specs.Form.{view}
use Rattle.model.specs.Words.{may_continue}
use Rattle.tokens.proofs.form.part_end.Given as goal

abbrev pub invariant-loop-end : goal.invariant-loop-end
invariant-loop-end l = record {
  above : l.start < l.end;
  within : l.end ≤ length l.text;
  counted : l.end + prefix_len (may_continue (view l.form)) (drop l.end l.text)
      ≡ l.start + 1 + prefix_len (may_continue (view l.form)) (drop (l.start + 1) l.text);
}

abbrev pub decreases-loop-end : goal.decreases-loop-end
decreases-loop-end l = length l.text - l.end
