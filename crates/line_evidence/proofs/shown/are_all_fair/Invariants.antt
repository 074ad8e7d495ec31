use Rattle.std.proofs.Common.{◌≡◌, drop}
use Rattle.std.specs.Prelude.{not}
use Rattle.std.specs.List.{list_all}
use Rattle.landmarks.specs.Fairness.{is_unfair}
use Rattle.line_evidence.proofs.shown.are_all_fair.Given as goal

-- those that are left decide
abbrev pub invariant-loop-fairness : goal.invariant-loop-fairness
invariant-loop-fairness l = list_all (λ f. not (is_unfair f)) l.found ≡ list_all (λ f. not (is_unfair f)) (drop l.fairness-index l.found)
