use Rattle.std.proofs.Common.{◌≡◌, true, take}
use Rattle.std.specs.List.{list_all}
use Rattle.packed_state.specs.Packed.{bits_of}
use Rattle.grounding.specs.Changes.{conditional_of}
use Rattle.explain_goals.specs.Settled.{IsGrown, is_made}
use Rattle.explain_goals.proofs.reached.add_changes.Given as goal

-- what the changes so far add is there
abbrev pub invariant-loop-change : goal.invariant-loop-change
invariant-loop-change l =
    IsGrown (λ some. list_all (λ one. is_made some (conditional_of one)) (take l.change-index l.changes) ≡ true) (bits_of l.initial.set) (bits_of l.set) l.grew
