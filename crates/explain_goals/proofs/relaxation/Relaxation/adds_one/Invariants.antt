use Rattle.std.proofs.Common.{◌≡◌, drop, map}
use Rattle.std.specs.List.{list_any}
use Rattle.formulas.specs.State.{state_of}
use Rattle.grounding.specs.Changes.{conditional_of}
use Rattle.grounding.specs.Ground.{atoms_in}
use Rattle.explain_goals.specs.Needed.{is_adding}
use Rattle.explain_goals.proofs.relaxation.Relaxation.adds_one.Given as goal

-- the remaining ones decide
abbrev pub invariant-loop-change : goal.invariant-loop-change
invariant-loop-change l =
    list_any (is_adding (atoms_in l.self.ground.now) (state_of l.added)) (map conditional_of l.changes)
    ≡ list_any (is_adding (atoms_in l.self.ground.now) (state_of l.added)) (map conditional_of (drop l.change-index l.changes))
