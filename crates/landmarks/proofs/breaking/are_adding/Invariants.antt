use Rattle.std.proofs.Common.{◌≡◌, true, drop, map}
use Rattle.grounding.specs.Changes.{conditional_of}
use Rattle.model.specs.ConditionalChanges.{changes_in}
use Rattle.lower_bounds.specs.FairPotentials.{makes}
use Rattle.landmarks.proofs.breaking.are_adding.Given as goal

-- the remaining ones decide
abbrev pub invariant-loop-change : goal.invariant-loop-change
invariant-loop-change l =
    makes (changes_in (map conditional_of l.changes)) true true l.atom ≡ makes (changes_in (map conditional_of (drop l.change-index l.changes))) true true l.atom
