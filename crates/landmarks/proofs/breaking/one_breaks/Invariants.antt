use Rattle.std.proofs.Common.{◌≡◌, drop, map}
use Rattle.std.specs.List.{list_any}
use Rattle.grounding.specs.Changes.{conditional_of}
use Rattle.landmarks.specs.Breaking.{breaks, zone_in}
use Rattle.landmarks.proofs.breaking.one_breaks.Given as goal

-- the remaining ones decide
abbrev pub invariant-loop-change : goal.invariant-loop-change
invariant-loop-change l =
    list_any (breaks (map conditional_of l.changes) (zone_in l.zone)) (map conditional_of l.changes)
    ≡ list_any (breaks (map conditional_of l.changes) (zone_in l.zone)) (map conditional_of (drop l.change-index l.changes))
