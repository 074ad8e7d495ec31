use Rattle.std.proofs.Common.{◌≡◌, ℕ, Bool, List, take, map}
use Rattle.search_spaces.specs.GroundListing.{listed_states}
use Rattle.certificate.specs.CertificateParts.{listed_of}
use Rattle.search.specs.Outcome as search
use Rattle.solver.specs.Guided.{CanBeMarked}
use Rattle.solver.specs.Listing.{mark_of_line}
use Rattle.solver.proofs.searched.marks.Given as goal

-- the marks of the states so far
abbrev pub invariant-loop-place : goal.invariant-loop-place
invariant-loop-place l =
    (estimate : List Bool → ℕ) (is_dead : List Bool → Bool) → CanBeMarked estimate is_dead l.found
    → map listed_of l.marks.items ≡ map mark_of_line (search.lines_of estimate is_dead (take l.place (listed_states l.found.store)) (take l.place l.found.nodes.items))
