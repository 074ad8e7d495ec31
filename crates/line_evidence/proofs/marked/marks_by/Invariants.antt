use Rattle.std.proofs.Common.{◌≡◌, ℕ, Bool, List, length, map, take}
use Rattle.grounding.specs.Ground.{atoms_in}
use Rattle.search.specs.Outcome.{lines_of}
use Rattle.guides.specs.FairTables.{ground_in}
use Rattle.packed_state.specs.Packed.{bits_of}
use Rattle.tables.specs.Several.{Knows, width_of}
use Rattle.line_evidence.specs.Roles.{CanBeMarked, role_of, role_of_line}
use Rattle.line_evidence.proofs.marked.marks_by.Given as goal

-- the marks of the states so far
abbrev pub invariant-loop-place : goal.invariant-loop-place
invariant-loop-place g l = record {
  roles : (value : List Bool → ℕ) (is_dead : List Bool → Bool) → CanBeMarked value is_dead (g.L.StateListing.states l.found.store) l.found.nodes.items l.found.estimates.items
      → map role_of l.marks.items ≡ map role_of_line (lines_of value is_dead (take l.place (g.L.StateListing.states l.found.store)) (take l.place l.found.nodes.items));
  long : length l.marks.items ≡ l.place;
  width : width_of l.bases.functions.now ≡ length (atoms_in (ground_in l.guide));
  state : length (bits_of l.at.state) ≡ width_of l.bases.functions.now;
  known : Knows l.bases.functions.now l.at.known;
}
