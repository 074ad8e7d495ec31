use Rattle.std.proofs.Common.{◌≡◌, ℕ, ◌<◌, Bool, List, length, Some}
use Rattle.std.specs.Prelude.{slice_get}
use Rattle.certificate_definitions.specs.Evidence.{LineMark}
use Rattle.landmark_zones.specs.Landmarks.{landmarks_of}
use Rattle.packed_state.specs.Packed.{bits_of}
use Rattle.tables.specs.Several.{Knows, several_of, width_of}
use Rattle.line_evidence.specs.Roles.{marks_in}
use Rattle.line_evidence.specs.Shown.{IsDeadFairAt, IsShown}
use Rattle.line_evidence.proofs.shown.are_supported.Given as goal

-- what the marks so far say is shown
abbrev pub invariant-loop-place : goal.invariant-loop-place
invariant-loop-place g l = record {
  state : length (bits_of l.at.state) ≡ width_of l.functions;
  known : Knows l.functions l.at.known;
  shown : (k : ℕ) (bits : List Bool) (mark : LineMark) → k < l.place → slice_get (g.L.StateListing.states l.listing) k ≡ Some bits → slice_get (marks_in l.marked.marks.items) k ≡ Some mark
      → IsShown (several_of l.functions) (landmarks_of l.marked.landmarks) bits mark;
  dead_fair : (k : ℕ) (mark : LineMark) → k < l.place → slice_get (marks_in l.marked.marks.items) k ≡ Some mark → IsDeadFairAt l.fairness.items mark;
}
