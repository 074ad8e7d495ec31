-- Progress reports: which lines a sink took between two points in time.
use Rattle.std.specs.Prelude.{ℕ, Bool, List, Option}
use Rattle.devices.specs.Devices.{IsWritten}

-- a sink at a point in time: how often it failed, and what it took, if that is known
pub record Stream : Type 0 where
  pub failures : ℕ
  pub taken : Option (List ℕ)

abbrev pub stream : (failures : ℕ) → Option (List ℕ) → Stream
stream failures taken = record { failures = failures; taken = taken }

-- Between two points in time a sink took only such lines, one after another: each whole, or a prefix of it if the sink counted a
-- failure or may run out of memory.
pub data AreSaid (IsLine : List ℕ → Type 0) (may_lack_memory : Bool) (before : Stream) : Stream → Type 0 where
  nothing : AreSaid IsLine may_lack_memory before before
  one_more : (now after : Stream) (line : List ℕ) → AreSaid IsLine may_lack_memory before now → IsLine line
      → IsWritten may_lack_memory now.failures after.failures now.taken after.taken line → AreSaid IsLine may_lack_memory before after

-- Whatever was reported before, only such lines were reported since.
abbrev pub MayContinue : (IsLine : List ℕ → Type 0) → Bool → (failures : ℕ) (taken : Option (List ℕ)) (failures_after : ℕ) (taken_after : Option (List ℕ)) → Type 0
MayContinue IsLine may_lack_memory failures taken failures_after taken_after =
    (origin : Stream) → AreSaid IsLine may_lack_memory origin (stream failures taken) → AreSaid IsLine may_lack_memory origin (stream failures_after taken_after)
