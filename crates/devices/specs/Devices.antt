-- How calls of a device change its count of failures.
use Rattle.std.specs.Prelude.{◌≡◌, ◌⊎◌, ℕ, Bool, IsTrue, ◌+◌, ◌-◌, ◌^◌, ◌<◌, ◌≤◌, min, List, ◌++◌, length, Option, None, Some, Result, Ok, Err}
use Rattle.std.specs.Io.KnownBytes.{Appends, Consumes, IsAtEnd}
use Rattle.devices.specs.declared.device.IoFault.{IoFault}
use Rattle.devices.specs.declared.device.IoFault.TheVariants.{Device, NoMemory}

-- a count of failures, increased by one, saturating at the last value of 64 bits
abbrev pub one_more : ℕ → ℕ
one_more count = min (count + 1) (2 ^ 64 - 1)

-- A call that fails counts as one failure, any other call as none.
abbrev pub Counts : {T E : Type 0} → ℕ → ℕ → Result T E → Type 0
Counts before after (Ok value) = after ≡ before
Counts before after (Err fault) = after ≡ one_more before

-- A call in which the device fails counts as one failure; running out of memory does not.
abbrev pub CountsDevice : {T : Type 0} → ℕ → ℕ → Result T IoFault → Type 0
CountsDevice before after (Ok value) = after ≡ before
CountsDevice before after (Err Device) = after ≡ one_more before
CountsDevice before after (Err NoMemory) = after ≡ before

-- known bytes grow by a prefix of these
abbrev pub AppendsBeginning : Option (List ℕ) → Option (List ℕ) → List ℕ → Type 0
AppendsBeginning before after bytes = (front rest : List ℕ) × (bytes ≡ front ++ rest) × Appends before after front

-- Bytes were written to a sink: known bytes grow by all of these; or by a prefix of them, and the sink counted a failure, or may
-- run out of memory.
abbrev pub IsWritten : (may_lack_memory : Bool) → (failures failures_after : ℕ) → (before after : Option (List ℕ)) → List ℕ → Type 0
IsWritten may_lack_memory failures failures_after before after bytes =
    AppendsBeginning before after bytes
    × (Appends before after bytes ⊎ ((failures_after ≡ one_more failures) ⊎ IsTrue may_lack_memory))

-- what is known stays known
abbrev pub IsKept : Option (List ℕ) → Option (List ℕ) → Type 0
IsKept None after = Unit {0}
IsKept (Some bytes) after = after ≡ Some bytes

-- the bytes read from a source: all that it had, or as many as the limit
pub record IsReading (limit : ℕ) (before after : Option (List ℕ)) (bytes : List ℕ) : Type 0 where
  pub consumed : Consumes before after bytes
  pub within : length bytes ≤ limit
  pub whole : length bytes < limit → IsAtEnd after

-- One read into a buffer gave this many bytes, which are appended to what was read before.
pub record ReadsSome (room count : ℕ) (before after : Option (List ℕ)) (old new : List ℕ) : Type 0 where
  pub bytes : List ℕ
  pub appended : new ≡ old ++ bytes
  pub consumed : Consumes before after bytes
  pub counted : length bytes ≡ count
  pub within : count ≤ room
  pub ended : count ≡ 0 → 0 < room → IsAtEnd after
