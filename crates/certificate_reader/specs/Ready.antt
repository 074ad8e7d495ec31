-- What is buffered in a reader: a line, an overlong line, or neither.
use Rattle.std.specs.Prelude.{◌≡◌, ◌≢◌, ℕ, ◌<◌, ◌≤◌, Bool, false, true, ◌||◌, nat_lt, List, [], ◌∷◌, ◌++◌, length, is_some, Option, None, Some}
use Rattle.std.specs.List.{position, position_or_len}
use Rattle.std.specs.Io.KnownBytes.{Consumes, IsAtEnd}
use Rattle.certificate_definitions.specs.CertificateText.{longest_line}
use Rattle.certificate_definitions.specs.CertificateMachine.{CertificatePlace, at_version, at_claim, at_constant, in_body, ended}
use Rattle.certificate_reader.specs.declared.ready.Ready.{Ready}
use Rattle.certificate_reader.specs.declared.ready.Ready.TheVariants.{Line, TooLong, End}
use Rattle.certificate_reader.specs.Ends.{is_end}

-- a line is buffered, or more bytes than a line may have
abbrev pub is_ready : List ℕ → Bool
is_ready bytes = is_some (position is_end bytes) || nat_lt longest_line (length bytes)

-- the next result is determined by these bytes: they have a line or an overlong one, or after the last line any byte
abbrev pub come_at : CertificatePlace → List ℕ → Bool
come_at at_version bytes = is_ready bytes
come_at (at_claim v) bytes = is_ready bytes
come_at (at_constant v) bytes = is_ready bytes
come_at (in_body b) bytes = is_ready bytes
come_at ended [] = false
come_at ended (byte ∷ bytes) = true

-- What is reported for bytes, after which this remains of the source.
abbrev pub IsReady : List ℕ → Option (List ℕ) → Ready → Type 0
IsReady bytes remaining (Line end) = (position is_end bytes ≡ Some end) × (end ≤ longest_line)
IsReady bytes remaining TooLong = longest_line < position_or_len is_end bytes
IsReady bytes remaining End = (position is_end bytes ≡ None) × (length bytes ≤ longest_line) × IsAtEnd remaining

-- the buffered line, the overlong line, or neither
abbrev pub IsLineIn : List ℕ → Option Ready → Type 0
IsLineIn bytes (Some (Line end)) = (position is_end bytes ≡ Some end) × (end ≤ longest_line)
IsLineIn bytes (Some TooLong) = longest_line < position_or_len is_end bytes
IsLineIn bytes (Some End) = ⊥
IsLineIn bytes None = (position is_end bytes ≡ None) × (length bytes ≤ longest_line)

-- A source was read only until this held: it did not hold for the bytes buffered and read before the last piece, which is at most
-- as long as a single read.
abbrev pub IsPrompt : (has_come : List ℕ → Bool) → (waited came : List ℕ) → Type 0
IsPrompt has_come waited came = came ≢ [] → (earlier piece : List ℕ) × (came ≡ earlier ++ piece) × (length piece ≤ 65536) × (has_come (waited ++ earlier) ≡ false)

-- bytes were read from a source, no more than needed, and appended to the buffer
pub record IsGrown (before after : Option (List ℕ)) (old new : List ℕ) : Type 0 where
  pub bytes : List ℕ
  pub appended : new ≡ old ++ bytes
  pub consumed : Consumes before after bytes
  pub prompt : IsPrompt is_ready old bytes

-- The device failed before a line was complete.
pub record IsUnready (before after : Option (List ℕ)) (old new : List ℕ) : Type 0 where
  pub grown : IsGrown before after old new
  pub unready : is_ready new ≡ false
