-- The buffered bytes of a reader.
use Rattle.std.specs.Prelude.{◌≡◌, ℕ, List, drop, Option}
use Rattle.std.specs.Io.KnownBytes.{Keeps}
use Rattle.certificate_reader.specs.declared.waiting.Waiting.{Waiting}

abbrev pub waiting_of : Waiting → List ℕ
waiting_of waiting = drop waiting.start waiting.held.items

-- nothing was read from the source, and the buffer is unchanged
abbrev pub IsKept : (before after : Option (List ℕ)) → (old new : List ℕ) → Type 0
IsKept before after old new = Keeps before after × (new ≡ old)
