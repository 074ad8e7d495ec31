-- Where a line ends.
use Rattle.std.specs.Prelude.{ℕ, ◌==◌, Bool}

-- the byte is LF
abbrev pub is_end : ℕ → Bool
is_end byte = byte == 10
