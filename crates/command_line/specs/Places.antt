-- Where on the command line a stream is named.
use Rattle.std.specs.Prelude.{ℕ}
use Rattle.command_line.specs.declared.streams.Places.{Places}
use Rattle.command_line.specs.declared.streams.Places.TheVariants.{Nowhere, Once, Twice}

-- how many places are noted, two at most
abbrev pub noted : Places → ℕ
noted Nowhere = 0
noted (Once place) = 1
noted (Twice first second) = 2
