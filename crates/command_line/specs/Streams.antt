-- The name of the standard input and of the standard output.
use Rattle.std.specs.Prelude.{ℕ, ◌+◌, Bool, if◌then◌else◌, List, [], ◌∷◌, codes}
use Rattle.std.specs.Str.{bytes_eq}
use Rattle.clap.specs.Walk.{Text}

-- A file that has this name itself is given as `./-`.
abbrev pub is_stream : Text → Bool
is_stream name = bytes_eq name (codes "-")

abbrev pub one_if : Bool → ℕ
one_if is = if is then 1 else 0

-- how many of the names are that of a stream
abbrev pub streams_in : List Text → ℕ
streams_in [] = 0
streams_in (name ∷ rest) = one_if (is_stream name) + streams_in rest
