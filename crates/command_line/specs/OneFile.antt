-- Whether two paths name one file, by what they say alone: no link is followed.
use Rattle.std.specs.Prelude.{ℕ, zero, suc, Bool, not, ◌||◌, ◌&&◌, if◌then◌else◌, List, [], ◌∷◌, replicate, reverse}
use Rattle.std.specs.Cmp.Lexicographic.{pointwise}
use Rattle.std.specs.Path.{cur_dir, parent_dir, root_dir, path_components}
use Rattle.std.specs.Str.{bytes_eq}
use Rattle.clap.specs.Walk.{Text}
use Rattle.command_line.specs.Streams.{is_stream}

-- the name is left out if this many `..`, one at least, follow it, and one of them with it; `before` has what comes before it
abbrev pub unless_left : Text → ℕ → (before : ℕ → List Text) → List Text
unless_left name zero before = name ∷ before zero
unless_left name (suc up) before = before up

-- The components, from the last to the first, of which this many `..` follow: a name is left out with a `..` that follows it, and so is each
-- `.`. What `..` are left stay, but not below the root.
abbrev pub leave_out : ℕ → List Text → List Text
leave_out up [] = replicate up parent_dir
leave_out up (part ∷ before) =
    if bytes_eq part root_dir then part ∷ []
    else (if bytes_eq part cur_dir then leave_out up before
    else (if bytes_eq part parent_dir then leave_out (suc up) before
    else unless_left part up (λ n. leave_out n before)))

-- what a path names: its components without `.`, and without `..` as far as names come before them, last first
abbrev pub lean : Text → List Text
lean path = leave_out 0 (reverse (path_components path))

-- both paths lead to one file
abbrev pub is_one_path : Text → Text → Bool
is_one_path one other = pointwise bytes_eq (lean one) (lean other)

-- both name one file, and neither a stream
abbrev pub is_one_file : Text → Text → Bool
is_one_file one other = not (is_stream one || is_stream other) && is_one_path one other
