-- Lines and columns of a text. A line ends before a line feed, or where the text ends.
use Rattle.std.specs.Prelude.{◌≡◌, ℕ, ◌+◌, ◌<◌, ◌≤◌, ◌⊎◌, Bool, ◌==◌, List, length, take, reverse, slice_index}
use Rattle.std.specs.List.{count_by, position_or_len}
use Rattle.faults.specs.declared.refused.Span.{Span}
use Rattle.explain_hints.specs.declared.place.LineColumn.{LineColumn}

-- whether a byte ends a line
abbrev pub is_line_feed : ℕ → Bool
is_line_feed byte = byte == 10

-- the number of lines that end in these bytes
abbrev pub lines_ended : List ℕ → ℕ
lines_ended bytes = count_by is_line_feed bytes

-- the number of bytes after the last line feed, or all bytes if there is none
abbrev pub bytes_since : List ℕ → ℕ
bytes_since bytes = position_or_len is_line_feed (reverse bytes)

-- The line of an offset is one more than the number of lines that end before it, the column one more than the number of bytes
-- from the beginning of its line. An offset past the end counts as the end.
pub record IsPlace (text : List ℕ) (offset : ℕ) (place : LineColumn) : Type 0 where
  pub line : place.line ≡ lines_ended (take offset text) + 1
  pub column : place.column ≡ bytes_since (take offset text) + 1

-- the bytes between two offsets are within the text and contain no line feed
pub record IsWithinLine (text : List ℕ) (start end : ℕ) : Type 0 where
  pub order : start ≤ end
  pub within : end ≤ length text
  pub no_end : (k : ℕ) → start ≤ k → k < end → slice_index text k ≡ 10 → ⊥

-- a line begins at the offset: it is the first of the text, or follows a line feed
abbrev pub BeginsLine : List ℕ → ℕ → Type 0
BeginsLine text start = (start ≡ 0) ⊎ ((before : ℕ) × (start ≡ before + 1) × (slice_index text before ≡ 10))

-- a line ends before the offset: it is the last of the text, or a line feed is there
abbrev pub EndsLine : List ℕ → ℕ → Type 0
EndsLine text end = (end ≡ length text) ⊎ (slice_index text end ≡ 10)

-- the whole line that contains the offset, or whose line feed is at the offset
pub record IsLineAt (text : List ℕ) (offset : ℕ) (line : Span) : Type 0 where
  pub before : IsWithinLine text line.start offset
  pub after : IsWithinLine text offset line.end
  pub begins : BeginsLine text line.start
  pub ends : EndsLine text line.end
