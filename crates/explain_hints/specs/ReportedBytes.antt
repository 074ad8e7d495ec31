-- The bytes that a fault is reported for.
use Rattle.std.specs.Prelude.{ℕ, List, length, min, slice_range}

-- the bytes that a fault is reported for, clipped to the text
abbrev pub reported_in : (text : List ℕ) (start end : ℕ) → List ℕ
reported_in text start end = slice_range text (min start (min end (length text))) (min end (length text))
