-- The refusal of a text: its number and its place.
use Rattle.std.specs.Prelude.{ℕ}

-- byte offsets from 0, the end not included
pub record Span : Type 0 where
  pub start : ℕ
  pub end : ℕ

-- a refusal: its number, and its place
pub record Fault : Type 0 where
  pub code : ℕ
  pub span : Span
