-- Two lists whose items are related place by place.
use Rattle.std.specs.Prelude.{◌≡◌, ℕ, List, length, slice_get, Some}

pub record AreInPlace {X Y : Type 0} (belongs : X → Y → Type 0) (xs : List X) (ys : List Y) : Type 0 where
  pub as_long : length xs ≡ length ys
  pub each : (n : ℕ) (x : X) (y : Y) → slice_get xs n ≡ Some x → slice_get ys n ≡ Some y → belongs x y
