-- Counting named entities by number.
use Rattle.std.specs.Prelude.{◌≡◌, ℕ, ◌<◌, ◌≤◌, Bool, true, false, not, List, length, slice_get, Option, None, Some, is_some}
use Rattle.std.proofs.Common.{sym, ◌∙◌, ap, inl, inr, true≢false}
use Rattle.std.specs.Borrow.{Bor}
use Rattle.std.specs.Option.{option_copied, option_map}
use Rattle.std.proofs.lemmas.Option.{none-some, slice_get_cases}

module _ {X Y : Type 0} (f : X → Y) (xs : List X) (n : ℕ) where
  -- one more is there
  pub one_more : (o : Option (Bor Y)) (b : Bool) → option_copied o ≡ option_map f (slice_get xs n) → is_some o ≡ not b → b ≡ false → n < length xs
  one_more None b is reported not_so = absurd (true≢false (sym (reported ∙ ap not not_so)))
  one_more (Some r) b is reported not_so =
      elim (slice_get_cases xs n).1 [
        | inl found ↦ found.1
        | inr past ↦ absurd (none-some r.now (sym (is ∙ ap (option_map f) past.1)))
      ]

  -- there are no more
  pub no_more : (o : Option (Bor Y)) (b : Bool) → option_copied o ≡ option_map f (slice_get xs n) → is_some o ≡ not b → b ≡ true → length xs ≤ n
  no_more None b is reported so =
      elim (slice_get_cases xs n).1 [
        | inl found ↦ absurd (none-some (f found.0) (is ∙ ap (option_map f) found.2))
        | inr past ↦ past.0
      ]
  no_more (Some r) b is reported so = absurd (true≢false (reported ∙ ap not so))
