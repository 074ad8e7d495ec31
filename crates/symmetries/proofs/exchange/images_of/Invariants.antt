use Rattle.std.proofs.Common.{◌≡◌, ℕ, ◌-◌, length, drop}
use Rattle.symmetries_definitions.specs.Exchanges.{image_of_object}
use Rattle.symmetries.specs.ObjectPairs.{image_in, pairs_in}
use Rattle.symmetries.proofs.exchange.images_of.Given as goal

-- the table has the images of the last pairs
abbrev pub invariant-loop-place : goal.invariant-loop-place
invariant-loop-place l = (o : ℕ) → image_in l.images.entries o ≡ image_of_object (pairs_in (drop (length l.pairs - l.place) l.pairs)) o
