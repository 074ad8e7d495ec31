use Rattle.std.proofs.Common.{◌≡◌, ℕ, ◌+◌, ◌-◌, length}
use Rattle.symmetries.specs.PlacesByObject.{row_of}
use Rattle.symmetries.proofs.places.PlacesByObject.grow.Given as goal

-- only empty rows are added
abbrev pub invariant-rows : goal.invariant-rows
invariant-rows l = (o : ℕ) → row_of l.self o ≡ row_of l.initial.self o

abbrev pub decreases-rows : goal.decreases-rows
decreases-rows l = l.object.0 + 1 - length l.self.rows.items
