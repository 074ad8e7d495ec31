-- Lines that are added to others.
use Rattle.std.specs.Prelude.{◌≡◌, ℕ, List, ◌++◌}

abbrev pub AddsLines : (old new : List (List ℕ)) → Type 0
AddsLines old new = (more : List (List ℕ)) × (new ≡ old ++ more)
