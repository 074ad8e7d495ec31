-- Parts of the limits of a text.
use Rattle.std.specs.Prelude.{ℕ, Bool, not, List}
use Rattle.std.specs.List.{list_all}
use Rattle.lower_bounds.specs.TableFunctions.{is_among}

-- none of the numbers is one of the atoms
abbrev pub are_others : (atoms numbers : List ℕ) → Bool
are_others atoms numbers = list_all (λ number. not (is_among atoms number)) numbers
