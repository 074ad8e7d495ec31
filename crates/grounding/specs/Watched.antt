-- Atoms that literals need to be true.
use Rattle.std.specs.Prelude.{◌≡◌, ◌⊎◌, ℕ, ◌<◌, Bool, true, false, List, Option, Some, get_or}
use Rattle.std.specs.List.{list_all}
use Rattle.model.specs.NumberedLiterals.{NumberedLiteral, agrees}

-- the literals hold in no state in which the atom is false
abbrev pub IsRequired : List NumberedLiteral → ℕ → Type 0
IsRequired literals a = (bits : List Bool) → get_or bits a false ≡ false → list_all (agrees bits) literals ≡ false

-- the same of an atom below the width
abbrev pub IsWatchable : ℕ → List NumberedLiteral → ℕ → Type 0
IsWatchable width literals a = (a < width) × IsRequired literals a

-- the answer is the other one, or the atom of the literal, which needs it
abbrev pub IsEither : Option ℕ → NumberedLiteral → Option ℕ → Type 0
IsEither other l answer = (answer ≡ other) ⊎ ((l.value ≡ true) × (answer ≡ Some l.atom))
