-- State lines as costs, roles and sets of numbers.
use Rattle.std.specs.Prelude.{ℕ, Bool, List, [], ◌∷◌, length}
use Rattle.std.specs.List.{filter, range_with_len}
use Rattle.packed_state.specs.Sets.{has}
use Rattle.certificate_definitions.specs.Evidence.{LineMark}
use Rattle.certificate_definitions.specs.Certificates.{StateLine}

-- the numbers in the set, in ascending order
abbrev pub numbers_of : List Bool → List ℕ
numbers_of set = filter (has set) (range_with_len 0 (length set))

-- a line's cost and role
pub record Marked : Type 0 where
  pub cost : ℕ
  pub mark : LineMark

abbrev pub marked : StateLine → Marked
marked l = record { cost = l.cost; mark = l.mark }

-- the line with this cost and role that lists this set
abbrev pub line_with : Marked → List Bool → StateLine
line_with mark set = record { cost = mark.cost; mark = mark.mark; atoms = numbers_of set }

-- the state lines for these marks and sets, taken in pairs; the longer list is cut off
abbrev pub lines_with : List Marked → List (List Bool) → List StateLine
lines_with [] sets = []
lines_with (mark ∷ marks) [] = []
lines_with (mark ∷ marks) (set ∷ sets) = line_with mark set ∷ lines_with marks sets
