use Rattle.std.proofs.Common.{◌≡◌, true, map, take}
use Rattle.std.specs.List.{list_all}
use Rattle.task.specs.TaskParts.{atom_of}
use Rattle.symmetries.specs.Exchange.{image}
use Rattle.symmetries.specs.Numbers.{exchanged_below}
use Rattle.symmetries.proofs.NumberLemmas.{is_kept}
use Rattle.symmetries.proofs.numbers.exchanged_numbers.Given as goal

-- the pairs of the numbers so far are there, and the images of their atoms are numbered
abbrev pub invariant-loop-number : goal.invariant-loop-number
invariant-loop-number l =
    (l.pairs.items ≡ exchanged_below (map atom_of l.atoms.keys) (image l.exchange) l.number)
    × (list_all (is_kept (map atom_of l.atoms.keys) (image l.exchange)) (take l.number (map atom_of l.atoms.keys)) ≡ true)
