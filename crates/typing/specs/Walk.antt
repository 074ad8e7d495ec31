-- The faults found by walks over the trees, in the model's terms.
use Rattle.std.specs.Prelude.{◌≡◌, nat_lt, List, [], ◌∷◌, ◌++◌, fold, length, map, Option, None, Some, if◌then◌else◌}
use Rattle.std.specs.Option.{option_map}
use Rattle.faults.specs.declared.refused.Refused.TheVariants.{At, NoMemory}
use Rattle.typing.specs.declared.walk.FoundFaults.{FoundFaults}
use Rattle.typing.specs.declared.walk.Walk.{Walk}
use Rattle.typing.specs.Refusals.{PairFault, refusal_of}
use Rattle.model.specs.Typing as typing

-- what was found: the least fault, and the first ones, up to the limit, in the order in which they were found
pub record Findings : Type 0 where
  pub least : Option typing.TypingFault
  pub listed : List typing.TypingFault

abbrev pub nothing : Findings
nothing = record { least = None; listed = [] }

abbrev pub found_in : FoundFaults → Findings
found_in f = record { least = option_map refusal_of f.least; listed = map refusal_of f.listed.items }

abbrev pub found_by : Walk → Findings
found_by w = found_in w.found

-- the lesser of the fault found before and this one
abbrev pub earlier : Option typing.TypingFault → typing.TypingFault → Option typing.TypingFault
earlier None f = Some f
earlier (Some least) f = if typing.is_before f least then Some f else Some least

-- one more fault is listed, if the limit is not reached
abbrev pub with_listed : List typing.TypingFault → typing.TypingFault → List typing.TypingFault
with_listed listed f = if nat_lt (length listed) 1000 then listed ++ f ∷ [] else listed

-- what was found with one more fault, and with these
abbrev pub with_fault : Findings → typing.TypingFault → Findings
with_fault before f = record { least = earlier before.least f; listed = with_listed before.listed f }

abbrev pub found : Findings → List typing.TypingFault → Findings
found before faults = fold with_fault before faults

-- what was found is reported; nothing is stated for running out of memory
abbrev pub ReportsFound : Findings → PairFault → Type 0
ReportsFound found NoMemory = Unit {0}
ReportsFound found (At r) = (found.least ≡ Some (refusal_of r.first)) × (map refusal_of r.listed.items ≡ found.listed)

-- the walk has found these faults in addition
abbrev pub Finds : Walk → Walk → List typing.TypingFault → Type 0
Finds old new faults = found_by new ≡ found (found_by old) faults
