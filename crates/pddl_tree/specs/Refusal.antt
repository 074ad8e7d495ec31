-- What a refusal reports: a number and the index of a word.
use Rattle.std.specs.Prelude.{ℕ, List, Option, None, Some}
use Rattle.faults.specs.declared.refused.Refused.{Refused}
use Rattle.faults.specs.declared.refused.Refused.TheVariants.{At, NoMemory}
use Rattle.pddl_tree.specs.declared.word_fault.WordRefusal.{WordRefusal}
use Rattle.faults.specs.Fault.{number_of}
use Rattle.model.specs.Fault as fault
use Rattle.model.specs.Words.{Word}
use Rattle.model.specs.Refusals.{span_of_place}

abbrev pub WordFault : Type 0
WordFault = Refused WordRefusal

abbrev pub reported : WordFault → Option (ℕ × ℕ)
reported (At r) = Some (number_of r.code, r.at)
reported NoMemory = None

-- what is reported for these words
abbrev pub fault_of : List Word → Option (ℕ × ℕ) → Option fault.Fault
fault_of words (Some place) = Some (record { code = place.0; span = span_of_place words place.1 })
fault_of words None = None
