-- Faults of a text, in the model's terms.
use Rattle.std.specs.Prelude.{Option, None, Some}
use Rattle.faults.specs.declared.refused.TextRefusal.{TextRefusal}
use Rattle.faults.specs.declared.refused.Refused.{Refused}
use Rattle.faults.specs.declared.refused.Refused.TheVariants.{At, NoMemory}
use Rattle.faults.specs.Fault.{number_of}
use Rattle.model.specs.Fault as reported

-- the fault that a refusal reports
abbrev pub refusal_of : TextRefusal → reported.Fault
refusal_of r = record { code = number_of r.code; span = record { start = r.span.start; end = r.span.end } }

abbrev pub Fault : Type 0
Fault = Refused TextRefusal

-- the fault that is reported for the text; `None` for running out of memory
abbrev pub reported_by : Fault → Option reported.Fault
reported_by (At r) = Some (refusal_of r)
reported_by NoMemory = None
