-- The code's parts of a certificate's text, in the model's terms, and the result of parsing and of counting one.
use Rattle.std.specs.Prelude.{◌≡◌, ℕ, false, List, map, Result, Ok, Err, IsTrue}
use Rattle.lower_bounds.specs.LandmarkLines.{zone, value}
use Rattle.landmark_zones.specs.Landmarks.{share_of}
use Rattle.certificate_definitions.specs.Parts as parts
use Rattle.certificate_definitions.specs.Parts.{Format, Part, tabled, landmark_line, scope, row, may_follow, has_room, counted}
use Rattle.certificate_reader.specs.declared.part_line.PartLine.{PartLine}
use Rattle.certificate_reader.specs.declared.part_line.PartLine.TheVariants.{Table, Row, Zone, Landmark}
use Rattle.certificate_reader.specs.declared.part_line.PartCounts.{PartCounts}
use Rattle.certificate_reader.specs.declared.fault.NextFault.{NextFault}
use Rattle.certificate_reader.specs.declared.fault.NextFault.TheVariants.{Text, NoMemory}
use Rattle.certificate_reader.specs.declared.fault.TextFault.{TextFault}
use Rattle.certificate_reader.specs.declared.fault.TextFault.TheVariants.{Form, Limit}
use Rattle.certificate_reader.specs.PartWords.{IsPartReadAs}

abbrev pub part_of : PartLine → Part
part_of (Table atoms) = tabled (scope atoms.items)
part_of (Row weights atoms) = tabled (row (record { weights = weights.items; atoms = atoms.items }))
part_of (Zone atoms negated) = landmark_line (zone (record { atoms = atoms.items; negated = negated.items }))
part_of (Landmark shares) = landmark_line (value (map share_of shares.items))

abbrev pub counts_of : PartCounts → parts.PartCounts
counts_of c = record { tables = c.tables; rows = c.rows; zones = c.zones; literals = c.literals; values = c.values; shares = c.shares }

-- the bytes, this word, a blank and these, are the returned part, in a text of this format; or they are no part
abbrev pub IsPartParsed : (word rest : List ℕ) → Format → Result PartLine NextFault → Type 0
IsPartParsed word rest f (Ok p) = IsPartReadAs word rest f (part_of p)
IsPartParsed word rest f (Err (Text Form)) = (p : Part) → IsPartReadAs word rest f p → ⊥
IsPartParsed word rest f (Err NoMemory) = Unit {0}
IsPartParsed word rest f _ = ⊥

-- the counts with this part; or there is no room for it, or it is not at its place
abbrev pub IsCounted : parts.PartCounts → Part → Result PartCounts TextFault → Type 0
IsCounted c p (Ok next) = IsTrue (may_follow c p) × IsTrue (has_room c p) × (counts_of next ≡ counted c p)
IsCounted c p (Err Limit) = IsTrue (may_follow c p) × (has_room c p ≡ false)
IsCounted c p (Err Form) = may_follow c p ≡ false
IsCounted c p _ = ⊥
