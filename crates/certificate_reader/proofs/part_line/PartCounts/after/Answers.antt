use Rattle.std.proofs.Common.{ap, sym, subst}
use Rattle.certificate_reader.specs.Parts.{IsCounted, counts_of, part_of}
use Rattle.certificate_reader.proofs.part_line.PartCounts.after.Goals as goal

pub returns-in-Table : goal.returns-in-Table
returns-in-Table c = subst (λ p. IsCounted (counts_of c.args.self) p c.after_table.result) (sym (ap part_of c.in-Table.is)) (c.after_table.ensures c.in-Table.scope.items)

pub returns-in-Row : goal.returns-in-Row
returns-in-Row c =
    subst (λ p. IsCounted (counts_of c.args.self) p c.after_row.result) (sym (ap part_of c.in-Row.is))
    (c.after_row.ensures (record { atoms = c.in-Row.atoms.items; weights = c.in-Row.weights.items }))
