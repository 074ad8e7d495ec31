use Rattle.std.proofs.Common.{sym, subst}
use Rattle.certificate_reader.specs.Parts.{part_of}
use Rattle.cert_checker.specs.Tabled.{IsFitPart, IsFitRow}
use Rattle.cert_checker.proofs.part_lines.take_part.Goals as goal

pub take_scope-requires : goal.take_scope-requires
take_scope-requires c = record { fit = subst (λ p. IsFitPart c.args.evidence.now (part_of p)) c.in-Table.is c.requires.fit }

pub take_row-requires : goal.take_row-requires
take_row-requires c = record {
  fit = subst (IsFitRow c.args.evidence.now.tables.items) (λ i. record { atoms = sym c.deref.ensures.value i; weights = sym c.deref-in-Row.ensures.value i })
      (subst (λ p. IsFitPart c.args.evidence.now (part_of p)) c.in-Row.is c.requires.fit);
}
