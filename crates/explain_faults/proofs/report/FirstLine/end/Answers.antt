use Rattle.explain_faults.proofs.report.FirstLine.end.Goals as goal

pub returns : goal.returns
returns c = rw (c.number-number.ensures, c.name-code.ensures) at c.format.ensures.ok
