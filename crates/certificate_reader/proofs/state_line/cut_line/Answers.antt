use Rattle.std.proofs.Common.{codes, refl, sym, subst}
use Rattle.certificate_definitions.specs.CertificateText.{listed}
use Rattle.certificate_reader.specs.Lines.{mark_of}
use Rattle.certificate_reader.specs.Stages.{format_of}
use Rattle.certificate_reader.specs.Words.{IsReadAs}
use Rattle.certificate_reader.proofs.LinesRead.{cut_is_read, no_cut}
use Rattle.certificate_reader.proofs.ParseLemmas.{malformed}
use Rattle.certificate_reader.proofs.state_line.cut_line.Goals as goal

pub returns-in-Some : goal.returns-in-Some
returns-in-Some c =
    let line = c.in-Some.line in
    let (least, marked, is) = rw c.in-Some.is at c.in_ok-line.ensures.some in
    subst (λ mark. IsReadAs (codes "cut") c.args.rest.now (format_of c.args.format) (listed (record { cost = line.cost; mark = mark_of mark; atoms = line.atoms.items }))) (sym marked)
    (cut_is_read c.args.rest.now (format_of c.args.format) line.cost least line.atoms.items is)

pub returns-in-None : goal.returns-in-None
returns-in-None c =
    let never = rw c.in-None.is at c.in_ok-line.ensures.none in
    malformed (codes "cut") c.args.rest.now (format_of c.args.format) refl (no_cut c.args.rest.now (format_of c.args.format) never)
