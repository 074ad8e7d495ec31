use Rattle.std.proofs.Common.{codes, refl, sym, subst}
use Rattle.certificate_definitions.specs.CertificateText.{listed}
use Rattle.certificate_reader.specs.Lines.{mark_of, version_of}
use Rattle.certificate_reader.specs.Stages.{format_of}
use Rattle.certificate_reader.specs.Words.{IsCut, IsReadAs}
use Rattle.certificate_reader.proofs.LinesRead.{cut_by_is_read, no_cut_by, one_basis}
use Rattle.certificate_reader.proofs.ParseLemmas.{malformed}
use Rattle.certificate_reader.proofs.state_line.cut_by_line.Goals as goal

pub returns-in_default : goal.returns-in_default
returns-in_default c =
    malformed (codes "cut-by") c.args.rest.now (format_of c.args.format) refl
    (no_cut_by c.args.rest.now (format_of c.args.format) (λ number cost least atoms bytes by is. c.in_default.ensures.none number bytes by))

pub returns-in-Some-2 : goal.returns-in-Some-2
returns-in-Some-2 c =
    let line = c.in-Some-2.line in
    let (least, marked, is) = rw c.in-Some-2.is at c.in_ok-line.ensures.some in
    subst (λ mark. IsReadAs (codes "cut-by") c.args.rest.now (format_of c.args.format) (listed (record { cost = line.cost; mark = mark_of mark; atoms = line.atoms.items }))) (sym marked)
    (cut_by_is_read c.args.rest.now (format_of c.args.format) c.in-Some.value c.in-Some.following.now c.in-Some.ensures.some line.cost least line.atoms.items is)

pub returns-in-None : goal.returns-in-None
returns-in-None c =
    let never = rw c.in-None.is at c.in_ok-line.ensures.none in
    malformed (codes "cut-by") c.args.rest.now (format_of c.args.format) refl
    (no_cut_by c.args.rest.now (format_of c.args.format) (λ number cost least atoms bytes by is.
    let same = (one_basis c.args.rest.now (version_of c.args.format.version) number c.in-Some.value bytes c.in-Some.following.now by c.in-Some.ensures.some).1 in
    never cost least atoms (subst (λ bytes. IsCut bytes c.args.format.atoms cost least atoms) same is)))
