use Rattle.std.proofs.Common.{codes, refl, subst}
use Rattle.certificate_reader.specs.Lines.{version_of}
use Rattle.certificate_reader.specs.Stages.{format_of}
use Rattle.certificate_reader.specs.Words.{IsNumbered}
use Rattle.certificate_reader.proofs.LinesRead.{dead_by_is_read, no_dead_by, one_basis}
use Rattle.certificate_reader.proofs.ParseLemmas.{malformed}
use Rattle.certificate_reader.proofs.state_line.dead_by_line.Goals as goal

pub returns-in_default : goal.returns-in_default
returns-in_default c =
    malformed (codes "dead-by") c.args.rest.now (format_of c.args.format) refl
    (no_dead_by c.args.rest.now (format_of c.args.format) (λ number cost atoms bytes by is. c.in_default.ensures.none number bytes by))

pub returns-in-Some-2 : goal.returns-in-Some-2
returns-in-Some-2 c =
    let read = rw c.in-Some-2.is at c.in_ok-cost.ensures.some in
    dead_by_is_read c.args.rest.now (format_of c.args.format) c.in-Some.value c.in-Some.following.now c.in-Some.ensures.some c.in-Some-2.cost c.in-Some-2.atoms.items read

pub returns-in-None : goal.returns-in-None
returns-in-None c =
    let never = rw c.in-None.is at c.in_ok-cost.ensures.none in
    malformed (codes "dead-by") c.args.rest.now (format_of c.args.format) refl
    (no_dead_by c.args.rest.now (format_of c.args.format) (λ number cost atoms bytes by is.
    let same = (one_basis c.args.rest.now (version_of c.args.format.version) number c.in-Some.value bytes c.in-Some.following.now by c.in-Some.ensures.some).1 in
    never cost atoms (subst (λ bytes. IsNumbered bytes c.args.format.atoms cost atoms) same is)))
