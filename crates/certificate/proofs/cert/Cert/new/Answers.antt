use Rattle.std.proofs.Common.{length, map, refl, sym, ap, ◌∙◌, subst, arith}
use Rattle.std.specs.Prelude.{All, IsTrue}
use Rattle.std.proofs.lemmas.Bool.{false≢true, leb-true}
use Rattle.std.proofs.lemmas.List.{length-map}
use Rattle.task.specs.TaskParts.{atom_of}
use Rattle.certificate_definitions.specs.Certificates.{StateLine, keeps_limits, rise}
use Rattle.certificate_reader.specs.Lines.{line_of}
use Rattle.certificate.specs.CertificateParts.{certificate_with_lines}
use Rattle.certificate.proofs.LimitsLemmas.{limits_of, rising_lines}
use Rattle.certificate.proofs.cert.Cert.new.Goals as goal

pub returns-then-not-keeps_limits-clause-within : goal.returns-then-not-keeps_limits-clause-within
returns-then-not-keeps_limits-clause-within c =
    (λ none. absurd (false≢true none), λ both. absurd (false≢true (sym c.if-not-keeps_limits.true ∙ c.keeps_limits.ensures ∙ both.0)))

pub overflow_cast-len : goal.overflow_cast-len
overflow_cast-len c =
    let certificate = certificate_with_lines c.args.header (map line_of c.args.lines.now) in
    let few = leb-true (length certificate.atoms) 1048576 (limits_of certificate (sym c.keeps_limits.ensures ∙ c.if-not-keeps_limits.false)).few_atoms in
    omega (arith, few, c.len.ensures.len, length-map c.args.header.atoms.keys atom_of)

pub states_of-requires-clause-rising : goal.states_of-requires-clause-rising
states_of-requires-clause-rising c =
    let certificate = certificate_with_lines c.args.header (map line_of c.args.lines.now) in
    let limits = limits_of certificate (sym c.keeps_limits.ensures ∙ c.if-not-keeps_limits.false) in
    subst (λ count. All (λ (line : StateLine). IsTrue (rise count 0 line.atoms)) certificate.lines) (length-map c.args.header.atoms.keys atom_of ∙ sym c.len.ensures.len)
    (rising_lines certificate.version (length certificate.atoms) certificate.lines limits.states)

pub states_of-requires-clause-few : goal.states_of-requires-clause-few
states_of-requires-clause-few c =
    let certificate = certificate_with_lines c.args.header (map line_of c.args.lines.now) in
    let few = leb-true (length certificate.lines) 16777216 (limits_of certificate (sym c.keeps_limits.ensures ∙ c.if-not-keeps_limits.false)).few_states in
    omega (arith, few, length-map c.args.lines.now line_of)

pub from_parts-requires-clause-limits : goal.from_parts-requires-clause-limits
from_parts-requires-clause-limits c =
    subst (λ lines. IsTrue (keeps_limits (certificate_with_lines c.args.header lines))) (sym (rw c.in-Some.is at c.in_ok-states.ensures.lines))
    (sym c.keeps_limits.ensures ∙ c.if-not-keeps_limits.false)

pub from_parts-requires-clause-marked : goal.from_parts-requires-clause-marked
from_parts-requires-clause-marked c = rw c.in-Some.is at c.in_ok-states.ensures.marked

pub returns-in-Some-clause-within : goal.returns-in-Some-clause-within
returns-in-Some-clause-within c =
    (λ some. (sym c.keeps_limits.ensures ∙ c.if-not-keeps_limits.false, rw c.in-Some.is at c.in_ok-states.ensures.once), λ both. refl)

pub returns-in-Some-clause-parts : goal.returns-in-Some-clause-parts
returns-in-Some-clause-parts c =
    c.from_parts.ensures.certificate ∙ ap (certificate_with_lines c.args.header) (rw c.in-Some.is at c.in_ok-states.ensures.lines)

pub returns-in-None-clause-within : goal.returns-in-None-clause-within
returns-in-None-clause-within c =
    let twice = rw c.in-None.is at c.in_ok-states.ensures.twice in
    (λ none. absurd (false≢true none), λ both. absurd (twice both.1))
