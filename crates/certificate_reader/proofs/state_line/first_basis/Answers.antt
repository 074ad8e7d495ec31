use Rattle.std.proofs.Common.{ap, sym, ◌∙◌}
use Rattle.certificate_reader.specs.Lines.{version_of}
use Rattle.certificate_reader.specs.Words.{text_in}
use Rattle.certificate_reader.proofs.LinesRead.{is_basis_first, no_basis_alone, no_basis_number, no_landmarks}
use Rattle.certificate_reader.proofs.state_line.first_basis.Goals as goal

pub returns-then-not-has_landmarks-clause-none : goal.returns-then-not-has_landmarks-clause-none
returns-then-not-has_landmarks-clause-none c = no_landmarks c.args.bytes.now (version_of c.args.version) (sym c.has_landmarks.ensures ∙ c.if-not-has_landmarks.true)

pub returns-in_default-clause-none : goal.returns-in_default-clause-none
returns-in_default-clause-none c = no_basis_number c.args.bytes.now (version_of c.args.version) _ _ c.first_word.ensures c.in_default.ensures.none

pub returns-in_default-following-clause-none : goal.returns-in_default-following-clause-none
returns-in_default-following-clause-none c = no_basis_alone c.args.bytes.now (version_of c.args.version) _ _ c.first_word.ensures (ap text_in c.in_default-following.is)

pub returns-clause-some : goal.returns-clause-some
returns-clause-some c =
    let value = c.in-Some.ensures.some in
    is_basis_first c.args.bytes.now (version_of c.args.version) _ _ c.first_word.ensures (sym c.has_landmarks.ensures ∙ c.if-not-has_landmarks.false) c.in-Some.value value.2 value.0
    c.in-Some-following.rest.now (ap text_in c.in-Some-following.is)
