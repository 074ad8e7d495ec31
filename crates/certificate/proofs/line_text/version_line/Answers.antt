use Rattle.std.proofs.Common.{ap, sym, ◌∙◌}
use Rattle.certificate_reader.specs.Lines.{version_of}
use Rattle.certificate_definitions.specs.CertificateText.{version, whole_line}
use Rattle.certificate.proofs.LineTextLemmas.{line_of_one, line_of_two, line_of_three, line_of_four}
use Rattle.certificate.proofs.line_text.version_line.Goals as goal

pub returns-in-One : goal.returns-in-One
returns-in-One c = line_of_one ∙ ap (λ v. whole_line (version (version_of v))) (sym c.in-One.is)

pub returns-in-Two : goal.returns-in-Two
returns-in-Two c = line_of_two ∙ ap (λ v. whole_line (version (version_of v))) (sym c.in-Two.is)

pub returns-in-Three : goal.returns-in-Three
returns-in-Three c = line_of_three ∙ ap (λ v. whole_line (version (version_of v))) (sym c.in-Three.is)

pub returns-in-Four : goal.returns-in-Four
returns-in-Four c = line_of_four ∙ ap (λ v. whole_line (version (version_of v))) (sym c.in-Four.is)
