use Rattle.std.proofs.Common.{◌≡◌, drop, map}
use Rattle.std.specs.List.{list_all}
use Rattle.certificate_definitions.specs.Certificates.{StateLine, has_basis}
use Rattle.certificate_reader.specs.Lines.{line_of}
use Rattle.certificate.proofs.limits.have_bases.Given as goal

-- the remaining lines decide
abbrev pub invariant-loop-line : goal.invariant-loop-line
invariant-loop-line l =
    list_all (λ (k : StateLine). has_basis l.value_count k.mark) (map line_of l.lines) ≡ list_all (λ (k : StateLine). has_basis l.value_count k.mark) (map line_of (drop l.line-index l.lines))
