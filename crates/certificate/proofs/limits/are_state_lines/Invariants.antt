use Rattle.std.proofs.Common.{◌≡◌, drop, map}
use Rattle.std.specs.List.{list_all}
use Rattle.certificate_definitions.specs.Certificates.{is_state_line}
use Rattle.certificate_reader.specs.Lines.{line_of, version_of}
use Rattle.certificate.proofs.limits.are_state_lines.Given as goal

-- the remaining lines decide
abbrev pub invariant-loop-line : goal.invariant-loop-line
invariant-loop-line l =
    list_all (is_state_line (version_of l.version) l.atom_count) (map line_of l.lines) ≡ list_all (is_state_line (version_of l.version) l.atom_count) (map line_of (drop l.line-index l.lines))
