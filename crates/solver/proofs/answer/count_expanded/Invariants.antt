use Rattle.std.proofs.Common.{◌≡◌, map, take}
use Rattle.std.specs.Prelude.{count_by}
use Rattle.certificate.specs.CertificateParts.{listed_of}
use Rattle.solver.specs.Said.{is_marked_expanded}
use Rattle.solver.proofs.answer.count_expanded.Given as goal

abbrev pub invariant-loop-listed : goal.invariant-loop-listed
invariant-loop-listed l = l.count ≡ count_by is_marked_expanded (map listed_of (take l.listed-index l.marks))
