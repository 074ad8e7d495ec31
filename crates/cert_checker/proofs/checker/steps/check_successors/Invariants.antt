use Rattle.std.proofs.Common.{map, take}
use Rattle.packed_state.specs.Packed.{bits_of}
use Rattle.cert_checker.specs.PackedListing.{task_at, atoms_at, certificate_at, IsPacked}
use Rattle.cert_checker.proofs.CertCheckerLemmas.{AllListed}
use Rattle.cert_checker.proofs.GroundSuccessors.{leads_by}
use Rattle.cert_checker.proofs.checker.steps.check_successors.Given as goal

-- the successors so far are listed, at no more than the expanded state's cost and that of the instance
abbrev pub invariant-loop-number : goal.invariant-loop-number
invariant-loop-number l = record {
  next : IsPacked l.listing l.next;
  listed : AllListed (task_at l.listing) (certificate_at l.listing) l.cost (map (leads_by (task_at l.listing) (atoms_at l.listing) (bits_of l.state)) (take l.number-index l.numbers));
}
