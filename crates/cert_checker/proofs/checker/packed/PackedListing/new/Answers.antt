use Rattle.std.proofs.Common.{length}
use Rattle.grounding.specs.Ground.{atoms_in}
use Rattle.cert_checker.proofs.PackedListingLemmas.{holds_lines}
use Rattle.cert_checker.proofs.checker.packed.PackedListing.new.Goals as goal

pub invariant_of-result : goal.invariant_of-result
invariant_of-result c = record {
  valued = c.requires.evidence;
  listed = record { fluent = c.requires.fluent; numbered = c.requires.numbered; holds = holds_lines c.args.cert.now (length (atoms_in c.args.grounded.now)) c.requires.width };
  symmetric = c.requires.symmetric;
  classified = c.requires.classified;
}
