use Rattle.std.proofs.Common.{◌∙◌, sym}
use Rattle.packed_state.specs.Packed.{bits_of}
use Rattle.certificate.specs.Certificate.{store_in}
use Rattle.certificate_reader.specs.Lines.{basis_of}
use Rattle.cert_checker.specs.PackedListing.{task_at, atoms_at, certificate_at}
use Rattle.cert_checker.proofs.EvidenceLemmas.{dead_there_by}
use Rattle.cert_checker.proofs.checker.packed.PackedListing.shows_dead_end.Goals as goal

pub shows_dead_end-requires-clause-state : goal.shows_dead_end-requires-clause-state
shows_dead_end-requires-clause-state c = c.requires.state ∙ sym c.args.self.now.valued.common.dead_ends.as_many

pub returns-clause-dead : goal.returns-clause-dead
returns-clause-dead c =
    let listing = c.args.self.now in
    c.shows_dead_end.ensures.dead
    ∙ dead_there_by (task_at listing) (atoms_at listing) (certificate_at listing) (store_in listing.cert.now) listing.listed listing.cert.now.within_limits listing.evidence listing.valued
    (bits_of c.args.state.now) c.requires.state (basis_of c.args.by)
