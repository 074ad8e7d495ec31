use Rattle.std.proofs.Common.{◌≡◌, ◌∙◌, ◌≤◌, ℕ, Bool, sym, arith}
use Rattle.std.specs.Prelude.{◌↔◌, IsTrue, nat_le}
use Rattle.std.proofs.lemmas.Bool.{le-leb, leb-true}
use Rattle.packed_state.specs.Packed.{bits_of}
use Rattle.certificate.specs.Certificate.{store_in}
use Rattle.certificate_reader.specs.Lines.{basis_of}
use Rattle.cert_checker.specs.PackedListing.{task_at, atoms_at, certificate_at}
use Rattle.cert_checker.proofs.EvidenceLemmas.{value_there_by}
use Rattle.cert_checker.proofs.checker.packed.PackedListing.is_worth.Goals as goal

is-worth : (least value other : ℕ) (b : Bool) → b ≡ nat_le least value → value ≡ other → IsTrue b ↔ (least ≤ other)
is-worth least value other b is same = (
  λ yes. let e = leb-true least value (sym is ∙ yes) in omega (arith, e, same),
  λ within. is ∙ le-leb least value (omega (arith, within, same)),
)

pub is_worth-requires-clause-state : goal.is_worth-requires-clause-state
is_worth-requires-clause-state c = c.requires.state ∙ sym c.args.self.now.valued.common.dead_ends.as_many

pub returns-clause-worth : goal.returns-clause-worth
returns-clause-worth c =
    let listing = c.args.self.now in
    is-worth c.args.least _ _ c.is_worth.result c.is_worth.ensures.worth
    (value_there_by (task_at listing) (atoms_at listing) (certificate_at listing) (store_in listing.cert.now) listing.listed listing.cert.now.within_limits listing.evidence listing.valued
    (bits_of c.args.state.now) c.requires.state (basis_of c.args.by))
