use Rattle.std.proofs.Common.{◌≡◌, ◌≤◌, Some, length, subst, arith}
use Rattle.std.specs.Prelude.{slice_get}
use Rattle.std.proofs.lemmas.Bool.{leb-true}
use Rattle.packed_state.specs.Packed.{bits_of}
use Rattle.packed_state.specs.PooledView.{pooled_states}
use Rattle.certificate.specs.Certificate.{store_in}
use Rattle.certificate.proofs.LimitsLemmas.{limits_of}
use Rattle.cert_checker.specs.PackedListing.{task_at, atoms_at, certificate_at}
use Rattle.cert_checker.proofs.PackedListingLemmas.{found_there}
use Rattle.cert_checker.proofs.checker.packed.PackedListing.get.Goals as goal

pub overflow_cast-place : goal.overflow_cast-place
overflow_cast-place c =
    let listing = c.args.self.now in
    let few : length (certificate_at listing).lines ≤ 16777216 = leb-true (length (certificate_at listing).lines) 16777216 (limits_of (certificate_at listing) listing.cert.now.within_limits).few_states in
    omega (arith, few, c.requires.within)

pub returns-clause-state : goal.returns-clause-state
returns-clause-state c =
    let listing = c.args.self.now in
    let bits = bits_of c.get.new.into in
    found_there (task_at listing) (atoms_at listing) (certificate_at listing) (store_in listing.cert.now) listing.listed c.args.place bits
    (subst (λ store. slice_get (pooled_states store) c.args.place ≡ Some bits) c.sets.ensures c.get.ensures.set)
