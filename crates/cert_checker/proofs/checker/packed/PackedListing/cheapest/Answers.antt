use Rattle.std.proofs.Common.{◌≡◌, ◌∙◌, Some, sym, subst}
use Rattle.std.specs.Prelude.{Contains, MatchOption, slice_get}
use Rattle.packed_state.specs.declared.pooled.PooledStore.{PooledStore}
use Rattle.packed_state.specs.Packed.{bits_of}
use Rattle.packed_state.specs.PooledView.{pooled_states}
use Rattle.certificate.specs.Certificate.{store_in}
use Rattle.cert_checker.specs.PackedListing.{task_at, atoms_at, certificate_at}
use Rattle.cert_checker.proofs.ClassLemmas.{by_classes, by_itself}
use Rattle.cert_checker.proofs.checker.packed.PackedListing.cheapest.Goals as goal

pub cheapest-requires-clause-state : goal.cheapest-requires-clause-state
cheapest-requires-clause-state c =
    let made = c.args.self.now.classified.by_exchanges c.in-Some.classes c.in-Some.is in
    c.requires ∙ sym made.represents.width

pub cheapest-requires-clause-width : goal.cheapest-requires-clause-width
cheapest-requires-clause-width c =
    let made = c.args.self.now.classified.by_exchanges c.in-Some.classes c.in-Some.is in
    made.width ∙ sym made.represents.width

pub cheapest-requires-clause-as_many : goal.cheapest-requires-clause-as_many
cheapest-requires-clause-as_many c =
    let made = c.args.self.now.classified.by_exchanges c.in-Some.classes c.in-Some.is in
    made.cheapest.as_many

pub returns-in-Some-clause-packed : goal.returns-in-Some-clause-packed
returns-in-Some-clause-packed c = c.cheapest.ensures.state ∙ c.requires

pub returns-in-Some-clause-place : goal.returns-in-Some-clause-place
returns-in-Some-clause-place c =
    let listing = c.args.self.now in
    let made = listing.classified.by_exchanges c.in-Some.classes c.in-Some.is in
    by_classes (task_at listing) (atoms_at listing) (certificate_at listing) (store_in listing.cert.now) listing.listed (bits_of c.args.state.now) listing.symmetric c.in-Some.classes made
    c.cheapest.result c.cheapest.ensures.place

pub returns-in-None-clause-place : goal.returns-in-None-clause-place
returns-in-None-clause-place c =
    let listing = c.args.self.now in
    let bits = bits_of c.args.state.now in
    by_itself (task_at listing) (atoms_at listing) (certificate_at listing) (store_in listing.cert.now) listing.listed bits (listing.classified.alone c.in-None.is) c.requires c.find.result
    (subst (λ (store : PooledStore). MatchOption c.find.result (¬ Contains (pooled_states store) bits) (λ place. slice_get (pooled_states store) place ≡ Some bits)) c.sets.ensures c.find.ensures)
