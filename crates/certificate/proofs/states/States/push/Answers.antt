use Rattle.std.proofs.Common.{◌≡◌, [], ◌∷◌, length, map, ap, ◌∙◌}
use Rattle.std.proofs.lemmas.List.{map-append}
use Rattle.packed_state.specs.Packed.{bits_of}
use Rattle.packed_state.specs.PooledView.{pooled_states, pooled_width}
use Rattle.packed_state.specs.Sets.{set_of}
use Rattle.packed_state.proofs.PackedLemmas.{length-set_of}
use Rattle.certificate.specs.CertificateParts.{listed_of}
use Rattle.certificate.proofs.ListedLemmas.{found_there, not_there}
use Rattle.certificate.proofs.states.States.push.Goals as goal

pub insert_if_new-requires-clause-width : goal.insert_if_new-requires-clause-width
insert_if_new-requires-clause-width c = ap length c.in_ok-set.ensures ∙ length-set_of c.width.result c.deref.result.now ∙ c.width.ensures

pub returns-then-not-is_new-clause-pushed : goal.returns-then-not-is_new-clause-pushed
returns-then-not-is_new-clause-pushed c =
    let old = c.args.self.now in
    let atoms = c.args.line.now.atoms.items in
    let same : bits_of c.in_ok-set.set ≡ set_of (pooled_width old.sets) atoms = c.in_ok-set.ensures ∙ (λ i. set_of (c.width.ensures i) (c.deref.ensures.value i)) in
    found_there (pooled_states old.sets) (pooled_states c.insert_if_new.new.self) (bits_of c.in_ok-set.set) (set_of (pooled_width old.sets) atoms) c.in_ok-is_new.field-0-0 same
    (rw c.if-not-is_new.true at c.in_ok-is_new.ensures.ok)

pub returns-clause-pushed : goal.returns-clause-pushed
returns-clause-pushed c =
    let old = c.args.self.now in
    let atoms = c.args.line.now.atoms.items in
    let same : bits_of c.in_ok-set.set ≡ set_of (pooled_width old.sets) atoms = c.in_ok-set.ensures ∙ (λ i. set_of (c.width.ensures i) (c.deref.ensures.value i)) in
    let (absent, pushed) = not_there (pooled_states old.sets) (pooled_states c.insert_if_new.new.self) (bits_of c.in_ok-set.set) (set_of (pooled_width old.sets) atoms) c.in_ok-is_new.field-0-0 same
    (rw c.if-not-is_new.false at c.in_ok-is_new.ensures.ok) in
    (absent, pushed, ap (map listed_of) c.in_ok-push.ensures.items ∙ map-append listed_of old.marks.items (_ ∷ []))
