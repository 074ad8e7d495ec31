use Rattle.std.proofs.Common.{◌≡◌, ◌∙◌, ℕ, ◌+◌, ◌<◌, ◌≤◌, List, Some, ap, length, sym, subst, arith}
use Rattle.std.specs.Prelude.{slice_get}
use Rattle.std.proofs.lemmas.Bool.{leb-true}
use Rattle.std.proofs.lemmas.List.{length-map}
use Rattle.std.proofs.lemmas.Option.{slice_get_within}
use Rattle.packed_state.specs.declared.pooled.PooledStore.{PooledStore}
use Rattle.packed_state.specs.Packed.{bits_of}
use Rattle.packed_state.specs.PooledView.{pooled_states, pooled_width}
use Rattle.symmetries.specs.Representatives.{task_of, atoms_of, exchanges_of}
use Rattle.certificate.specs.Certificate.{certificate_of, store_in}
use Rattle.certificate.proofs.NumbersLemmas.{sets_are}
use Rattle.certificate.proofs.LimitsLemmas.{limits_of}
use Rattle.cert_checker.specs.CheapestPlaces.{AreCheapest, costs_of}
use Rattle.cert_checker.specs.Classified.{key_by, keys_in}
use Rattle.cert_checker.specs.PackedLines.{packed_line}
use Rattle.cert_checker.proofs.CertCheckerLemmas.{got}
use Rattle.cert_checker.proofs.CheapestLemmas.{put_new, put_known}
use Rattle.cert_checker.proofs.ClassLemmas.{length-representative, taken_new, taken_known, taken_cheaper}
use Rattle.cert_checker.proofs.checker.classes.Classes.take.Goals as goal
use Rattle.cert_checker.proofs.checker.classes.Classes.take.Goals.{Start, After-insert_copy_if_new, Else-is_new}

few_lines : (c : Start) → length (certificate_of c.args.self.now.cert.now).lines ≤ 16777216
few_lines c =
    let cert = c.args.self.now.cert.now in
    leb-true (length (certificate_of cert).lines) 16777216 (limits_of (certificate_of cert) cert.within_limits).few_states

pub overflow_cast-place : goal.overflow_cast-place
overflow_cast-place c = omega (arith, c.requires.place, few_lines (goal.at.overflow_cast-place c).Start)

pub get-requires-clause-there : goal.get-requires-clause-there
get-requires-clause-there c =
    let cert = c.args.self.now.cert.now in
    omega (
      arith,
      c.requires.place,
      ap (λ (store : PooledStore). length (pooled_states store)) c.sets.ensures,
      ap length (sets_are cert),
      length-map (certificate_of cert).lines (packed_line (pooled_width (store_in cert))),
    )

pub represent-requires : goal.represent-requires
represent-requires c = c.get.ensures.width ∙ ap pooled_width c.sets.ensures ∙ sym c.requires.width.atoms

-- the representative is as wide as the others
wide : (c : After-insert_copy_if_new) → length (bits_of c.represent.new.state) ≡ pooled_width (store_in c.args.self.now.cert.now)
wide c =
    let r = c.args.self.now.representatives in
    ap length c.represent.ensures ∙ length-representative (task_of r) (atoms_of r) (exchanges_of r) (bits_of c.get.new.into) ∙ c.requires.width.atoms

pub insert_copy_if_new-requires-clause-width : goal.insert_copy_if_new-requires-clause-width
insert_copy_if_new-requires-clause-width c =
    let r = c.args.self.now.representatives in
    ap length c.represent.ensures ∙ length-representative (task_of r) (atoms_of r) (exchanges_of r) (bits_of c.get.new.into) ∙ c.requires.width.atoms ∙ sym c.requires.width.keys

pub insert_copy_if_new-requires-clause-room : goal.insert_copy_if_new-requires-clause-room
insert_copy_if_new-requires-clause-room c =
    let few = c.requires.before.few in
    omega (arith, few, c.requires.place, few_lines (goal.at.insert_copy_if_new-requires-clause-room c).Start)

pub returns-in_err-key-clause-state : goal.returns-in_err-key-clause-state
returns-in_err-key-clause-state c = wide (goal.at.returns-in_err-key-clause-state c).After-insert_copy_if_new

pub returns-in_err-push-clause-state : goal.returns-in_err-push-clause-state
returns-in_err-push-clause-state c = wide (goal.at.returns-in_err-push-clause-state c).After-insert_copy_if_new

pub returns-then-is_new-clause-state : goal.returns-then-is_new-clause-state
returns-then-is_new-clause-state c = wide (goal.at.returns-then-is_new-clause-state c).After-insert_copy_if_new

pub returns-then-cost_at-clause-state : goal.returns-then-cost_at-clause-state
returns-then-cost_at-clause-state c = wide (goal.at.returns-then-cost_at-clause-state c).After-insert_copy_if_new

pub returns-else-cost_at-clause-state : goal.returns-else-cost_at-clause-state
returns-else-cost_at-clause-state c = wide (goal.at.returns-else-cost_at-clause-state c).After-insert_copy_if_new

pub returns-then-is_new-clause-width : goal.returns-then-is_new-clause-width
returns-then-is_new-clause-width c = record { atoms = c.requires.width.atoms; keys = c.in_ok-key.ensures.width ∙ c.requires.width.keys }

pub returns-then-cost_at-clause-width : goal.returns-then-cost_at-clause-width
returns-then-cost_at-clause-width c = record { atoms = c.requires.width.atoms; keys = c.in_ok-key.ensures.width ∙ c.requires.width.keys }

pub returns-else-cost_at-clause-width : goal.returns-else-cost_at-clause-width
returns-else-cost_at-clause-width c = record { atoms = c.requires.width.atoms; keys = c.in_ok-key.ensures.width ∙ c.requires.width.keys }

-- the state at the place
here : (c : After-insert_copy_if_new) → slice_get (pooled_states (store_in c.args.self.now.cert.now)) c.args.place ≡ Some (bits_of c.get.new.into)
here c = subst (λ (store : PooledStore). slice_get (pooled_states store) c.args.place ≡ Some (bits_of c.get.new.into)) c.sets.ensures c.get.ensures.set

pub returns-then-is_new-clause-after : goal.returns-then-is_new-clause-after
returns-then-is_new-clause-after c =
    let old = c.args.self.now in
    let keys = pooled_states c.insert_copy_if_new.new.self in
    let key = bits_of c.represent.new.state in
    let put = put_new (keys_in old) keys key c.in_ok-key.key c.in_ok-key.is_new c.in_ok-key.ensures.ok c.if-is_new.true in
    subst (λ (places : List ℕ). AreCheapest (key_by old) (pooled_states (store_in old.cert.now)) (costs_of (certificate_of old.cert.now)) (c.args.place + 1) keys places) (sym c.in_ok-push.ensures.items)
    (taken_new old c.args.place (bits_of c.get.new.into) key c.requires.before (here (goal.at.returns-then-is_new-clause-after c).After-insert_copy_if_new) c.represent.ensures keys put.0 put.1)

-- ---- a key that was known

known_key : (c : Else-is_new) → slice_get (keys_in c.args.self.now) c.in_ok-key.key ≡ Some (bits_of c.represent.new.state)
known_key c =
    (put_known (keys_in c.args.self.now) (pooled_states c.insert_copy_if_new.new.self) (bits_of c.represent.new.state) c.in_ok-key.key c.in_ok-key.is_new c.in_ok-key.ensures.ok c.if-is_new.false).0

same_keys : (c : Else-is_new) → pooled_states c.insert_copy_if_new.new.self ≡ keys_in c.args.self.now
same_keys c =
    (put_known (keys_in c.args.self.now) (pooled_states c.insert_copy_if_new.new.self) (bits_of c.represent.new.state) c.in_ok-key.key c.in_ok-key.is_new c.in_ok-key.ensures.ok c.if-is_new.false).1

inside : (c : Else-is_new) → c.in_ok-key.key < length c.args.self.now.cheapest.items
inside c =
    let below = slice_get_within (keys_in c.args.self.now) c.in_ok-key.key (bits_of c.represent.new.state) (known_key c) in
    let many = c.requires.before.as_many in
    omega (arith, below, many)

pub index-known-requires : goal.index-known-requires
index-known-requires c = omega (arith, inside (goal.at.index-known-requires c).Else-is_new, c.args.self.now.cheapest.ok.0)

pub index_mut-requires : goal.index_mut-requires
index_mut-requires c = omega (arith, inside (goal.at.index_mut-requires c).Else-is_new, c.args.self.now.cheapest.ok.0)

pub cost_at-requires-2 : goal.cost_at-requires-2
cost_at-requires-2 c =
    let old = c.args.self.now in
    let there = got old.cheapest.items c.in_ok-key.key c.index-known.result.now (inside (goal.at.cost_at-requires-2 c).Else-is_new) c.index-known.ensures in
    let low = c.requires.before.within c.in_ok-key.key c.index-known.result.now there in
    omega (arith, low, c.requires.place)

pub returns-then-cost_at-clause-after : goal.returns-then-cost_at-clause-after
returns-then-cost_at-clause-after c =
    let old = c.args.self.now in
    let known_there = (goal.at.returns-then-cost_at-clause-after c).Else-is_new in
    let there = got old.cheapest.items c.in_ok-key.key c.index-known.result.now (inside known_there) c.index-known.ensures in
    taken_cheaper old c.args.place (bits_of c.get.new.into) (bits_of c.represent.new.state) c.requires.before (here (goal.at.returns-then-cost_at-clause-after c).After-insert_copy_if_new) c.represent.ensures
    (pooled_states c.insert_copy_if_new.new.self) c.in_ok-key.key c.index-known.result.now c.cost_at.result c.cost_at-2.result (known_key known_there) there c.cost_at.ensures c.cost_at-2.ensures
    (same_keys known_there) (omega (arith, c.if-cost_at.true))

pub returns-else-cost_at-clause-after : goal.returns-else-cost_at-clause-after
returns-else-cost_at-clause-after c =
    let old = c.args.self.now in
    let known_there = (goal.at.returns-else-cost_at-clause-after c).Else-is_new in
    let there = got old.cheapest.items c.in_ok-key.key c.index-known.result.now (inside known_there) c.index-known.ensures in
    taken_known old c.args.place (bits_of c.get.new.into) (bits_of c.represent.new.state) c.requires.before (here (goal.at.returns-else-cost_at-clause-after c).After-insert_copy_if_new) c.represent.ensures
    (pooled_states c.insert_copy_if_new.new.self) c.in_ok-key.key c.index-known.result.now c.cost_at.result c.cost_at-2.result (known_key known_there) there c.cost_at.ensures c.cost_at-2.ensures
    (same_keys known_there) (omega (arith, c.if-cost_at.false))
