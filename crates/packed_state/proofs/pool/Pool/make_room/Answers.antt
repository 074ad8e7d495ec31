use Rattle.std.proofs.Common.{◌≡◌, ◌∙◌, ◌<◌, ◌≤◌, length, get_or, ap, subst, arith}
use Rattle.packed_state.specs.Table.{IsTable}
use Rattle.packed_state.proofs.PoolLemmas.{linked_again}
use Rattle.packed_state.proofs.pool.Pool.make_room.Goals as goal

pub of_keys-requires-clause-few : goal.of_keys-requires-clause-few
of_keys-requires-clause-few c = omega (arith, ap length c.deref.ensures.value, c.requires.linked.counted, c.requires.few)

pub of_keys-requires-clause-room : goal.of_keys-requires-clause-room
of_keys-requires-clause-room c =
    omega (arith, ap length c.deref.ensures.value, c.requires.linked.counted, c.requires.linked.table.room, c.len-slots.ensures, c.args.self.now.table.entries.ok.0)

pub returns-clause-linked : goal.returns-clause-linked
returns-clause-linked c =
    let p = c.args.self.now in
    let new = c.in_ok-self.field-0 in
    linked_again p.stride p.words.items p.table.count p.table.entries.items p.keys.items new.count new.entries.items c.requires.linked
    (c.in_ok-self.ensures.count ∙ ap length c.deref.ensures.value)
    (subst (λ keys. IsTable (λ n. get_or keys n 0) new.count new.entries.items) c.deref.ensures.value c.in_ok-self.ensures.table)
