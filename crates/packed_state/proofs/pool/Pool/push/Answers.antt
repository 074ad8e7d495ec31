use Rattle.std.proofs.Common.{◌∙◌, ◌++◌, ◌∷◌, [], set, ap}
use Rattle.packed_state.specs.Table.{entry_of}
use Rattle.packed_state.proofs.PoolLemmas.{linked_more, rows_more}
use Rattle.packed_state.proofs.TableLemmas.{first_within}
use Rattle.packed_state.specs.Pool.{key_of}
use Rattle.packed_state.proofs.pool.Pool.push.Goals as goal

pub put-requires-clause-slot : goal.put-requires-clause-slot
put-requires-clause-slot c = first_within c.args.self.now.table.entries.items (key_of c.args.words.now) c.args.vacancy.slot c.requires.slot

pub returns-clause-linked : goal.returns-clause-linked
returns-clause-linked c =
    let p = c.args.self.now in
    linked_more p.stride p.words.items p.table.count p.table.entries.items p.keys.items c.args.words.now c.extend_from_slice.new.self.items c.put.new.self.count c.put.new.self.entries.items
    c.push_reserved.new.self.items c.args.vacancy.slot c.requires.linked c.requires.few c.requires.words c.requires.slot c.requires.room c.in_ok-extend_from_slice.ensures.items c.put.ensures.count
    (c.put.ensures.entries ∙ ap (λ k. set p.table.entries.items c.args.vacancy.slot (entry_of k p.table.count)) c.requires.key)
    (c.push_reserved.ensures.items ∙ (λ i. c.reserve.ensures.items i ++ c.requires.key i ∷ []))

pub returns-clause-ok : goal.returns-clause-ok
returns-clause-ok c =
    let p = c.args.self.now in
    rows_more p.stride p.words.items p.table.count c.args.words.now c.extend_from_slice.new.self.items c.put.new.self.count c.requires.linked.long c.requires.words
    c.in_ok-extend_from_slice.ensures.items c.put.ensures.count
