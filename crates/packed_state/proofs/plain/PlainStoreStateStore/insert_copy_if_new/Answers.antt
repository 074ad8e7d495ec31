use Rattle.std.proofs.Common.{map, vec_items, arith}
use Rattle.std.proofs.lemmas.List.{length-map}
use Rattle.packed_state.specs.Packed.{bits_of}
use Rattle.packed_state.proofs.StoreLemmas.{length-sets, placed_state}
use Rattle.packed_state.proofs.plain.PlainStoreStateStore.insert_copy_if_new.Goals as goal

pub put-requires-clause-room : goal.put-requires-clause-room
put-requires-clause-room c =
    let s = c.args.self.now in
    omega (arith, length-map s.rows.keys vec_items, length-sets s.width (map vec_items s.rows.keys), c.requires.room)

pub returns-clause-ok : goal.returns-clause-ok
returns-clause-ok c =
    let s = c.args.self.now in
    placed_state s.width _ c.put.new.self.width (map vec_items s.rows.keys) (map vec_items c.put.new.self.rows.keys) c.words.result.now (bits_of c.args.state.now)
    c.requires.width c.put.ensures.width s.stored c.words.ensures.packed c.words.ensures.bits c.put.result c.put.ensures.ok
