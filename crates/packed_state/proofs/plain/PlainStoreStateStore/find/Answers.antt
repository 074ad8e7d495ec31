use Rattle.std.proofs.Common.{map, vec_items, None, Some}
use Rattle.packed_state.specs.Packed.{bits_of}
use Rattle.packed_state.proofs.StoreLemmas.{found_state}
use Rattle.packed_state.proofs.plain.PlainStoreStateStore.find.Goals as goal

pub returns-in-Some : goal.returns-in-Some
returns-in-Some c =
    let s = c.args.self.now in
    found_state s.width _ (map vec_items s.rows.keys) c.words.result.now (bits_of c.args.state.now) c.requires s.stored c.words.ensures.packed c.words.ensures.bits (Some c.in-Some.place) c.in-Some.ensures

pub returns-in-None : goal.returns-in-None
returns-in-None c =
    let s = c.args.self.now in
    found_state s.width _ (map vec_items s.rows.keys) c.words.result.now (bits_of c.args.state.now) c.requires s.stored c.words.ensures.packed c.words.ensures.bits None c.in-None.ensures
