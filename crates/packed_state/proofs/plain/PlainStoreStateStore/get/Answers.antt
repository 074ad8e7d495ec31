use Rattle.std.proofs.Common.{ap, length, map, vec_items, arith}
use Rattle.std.proofs.lemmas.List.{length-map}
use Rattle.packed_state.specs.Packed.{bits_of}
use Rattle.packed_state.proofs.PlainLemmas.{row_read}
use Rattle.packed_state.proofs.StoreLemmas.{length-sets, row_for, got_state, got_width}
use Rattle.packed_state.proofs.plain.PlainStoreStateStore.get.Goals as goal

pub bounds-as_slice-place : goal.bounds-as_slice-place
bounds-as_slice-place c =
    let s = c.args.self.now in
    omega (arith, ap length c.as_slice.ensures.keys, length-map s.rows.keys vec_items, length-sets s.width (map vec_items s.rows.keys), c.requires.there)

pub copy_words-requires : goal.copy_words-requires
copy_words-requires c =
    let s = c.args.self.now in
    row_for s.width _ (map vec_items s.rows.keys) c.args.place c.deref.result.now c.requires.width s.stored (row_read s.width s.rows.keys c.as_slice.result.now c.args.place c.index-as_slice-place.result c.deref.result.now c.as_slice.ensures.keys c.requires.there c.index-as_slice-place.is c.deref.ensures.value)

pub returns-clause-set : goal.returns-clause-set
returns-clause-set c =
    let s = c.args.self.now in
    got_state s.width _ (map vec_items s.rows.keys) c.args.place c.deref.result.now (bits_of c.copy_words.new.self) c.requires.width (row_read s.width s.rows.keys c.as_slice.result.now c.args.place c.index-as_slice-place.result c.deref.result.now c.as_slice.ensures.keys c.requires.there c.index-as_slice-place.is c.deref.ensures.value) c.copy_words.ensures

pub returns-clause-width : goal.returns-clause-width
returns-clause-width c = got_width c.args.self.now.width _ c.deref.result.now (bits_of c.copy_words.new.self) c.requires.width c.copy_words.ensures
