use Rattle.std.proofs.Common.{sym, map, vec_items, ◌∙◌, ◌<◌, length, arith}
use Rattle.std.proofs.lemmas.List.{length-map}
use Rattle.packed_state.specs.Store.{AreStored}
use Rattle.packed_state.proofs.StoreLemmas.{one_stored}
use Rattle.packed_state.proofs.PlainLemmas.{either_way, added_words}
use Rattle.packed_state.proofs.plain.PlainStore.put.Goals as goal

pub invariant_of-self-2 : goal.invariant_of-self-2
invariant_of-self-2 c =
    let s = c.args.self.now in
    let room : length (map vec_items s.rows.keys) < 16777216 = omega (arith, c.requires.room, length-map s.rows.keys vec_items) in
    record {
      stored =
          either_way (AreStored s.width) c.insert.result c.args.words.now s.rows.keys c.insert.new.self.keys c.in_ok-from_slice.field-0 c.in_ok-from_slice.ensures.items
          c.in_default.ensures c.insert.ensures.keys c.insert.ensures.err s.stored
          (one_stored s.width (map vec_items s.rows.keys) c.args.words.now s.stored c.requires.packed room c.in_default.ensures);
    }

pub returns-clause-ok : goal.returns-clause-ok
returns-clause-ok c =
    let s = c.args.self.now in (
      c.in_default.ensures,
      added_words c.args.words.now s.rows.keys c.insert.new.self.keys c.in_ok-from_slice.field-0 c.in_ok-from_slice.ensures.items c.in_default.ensures c.in_ok-insert.ensures.keys,
      c.len-place.ensures.len ∙ sym (length-map s.rows.keys vec_items),
    )
