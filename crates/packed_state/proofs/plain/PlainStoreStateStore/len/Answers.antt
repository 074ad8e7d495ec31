use Rattle.std.proofs.Common.{◌∙◌, sym, map, vec_items}
use Rattle.std.proofs.lemmas.List.{length-map}
use Rattle.packed_state.proofs.StoreLemmas.{length-sets}
use Rattle.packed_state.proofs.plain.PlainStoreStateStore.len.Goals as goal

pub returns : goal.returns
returns c =
    let s = c.args.self.now in
    c.len.ensures.len ∙ sym (length-sets s.width (map vec_items s.rows.keys) ∙ length-map s.rows.keys vec_items)
