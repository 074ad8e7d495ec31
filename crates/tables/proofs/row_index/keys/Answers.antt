use Rattle.std.proofs.Common.{◌∙◌, [], ◌∷◌, length, get_or, sym, ap, subst, arith}
use Rattle.std.proofs.lemmas.List.{length-append}
use Rattle.packed_state.specs.Packed.{bits_of}
use Rattle.packed_state.proofs.PackedLemmas.{length-set_of}
use Rattle.tables.specs.Keys.{AreKeys}
use Rattle.table_rows.specs.Tables.{table_of, sets_of}
use Rattle.tables.proofs.KeysLemmas.{keys-none, keys-more, one-word}
use Rattle.tables.proofs.row_index.keys.Goals as goal

pub loop-row-init : goal.loop-row-init
loop-row-init c = record {
  width = ap length c.in_ok-set.ensures ∙ length-set_of c.width.result [] ∙ c.width.ensures;
  long = ap length c.new-keys.ensures.items;
  keyed = subst (AreKeys (length (table_of c.args.table.now).scope) (sets_of c.args.table.now)) (sym c.new-keys.ensures.items) (keys-none (length (table_of c.args.table.now).scope) (sets_of c.args.table.now));
}

pub loop-row-preserved : goal.loop-row-preserved
loop-row-preserved c =
    let wide = ap length c.in_ok-set.ensures ∙ length-set_of c.width.result [] ∙ c.width.ensures in
    let first = c.words.ensures.packed in
    let later = c.words-in-loop-row.ensures.packed in
    let one = one-word c.words-in-loop-row.result.now (omega (arith, wide, first.enough, first.no_more, later.enough, later.no_more, c.get.ensures.width, c.if-words-ne1.false)) in
    let more = c.in_ok-push.ensures.items in
    record {
      width = c.get.ensures.width;
      long = omega (arith, ap length more, length-append c.loop-row.keys.items (get_or c.words-in-loop-row.result.now 0 0 ∷ []), c.loop-row.invariant.long);
      keyed = subst (AreKeys (length (table_of c.args.table.now).scope) (sets_of c.args.table.now)) (sym more)
          (keys-more (length (table_of c.args.table.now).scope) (sets_of c.args.table.now) c.loop-row.keys.items c.words-in-loop-row.result.now (bits_of c.get.new.set) _ c.loop-row.row c.loop-row.invariant.long
          one c.get.ensures.width c.words-in-loop-row.ensures.bits c.get.ensures.set c.loop-row.invariant.keyed);
    }
