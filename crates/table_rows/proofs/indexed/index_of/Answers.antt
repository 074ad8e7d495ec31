use Rattle.std.proofs.Common.{◌≡◌, ◌∙◌, [], length, ap, subst, arith}
use Rattle.packed_state.specs.Packed.{bits_of}
use Rattle.packed_state.specs.PooledView.{pooled_states}
use Rattle.packed_state.proofs.PackedLemmas.{length-set_of}
use Rattle.table_rows.specs.Lists.{IsIndexOf}
use Rattle.table_rows.proofs.ListsLemmas.{index-none, index-more}
use Rattle.table_rows.proofs.RowLemmas.{length-rows}
use Rattle.table_rows.proofs.indexed.index_of.Goals as goal

pub loop-row-init : goal.loop-row-init
loop-row-init c = record {
  width = c.in_ok-index.ensures.width ∙ c.width-width.ensures;
  wide = ap length c.in_ok-set.ensures ∙ length-set_of c.width-width.result [] ∙ c.width-width.ensures;
  index = index-none (pooled_states c.args.table.now.rows.sets) c.in_ok-index.index c.in_ok-index.ensures.empty;
}

pub overflow_cast-row : goal.overflow_cast-row
overflow_cast-row c = omega (arith, c.loop-row-test.true, c.row_count-row-end.ensures.rows, c.row_count-row-end.ensures.few)

pub overflow_cast-row-in-loop-row : goal.overflow_cast-row-in-loop-row
overflow_cast-row-in-loop-row c = omega (arith, c.loop-row-test.true, c.row_count-row-end.ensures.rows, c.row_count-row-end.ensures.few)

pub loop-row-preserved : goal.loop-row-preserved
loop-row-preserved c = record {
  width = c.in_ok-file.ensures.width ∙ c.loop-row.invariant.width;
  wide = c.get.ensures.width;
  index = index-more (pooled_states c.args.table.now.rows.sets) c.loop-row.row (bits_of c.get.new.set) c.loop-row.index c.file.new.self c.get.ensures.set c.loop-row.invariant.index c.in_ok-file.ensures;
}

pub returns : goal.returns
returns c =
    let t = c.args.table.now in
    subst (λ n. IsIndexOf (pooled_states c.args.table.now.rows.sets) n c.loop-row.index) (let e : c.loop-row.row ≡ length (pooled_states c.args.table.now.rows.sets) = omega (arith, c.loop-row-test.false, c.row_count-row-end.ensures.rows, length-rows t.count t.scope.items (pooled_states t.rows.sets) t.rows.weights.items) in e) c.loop-row.invariant.index
