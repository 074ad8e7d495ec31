use Rattle.std.proofs.Common.{subst, arith}
use Rattle.std.proofs.lemmas.List.{take_all}
use Rattle.model.proofs.ListLemmas.{Contains-got}
use Rattle.packed_state.specs.PooledView.{pooled_states}
use Rattle.table_rows.specs.Tables.{weight_count_of}
use Rattle.table_rows.proofs.RowLemmas.{length-rows}
use Rattle.table_rows.specs.Candidates.{candidates_of}
use Rattle.table_rows.specs.Columns.{RaisesFrom}
use Rattle.table_rows.specs.Fates.{question_of}
use Rattle.table_rows.specs.FitsTable.{HasWidth}
use Rattle.table_rows.proofs.ColumnLemmas.{nothing-raised, raised-more, all-lost, AreRaisedSoFar}
use Rattle.table_rows.proofs.FateLemmas.{leaves-all, Contains-among}
use Rattle.table_rows.proofs.indexed.IndexedTable.most_lost.Goals as goal

pub loop-k-init : goal.loop-k-init
loop-k-init c = record {
  scratch = subst (λ n. HasWidth n c.in_ok-scratch.scratch) c.width.ensures c.in_ok-scratch.ensures;
  lost = nothing-raised (question_of c.args.self.now.table.now c.args.question.now) (weight_count_of c.args.self.now.table.now) c.args.most.now c.fill.new.most c.requires.long c.fill.ensures;
}

pub raise_from-requires-clause-there : goal.raise_from-requires-clause-there
raise_from-requires-clause-there c =
    let t = c.args.self.now.table.now in
    let rows = candidates_of c.candidates-candidates.result in
    let below = c.candidates-candidates.ensures.within c.at-row.result (Contains-among rows c.at-row.result (Contains-got rows c.loop-k.k c.at-row.result c.at-row.ensures)) in
    omega (arith, below, length-rows t.count t.scope.items (pooled_states t.rows.sets) t.rows.weights.items)

pub returns-then-not-branch : goal.returns-then-not-branch
returns-then-not-branch c =
    let q = question_of c.args.self.now.table.now c.args.question.now in
    let rows = candidates_of c.candidates-candidates.result in
    leaves-all q rows c.candidates-candidates.ensures c.at-row.result (Contains-got rows c.loop-k.k c.at-row.result c.at-row.ensures)
    (subst (RaisesFrom q c.at-row.result c.loop-k.most c.raise_from.new.most) c.if-not-branch.true c.in_ok-raise_from.ensures.raised)

pub loop-k-preserved : goal.loop-k-preserved
loop-k-preserved c =
    let q = question_of c.args.self.now.table.now c.args.question.now in
    let rows = candidates_of c.candidates-candidates.result in
    record {
      scratch = c.in_ok-raise_from.ensures.scratch;
      lost = raised-more q rows c.loop-k.k c.at-row.result (weight_count_of c.args.self.now.table.now) c.loop-k.most c.raise_from.new.most c.at-row.ensures c.loop-k.invariant.lost
          (subst (RaisesFrom q c.at-row.result c.loop-k.most c.raise_from.new.most) c.if-not-branch.false c.in_ok-raise_from.ensures.raised);
    }

pub returns : goal.returns
returns c =
    let q = question_of c.args.self.now.table.now c.args.question.now in
    let rows = candidates_of c.candidates-candidates.result in
    let count = weight_count_of c.args.self.now.table.now in
    let all = subst (λ l. AreRaisedSoFar q l count c.loop-k.most) (take_all c.loop-k.k rows (omega (arith, c.loop-k-test.false, c.len-k-end.ensures))) c.loop-k.invariant.lost in
    all-lost q rows count c.loop-k.most c.settle.new.most c.args.self.now.in_range c.candidates-candidates.ensures all c.settle.ensures
