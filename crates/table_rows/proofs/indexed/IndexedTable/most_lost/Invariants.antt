use Rattle.std.proofs.Common.{length, take}
use Rattle.table_rows.specs.Candidates.{candidates_of}
use Rattle.table_rows.specs.Fates.{question_of}
use Rattle.table_rows.specs.FitsTable.{HasWidth}
use Rattle.table_rows.specs.Tables.{table_of, weight_count_of}
use Rattle.table_rows.proofs.ColumnLemmas.{AreRaisedSoFar}
use Rattle.table_rows.proofs.indexed.IndexedTable.most_lost.Given as goal

abbrev pub invariant-loop-k : goal.invariant-loop-k
invariant-loop-k l = record {
  scratch : HasWidth (length (table_of l.self.table.now).scope) l.scratch;
  lost : AreRaisedSoFar (question_of l.self.table.now l.question) (take l.k (candidates_of l.candidates)) (weight_count_of l.self.table.now) l.most;
}
