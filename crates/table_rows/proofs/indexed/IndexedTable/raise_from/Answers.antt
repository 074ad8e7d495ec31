use Rattle.std.proofs.Common.{◌≡◌, ◌∙◌, ◌^◌, true, false, length, refl, sym, ap, subst, arith, List, ℤ}
use Rattle.std.specs.Prelude.{All, nat_lt}
use Rattle.packed_state.specs.Packed.{bits_of}
use Rattle.packed_state.specs.PooledView.{pooled_states}
use Rattle.lower_bounds.specs.PotentialFunctions.{IsInRange}
use Rattle.table_rows.specs.Afters.{left_of, free_places, ways}
use Rattle.table_rows.specs.Columns.{RaisesTo}
use Rattle.table_rows.specs.Fates.{question_of}
use Rattle.table_rows.specs.PlacedChanges.{changes_of}
use Rattle.table_rows.specs.Tables.{table_of, weight_count_of}
use Rattle.table_rows.proofs.RowLemmas.{length-rows}
use Rattle.table_rows.proofs.StoreLemmas.{few-sets, sets-wide}
use Rattle.table_rows.proofs.TableLemmas.{rows-weighed}
use Rattle.table_rows.proofs.AfterLemmas.{length-changed}
use Rattle.table_rows.proofs.ColumnLemmas.{row-has, agreeing-raised}
use Rattle.table_rows.proofs.FateLemmas.{row-there, free-below, agreeing-closed}
use Rattle.table_rows.proofs.ManyWays.{free-different, listed-whole, one-is-no-row, outnumbered-listed}
use Rattle.table_rows.proofs.indexed.IndexedTable.raise_from.Goals as goal
use Rattle.table_rows.proofs.indexed.IndexedTable.raise_from.Goals.{After-is_outnumbered}

-- what is left has the width of the row
left-long : (c : After-is_outnumbered) → length (bits_of c.find.new.self.left) ≡ length c.args.self.now.table.now.scope.items
left-long c =
    let changes = changes_of c.args.question.now.changes.now in
    ap length c.in_ok-find.ensures.left ∙ length-changed (bits_of c.get.new.set) changes.deletes changes.adds ∙ c.get.ensures.width

-- the places are all free ones, if their ways are no more than the rows
whole : (c : After-is_outnumbered) → c.is_outnumbered.result ≡ false
    → c.find.new.self.free.items ≡ free_places (changes_of c.args.question.now.changes.now).whens (bits_of c.get.new.set) (left_of (changes_of c.args.question.now.changes.now) (bits_of c.get.new.set))
whole c enough =
    let t = c.args.self.now.table.now in
    let count : c.len.result ≡ length c.find.new.self.free.items = omega (arith, c.len.ensures, c.find.new.self.free.ok.0) in
    let rows = length-rows t.count t.scope.items (pooled_states t.rows.sets) t.rows.weights.items in
    listed-whole (length (table_of t).rows) _ c.find.new.self.free.items (omega (arith, few-sets t.rows.sets, rows)) c.in_ok-find.ensures.free
    (ap (λ n. nat_lt (length (table_of t).rows) (2 ^ n)) (sym count) ∙ sym c.is_outnumbered.ensures ∙ enough)

pub returns-then-is_outnumbered-clause-scratch : goal.returns-then-is_outnumbered-clause-scratch
returns-then-is_outnumbered-clause-scratch c = record {
  row = ap length c.in_ok-find.ensures.row ∙ c.get.ensures.width;
  left = left-long (goal.at.returns-then-is_outnumbered-clause-scratch c).After-is_outnumbered;
}

pub returns-then-is_outnumbered-clause-raised : goal.returns-then-is_outnumbered-clause-raised
returns-then-is_outnumbered-clause-raised c =
    let t = c.args.self.now.table.now in
    let q = question_of t c.args.question.now in
    let changes = changes_of c.args.question.now.changes.now in
    let set = bits_of c.get.new.set in
    let free = free_places changes.whens set (left_of changes set) in
    let count : c.len.result ≡ length c.find.new.self.free.items = omega (arith, c.len.ensures, c.find.new.self.free.ok.0) in
    let fewer : nat_lt (length (table_of t).rows) (2 ^ length free) ≡ true =
    outnumbered-listed (length (table_of t).rows) free c.find.new.self.free.items c.in_ok-find.ensures.free
    (ap (λ n. nat_lt (length (table_of t).rows) (2 ^ n)) (sym count) ∙ sym c.is_outnumbered.ensures ∙ c.if-is_outnumbered.true) in
    agreeing-closed q c.args.row set c.get.ensures.set (sym c.all_are_so.ensures ∙ c.if-not-all_are_so.false)
    ∙ one-is-no-row t.count t.scope.items t.rising (pooled_states t.rows.sets) t.rows.weights.items (left_of changes set) free (sets-wide t.rows.sets (length t.scope.items) t.wide)
    (length-changed set changes.deletes changes.adds ∙ c.get.ensures.width) (free-different changes.whens set (left_of changes set))
    (free-below set (left_of changes set) (length t.scope.items) changes.whens free refl c.requires.fits.changes.whens) fewer

pub raise_to-requires-clause-width : goal.raise_to-requires-clause-width
raise_to-requires-clause-width c = left-long (goal.at.raise_to-requires-clause-width c).After-is_outnumbered

pub raise_to-requires-clause-free : goal.raise_to-requires-clause-free
raise_to-requires-clause-free c =
    let changes = changes_of c.args.question.now.changes.now in
    let set = bits_of c.get.new.set in
    free-below set (left_of changes set) (length c.args.self.now.table.now.scope.items) changes.whens c.deref.result.now (c.deref.ensures.value ∙ whole (goal.at.raise_to-requires-clause-free c).After-is_outnumbered c.if-is_outnumbered.false)
    c.requires.fits.changes.whens

pub raise_to-requires-clause-weights : goal.raise_to-requires-clause-weights
raise_to-requires-clause-weights c =
    let t = c.args.self.now.table.now in
    let it = row-there (table_of t).rows c.args.row c.requires.there in
    ap length (c.weights.ensures it.0 it.1) ∙ row-has (λ r. length r.weights ≡ weight_count_of t) (table_of t).rows c.args.row it.0 it.1 (rows-weighed t)

pub raise_to-requires-clause-weights_range : goal.raise_to-requires-clause-weights_range
raise_to-requires-clause-weights_range c =
    let t = c.args.self.now.table.now in
    let it = row-there (table_of t).rows c.args.row c.requires.there in
    subst (All IsInRange) (sym (c.weights.ensures it.0 it.1)) (row-has (λ r. All IsInRange r.weights) (table_of t).rows c.args.row it.0 it.1 c.args.self.now.in_range)

pub returns-clause-raised : goal.returns-clause-raised
returns-clause-raised c =
    let t = c.args.self.now.table.now in
    let q = question_of t c.args.question.now in
    let changes = changes_of c.args.question.now.changes.now in
    let set = bits_of c.get.new.set in
    let it = row-there (table_of t).rows c.args.row c.requires.there in
    let left : bits_of c.find.new.self.left ≡ left_of changes set = c.in_ok-find.ensures.left in
    let free : c.deref.result.now ≡ free_places changes.whens set (left_of changes set) =
    c.deref.ensures.value ∙ whole (goal.at.returns-clause-raised c).After-is_outnumbered c.if-is_outnumbered.false in
    let weights = c.weights.ensures it.0 it.1 in
    agreeing-raised q c.args.row set c.get.ensures.set it.0 c.args.most.now c.raise_to.new.most c.raise_to.result (sym c.all_are_so.ensures ∙ c.if-not-all_are_so.false) it.1
    (subst (λ (from : List ℤ). RaisesTo (table_of t) from (ways (left_of changes set) (free_places changes.whens set (left_of changes set))) c.args.most.now c.raise_to.new.most c.raise_to.result) weights
    (subst (λ ws. RaisesTo (table_of t) c.weights.result.now ws c.args.most.now c.raise_to.new.most c.raise_to.result) (λ i. ways (left i) (free i)) c.raise_to.ensures.raised))

pub returns-clause-scratch : goal.returns-clause-scratch
returns-clause-scratch c = record {
  row = ap length c.in_ok-find.ensures.row ∙ c.get.ensures.width;
  left = ap length c.raise_to.ensures.set ∙ left-long (goal.at.returns-clause-scratch c).After-is_outnumbered;
}
