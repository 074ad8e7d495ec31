use Rattle.std.proofs.Common.{◌≡◌, ◌∙◌, length, sym, ap, subst, ℤ, List}
use Rattle.std.specs.Prelude.{All}
use Rattle.packed_state.specs.Packed.{bits_of}
use Rattle.lower_bounds.specs.PotentialFunctions.{IsInRange}
use Rattle.table_rows.specs.Tables.{table_of, weight_count_of}
use Rattle.table_rows.proofs.TableLemmas.{rows-weighed}
use Rattle.table_rows.specs.Columns.{AreRaisedBy}
use Rattle.table_rows.proofs.ColumnLemmas.{row-has, one-raised}
use Rattle.table_rows.proofs.FateLemmas.{row-there}
use Rattle.table_rows.proofs.indexed.IndexedTable.raise_to_row.Goals as goal

pub raise-requires-clause-to : goal.raise-requires-clause-to
raise-requires-clause-to c =
    let t = c.args.self.now.table.now in
    let it = row-there (table_of t).rows c.in-Some.row c.in-Some.ensures.there in
    ap length (c.weights.ensures it.0 it.1) ∙ row-has (λ r. length r.weights ≡ weight_count_of t) (table_of t).rows c.in-Some.row it.0 it.1 (rows-weighed t) ∙ sym c.requires.long

pub raise-requires-clause-to_range : goal.raise-requires-clause-to_range
raise-requires-clause-to_range c =
    let t = c.args.self.now.table.now in
    let it = row-there (table_of t).rows c.in-Some.row c.in-Some.ensures.there in
    subst (All IsInRange) (sym (c.weights.ensures it.0 it.1)) (row-has (λ r. All IsInRange r.weights) (table_of t).rows c.in-Some.row it.0 it.1 c.args.self.now.in_range)

pub returns-in-Some : goal.returns-in-Some
returns-in-Some c =
    let t = table_of c.args.self.now.table.now in
    let it = row-there t.rows c.in-Some.row c.in-Some.ensures.there in
    one-raised t c.args.from.now (bits_of c.args.set.now) it.0 c.args.most.now c.raise.new.most (sym c.in-Some.ensures.row ∙ it.1)
    (subst (λ (to : List ℤ). AreRaisedBy c.args.from.now to c.args.most.now c.raise.new.most) (c.weights.ensures it.0 it.1) c.raise.ensures.raised) c.raise.ensures.range
