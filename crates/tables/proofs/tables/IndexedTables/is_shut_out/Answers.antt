use Rattle.std.proofs.Common.{◌∙◌, not, map, sym, ap, arith}
use Rattle.std.specs.List.{list_any}
use Rattle.std.proofs.lemmas.List.{length-map, take_all}
use Rattle.grounding.specs.Views.{numbered_of}
use Rattle.lower_bounds.specs.TableFunctions.{Row, Table}
use Rattle.lower_bounds.specs.FairTables.{agrees, is_shut_out}
use Rattle.tables.specs.AllTables.{tables_of}
use Rattle.table_rows.specs.Losses.{indexed_of}
use Rattle.table_rows.proofs.AgreeingLemmas.{none-more, some-here}
use Rattle.table_rows.proofs.FateLemmas.{row-there}
use Rattle.tables.proofs.tables.IndexedTables.is_shut_out.Goals as goal

pub returns-then-not-branch : goal.returns-then-not-branch
returns-then-not-branch c =
    let s = c.args.self.now in
    let test = λ (t : Table). not (list_any (λ (r : Row). agrees (map numbered_of c.args.literals.now) t.scope r.atoms) t.rows) in
    let it = row-there (tables_of s) c.loop-table.table (omega (arith, c.loop-table-test.true, c.len-table-end.ensures, length-map s.tables.items indexed_of)) in
    sym (some-here test (tables_of s) c.loop-table.table it.0 it.1 (ap not (sym (c.in_ok-agrees_in.ensures it.0 it.1) ∙ c.if-not-branch.true)))

pub loop-table-preserved : goal.loop-table-preserved
loop-table-preserved c =
    let s = c.args.self.now in
    let test = λ (t : Table). not (list_any (λ (r : Row). agrees (map numbered_of c.args.literals.now) t.scope r.atoms) t.rows) in
    let it = row-there (tables_of s) c.loop-table.table (omega (arith, c.loop-table-test.true, c.len-table-end.ensures, length-map s.tables.items indexed_of)) in
    none-more test (tables_of s) c.loop-table.table it.0 it.1 c.loop-table.invariant (ap not (sym (c.in_ok-agrees_in.ensures it.0 it.1) ∙ c.if-not-branch.false))

pub returns : goal.returns
returns c =
    let s = c.args.self.now in
    sym (ap (is_shut_out (map numbered_of c.args.literals.now)) (sym (take_all c.loop-table.table (tables_of s) (omega (arith, c.loop-table-test.false, c.len-table-end.ensures, length-map s.tables.items indexed_of)))) ∙ c.loop-table.invariant)
