use Rattle.std.proofs.Common.{◌≡◌, ◌∙◌, ◌<◌, length, refl, sym, ap, arith}
use Rattle.std.specs.Prelude.{slice_get}
use Rattle.std.proofs.lemmas.List.{length-map}
use Rattle.std.proofs.lemmas.Option.{slice_get_read}
use Rattle.tables.specs.AllTables.{tables_of}
use Rattle.tables.specs.RowIndex.{indexed_in}
use Rattle.tables.specs.declared.tables.IndexedTables.{IndexedTables}
use Rattle.tables.proofs.TablesLemmas.{mapped-at}
use Rattle.tables.proofs.tables.IndexedTables.rows.Goals as goal

as-many : (all : IndexedTables) → length all.rows.items ≡ length (tables_of all)
as-many all = sym (length-map all.rows.items indexed_in) ∙ ap length all.rows_of_each

pub index-requires : goal.index-requires
index-requires c = omega (arith, c.requires, as-many c.args.self.now, c.args.self.now.rows.ok.0)

pub returns : goal.returns
returns c =
    let rows = c.args.self.now.rows.items in
    let within : c.args.place < length rows = omega (arith, c.requires, as-many c.args.self.now) in
    sym (ap (λ l. slice_get l c.args.place) c.args.self.now.rows_of_each) ∙ mapped-at indexed_in rows c.args.place c.index.result.now (slice_get_read rows (length rows) c.args.place c.index.result.now refl within c.index.ensures)
