use Rattle.std.proofs.Common.{◌≡◌, ◌∙◌, ◌<◌, length, map, refl, sym, ap, subst, arith}
use Rattle.std.specs.Prelude.{nat_lt, IfOk}
use Rattle.std.specs.List.{list_any}
use Rattle.std.proofs.lemmas.List.{length-map}
use Rattle.std.proofs.lemmas.Option.{slice_get_read}
use Rattle.grounding.specs.Views.{numbered_of}
use Rattle.packed_state.specs.Packed.{bits_of}
use Rattle.lower_bounds.specs.TableFunctions.{Row, Table}
use Rattle.lower_bounds.specs.FairTables.{agrees}
use Rattle.table_rows.specs.Tables.{table_of}
use Rattle.tables.specs.AllTables.{tables_of}
use Rattle.table_rows.specs.Losses.{indexed_of}
use Rattle.tables.proofs.TablesLemmas.{all-agree, read-at, by-all}
use Rattle.tables.proofs.tables.IndexedTables.agrees_in.Goals as goal

pub returns-then-not-has : goal.returns-then-not-has
returns-then-not-has c = λ t at.
    let s = c.args.self.now in
    let items = s.tables.items in
    let within : c.args.table < length items = omega (arith, c.requires.there, length-map items indexed_of) in
    let read = slice_get_read items (length items) c.args.table c.index.result.now refl within c.index.ensures in
    ap (nat_lt 0) (c.row_count.ensures.rows ∙ ap (λ u. length (table_of u).rows) c.table.ensures ∙ ap (λ (u : Table). length u.rows) (read-at items c.args.table c.index.result.now t read at))
    ∙ sym (all-agree (tables_of s) s.by_atom (by-all s) c.args.table t at (bits_of c.args.named.now) (sym c.has.ensures ∙ c.if-not-has.true) (map numbered_of c.args.literals.now) c.requires.named)

pub returns : goal.returns
returns c = λ t at.
    let items = c.args.self.now.tables.items in
    let within : c.args.table < length items = omega (arith, c.requires.there, length-map items indexed_of) in
    let read = slice_get_read items (length items) c.args.table c.index-2.result.now refl within c.index-2.ensures in
    subst (λ (u : Table). IfOk c.some_agrees.result (λ some. some ≡ list_any (λ (r : Row). agrees (map numbered_of c.args.literals.now) u.scope r.atoms) u.rows))
    (read-at items c.args.table c.index-2.result.now t read at) c.some_agrees.ensures
