use Rattle.std.proofs.Common.{◌≡◌, ◌∙◌, ◌<◌, length, refl, sym, ap, subst, arith}
use Rattle.std.proofs.lemmas.Option.{slice_get_read, same_Some}
use Rattle.packed_state.specs.Packed.{bits_of}
use Rattle.lower_bounds.specs.TableFunctions.{Table}
use Rattle.tables.specs.RowIndex.{indexed_in}
use Rattle.tables.specs.AllTables.{tables_of}
use Rattle.tables.specs.KnownRows.{IsPlaceOfRow}
use Rattle.tables.specs.Projections.{set_at}
use Rattle.tables.proofs.ProjectionsLemmas.{set-read, found-row}
use Rattle.tables.proofs.projections.Projections.find.Goals as goal
use Rattle.tables.proofs.projections.Projections.find.Goals.{After-index}

read : (c : After-index) → set_at c.args.self.now c.args.place ≡ bits_of c.index.result.now
read c =
    let items = c.args.self.now.sets.items in
    let within : c.args.place < length items = omega (arith, c.requires.there, c.requires.projections.long) in
    set-read items c.args.place c.index.result.now (slice_get_read items (length items) c.args.place c.index.result.now refl within c.index.ensures)

pub find-requires : goal.find-requires
find-requires c = ap length (sym (read (goal.at.find-requires c).After-index)) ∙ c.requires.projections.wide c.args.place (indexed_in c.rows.result.now) c.rows.ensures

pub returns : goal.returns
returns c = λ t at.
    let is = read (goal.at.returns c).After-index in
    subst (λ (u : Table). IsPlaceOfRow u (bits_of c.args.self.now.state) c.find.result) (same_Some (indexed_in c.rows.result.now) t (sym c.rows.ensures ∙ at))
    (found-row (tables_of c.args.tables.now) c.args.self.now c.args.place (indexed_in c.rows.result.now) (bits_of c.index.result.now) c.requires.projections c.rows.ensures (sym is)
    c.find.result c.find.ensures.there c.find.ensures.row)
