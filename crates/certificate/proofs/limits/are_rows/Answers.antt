use Rattle.std.proofs.Common.{◌≡◌, ◌+◌, ◌<◌, [], length, sym, ap, ◌∙◌, arith, drop, get_or}
use Rattle.std.specs.Prelude.{◌&&◌, Some, slice_get}
use Rattle.std.specs.List.{list_all}
use Rattle.std.proofs.lemmas.Option.{slice_get-get_or}
use Rattle.lower_bounds.specs.TableFunctions.{Row}
use Rattle.table_rows.specs.Tables.{table_of}
use Rattle.certificate_definitions.specs.Certificates.{are_weights, is_row}
use Rattle.certificate.proofs.RowsLemmas.{from_row}
use Rattle.certificate.proofs.limits.are_rows.Goals as goal
use Rattle.certificate.proofs.limits.are_rows.Goals.{After-are_row_weights}

-- the row's weights, and the rows after it, decide
decided : (c : After-are_row_weights) → list_all (is_row c.args.atom_count c.args.weight_count (table_of c.args.table.now).scope) (table_of c.args.table.now).rows
    ≡ c.are_row_weights.result && list_all (is_row c.args.atom_count c.args.weight_count (table_of c.args.table.now).scope) (drop (c.loop-row.row + 1) (table_of c.args.table.now).rows)
decided c =
    let t = c.args.table.now in
    let i = c.loop-row.row in
    let within : i < length (table_of t).rows = omega (arith, c.loop-row-test.true, c.row_count-row-end.ensures.rows) in
    let r : Row = get_or (table_of t).rows i (record { atoms = []; weights = [] }) in
    let at : slice_get (table_of t).rows i ≡ Some r = slice_get-get_or (table_of t).rows i (record { atoms = []; weights = [] }) within in
    c.loop-row.invariant ∙ from_row t c.args.atom_count c.args.weight_count c.requires.scope i r at
    ∙ (λ k. sym (c.are_row_weights.ensures ∙ ap (are_weights c.args.weight_count) (c.weights.ensures r at)) k && list_all (is_row c.args.atom_count c.args.weight_count (table_of t).scope) (drop (i + 1) (table_of t).rows))

pub returns-then-not-are_row_weights : goal.returns-then-not-are_row_weights
returns-then-not-are_row_weights c =
    let rows = list_all (is_row c.args.atom_count c.args.weight_count (table_of c.args.table.now).scope) (drop (c.loop-row.row + 1) (table_of c.args.table.now).rows) in
    sym (decided (goal.at.returns-then-not-are_row_weights c).After-are_row_weights ∙ (λ k. c.if-not-are_row_weights.true k && rows))

pub loop-row-preserved : goal.loop-row-preserved
loop-row-preserved c =
    let rows = list_all (is_row c.args.atom_count c.args.weight_count (table_of c.args.table.now).scope) (drop (c.loop-row.row + 1) (table_of c.args.table.now).rows) in
    decided (goal.at.loop-row-preserved c).After-are_row_weights ∙ (λ k. c.if-not-are_row_weights.false k && rows)
