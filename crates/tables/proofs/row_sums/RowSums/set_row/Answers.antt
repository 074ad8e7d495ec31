use Rattle.std.proofs.Common.{◌∙◌, ◌<◌, Some, length, sym, ap, subst}
use Rattle.std.specs.Prelude.{IfSome, slice_set}
use Rattle.tables.proofs.RowSumsLemmas.{set-twice}
use Rattle.tables.proofs.row_sums.RowSums.set_row.Goals as goal

pub put_on-requires-clause-row : goal.put_on-requires-clause-row
put_on-requires-clause-row c = λ t at. subst (λ o. IfSome o (λ row. row < length t.rows)) c.in-Some.is (c.requires.row t at)

pub returns-in-Some-clause-rows : goal.returns-in-Some-clause-rows
returns-in-Some-clause-rows c =
    c.put_on.ensures.rows ∙ ap (λ l. slice_set l c.args.place (Some c.in-Some.row)) c.take_off.ensures.rows ∙ set-twice c.args.self.now.rows.items c.args.place _ (Some c.in-Some.row)
    ∙ ap (slice_set c.args.self.now.rows.items c.args.place) (sym c.in-Some.is)
