use Rattle.std.proofs.Common.{◌≡◌, ◌+◌, length, sym, subst, arith}
use Rattle.std.proofs.lemmas.List.Elements.{All-push}
use Rattle.table_rows.specs.Tables.{weight_count_of}
use Rattle.table_rows.specs.declared.table.Table.{Table}
use Rattle.cert_checker.specs.Tabled.{HaveWeights}
use Rattle.cert_checker.proofs.table_lines.take_scope.Goals as goal

pub returns-clause-weighed : goal.returns-clause-weighed
returns-clause-weighed c = λ weighed.
    let count = length c.args.evidence.now.values.items + 1 in
    subst (HaveWeights count) (sym c.in_ok-push.ensures.items)
    (All-push (λ (t : Table). weight_count_of t ≡ count) c.args.evidence.now.tables.items c.in_ok-table.table weighed (omega (arith, c.in_ok-table.ensures.count, c.len.ensures)))
