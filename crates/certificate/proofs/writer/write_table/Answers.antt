use Rattle.std.proofs.Common.{◌≡◌, ◌∙◌, ◌++◌, [], ap}
use Rattle.std.specs.List.{flat_map}
use Rattle.table_rows.specs.Tables.{table_of}
use Rattle.certificate.specs.Gathering.{IsPassedOn, row_line, scope_line}
use Rattle.certificate.proofs.GatheringLemmas.{added_begun, added_passed, passed_beginning, passed_nothing, then_begun, then_where_ok}
use Rattle.certificate.proofs.writer.write_table.Goals as goal
use Rattle.certificate.proofs.writer.write_table.Goals.{In_ok-add_scope, In_ok-pass_on}
use Rattle.certificate.proofs.writer.write_table.Given.{Over}

-- the scope's line is buffered, and then written out or not
added : (g : Over) (c : In_ok-add_scope g) → c.add_scope.new.text.items ≡ c.args.held.now.items ++ scope_line (table_of c.args.table.now).scope
added g c = c.in_ok-add_scope.ensures ∙ ap (λ numbers. c.args.held.now.items ++ scope_line numbers) c.scope.ensures

passed : (g : Over) (c : In_ok-pass_on g) (at : In_ok-add_scope g) → c.add_scope.new.text.items ≡ c.args.held.now.items ++ scope_line (table_of c.args.table.now).scope
    → IsPassedOn (g.W.Sink.taken c.args.out.now) (g.W.Sink.taken c.pass_on.new.out) c.args.held.now.items c.pass_on.new.held.items (scope_line (table_of c.args.table.now).scope)
passed g c at is = added_passed _ _ c.args.held.now.items _ (scope_line (table_of c.args.table.now).scope) is _ c.in_ok-pass_on.ensures.text

pub returns-in_err-pass_on-clause-beginning : goal.returns-in_err-pass_on-clause-beginning
returns-in_err-pass_on-clause-beginning g c =
    let t = table_of c.args.table.now in
    let before = g.W.Sink.taken c.args.out.now in
    let held = c.args.held.now.items in
    passed_beginning before before held held [] (passed_nothing before held) (g.W.Sink.taken c.pass_on.new.out) (scope_line t.scope) (flat_map row_line t.rows)
    (added_begun _ _ held _ (scope_line t.scope) (added g (goal.at.returns-in_err-pass_on-clause-beginning g c).In_ok-add_scope) c.pass_on.ensures.beginning)

pub returns-clause-text : goal.returns-clause-text
returns-clause-text g c =
    let t = table_of c.args.table.now in
    let at = goal.at.returns-clause-text g c in
    then_where_ok c.write_rows.result _ _ _ c.args.held.now.items _ _ (scope_line t.scope) (flat_map row_line t.rows) (passed g at.In_ok-pass_on at.In_ok-add_scope (added g at.In_ok-add_scope)) c.write_rows.ensures.text

pub returns-clause-beginning : goal.returns-clause-beginning
returns-clause-beginning g c =
    let t = table_of c.args.table.now in
    let at = goal.at.returns-clause-beginning g c in
    then_begun _ _ _ c.args.held.now.items _ (scope_line t.scope) (flat_map row_line t.rows) (passed g at.In_ok-pass_on at.In_ok-add_scope (added g at.In_ok-add_scope)) c.write_rows.ensures.beginning
