use Rattle.std.proofs.Common.{◌≡◌, ◌∙◌, arith, ap, length, map, refl}
use Rattle.std.specs.Prelude.{Some, slice_get}
use Rattle.std.specs.Option.{option_map}
use Rattle.std.proofs.lemmas.List.{length-map}
use Rattle.std.proofs.lemmas.Option.{slice_get-map, slice_get_read}
use Rattle.table_rows.specs.Tables.{table_of}
use Rattle.certificate.specs.Gathering.{table_text}
use Rattle.certificate.proofs.GatheringLemmas.{all_passed, next_begun, next_passed}
use Rattle.certificate.proofs.writer.write_tables.Goals as goal
use Rattle.certificate.proofs.writer.write_tables.Goals.{After-write_table}
use Rattle.certificate.proofs.writer.write_tables.Given.{Over}

there : (g : Over) (c : After-write_table g) → slice_get (map table_of c.args.tables.now) c.loop-table.table-index ≡ Some (table_of c.table-item.result)
there g c =
    let tables = c.args.tables.now in
    let i = c.loop-table.table-index in
    slice_get-map table_of tables i ∙ ap (option_map table_of) (slice_get_read tables (length tables) i c.table-item.result refl c.loop-table-test.true c.table-item.is)

pub returns-in_err-write_table-clause-beginning : goal.returns-in_err-write_table-clause-beginning
returns-in_err-write_table-clause-beginning g c =
    next_begun table_text (map table_of c.args.tables.now) _ _ _ _ c.loop-table.table-index c.loop-table.invariant.passed (table_of c.table-item.result)
    (there g (goal.at.returns-in_err-write_table-clause-beginning g c).After-write_table) _ c.write_table.ensures.beginning

pub loop-table-preserved : goal.loop-table-preserved
loop-table-preserved g c =
    record {
      passed = next_passed table_text (map table_of c.args.tables.now) _ _ _ _ c.loop-table.table-index c.loop-table.invariant.passed (table_of c.table-item.result)
          (there g (goal.at.loop-table-preserved g c).After-write_table) _ _ c.in_ok-write_table.ensures.text;
      failures = c.in_ok-write_table.ensures.failures ∙ c.loop-table.invariant.failures;
      name = c.in_ok-write_table.ensures.name ∙ c.loop-table.invariant.name;
    }

pub returns-clause-text : goal.returns-clause-text
returns-clause-text g c =
    all_passed table_text (map table_of c.args.tables.now) _ _ _ _ c.loop-table.table-index c.loop-table.invariant.passed
    (omega (arith, length-map c.args.tables.now table_of, c.loop-table-test.false))

pub returns-clause-beginning : goal.returns-clause-beginning
returns-clause-beginning g c = let passed = returns-clause-text g c in (passed.0, c.loop-table.held.items, passed.2, passed.1)
