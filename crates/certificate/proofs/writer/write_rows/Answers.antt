use Rattle.std.proofs.Common.{◌≡◌, ℕ, ◌∙◌, ◌++◌, List, [], arith, ap, get_or, length, refl}
use Rattle.std.specs.Prelude.{Some, slice_get}
use Rattle.std.proofs.lemmas.List.FromFn.{length-map-range_with_len}
use Rattle.std.proofs.lemmas.Option.{slice_get-get_or}
use Rattle.lower_bounds.specs.TableFunctions.{Row}
use Rattle.table_rows.specs.Tables.{table_of}
use Rattle.certificate.specs.Gathering.{row_line}
use Rattle.certificate.proofs.GatheringLemmas.{added_begun, added_passed, all_passed, next_begun, next_passed, passed_nothing, so_far_begun}
use Rattle.certificate.proofs.writer.write_rows.Goals as goal
use Rattle.certificate.proofs.writer.write_rows.Goals.{In_ok-add_row}
use Rattle.certificate.proofs.writer.write_rows.Given.{Over}

pub loop-row-init : goal.loop-row-init
loop-row-init g c = record {
  width = ap length c.in-Ok.ensures ∙ length-map-range_with_len _ 0 c.width.result ∙ c.width.ensures;
  passed = passed_nothing _ _;
  failures = refl;
  name = refl;
}

-- what is written so far is a prefix
pub returns-in_default-list_atoms-clause-beginning : goal.returns-in_default-list_atoms-clause-beginning
returns-in_default-list_atoms-clause-beginning g c = so_far_begun row_line (table_of c.args.table.now).rows _ _ _ _ c.loop-row.row c.loop-row.invariant.passed

pub returns-in_err-add_row-clause-beginning : goal.returns-in_err-add_row-clause-beginning
returns-in_err-add_row-clause-beginning g c = so_far_begun row_line (table_of c.args.table.now).rows _ _ _ _ c.loop-row.row c.loop-row.invariant.passed

-- the row whose line is added
abbrev row_at : (g : Over) → In_ok-add_row g → Row
row_at g c = get_or (table_of c.args.table.now).rows c.loop-row.row (record { atoms = []; weights = [] })

there : (g : Over) (c : In_ok-add_row g) → slice_get (table_of c.args.table.now).rows c.loop-row.row ≡ Some (row_at g c)
there g c =
    slice_get-get_or (table_of c.args.table.now).rows c.loop-row.row (record { atoms = []; weights = [] }) (omega (arith, c.loop-row-test.true, c.row_count-row-end.ensures.rows))

added : (g : Over) (c : In_ok-add_row g) → c.add_row.new.text.items ≡ c.loop-row.held.items ++ row_line (row_at g c)
added g c =
    let r = row_at g c in
    let at = there g c in
    let atoms : c.deref.result.now ≡ r.atoms = c.deref.ensures.value ∙ c.in-Ok-list_atoms.ensures.atoms r at in
    let weights : c.weights.result.now ≡ r.weights = c.weights.ensures r at in
    ◌∙◌ {A = List ℕ} c.in_ok-add_row.ensures (λ j. c.loop-row.held.items ++ row_line (record { atoms = atoms j; weights = weights j }))

pub returns-in_err-pass_on-clause-beginning : goal.returns-in_err-pass_on-clause-beginning
returns-in_err-pass_on-clause-beginning g c =
    let at = (goal.at.returns-in_err-pass_on-clause-beginning g c).In_ok-add_row in
    next_begun row_line (table_of c.args.table.now).rows _ _ _ _ c.loop-row.row c.loop-row.invariant.passed (row_at g at) (there g at) _
    (added_begun _ _ c.loop-row.held.items _ (row_line (row_at g at)) (added g at) c.pass_on.ensures.beginning)

pub loop-row-preserved : goal.loop-row-preserved
loop-row-preserved g c =
    let at = (goal.at.loop-row-preserved g c).In_ok-add_row in
    record {
      width = c.list_atoms.ensures.width;
      passed = next_passed row_line (table_of c.args.table.now).rows _ _ _ _ c.loop-row.row c.loop-row.invariant.passed (row_at g at) (there g at) _ _
          (added_passed _ _ c.loop-row.held.items _ (row_line (row_at g at)) (added g at) _ c.in_ok-pass_on.ensures.text);
      failures = c.in_ok-pass_on.ensures.failures ∙ c.loop-row.invariant.failures;
      name = c.in_ok-pass_on.ensures.name ∙ c.loop-row.invariant.name;
    }

pub returns-clause-text : goal.returns-clause-text
returns-clause-text g c =
    all_passed row_line (table_of c.args.table.now).rows _ _ _ _ c.loop-row.row c.loop-row.invariant.passed (omega (arith, c.loop-row-test.false, c.row_count-row-end.ensures.rows))

pub returns-clause-beginning : goal.returns-clause-beginning
returns-clause-beginning g c = let passed = returns-clause-text g c in (passed.0, c.loop-row.held.items, passed.2, passed.1)
