use Rattle.std.proofs.Common.{◌∙◌, ◌≤◌, length, map, ap, arith}
use Rattle.std.proofs.lemmas.List.{length-map, take_all}
use Rattle.potentials.specs.Potentials.{potentials_of}
use Rattle.lower_bounds.specs.TableFunctions.{functions_of, greatest_value}
use Rattle.table_rows.proofs.FateLemmas.{row-there}
use Rattle.tables.specs.AllTables.{tables_of}
use Rattle.tables.specs.Several.{several_of, state_of}
use Rattle.tables.proofs.SeveralLemmas.{length-over}
use Rattle.tables.proofs.ValueLemmas.{greatest-more}
use Rattle.tables.proofs.several.TableFunctions.greatest.Goals as goal

pub value_with_all-requires-clause-place : goal.value_with_all-requires-clause-place
value_with_all-requires-clause-place c = omega (arith, c.loop-place-test.true, c.len-place-end.ensures)

pub loop-place-preserved : goal.loop-place-preserved
loop-place-preserved c =
    let items = c.args.self.now.values.items in
    let functions = functions_of (several_of c.args.self.now) in
    let k = c.loop-place.place in
    let it = row-there functions k (omega (arith, c.loop-place-test.true, c.len-place-end.ensures, length-over (tables_of c.args.self.now.tables) 0 (map potentials_of items), length-map items potentials_of)) in (
      greatest-more functions k it.0 (state_of c.args.known.now) c.loop-place.greatest c.greater-greatest.result c.value_with_all.result it.1 c.loop-place.invariant.0 (c.value_with_all.ensures.value it.0 it.1) c.greater-greatest.ensures,
      omega (arith, c.value_with_all.ensures.small, c.greater-greatest.ensures, c.loop-place.invariant.1),
    )

pub returns-clause-small : goal.returns-clause-small
returns-clause-small c = c.loop-place.invariant.1

pub returns-clause-value : goal.returns-clause-value
returns-clause-value c =
    let items = c.args.self.now.values.items in
    let functions = functions_of (several_of c.args.self.now) in
    let all : length functions ≤ c.loop-place.place =
    omega (arith, c.loop-place-test.false, c.len-place-end.ensures, length-over (tables_of c.args.self.now.tables) 0 (map potentials_of items), length-map items potentials_of) in
    c.loop-place.invariant.0 ∙ ap (λ l. greatest_value l (state_of c.args.known.now)) (take_all c.loop-place.place functions all)
