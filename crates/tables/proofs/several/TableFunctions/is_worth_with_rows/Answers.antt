use Rattle.std.proofs.Common.{◌≤◌, length, map, ap, sym, arith}
use Rattle.std.proofs.lemmas.Bool.{le-leb}
use Rattle.std.proofs.lemmas.List.{length-map, take_all}
use Rattle.potentials.specs.Potentials.{potentials_of}
use Rattle.lower_bounds.specs.TableFunctions.{functions_of, greatest_value}
use Rattle.table_rows.proofs.FateLemmas.{row-there}
use Rattle.tables.specs.AllTables.{tables_of}
use Rattle.tables.specs.Several.{several_of, state_of}
use Rattle.tables.proofs.SeveralLemmas.{length-over}
use Rattle.tables.proofs.ValueLemmas.{greatest-least, greatest-below, worth-is}
use Rattle.tables.proofs.several.TableFunctions.is_worth_with_rows.Goals as goal

pub value_with_all-requires-clause-place : goal.value_with_all-requires-clause-place
value_with_all-requires-clause-place c = omega (arith, c.loop-place-test.true, c.len-place-end.ensures)

pub loop-place-preserved : goal.loop-place-preserved
loop-place-preserved c = λ some.
    let items = c.args.self.now.values.items in
    let functions = functions_of (several_of c.args.self.now) in
    let k = c.loop-place.place in
    let it = row-there functions k (omega (arith, c.loop-place-test.true, c.len-place-end.ensures, length-over (tables_of c.args.self.now.tables) 0 (map potentials_of items), length-map items potentials_of)) in
    greatest-below functions k it.0 (state_of c.args.known.now) c.args.least it.1 (c.loop-place.invariant some)
    (omega (arith, c.value_with_all.ensures.value it.0 it.1, c.if-value_with_all-least.false))

pub returns-then-value_with_all-least : goal.returns-then-value_with_all-least
returns-then-value_with_all-least c =
    let items = c.args.self.now.values.items in
    let functions = functions_of (several_of c.args.self.now) in
    let k = c.loop-place.place in
    let it = row-there functions k (omega (arith, c.loop-place-test.true, c.len-place-end.ensures, length-over (tables_of c.args.self.now.tables) 0 (map potentials_of items), length-map items potentials_of)) in
    let most = greatest-least functions k it.0 (state_of c.args.known.now) it.1 in
    sym (le-leb c.args.least (greatest_value functions (state_of c.args.known.now)) (omega (arith, most, c.value_with_all.ensures.value it.0 it.1, c.if-value_with_all-least.true)))

pub returns : goal.returns
returns c =
    let items = c.args.self.now.values.items in
    let functions = functions_of (several_of c.args.self.now) in
    let all : length functions ≤ c.loop-place.place =
    omega (arith, c.loop-place-test.false, c.len-place-end.ensures, length-over (tables_of c.args.self.now.tables) 0 (map potentials_of items), length-map items potentials_of) in
    worth-is c.args.least (greatest_value functions (state_of c.args.known.now))
    (λ some. let below = c.loop-place.invariant some in let whole = ap (λ l. greatest_value l (state_of c.args.known.now)) (take_all c.loop-place.place functions all) in omega (arith, below, whole))
