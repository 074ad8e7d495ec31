use Rattle.std.proofs.Common.{◌≡◌, ◌<◌, length, map, get_or, ap, arith, pos, to_z, of_z, w64}
use Rattle.std.specs.Prelude.{nat_lt}
use Rattle.std.proofs.lemmas.Int.{ints}
use Rattle.std.proofs.lemmas.List.{length-map}
use Rattle.potentials.specs.Potentials.{potentials_of}
use Rattle.tables.specs.AllTables.{tables_of, count_of}
use Rattle.tables.specs.Several.{state_of}
use Rattle.tables.proofs.SeveralLemmas.{function_at}
use Rattle.tables.proofs.ValueLemmas.{rows-give, value-is}
use Rattle.tables.proofs.several.TableFunctions.is_dead_with_rows.Goals as goal

pub total-requires-clause-place : goal.total-requires-clause-place
total-requires-clause-place c = omega (arith, c.len.ensures, c.args.self.now.together.counts)

pub returns : goal.returns
returns c =
    let self = c.args.self.now in
    let known = c.args.known.now in
    let tables = tables_of self.tables in
    let values = self.values.items in
    let place = length (map potentials_of values) in
    let last : length values ≡ place = omega (arith, length-map values potentials_of) in
    let read : c.len.result ≡ place = omega (arith, c.len.ensures, last) in
    let below : place < count_of self.tables = omega (arith, last, self.together.counts) in
    let scored = ap (λ n. get_or known.scores.items n (pos 0)) last in
    let scores = ap (λ n. get_or known.scores.items n (pos 0)) read in
    let totals = ap (λ n. get_or known.rows.sums.totals.items n (pos 0)) read in
    let dead = c.requires.known.scores.last in
    let is = c.total.ensures.total in
    let most = c.total.ensures.most in
    let value = value-is (function_at tables (potentials_of self.dead_ends) place) (state_of known) c.or_zero.result (to_z w64 (of_z w64 c.total.result)) (get_or known.scores.items place (pos 0)) (get_or known.rows.sums.totals.items place (pos 0))
    c.or_zero.ensures c.requires.rows (omega (arith, ints)) (rows-give tables (count_of self.tables) place known.rows below c.requires.known.rows) (omega (arith, ints)) in
    ap (nat_lt 0) value
