use Rattle.std.proofs.Common.{◌≡◌, ◌∙◌, ◌+◌, ◌<◌, map, get_or, Some, sym, ap, arith, pos, to_z, of_z, w64}
use Rattle.std.proofs.lemmas.Int.{ints}
use Rattle.std.proofs.lemmas.Option.{same_Some}
use Rattle.lower_bounds.proofs.PotentialFalls.{or_zero-most}
use Rattle.potentials.specs.Potentials.{potentials_of}
use Rattle.lower_bounds.specs.TableFunctions.{TableFunction, value}
use Rattle.table_rows.proofs.FateLemmas.{row-there}
use Rattle.tables.specs.AllTables.{tables_of, count_of}
use Rattle.tables.specs.Several.{state_of}
use Rattle.tables.proofs.SeveralLemmas.{function_at, over-at}
use Rattle.tables.proofs.TablesLemmas.{mapped-at}
use Rattle.tables.proofs.ValueLemmas.{rows-give, value-is}
use Rattle.tables.proofs.several.TableFunctions.value_with_all.Goals as goal

pub total-requires-clause-place : goal.total-requires-clause-place
total-requires-clause-place c = omega (arith, c.requires.place, c.args.self.now.together.counts)

pub returns-clause-value : goal.returns-clause-value
returns-clause-value c = λ h at.
    let self = c.args.self.now in
    let items = self.values.items in
    let tables = tables_of self.tables in
    let known = c.args.known.now in
    let k = c.args.place in
    let below : k < count_of self.tables = omega (arith, c.requires.place, self.together.counts) in
    let it = row-there items k c.requires.place in
    let p = potentials_of it.0 in
    let same : 0 + k ≡ k = omega arith in
    let named = over-at tables 0 (map potentials_of items) k p (mapped-at potentials_of items k it.0 it.1) ∙ ap (λ n. Some (function_at tables p n)) same in
    let is = c.total.ensures.total in
    let most = c.total.ensures.most in
    value-is (function_at tables p k) (state_of known) c.or_zero.result (to_z w64 (of_z w64 c.total.result)) (get_or known.scores.items k (pos 0)) (get_or known.rows.sums.totals.items k (pos 0)) c.or_zero.ensures c.requires.rows
    (c.requires.known.scores.each k it.0 it.1) (rows-give tables (count_of self.tables) k known.rows below c.requires.known.rows) (omega (arith, ints))
    ∙ ap (λ (g : TableFunction). value g (state_of known)) (same_Some (function_at tables p k) h (sym named ∙ at))

pub returns-clause-small : goal.returns-clause-small
returns-clause-small c =
    let most = c.total.ensures.most in
    let small = or_zero-most (to_z w64 (of_z w64 c.total.result)) 9223372036854775807 (omega (arith, ints)) in
    omega (arith, small, c.or_zero.ensures)
