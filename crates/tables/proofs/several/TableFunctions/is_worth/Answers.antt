use Rattle.std.proofs.Common.{◌≡◌, ◌∙◌, map, false, sym, ap, subst, arith}
use Rattle.std.specs.Prelude.{nat_le}
use Rattle.packed_state.specs.Packed.{bits_of}
use Rattle.potentials.specs.Potentials.{potentials_of}
use Rattle.lower_bounds.specs.TableFunctions.{functions_of, greatest_value, has_rows}
use Rattle.tables.specs.AllTables.{tables_of, count_of}
use Rattle.tables.specs.Several.{several_of}
use Rattle.tables.proofs.ValueLemmas.{none-greatest, worth-is}
use Rattle.tables.proofs.several.TableFunctions.is_worth.Goals as goal

pub returns-then-not-are_all-clause-worth : goal.returns-then-not-are_all-clause-worth
returns-then-not-are_all-clause-worth c =
    let tables = tables_of c.args.self.now.tables in
    let none = subst (λ bits. has_rows tables bits ≡ false) c.move_to.ensures.state (sym (c.are_all.ensures (tables_of c.args.self.now.tables) (count_of c.args.self.now.tables) c.move_to.ensures.known.rows) ∙ c.if-not-are_all.true) in
    let is = none-greatest tables 0 (map potentials_of c.args.self.now.values.items) (bits_of c.args.state.now) none in
    worth-is c.args.least (greatest_value (functions_of (several_of c.args.self.now)) (bits_of c.args.state.now)) (λ some. omega (arith, some, is))

pub is_worth_with_rows-requires-clause-rows : goal.is_worth_with_rows-requires-clause-rows
is_worth_with_rows-requires-clause-rows c = sym (c.are_all.ensures (tables_of c.args.self.now.tables) (count_of c.args.self.now.tables) c.move_to.ensures.known.rows) ∙ c.if-not-are_all.false

pub returns-clause-worth : goal.returns-clause-worth
returns-clause-worth c = c.is_worth_with_rows.ensures ∙ ap (λ bits. nat_le c.args.least (greatest_value (functions_of (several_of c.args.self.now)) bits)) c.move_to.ensures.state
