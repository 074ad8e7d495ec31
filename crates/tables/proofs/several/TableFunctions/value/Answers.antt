use Rattle.std.proofs.Common.{◌≡◌, ◌∙◌, map, false, sym, ap, subst}
use Rattle.packed_state.specs.Packed.{bits_of}
use Rattle.potentials.specs.Potentials.{potentials_of}
use Rattle.lower_bounds.specs.TableFunctions.{functions_of, greatest_value, has_rows}
use Rattle.tables.specs.AllTables.{tables_of, count_of}
use Rattle.tables.specs.Several.{several_of}
use Rattle.tables.proofs.ValueLemmas.{none-greatest}
use Rattle.tables.proofs.several.TableFunctions.value.Goals as goal

pub returns-then-not-are_all-clause-value : goal.returns-then-not-are_all-clause-value
returns-then-not-are_all-clause-value c =
    let tables = tables_of c.args.self.now.tables in
    let none = subst (λ bits. has_rows tables bits ≡ false) c.move_to.ensures.state (sym (c.are_all.ensures (tables_of c.args.self.now.tables) (count_of c.args.self.now.tables) c.move_to.ensures.known.rows) ∙ c.if-not-are_all.true) in
    sym (none-greatest tables 0 (map potentials_of c.args.self.now.values.items) (bits_of c.args.state.now) none)

pub greatest-requires-clause-rows : goal.greatest-requires-clause-rows
greatest-requires-clause-rows c = sym (c.are_all.ensures (tables_of c.args.self.now.tables) (count_of c.args.self.now.tables) c.move_to.ensures.known.rows) ∙ c.if-not-are_all.false

pub returns-clause-value : goal.returns-clause-value
returns-clause-value c = c.greatest.ensures.value ∙ ap (greatest_value (functions_of (several_of c.args.self.now))) c.move_to.ensures.state
