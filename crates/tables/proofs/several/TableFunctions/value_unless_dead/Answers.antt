use Rattle.std.proofs.Common.{◌≡◌, ◌∙◌, ◌<◌, ◌^◌, map, false, arith, sym, subst}
use Rattle.std.specs.Prelude.{IsTrue, MatchOption}
use Rattle.packed_state.specs.Packed.{bits_of}
use Rattle.potentials.specs.Potentials.{potentials_of}
use Rattle.lower_bounds.specs.TableFunctions.{functions_of, dead_ends_of, greatest_value, is_dead_by, has_rows}
use Rattle.tables.specs.AllTables.{tables_of, count_of}
use Rattle.tables.specs.Several.{several_of}
use Rattle.tables.proofs.ValueLemmas.{none-dead, none-greatest}
use Rattle.tables.proofs.several.TableFunctions.value_unless_dead.Goals as goal

pub returns-then-not-are_all-clause-value : goal.returns-then-not-are_all-clause-value
returns-then-not-are_all-clause-value c =
    let tables = tables_of c.args.self.now.tables in
    let none = subst (λ bits. has_rows tables bits ≡ false) c.move_to.ensures.state (sym (c.are_all.ensures (tables_of c.args.self.now.tables) (count_of c.args.self.now.tables) c.move_to.ensures.known.rows) ∙ c.if-not-are_all.true) in (
      sym (none-dead (dead_ends_of (several_of c.args.self.now)) (bits_of c.args.state.now) none),
      sym (none-greatest tables 0 (map potentials_of c.args.self.now.values.items) (bits_of c.args.state.now) none),
      omega arith,
    )

pub value_with_rows-requires-clause-rows : goal.value_with_rows-requires-clause-rows
value_with_rows-requires-clause-rows c = sym (c.are_all.ensures (tables_of c.args.self.now.tables) (count_of c.args.self.now.tables) c.move_to.ensures.known.rows) ∙ c.if-not-are_all.false

pub returns-clause-value : goal.returns-clause-value
returns-clause-value c =
    let s = several_of c.args.self.now in
    subst (λ bits. MatchOption c.value_with_rows.result (IsTrue (is_dead_by (dead_ends_of s) bits)) (λ value. (is_dead_by (dead_ends_of s) bits ≡ false) × (value ≡ greatest_value (functions_of s) bits) × (value < 2 ^ 63)))
    c.move_to.ensures.state c.value_with_rows.ensures
