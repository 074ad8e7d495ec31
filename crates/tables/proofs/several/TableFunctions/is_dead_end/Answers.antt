use Rattle.std.proofs.Common.{◌≡◌, ◌∙◌, false, sym, ap, subst}
use Rattle.packed_state.specs.Packed.{bits_of}
use Rattle.lower_bounds.specs.TableFunctions.{dead_ends_of, is_dead_by, has_rows}
use Rattle.tables.specs.AllTables.{tables_of, count_of}
use Rattle.tables.specs.Several.{several_of}
use Rattle.tables.proofs.ValueLemmas.{none-dead}
use Rattle.tables.proofs.several.TableFunctions.is_dead_end.Goals as goal

pub returns-then-not-are_all-clause-dead : goal.returns-then-not-are_all-clause-dead
returns-then-not-are_all-clause-dead c =
    none-dead (dead_ends_of (several_of c.args.self.now)) (bits_of c.args.state.now)
    (subst (λ bits. has_rows (tables_of c.args.self.now.tables) bits ≡ false) c.move_to.ensures.state (sym (c.are_all.ensures (tables_of c.args.self.now.tables) (count_of c.args.self.now.tables) c.move_to.ensures.known.rows) ∙ c.if-not-are_all.true))

pub is_dead_with_rows-requires-clause-rows : goal.is_dead_with_rows-requires-clause-rows
is_dead_with_rows-requires-clause-rows c = sym (c.are_all.ensures (tables_of c.args.self.now.tables) (count_of c.args.self.now.tables) c.move_to.ensures.known.rows) ∙ c.if-not-are_all.false

pub returns-clause-dead : goal.returns-clause-dead
returns-clause-dead c = c.is_dead_with_rows.ensures ∙ ap (is_dead_by (dead_ends_of (several_of c.args.self.now))) c.move_to.ensures.state
