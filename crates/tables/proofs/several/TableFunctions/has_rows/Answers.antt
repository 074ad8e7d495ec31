use Rattle.std.proofs.Common.{◌∙◌, ap}
use Rattle.lower_bounds.specs.TableFunctions.{has_rows}
use Rattle.tables.specs.AllTables.{tables_of, count_of}
use Rattle.tables.proofs.several.TableFunctions.has_rows.Goals as goal

pub returns-clause-rows : goal.returns-clause-rows
returns-clause-rows c =
    c.are_all.ensures (tables_of c.args.self.now.tables) (count_of c.args.self.now.tables) c.move_to.ensures.known.rows ∙ ap (has_rows (tables_of c.args.self.now.tables)) c.move_to.ensures.state
