use Rattle.std.proofs.Common.{◌∙◌, sym}
use Rattle.tables.proofs.several.TableFunctions.value_with_rows.Goals as goal

pub returns-then-is_dead_with_rows : goal.returns-then-is_dead_with_rows
returns-then-is_dead_with_rows c = sym c.is_dead_with_rows.ensures ∙ c.if-is_dead_with_rows.true

pub returns : goal.returns
returns c = (sym c.is_dead_with_rows.ensures ∙ c.if-is_dead_with_rows.false, c.greatest.ensures.value, c.greatest.ensures.small)
