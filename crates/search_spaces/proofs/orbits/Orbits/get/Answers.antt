use Rattle.std.proofs.Common.{◌∙◌, sym}
use Rattle.search_spaces.proofs.orbits.Orbits.get.Goals as goal

pub get-requires-clause-width : goal.get-requires-clause-width
get-requires-clause-width c = c.requires.width ∙ sym c.requires.linked.rows_width
