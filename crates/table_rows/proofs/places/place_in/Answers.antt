use Rattle.std.proofs.Common.{◌∙◌, sym}
use Rattle.table_rows.proofs.places.place_in.Goals as goal

pub returns-in-Some : goal.returns-in-Some
returns-in-Some c = sym c.in-Some.is ∙ c.position_in.ensures
