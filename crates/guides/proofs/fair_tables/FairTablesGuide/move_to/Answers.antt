use Rattle.std.proofs.Common.{◌∙◌, sym}
use Rattle.guides.proofs.fair_tables.FairTablesGuide.move_to.Goals as goal

pub move_to-requires-clause-width : goal.move_to-requires-clause-width
move_to-requires-clause-width c = c.requires.width ∙ sym c.args.self.now.width
