use Rattle.std.proofs.Common.{◌∙◌, sym}
use Rattle.packed_state.specs.Packed.{bits_of}
use Rattle.lower_bounds.specs.TableFunctions.{functions_of, dead_ends_of, greatest_value, is_dead_by}
use Rattle.guides.specs.FairTables.{functions_in}
use Rattle.guides.proofs.GuideLemmas.{reported}
use Rattle.guides.proofs.fair_tables.FairTablesGuide.value.Goals as goal

pub value_unless_dead-requires-clause-width : goal.value_unless_dead-requires-clause-width
value_unless_dead-requires-clause-width c = c.requires.width ∙ sym c.args.self.now.width

pub returns-clause-value : goal.returns-clause-value
returns-clause-value c =
    reported (greatest_value (functions_of (functions_in c.args.self.now))) (is_dead_by (dead_ends_of (functions_in c.args.self.now))) (bits_of c.args.state.now) c.value_unless_dead.result c.value_unless_dead.ensures.value
