-- Views of fair values over tables in memory.
use Rattle.grounding.specs.declared.ground.Ground.{Ground}
use Rattle.lower_bounds.specs.TableFunctions.{SeveralValues}
use Rattle.tables.specs.Several.{several_of}
use Rattle.guides.specs.declared.fair_tables.FairTables.{FairTables}

abbrev pub functions_in : FairTables → SeveralValues
functions_in f = several_of f.functions

abbrev pub ground_in : FairTables → Ground
ground_in f = f.ground.now
