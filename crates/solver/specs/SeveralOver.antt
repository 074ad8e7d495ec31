-- Several values and tables of the code, as the several values that they are.
use Rattle.std.specs.Prelude.{List, map}
use Rattle.potentials.specs.Potentials.{potentials_of}
use Rattle.potentials.specs.declared.potentials.Potentials.{Potentials}
use Rattle.lower_bounds.specs.TableFunctions.{SeveralValues}
use Rattle.table_rows.specs.Tables.{table_of}
use Rattle.table_rows.specs.declared.table.Table.{Table}

abbrev pub several_over : List Potentials → Potentials → List Table → SeveralValues
several_over values dead_ends tables = record { values = map potentials_of values; dead_ends = potentials_of dead_ends; tables = map table_of tables }
