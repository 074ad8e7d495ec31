use Rattle.lower_bounds.proofs.TableLowerBound.{fair_values_are_sound}
use Rattle.lower_bounds.proofs.table_laws.fair_values_are_sound.Goals as goal

pub returns : goal.returns
returns c = fair_values_are_sound
