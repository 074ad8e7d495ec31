use Rattle.std.proofs.Common.{refl}
use Rattle.file_answers.proofs.explaining.further.in_file.Goals as goal

pub returns-clause-reported : goal.returns-clause-reported
returns-clause-reported c = record { file = c.one_of_files.ensures.reported; fault = refl }
