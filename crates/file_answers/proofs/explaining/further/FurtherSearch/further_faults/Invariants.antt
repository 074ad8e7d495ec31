use Rattle.std.proofs.Common.{◌<◌, ℕ, take}
use Rattle.std.specs.Prelude.{Contains}
use Rattle.explain_hints.specs.Files.{text_in}
use Rattle.file_answers.specs.Complete.{IsAccounted, TaskRefusal, of_pair}
use Rattle.file_answers.specs.FurtherFaults.{AreFurther}
use Rattle.file_answers.proofs.explaining.further.FurtherSearch.further_faults.Given as goal

abbrev pub invariant-faults : goal.invariant-faults
invariant-faults l =
    AreFurther l.self.texts.now l.further.items
    × ((r : TaskRefusal) → Contains (take l.refusal-index l.refusal-items) r → IsAccounted (text_in l.self.texts.now) l.self.first l.further.items (of_pair r))
