use Rattle.std.proofs.Common.{IfSome, sym, subst}
use Rattle.tokens.specs.Reported.{reported_by}
use Rattle.model.specs.Files.{IsFileFault}
use Rattle.file_answers.proofs.FilesRead.{plan_reported}
use Rattle.file_answers.proofs.files.plan_of_file.Goals as goal

pub returns-in-Err-clause-refused : goal.returns-in-Err-clause-refused
returns-in-Err-clause-refused c = λ domain problem is.
    subst (λ o. IfSome o (IsFileFault domain problem c.args.text.now)) (sym c.of.ensures)
    (plan_reported domain problem c.args.text.now _ is (reported_by c.in-Err.fault) c.in-Err.ensures.refused)
