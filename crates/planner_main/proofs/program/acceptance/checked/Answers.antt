use Rattle.std.proofs.Common.{ℕ, List, subst}
use Rattle.certificate_reader.specs.Reader.{source_of}
use Rattle.file_answers.specs.SaidOf.{IsCheckLineOf}
use Rattle.devices.specs.Progress.{nothing}
use Rattle.devices.proofs.ProgressLemmas.{said_of_more}
use Rattle.planner_main.proofs.program.acceptance.checked.Goals as goal

pub returns-then-texts-clause-progress : goal.returns-then-texts-clause-progress
returns-then-texts-clause-progress g c =
    let domain = c.args.texts.now.pair.domain.items in
    let came = g.R.Source.remaining (source_of c.args.cert.now) in
    said_of_more (λ line is. (
      c.if-texts.true,
      subst (λ (problem : List ℕ). IsCheckLineOf domain problem came line) c.deref-2.ensures.value
          (subst (λ (text : List ℕ). IsCheckLineOf text c.deref-2.result.now came line) c.deref.ensures.value is),
    )) c.check_files_and_say.ensures.said

pub returns-else-texts-clause-progress : goal.returns-else-texts-clause-progress
returns-else-texts-clause-progress g c = nothing
