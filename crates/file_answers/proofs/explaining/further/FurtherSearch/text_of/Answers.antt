use Rattle.std.proofs.Common.{subst}
use Rattle.std.proofs.lemmas.Result.{IfOk-weaker}
use Rattle.std.specs.String.{string_bytes}
use Rattle.explain_hints.specs.Files.{name_in, text_in}
use Rattle.explain_faults.specs.Explained.{BeginsWith, IsHeading}
use Rattle.explain_hints.specs.Refusals.{FileRefusal}
use Rattle.file_answers.specs.FurtherFaults.{SayFault}
use Rattle.file_answers.proofs.explaining.further.FurtherSearch.text_of.Goals as goal

pub returns : goal.returns
returns c =
    let texts = c.args.self.texts.now in let fault = c.args.fault in let explained = c.in_ok-explained.explained in
    IfOk-weaker c.text.result _ (λ text. SayFault (name_in texts fault.file) (text_in texts fault.file) fault (string_bytes text))
    (λ text begins. (
      explained.place,
      c.in_ok-explained.ensures.is_place,
      subst (λ (f : FileRefusal). BeginsWith (string_bytes text) (IsHeading (name_in texts f.file) (text_in texts f.file) f.span.start explained.place f.code)) c.in_ok-explained.ensures.is_fault begins,
    ))
    c.text.ensures
