use Rattle.std.proofs.Common.{◌≡◌, ◌∙◌, ◌++◌, ap, codes}
use Rattle.std.proofs.lemmas.List.{take_all}
use Rattle.std.proofs.lemmas.Result.{IfOk-weaker}
use Rattle.std.specs.List.{flat_map}
use Rattle.std.specs.String.{string_bytes}
use Rattle.file_answers.specs.FurtherFaults.{further_text}
use Rattle.file_answers.specs.declared.explanation.FurtherFault.{FurtherFault}
use Rattle.file_answers.proofs.FurtherLemmas.{many_reported}
use Rattle.file_answers.proofs.explaining.further.further_text.Goals as goal

pub returns : goal.returns
returns c =
    let further = c.args.further.now in let lines = flat_map (λ (f : FurtherFault). codes "\n" ++ string_bytes f.text) in
    let all : string_bytes c.faults.text ≡ lines further = c.faults.invariant.stated ∙ ap lines (take_all c.faults.fault-index further c.faults-test.false) in
    IfOk-weaker c.joined.result _ (λ text. string_bytes text ≡ further_text further)
    (λ text said. many_reported further (string_bytes text) c.if-further-lt-MOST.false (said ∙ ap (λ t. t ++ codes "\nthere may be more faults: mend these first\n") all)) c.joined.ensures
