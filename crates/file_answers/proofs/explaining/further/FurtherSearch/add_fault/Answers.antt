use Rattle.std.proofs.Common.{List, ◌∷◌, inl, inr, map, subst, sym, arith}
use Rattle.typing.specs.Task.{refusal_of}
use Rattle.explain_hints.specs.Files.{text_in}
use Rattle.explain_hints.specs.Refusals.{FileRefusal}
use Rattle.file_answers.specs.Complete.{IsAccounted, IsReportedAmong, fault_in, of_pair}
use Rattle.file_answers.specs.FurtherFaults.{AreFurther}
use Rattle.file_answers.specs.declared.explanation.FurtherFault.{FurtherFault}
use Rattle.file_answers.proofs.CompleteLemmas.{one_more_accounted, still_accounted}
use Rattle.file_answers.proofs.FurtherLemmas.{one_more_reported}
use Rattle.file_answers.proofs.explaining.further.FurtherSearch.add_fault.Goals as goal

pub returns-then-len-ge-MOST-clause-added : goal.returns-then-len-ge-MOST-clause-added
returns-then-len-ge-MOST-clause-added c = inl (omega (arith, c.if-len-ge-MOST.true, c.len.ensures))

pub returns-then-is_reported-clause-added : goal.returns-then-is_reported-clause-added
returns-then-is_reported-clause-added c =
    subst (IsAccounted (text_in c.args.self.texts.now) c.args.self.first c.args.further.now.items) c.in_file-fault.ensures.value
    (inr (subst (λ (fs : List FurtherFault). IsReportedAmong (text_in c.args.self.texts.now) (c.args.self.first ∷ map fault_in fs) c.in_file-fault.result) c.deref.ensures.value (c.is_reported.ensures c.if-is_reported.true)))

pub returns-clause-further : goal.returns-clause-further
returns-clause-further c = λ are.
    let f : FurtherFault = record { fault = c.in_file-fault.result; text = c.in_ok-text.text } in
    subst (AreFurther c.args.self.texts.now) (sym c.in_ok-push.ensures.items)
    (one_more_reported c.args.self.texts.now c.args.further.now.items f
    (record { typed = refusal_of c.args.refusal; is_fault = c.requires; is_reported = c.in_file-fault.ensures.reported; says = c.in_ok-text.ensures }) are)

pub returns-clause-kept : goal.returns-clause-kept
returns-clause-kept c = λ fault.
    let f : FurtherFault = record { fault = c.in_file-fault.result; text = c.in_ok-text.text } in
    still_accounted (text_in c.args.self.texts.now) c.args.self.first c.args.further.now.items f _ c.in_ok-push.ensures.items fault

pub returns-clause-added : goal.returns-clause-added
returns-clause-added c =
    let f : FurtherFault = record { fault = c.in_file-fault.result; text = c.in_ok-text.text } in
    subst (IsAccounted (text_in c.args.self.texts.now) c.args.self.first _) c.in_file-fault.ensures.value
    (one_more_accounted (text_in c.args.self.texts.now) c.args.self.first c.args.further.now.items f _ c.in_ok-push.ensures.items)
