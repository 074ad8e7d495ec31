-- What is reported of a certificate in words.
use Rattle.std.proofs.Common.{◌≡◌, ℕ, inl, inr, List, refl, sym, ◌∙◌, subst}
use Rattle.std.specs.Prelude.{Result, Ok, Err, Option, None, Some, IfOk, IfErr, IfSome, false}
use Rattle.std.specs.String.{string_bytes}
use Rattle.file_answers.specs.Inputs.{IsInputFault}
use Rattle.file_answers.specs.declared.checking.Checked.{Checked}
use Rattle.model.specs.Files.{FileFault}
use Rattle.planner_main.specs.Program.{CountsFailure, IsCertExplanationOn, IsCheckOn, IsCheckedIn, IsExplanationOn, IsUnread, IsWordedCheckOn, OnInputs, fault_in}
use Rattle.planner_main.specs.declared.failures.Failure.{Failure}
use Rattle.planner_main.proofs.ProgramWords.{text_if_named_kept, text_kept}
use Rattle.printed_answers.specs.declared.explained_check.ExplainedCheck.{ExplainedCheck}
use Rattle.printed_answers.specs.declared.reports.Report.{Report}
use Rattle.printed_answers.specs.declared.reports.Report.TheVariants as report
use Rattle.task.specs.Task.{task_of}

-- What holds of texts of files that were read later holds of texts that they had.
pub on_inputs_kept : (before after : List ℕ → Option (List ℕ)) → ((other : List ℕ) → after other ≡ before other) → (domain problem : List ℕ) (plan : Option (List ℕ))
    → (Holds : List ℕ → List ℕ → Option (List ℕ) → Type 0) → OnInputs after domain problem plan Holds → OnInputs before domain problem plan Holds
on_inputs_kept before after kept domain problem plan Holds (d, p, l, d_is, p_is, l_is, holds) =
    (d, p, l, text_kept before after kept domain d d_is, text_kept before after kept problem p p_is, text_if_named_kept before after kept plan l l_is, holds)

-- a fault of which this holds, if there is a fault
a_fault : (P : FileFault → Type 0) (o : Option FileFault) → (o ≡ None → ⊥) → IfSome o P → (fault : FileFault) × P fault
a_fault P None some is = absurd (some refl)
a_fault P (Some fault) some is = (fault, is)

module _ (contents : List ℕ → Option (List ℕ)) (domain problem cert : List ℕ) (plan : Option (List ℕ)) (most : ℕ) where
  -- the checker's answer with words beside it
  pub worded : (found : Report) (e : ExplainedCheck) → found ≡ report.Check e.checked → IsCheckOn contents domain problem cert plan most found
      → IsWordedCheckOn contents domain problem cert plan most (report.ExplainCheck e)
  worded found e is (c, same, on) =
      let twice : report.Check c ≡ report.Check e.checked = sym same ∙ is in
      let one : c ≡ e.checked = cc in
      (e, refl, subst (λ (k : Checked). OnInputs contents domain problem plan (λ d p l. IsCheckedIn (contents cert) d p l most (task_of k.task) k.answer)) one on)

  -- an explanation in place of it, if a text is refused
  pub explained_instead : (now : List ℕ → Option (List ℕ)) → ((other : List ℕ) → now other ≡ contents other) → (f : Failure) (r : Result Report Failure)
      → IfSome (fault_in f) (λ fault. OnInputs contents domain problem plan (λ d p l. IsInputFault d p l fault)) → (fault_in f ≡ None → IsUnread r)
      → IfOk r (IsExplanationOn now domain problem plan false most) → IfOk r (IsCertExplanationOn contents domain problem cert plan most)
  explained_instead now kept f (Ok found) refused faulty (e, is, on) =
      inr (
        a_fault (λ fault. OnInputs contents domain problem plan (λ d p l. IsInputFault d p l fault)) (fault_in f) faulty refused,
        (e, is, on_inputs_kept contents now kept domain problem plan _ on),
      )
  explained_instead now kept f (Err failed) refused faulty is = tt
