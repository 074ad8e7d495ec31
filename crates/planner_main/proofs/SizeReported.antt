-- The report of a certificate's size.
use Rattle.std.proofs.Common.{◌≡◌, ℕ, List, Bool, true, false, inl, inr, sym, ap, subst, refl}
use Rattle.std.specs.Prelude.{Option, Some, IsTrue, Result, Ok, Err, OnOk, IsErr}
use Rattle.devices.specs.Devices.{IsWritten}
use Rattle.devices.specs.Progress.{AreSaid, Stream, stream, nothing, one_more}
use Rattle.devices.proofs.ProgressLemmas.{said_of_more}
use Rattle.planner_main.specs.Asked.{Outputs}
use Rattle.planner_main.specs.Progress.{IsCertificateLine, IsWritingLine, SaysIf, line_if, size_in, size_line, size_line_for}
use Rattle.planner_main.specs.Solution.{cert_text}
use Rattle.printed_answers.specs.declared.reports.Report.{Report}

-- it is made if progress is asked for
pub said_if : (progress : Bool) → IsTrue progress → (size : ℕ) (line : List ℕ) → line ≡ size_line size
    → (may_lack_memory : Bool) (failures failures_after : ℕ) (taken taken_after : Option (List ℕ)) → IsWritten may_lack_memory failures failures_after taken taken_after line
    → SaysIf (line_if progress (Some size)) may_lack_memory (stream failures taken) (stream failures_after taken_after)
said_if true asked size line is may_lack_memory failures failures_after taken taken_after written = subst (IsWritten may_lack_memory failures failures_after taken taken_after) is written
said_if false asked size line is may_lack_memory failures failures_after taken taken_after written = absurd (cc)

-- The line about the bytes written is a line about the certificate, or there is none.
pub size_said : {T E : Type 0} (progress : Bool) (named text : Option (List ℕ)) (size : ℕ) → Some size ≡ size_in named text → (may_lack_memory : Bool) (before after : Stream) (r : Result T E)
    → OnOk r (SaysIf (line_if progress (Some size)) may_lack_memory before after) → (IsErr r → after ≡ before) → AreSaid (IsCertificateLine progress named text) may_lack_memory before after
size_said true named text size counted may_lack_memory before after (Ok done) said quiet = one_more before after (size_line size) nothing (inr (ap (line_if true) (sym counted))) said
size_said false named text size counted may_lack_memory before after (Ok done) said quiet = subst (AreSaid (IsCertificateLine false named text) may_lack_memory before) (sym said) nothing
size_said progress named text size counted may_lack_memory before after (Err fault) said quiet = subst (AreSaid (IsCertificateLine progress named text) may_lack_memory before) (sym (quiet refl)) nothing

-- A line about a certificate's file is a line about the files written for a result.
module _ (r : Report) (outputs : Outputs) (text : Option (List ℕ)) (is : text ≡ cert_text r) (may_lack_memory : Bool) (before now after : Stream) where
  pub said_of_cert : AreSaid (IsCertificateLine outputs.progress outputs.cert text) may_lack_memory before now → AreSaid (IsWritingLine r outputs) may_lack_memory before now
  said_of_cert said = said_of_more (λ line same. inl (subst (λ (text : Option (List ℕ)). IsCertificateLine outputs.progress outputs.cert text line) is same)) said

  module _ (quiet : after ≡ now) where
    pub said_of_files : AreSaid (IsCertificateLine outputs.progress outputs.cert text) may_lack_memory before now → AreSaid (IsWritingLine r outputs) may_lack_memory before after
    said_of_files said = subst (AreSaid (IsWritingLine r outputs) may_lack_memory before) (sym quiet) (said_of_cert said)

    pub sized_of_cert : SaysIf (size_line_for outputs.cert text outputs.progress) may_lack_memory before now → SaysIf (size_line_for outputs.cert (cert_text r) outputs.progress) may_lack_memory before after
    sized_of_cert said =
        subst (SaysIf (size_line_for outputs.cert (cert_text r) outputs.progress) may_lack_memory before) (sym quiet)
        (subst (λ (text : Option (List ℕ)). SaysIf (size_line_for outputs.cert text outputs.progress) may_lack_memory before now) is said)
