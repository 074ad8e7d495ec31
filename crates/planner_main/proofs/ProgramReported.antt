-- What the program prints and which files it writes: for an answer, for a command, and for the words that give it.
use Rattle.std.proofs.Common.{◌≡◌, ℕ, List, [], ◌∷◌, ◌++◌, ◌∙◌, sym, refl, ap, ap₂, subst}
use Rattle.std.specs.Prelude.{Option, None, Some, Bool, true, false, IsTrue, if◌then◌else◌, unwrap_or}
use Rattle.std.specs.Borrow.{Bor}
use Rattle.std.specs.Option.{option_map}
use Rattle.std.specs.Str.{bytes_eq}
use Rattle.command_line.specs.Orders.{Asks, Request}
use Rattle.devices.specs.Written.{NamedText, HoldsBeginning, with_file, with_files, AreWritten, AreWrittenPartly}
use Rattle.planner_main.specs.Asked.{Outputs, outputs_of}
use Rattle.file_answers.specs.Files.{text_in}
use Rattle.printed_answers.specs.Objects.{line_of_members}
use Rattle.planner_main.specs.Solution.{IsBegun, WritesReport, cert_text, files_for, in_file, plan_text}
use Rattle.printed_answers.specs.Reported.{of_report, status_of, text_of, reported_of}
use Rattle.printed_answers.specs.declared.reports.Report.{Report}
use Rattle.planner_main.specs.Program.{IsReported, IsReportedPartly, nothing, in_a_file, on_the_output, IsAnswer, IsAnswerTo, IsReportOn, Reports, ReportsPartly, ReportsFor, ReportsPartlyFor}
use Rattle.devices.specs.Texts.{AreKept}
use Rattle.planner_main.proofs.ProgramWords.{IsOfReport, answered_status}

-- What is written over equal files is equal.
with_files_same : (before now : List ℕ → Option (List ℕ)) (files : List NamedText) → AreKept before now → AreKept (with_files before files) (with_files now files)
with_files_same before now [] kept = kept
with_files_same before now (file ∷ rest) kept = with_files_same (with_file before file) (with_file now file) rest
    (λ name. ap (λ (held : Option (List ℕ)). if bytes_eq name file.name then Some file.text else held) (kept name))

with_files_more : (contents : List ℕ → Option (List ℕ)) (files more : List NamedText) (name : List ℕ)
    → with_files contents (files ++ more) name ≡ with_files (with_files contents files) more name
with_files_more contents [] more name = refl
with_files_more contents (file ∷ rest) more name = with_files_more (with_file contents file) rest more name

-- Files are written after others, or after a step that left the files unchanged.
module _ (before now after : List ℕ → Option (List ℕ)) (done : List NamedText) (written : AreWritten before now done) where
  pub written_after : (files : List NamedText) → AreWritten now after files → AreWritten before after (done ++ files)
  written_after files more = λ name.
      more name ∙ with_files_same (with_files before done) now files written name ∙ sym (with_files_more before done files name)

  pub partly_after : (next : NamedText) → AreWrittenPartly now after [] next → AreWrittenPartly before after done next
  partly_after next partly = record {
    beginning = subst (λ held. HoldsBeginning held (after next.name) next.text) (written next.name) partly.beginning;
    others = λ other differs. partly.others other differs ∙ written other;
  }

module _ (before now after : List ℕ → Option (List ℕ)) (kept : AreKept before now) (files : List NamedText) where
  pub written_since : AreWritten now after files → AreWritten before after files
  written_since held = λ name. held name ∙ with_files_same before now files kept name

  partly_since : (next : NamedText) → AreWrittenPartly now after files next → AreWrittenPartly before after files next
  partly_since next partly = record {
    beginning = subst (λ held. HoldsBeginning held (after next.name) next.text) (with_files_same before now files kept next.name) partly.beginning;
    others = λ other differs. partly.others other differs ∙ with_files_same before now files kept other;
  }

-- The same outcome in another form, if the files were unchanged before.
module _ (P Q : List ℕ → ℕ → List NamedText → Type 0) (means : (text : List ℕ) (status : ℕ) (written : List NamedText) → P text status written → Q text status written)
    (known : Bool) (before now after : List ℕ → Option (List ℕ)) (kept : AreKept before now) (out out_after : Option (List ℕ)) where
  pub reported_as : (status : ℕ) → IsReported P known now after out out_after status → IsReported Q known before after out out_after status
  reported_as status (text, written, is, appended, held) =
      (text, written, means text status written is, appended, λ is_known. written_since before now after kept written (held is_known))

  pub partly_as : IsReportedPartly P known now after out out_after → IsReportedPartly Q known before after out out_after
  partly_as (nothing same still) = nothing same (λ name. still name ∙ kept name)
  partly_as (in_a_file text status done rest next is same held) =
      in_a_file text status done rest next (means text status (done ++ next ∷ rest) is) same
      (λ is_known. partly_since before now after kept done next (held is_known))
  partly_as (on_the_output text status written is said held) =
      on_the_output text status written (means text status written is) said (λ is_known. written_since before now after kept written (held is_known))

-- What states the result states what the order asks for.
pub report_written : (contents : List ℕ → Option (List ℕ)) (request : Request) (found : Report) → IsReportOn contents request found
    → (outputs : Outputs) → outputs ≡ outputs_of request
    → (text : List ℕ) (status : ℕ) (written : List NamedText) → WritesReport found outputs text status written → IsAnswerTo contents request text status written
report_written contents request found is outputs same text status written says =
    (found, is, subst (λ (o : Outputs). WritesReport found o text status written) same says)

-- What is printed on standard output: the line of JSON if that is asked for, otherwise the text.
pub reported_is : (r : Report) (json : Bool) (line : Option (List ℕ)) (text said : List ℕ)
    → line ≡ (if json then Some (line_of_members (of_report r)) else None) → text ≡ text_of r → said ≡ unwrap_or line text → said ≡ reported_of json r
reported_is r true line text said line_is text_is is = is ∙ ap (λ (o : Option (List ℕ)). unwrap_or o text) line_is
reported_is r false line text said line_is text_is is = is ∙ ap (λ (o : Option (List ℕ)). unwrap_or o text) line_is ∙ text_is

-- The file of a document, if there is one and a file is named.
pub one_file : (name : Option (Bor (List ℕ))) (word : Bor (List ℕ)) → name ≡ Some word → {D : Type 0} (text : D → List ℕ) (document : Option D) (d : D) → document ≡ Some d
    → in_file (text_in name) (option_map text document) ≡ record { name = word.now; text = text d } ∷ []
one_file name word named text document d is =
    ap (λ name. in_file (text_in name) (option_map text document)) named ∙ ap (λ document. in_file (Some word.now) (option_map text document)) is

-- A result is printed, wholly or partly: its certificate's file, then its plan's, and then standard output.
module _ (r : Report) (outputs : Outputs) (known : Bool) (before now after : List ℕ → Option (List ℕ)) (cert plan : Option (List ℕ))
    (cert_is : cert ≡ cert_text r) (plan_is : plan ≡ plan_text r) where
  are_for : in_file outputs.cert cert ++ in_file outputs.plan plan ≡ files_for r outputs
  are_for = ap₂ (λ cert plan. in_file outputs.cert cert ++ in_file outputs.plan plan) cert_is plan_is

  module _ (written : IsTrue known → AreWritten before now (in_file outputs.cert cert)) where
    pub partly_in_plan : (out : Option (List ℕ)) → IsBegun known now after (in_file outputs.plan plan) → IsReportedPartly (WritesReport r outputs) known before after out out
    partly_in_plan out (next, is, held) =
        in_a_file (reported_of outputs.json r) (status_of r) (in_file outputs.cert cert) [] next
        (refl, refl, ap (λ files. in_file outputs.cert cert ++ files) (sym is) ∙ are_for) refl
        (λ is_known. partly_after before now after (in_file outputs.cert cert) (written is_known) next (held is_known))

    pub both_written : (IsTrue known → AreWritten now after (in_file outputs.plan plan)) → IsTrue known → AreWritten before after (files_for r outputs)
    both_written saved is_known =
        subst (AreWritten before after) are_for (written_after before now after (in_file outputs.cert cert) (written is_known) (in_file outputs.plan plan) (saved is_known))

pub partly_in_cert : (r : Report) (outputs : Outputs) (known : Bool) (before after : List ℕ → Option (List ℕ)) (cert : Option (List ℕ)) → cert ≡ cert_text r
    → {out : Option (List ℕ)} → IsBegun known before after (in_file outputs.cert cert) → IsReportedPartly (WritesReport r outputs) known before after out out
partly_in_cert r outputs known before after cert cert_is (next, is, held) =
    let rest = in_file outputs.plan (plan_text r) in
    in_a_file (reported_of outputs.json r) (status_of r) [] rest next
    (refl, refl, ap (λ files. files ++ rest) (sym is) ∙ ap (λ cert. in_file outputs.cert cert ++ rest) cert_is) refl held

-- What is reported for the order is reported for the words that give it.
module _ (words : List (List ℕ)) (request : Request) (asks : Asks words request) (known : Bool) (files after : List ℕ → Option (List ℕ)) (out out_after : Option (List ℕ)) where
  answers_words : (text : List ℕ) (status : ℕ) (written : List NamedText) → IsAnswerTo files request text status written → IsAnswer files words text status written
  answers_words text status written is = (request, asks, is)

  pub reported_of_words : (status : ℕ) → ReportsFor request known files after out out_after status → Reports words known files after out out_after status
  reported_of_words status said =
      reported_as (IsAnswerTo files request) (IsAnswer files words) answers_words known files files after (λ name. refl) out out_after status said

  pub partly_of_words : ReportsPartlyFor request known files after out out_after → ReportsPartly words known files after out out_after
  partly_of_words said =
      partly_as (IsAnswerTo files request) (IsAnswer files words) answers_words known files files after (λ name. refl) out out_after said

  pub reported_status : (status : ℕ) → ReportsFor request known files after out out_after status → IsOfReport status
  reported_status status (text, written, is, appended, held) = answered_status files request text status written is
