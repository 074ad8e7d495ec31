-- Printed results: the members of the JSON object, the text, and the exit status.
use Rattle.std.specs.Prelude.{ℕ, Bool, true, false, List, if◌then◌else◌}
use Rattle.std.specs.String.{string_bytes}
use Rattle.printed_answers.specs.JsonText.{Member}
use Rattle.task.specs.Task.{task_of}
use Rattle.validator.specs.Verdict.{verdict_of}
use Rattle.printed_answers.specs.Objects.{line_of_members, of_answer, of_checked, of_verdict}
use Rattle.printed_answers.specs.ExplanationObjects.{of_explanation}
use Rattle.printed_answers.specs.AnswerReported as answers
use Rattle.printed_answers.specs.VerdictReported as verdicts
use Rattle.printed_answers.specs.CheckReported as checks
use Rattle.printed_answers.specs.ExplanationReported as explanations
use Rattle.printed_answers.specs.ExplainedCheckReported as explained
use Rattle.printed_answers.specs.ExplainedCheckReported.{of_explained_check}
use Rattle.printed_answers.specs.CheckReported.{IsReportedRefusal}
use Rattle.printed_answers.specs.declared.reports.Format.{Format}
use Rattle.printed_answers.specs.declared.reports.Format.TheVariants.{Text, Json}
use Rattle.printed_answers.specs.declared.reports.Report.{Report}
use Rattle.printed_answers.specs.declared.reports.Report.TheVariants as report

-- the members of a result
abbrev pub of_report : Report → List Member
of_report (report.Solve solved) = of_answer (task_of solved.task) solved.answer
of_report (report.Validate verdict) = of_verdict (verdict_of verdict)
of_report (report.Check checked) = of_checked checked.answer
of_report (report.Explain e) = of_explanation e
of_report (report.ExplainCheck e) = of_explained_check e

-- the result can be printed: its refusal, if any, is one that is printed
abbrev pub IsReported : Report → Type 0
IsReported (report.Solve solved) = Unit {0}
IsReported (report.Validate verdict) = Unit {0}
IsReported (report.Check checked) = IsReportedRefusal checked.answer
IsReported (report.Explain e) = Unit {0}
IsReported (report.ExplainCheck e) = IsReportedRefusal e.checked.answer

-- the text of a result: a plan, a line, or lines
abbrev pub text_of : Report → List ℕ
text_of (report.Solve solved) = answers.text_of (task_of solved.task) solved.answer
text_of (report.Validate verdict) = verdicts.line_of (verdict_of verdict)
text_of (report.Check checked) = checks.line_of (task_of checked.task) checked.answer
text_of (report.Explain e) = string_bytes e.text
text_of (report.ExplainCheck e) = explained.text_of e

-- whether JSON is asked for
abbrev pub is_json : Format → Bool
is_json Text = false
is_json Json = true

-- the content of the standard output: the text, or the object on a line
abbrev pub reported_of : (json : Bool) → Report → List ℕ
reported_of json r = if json then line_of_members (of_report r) else text_of r

-- the exit status
abbrev pub status_of : Report → ℕ
status_of (report.Solve solved) = answers.status_of solved.answer
status_of (report.Validate verdict) = verdicts.status_of (verdict_of verdict)
status_of (report.Check checked) = checks.status_of checked.answer
status_of (report.Explain e) = explanations.status_of e.subject
status_of (report.ExplainCheck e) = checks.status_of e.checked.answer
