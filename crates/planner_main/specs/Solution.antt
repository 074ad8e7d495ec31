-- Standard output and the files once a result is printed, and the exit status.
use Rattle.std.specs.Prelude.{◌≡◌, ℕ, List, [], ◌∷◌, ◌++◌, Option, None, Some, Bool, IsTrue}
use Rattle.std.specs.Option.{option_map}
use Rattle.formulas.specs.State.{plan_of}
use Rattle.task.specs.Task.{task_of}
use Rattle.solver.specs.declared.answer.Answer.{Answer}
use Rattle.solver.specs.declared.answer.Answer.TheVariants.{Plan, Unsolvable, Unknown}
use Rattle.solver.specs.declared.answer.Exceeded.TheVariants.{Instances, Atoms, States, Time}
use Rattle.certificate.specs.declared.cert.Cert.{Cert}
use Rattle.certificate.specs.Certificate.{certificate_of}
use Rattle.certificate_definitions.specs.CertificateNames.{certificate_text}
use Rattle.devices.specs.Written.{NamedText, AreWrittenPartly}
use Rattle.planner_main.specs.Asked.{Outputs}
use Rattle.printed_answers.specs.Reported.{status_of, reported_of}
use Rattle.printed_answers.specs.declared.reports.Report.{Report}
use Rattle.printed_answers.specs.declared.reports.Report.TheVariants as report
use Rattle.model.specs.Task.{Task}
use Rattle.model.specs.PlanWriting as plans

-- the certificate of an answer: of a plan, of unsolvability, or at the limit of states or of time of a lower bound of plan costs
abbrev pub cert_of : Answer → Option Cert
cert_of (Plan steps cost cert) = Some cert
cert_of (Unsolvable cert) = Some cert
cert_of (Unknown Instances) = None
cert_of (Unknown Atoms) = None
cert_of (Unknown (States least cert)) = Some cert
cert_of (Unknown (Time least cert)) = Some cert

-- the text of a result's certificate, if it has one, as an answer to a task does
abbrev pub cert_text : Report → Option (List ℕ)
cert_text (report.Solve solved) = option_map (λ (cert : Cert). certificate_text (task_of solved.task) (certificate_of cert)) (cert_of solved.answer)
cert_text (report.Validate verdict) = None
cert_text (report.Check checked) = None
cert_text (report.Explain e) = None
cert_text (report.ExplainCheck e) = None

-- the text of the printed plan, if there is one
abbrev pub answer_plan : Task → Answer → Option (List ℕ)
answer_plan task (Plan steps cost cert) = Some (plans.plan_text task (plan_of steps) cost)
answer_plan task (Unsolvable cert) = None
answer_plan task (Unknown limit) = None

abbrev pub plan_text : Report → Option (List ℕ)
plan_text (report.Solve solved) = answer_plan (task_of solved.task) solved.answer
plan_text (report.Validate verdict) = None
plan_text (report.Check checked) = None
plan_text (report.Explain e) = None
plan_text (report.ExplainCheck e) = None

-- the text, if there is one, for the file with this name, if one is given
abbrev pub in_file : (name text : Option (List ℕ)) → List NamedText
in_file None text = []
in_file (Some name) None = []
in_file (Some name) (Some text) = record { name = name; text = text } ∷ []

-- the files that are written, in this order, if asked for
abbrev pub files_for : Report → Outputs → List NamedText
files_for r outputs = in_file outputs.cert (cert_text r) ++ in_file outputs.plan (plan_text r)

-- This text, with this exit status and these files, states the result as asked.
abbrev pub WritesReport : Report → Outputs → (text : List ℕ) → (status : ℕ) → List NamedText → Type 0
WritesReport r outputs text status files = (text ≡ reported_of outputs.json r) × (status ≡ status_of r) × (files ≡ files_for r outputs)

-- there is a single file, which is being written
abbrev pub IsBegun : (known : Bool) → (before after : List ℕ → Option (List ℕ)) → List NamedText → Type 0
IsBegun known before after files = (next : NamedText) × (files ≡ next ∷ []) × (IsTrue known → AreWrittenPartly before after [] next)
