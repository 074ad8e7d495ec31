-- The printed answer of the checker with words beside it, as text and as a JSON object.
use Rattle.std.specs.Prelude.{ℕ, List, [], ◌∷◌, ◌++◌, codes, Result, Ok, Err}
use Rattle.std.specs.String.{string_bytes}
use Rattle.task.specs.Task.{task_of}
use Rattle.cert_checker.specs.declared.refusal.RefusalCode.{RefusalCode}
use Rattle.cert_checker.specs.declared.refusal.RefusalCode.TheVariants as code
use Rattle.cert_checker.specs.declared.refusal.Refusal.{Refusal}
use Rattle.cert_checker.specs.declared.refusal.Refusal.TheVariants as refusal
use Rattle.cert_checker.specs.RefusalCode.{name_of, number_of}
use Rattle.cert_checker.specs.declared.checker.Accepted.{Accepted}
use Rattle.cert_checker.specs.declared.checker.Accepted.TheVariants as accepted
use Rattle.printed_answers.specs.CheckReported.{line_of}
use Rattle.printed_answers.specs.JsonText.{Member, number, text}
use Rattle.printed_answers.specs.Objects.{member, result}
use Rattle.printed_answers.specs.ExplanationObjects.{explain, text_member}
use Rattle.printed_answers.specs.declared.explained_check.ExplainedCheck.{ExplainedCheck}

-- the line that `check` prints, and the words
abbrev pub text_of : ExplainedCheck → List ℕ
text_of e = line_of (task_of e.checked.task) e.checked.answer ++ string_bytes e.words

abbrev pub of_accepted : Accepted → (lines : List ℕ) → List Member
of_accepted (accepted.Optimal cost) lines = explain ∷ member (codes "cost") (number cost) ∷ result (codes "optimal") ∷ text_member lines ∷ []
of_accepted (accepted.AtLeast cost) lines = explain ∷ member (codes "cost") (number cost) ∷ result (codes "at least") ∷ text_member lines ∷ []
of_accepted accepted.Unsolvable lines = explain ∷ result (codes "unsolvable") ∷ text_member lines ∷ []

abbrev pub of_refused : RefusalCode → (lines : List ℕ) → List Member
of_refused code lines =
    member (codes "code") (number (number_of code)) ∷ explain ∷ member (codes "name") (text (name_of code))
    ∷ result (codes "not accepted") ∷ text_member lines ∷ []

abbrev pub of_answer : Result Accepted Refusal → (lines : List ℕ) → List Member
of_answer (Ok shown) lines = of_accepted shown lines
of_answer (Err (refusal.Line code line)) lines = of_refused code lines
of_answer (Err (refusal.Unfair i)) lines = of_refused code.Unfair lines
of_answer (Err (refusal.DeadUnfair i)) lines = of_refused code.DeadUnfair lines
of_answer (Err (refusal.Plain code)) lines = of_refused code lines
of_answer (Err refusal.NoMemory) lines = []
of_answer (Err refusal.Device) lines = []
of_answer (Err refusal.Failed) lines = []

abbrev pub of_explained_check : ExplainedCheck → List Member
of_explained_check e = of_answer e.checked.answer (text_of e)
