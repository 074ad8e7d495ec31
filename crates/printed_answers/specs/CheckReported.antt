-- The printed answer of the checker, and its exit status.
use Rattle.std.specs.Prelude.{◌≡◌, ℕ, List, [], ◌++◌, codes, Option, None, Some, Result, Ok, Err}
use Rattle.std.specs.Fmt.{decimal}
use Rattle.cert_checker.specs.declared.refusal.RefusalCode.{RefusalCode}
use Rattle.cert_checker.specs.declared.refusal.RefusalCode.TheVariants.{DeadUnfair, Unfair}
use Rattle.cert_checker.specs.declared.refusal.Refusal.{Refusal}
use Rattle.cert_checker.specs.declared.refusal.Refusal.TheVariants as refusal
use Rattle.cert_checker.specs.RefusalCode.{name_of, number_of}
use Rattle.cert_checker.specs.declared.checker.Accepted.{Accepted}
use Rattle.cert_checker.specs.declared.checker.Accepted.TheVariants.{Optimal, AtLeast, Unsolvable}
use Rattle.devices.specs.declared.device.IoFault.{IoFault}
use Rattle.devices.specs.declared.device.IoFault.TheVariants as device
use Rattle.formulas.specs.State.{instance_of}
use Rattle.model.specs.Task.{Task, Instance}
use Rattle.model.specs.PlanWriting.{step_text}

-- the line of what an accepted certificate shows
abbrev pub accepted_line : Accepted → List ℕ
accepted_line (Optimal cost) = codes "optimal cost " ++ (decimal cost ++ codes "\n")
accepted_line (AtLeast cost) = codes "at least " ++ (decimal cost ++ codes "\n")
accepted_line Unsolvable = codes "unsolvable\n"

-- the lines of refusals: `not accepted CODE Name`, and `not accepted CODE Name line L` for a line
abbrev pub plain_refused : RefusalCode → List ℕ
plain_refused code = codes "not accepted " ++ (decimal (number_of code) ++ (codes " " ++ (name_of code ++ codes "\n")))

abbrev pub line_refused : RefusalCode → (line : ℕ) → List ℕ
line_refused code line = codes "not accepted " ++ (decimal (number_of code) ++ (codes " " ++ (name_of code ++ (codes " line " ++ (decimal line ++ codes "\n")))))

-- the line for a potential function under which this instance may lose more than it is allowed to
abbrev pub instance_refused : RefusalCode → Task → Instance → List ℕ
instance_refused code task i =
    codes "not accepted " ++ (decimal (number_of code) ++ (codes " " ++ (name_of code ++ (codes " " ++ (step_text task i ++ codes "\n")))))

-- the line for the answer to a task; there is none for a failed allocation or device
abbrev pub line_of : Task → Result Accepted Refusal → List ℕ
line_of task (Ok answer) = accepted_line answer
line_of task (Err (refusal.Line code line)) = line_refused code line
line_of task (Err (refusal.Unfair i)) = instance_refused Unfair task (instance_of i)
line_of task (Err (refusal.DeadUnfair i)) = instance_refused DeadUnfair task (instance_of i)
line_of task (Err (refusal.Plain code)) = plain_refused code
line_of task (Err refusal.NoMemory) = []
line_of task (Err refusal.Device) = []
line_of task (Err refusal.Failed) = []

-- the exit status: 0 if the certificate is accepted, and 12 if it is refused
abbrev pub status_of : Result Accepted Refusal → ℕ
status_of (Ok answer) = 0
status_of (Err refusal) = 12

-- why nothing is printed for the certificate: its device failed, or an allocation failed; None if its answer is printed
abbrev pub failure_of : Result Accepted Refusal → Option IoFault
failure_of (Ok answer) = None
failure_of (Err (refusal.Line code line)) = None
failure_of (Err (refusal.Unfair i)) = None
failure_of (Err (refusal.DeadUnfair i)) = None
failure_of (Err (refusal.Plain code)) = None
failure_of (Err refusal.NoMemory) = Some device.NoMemory
failure_of (Err refusal.Device) = Some device.Device
failure_of (Err refusal.Failed) = Some device.NoMemory

-- the answer is printed: it is not a failure of memory or of a device
abbrev pub IsReportedRefusal : Result Accepted Refusal → Type 0
IsReportedRefusal answer = failure_of answer ≡ None
