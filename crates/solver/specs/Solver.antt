-- What the answers to a task say.
use Rattle.std.specs.Prelude.{◌≡◌, ℕ, ◌≤◌, IsTrue, [], Option, None, Some, is_some, length, ⊤}
use Rattle.std.specs.List.{list_all}
use Rattle.formulas.specs.State.{plan_of}
use Rattle.certificate.specs.Certificate.{certificate_of}
use Rattle.certificate_definitions.specs.Certificates.{Certificate}
use Rattle.certificate_definitions.specs.CertificateText.{version_number}
use Rattle.solver.specs.declared.answer.Answer.{Answer}
use Rattle.solver.specs.declared.answer.Answer.TheVariants.{Plan, Unsolvable, Unknown}
use Rattle.solver.specs.declared.answer.Exceeded.TheVariants.{Instances, Atoms, States, Time}
use Rattle.solver.specs.declared.limits.Limits.{Limits}
use Rattle.solver.specs.Versions.{number_of}
use Rattle.solver.specs.Improved.{HasSettledOrHigh}
use Rattle.solver.specs.Listing.{IsShownBy, AreLinesExpandedWithin}
use Rattle.solver.specs.AtLimit.{IsAtLimit}
use Rattle.search_spaces.specs.Reachable.{AreMoreReachable}
use Rattle.model.specs.Task.{Task}
use Rattle.model.specs.Runs.{cost_of_all, CostsAtLeast, IsOptimal, IsUnsolvable}
use Rattle.model.specs.Claims.{bound, none}
use Rattle.model.specs.Meaning.{system_of, is_instance}
use Rattle.model.specs.Limits.{max_numbered_atoms}
use Rattle.model.specs.Grounding.{of_instances, of_atoms, exceeded_limit}

-- The answer is true: the steps are instances of the task, solve it at this cost, and no list of whatever length that
-- solves costs less; or no list solves; and the certificate shows it, by at most `states` states, with potentials that are
-- settled or high. Beside a plan no state is open that costs, with its value, more than the plan. Or a limit is exceeded:
-- that of the instances exactly where more than `instances` of the task's are kept, that of the atoms exactly where no
-- more are kept and too many atoms have numbers, and else that of the states, where more than `states` states of the task are
-- reachable and may have to be found. Then each list that solves costs at least the bound, and the certificate of the `states`
-- states that were found shows it. Or the time is over, where it is limited: that says of the states that were found by then what
-- it would say at a limit of as many, but not that more are reachable. What a clock shows is no part of the definition.
abbrev pub IsTrueAnswer : Task → (seconds : Option ℕ) → (states instances : ℕ) → Answer → Type 0
IsTrueAnswer task seconds states instances (Plan steps cost cert) =
    IsOptimal (system_of task) (plan_of steps) × (cost_of_all (system_of task) (plan_of steps) ≡ cost)
    × IsTrue (list_all (is_instance task) (plan_of steps))
    × IsShownBy task (bound cost) states (certificate_of cert)
    × HasSettledOrHigh task (certificate_of cert)
    × AreLinesExpandedWithin task cost (certificate_of cert)
    × (exceeded_limit instances max_numbered_atoms task [] ≡ None)
IsTrueAnswer task seconds states instances (Unsolvable cert) =
    IsUnsolvable (system_of task) × IsShownBy task none states (certificate_of cert) × HasSettledOrHigh task (certificate_of cert)
    × (exceeded_limit instances max_numbered_atoms task [] ≡ None)
IsTrueAnswer task seconds states instances (Unknown Instances) = exceeded_limit instances max_numbered_atoms task [] ≡ Some of_instances
IsTrueAnswer task seconds states instances (Unknown Atoms) = exceeded_limit instances max_numbered_atoms task [] ≡ Some of_atoms
IsTrueAnswer task seconds states instances (Unknown (States least cert)) =
    AreMoreReachable (system_of task) states × (exceeded_limit instances max_numbered_atoms task [] ≡ None)
    × CostsAtLeast (system_of task) least
    × IsShownBy task (bound least) states (certificate_of cert)
    × HasSettledOrHigh task (certificate_of cert)
    × IsAtLimit task least states (certificate_of cert)
IsTrueAnswer task seconds states instances (Unknown (Time least cert)) =
    IsTrue (is_some seconds) × (exceeded_limit instances max_numbered_atoms task [] ≡ None)
    × CostsAtLeast (system_of task) least
    × IsShownBy task (bound least) states (certificate_of cert)
    × HasSettledOrHigh task (certificate_of cert)
    × IsAtLimit task least (length (certificate_of cert).lines) (certificate_of cert)

-- the certificate is of at most this version
abbrev pub IsUpTo : (version : ℕ) → Certificate → Type 0
IsUpTo version certificate = version_number certificate.version ≤ version

-- and so is that of the answer, if it has one
abbrev pub HasVersionUpTo : (version : ℕ) → Answer → Type 0
HasVersionUpTo version (Plan steps cost cert) = IsUpTo version (certificate_of cert)
HasVersionUpTo version (Unsolvable cert) = IsUpTo version (certificate_of cert)
HasVersionUpTo version (Unknown Instances) = ⊤
HasVersionUpTo version (Unknown Atoms) = ⊤
HasVersionUpTo version (Unknown (States least cert)) = IsUpTo version (certificate_of cert)
HasVersionUpTo version (Unknown (Time least cert)) = IsUpTo version (certificate_of cert)

-- the answer is true, and keeps all limits
abbrev pub IsAnswerWithin : Task → Limits → Answer → Type 0
IsAnswerWithin task limits answer =
    IsTrueAnswer task limits.seconds limits.states limits.instances answer × HasVersionUpTo (number_of limits.version) answer
