-- What is said of a task while it is solved: the lines, and what makes them true.
use Rattle.std.specs.Prelude.{◌≡◌, ℕ, ◌≤◌, Bool, true, false, IsTrue, List, [], ◌++◌, length, map, codes, count_by, Contains, Option, Some, is_some, ⊤}
use Rattle.std.specs.Fmt.{decimal}
use Rattle.devices.specs.Devices.{IsWritten}
use Rattle.devices.specs.Progress.{Stream}
use Rattle.search_spaces.specs.Reachable.{AreMoreReachable, AreReachable}
use Rattle.packed_state.specs.Store.{AreDistinct}
use Rattle.search.specs.Outcome.{AreClassesOf, AreOfOneClass, IsReachableAt}
use Rattle.solver.specs.declared.reports.Report.{Report}
use Rattle.solver.specs.declared.reports.Report.TheVariants.{Ground, Search, Limit, End}
use Rattle.solver.specs.declared.limits.Limits.{Limits}
use Rattle.solver.specs.declared.reports.RaisedBy.{RaisedBy}
use Rattle.solver.specs.declared.reports.RaisedBy.TheVariants as raised_by
use Rattle.solver.specs.Listing.{by_all}
use Rattle.model.specs.Task.{Task}
use Rattle.model.specs.Runs.{System, CostsAtLeast}
use Rattle.model.specs.Claims.{bound, AreTrue, IsClosed, Line}
use Rattle.model.specs.Grounding.{exceeded_limit, ground_system, of_instances}
use Rattle.model.specs.Limits.{max_numbered_atoms}
use Rattle.model.specs.Meaning.{system_of}
use Rattle.model.specs.NumberedAtoms.{numbered_atoms}
use Rattle.model.specs.StaticallyFalse.{kept_instances}
use Rattle.certificate_definitions.specs.Certificates.{Certificate, IsClosedFor}
use Rattle.certificate_definitions.specs.Evidence.{LineMark, expanded, cut, dead}
use Rattle.certificate.specs.Certificate.{certificate_of}
use Rattle.certificate.specs.ListedSets.{Marked, marked}
use Rattle.solver.specs.declared.answer.Answer.{Answer}
use Rattle.solver.specs.declared.answer.Answer.TheVariants.{Plan, Unsolvable, Unknown}
use Rattle.solver.specs.declared.answer.Exceeded.TheVariants.{Instances, Atoms, States, Time}

-- the line of a report: `key=value`, with a space between two
abbrev pub line_of : Report → List ℕ
line_of (Ground instances atoms) =
    codes "progress=ground instances=" ++ (decimal instances ++ (codes " atoms=" ++ (decimal atoms ++ codes "\n")))
line_of (Search least listed expansions) =
    codes "progress=search bound=" ++ (decimal least ++ (codes " listed=" ++ (decimal listed ++ (codes " expanded=" ++ (decimal expansions ++ codes "\n")))))
line_of (Limit raised_by.States) = codes "progress=limit raise=--states\n"
line_of (Limit raised_by.Instances) = codes "progress=limit raise=--instances\n"
line_of (Limit raised_by.Seconds) = codes "progress=limit raise=--seconds\n"
line_of (End listed expansions) =
    codes "progress=end listed=" ++ (decimal listed ++ (codes " expanded=" ++ (decimal expansions ++ codes "\n")))

-- what is said of a certificate at the end: how many states it lists, and how many of them are expanded
abbrev pub has_expanded_mark : LineMark → Bool
has_expanded_mark expanded = true
has_expanded_mark (cut basis rest) = false
has_expanded_mark (dead basis) = false

abbrev pub is_marked_expanded : Marked → Bool
is_marked_expanded line = has_expanded_mark line.mark

abbrev pub report_of : Certificate → Report
report_of certificate = End (length certificate.lines) (count_by is_marked_expanded (map marked certificate.lines))

-- ---- of a search that is under way

abbrev pub is_expanded_line : {S : Type 0} → Line S → Bool
is_expanded_line line = has_expanded_mark (by_all line.mark)

-- A listing shows that every list that solves the system costs at least this: its states are different, each is reached at its cost, its
-- marks are true, and it is closed, up to classes of states from which the goal is reached alike.
pub record IsListing {S A : Type 0} (t : System S A) (least : ℕ) (lines : List (Line S)) : Type 0 where
  pub class_of : S → S
  pub classes : AreClassesOf t class_of
  pub distinct : AreDistinct (map (λ (line : Line S). line.state) lines)
  pub reached : (line : Line S) → Contains lines line → IsReachableAt t line.state line.cost
  pub are_true : AreTrue t lines
  pub closed : IsClosed t (AreOfOneClass class_of) (bound least) lines

-- Such a listing of the ground task has this many states, of which this many are expanded.
abbrev pub IsListed : Task → (bound listed expansions : ℕ) → Type 0
IsListed task least listed expansions =
    (lines : List (Line (List Bool))) × IsListing (ground_system task (numbered_atoms task [])) least lines
    × (length lines ≡ listed) × (count_by is_expanded_line lines ≡ expansions)

-- ---- true reports

-- The option raises a limit that is exceeded: more states than its number are reachable and may have to be found, or more instances are
-- kept. Of the limit of time it is only known that there is one.
abbrev pub Raises : Task → (seconds : Option ℕ) → (states instances : ℕ) → RaisedBy → Type 0
Raises task seconds states instances raised_by.States = AreMoreReachable (system_of task) states
Raises task seconds states instances raised_by.Instances = exceeded_limit instances max_numbered_atoms task [] ≡ Some of_instances
Raises task seconds states instances raised_by.Seconds = IsTrue (is_some seconds)

-- The report is true of the task, within these limits. Its counts are those of the kept instances and of the numbered atoms; or every
-- list of instances that solves it costs at least the bound, as a listing of as many states shows, of which as many are marked as were
-- expanded; or the option raises an exceeded limit; or a closed certificate of it has as many states, and as many expanded ones.
abbrev pub IsTrueReport : Task → (seconds : Option ℕ) → (states instances : ℕ) → Report → Type 0
IsTrueReport task seconds states instances (Ground kept atoms) = (kept ≡ length (kept_instances task)) × (atoms ≡ length (numbered_atoms task []))
IsTrueReport task seconds states instances (Search least listed expansions) =
    CostsAtLeast (system_of task) least × AreReachable (system_of task) listed × (expansions ≤ listed) × IsListed task least listed expansions
IsTrueReport task seconds states instances (Limit option) = Raises task seconds states instances option
IsTrueReport task seconds states instances (End listed expansions) =
    (certificate : Certificate) × IsClosedFor task certificate × (End listed expansions ≡ report_of certificate)

-- the line is that of a true report
abbrev pub IsTrueLine : Task → (seconds : Option ℕ) → (states instances : ℕ) → List ℕ → Type 0
IsTrueLine task seconds states instances line = (report : Report) × (line ≡ line_of report) × IsTrueReport task seconds states instances report

abbrev pub IsLineWithin : Task → Limits → List ℕ → Type 0
IsLineWithin task limits = IsTrueLine task limits.seconds limits.states limits.instances

-- ---- the last lines

-- The last line is that of the end: where the answer has a certificate, of this. Where a limit is exceeded that an option raises, a line
-- names that option; it is the last, or the last but one.
abbrev pub EndsBy : Bool → (failures : ℕ) (taken : Option (List ℕ)) → Certificate → Type 0
EndsBy may_lack_memory failures taken certificate =
    (now : Stream) × IsWritten may_lack_memory now.failures failures now.taken taken (line_of (report_of certificate))

-- the last line names the option that raises this limit
abbrev pub EndsByLimit : Bool → (failures : ℕ) (taken : Option (List ℕ)) → RaisedBy → Type 0
EndsByLimit may_lack_memory failures taken option =
    (now : Stream) × IsWritten may_lack_memory now.failures failures now.taken taken (line_of (Limit option))

-- the last but one does, and the last is that of the end
abbrev pub EndsAtLimit : Bool → (failures : ℕ) (taken : Option (List ℕ)) → RaisedBy → Certificate → Type 0
EndsAtLimit may_lack_memory failures taken option certificate =
    (now : Stream) × EndsByLimit may_lack_memory now.failures now.taken option × IsWritten may_lack_memory now.failures failures now.taken taken (line_of (report_of certificate))

abbrev pub HasEnded : Bool → (failures : ℕ) (taken : Option (List ℕ)) → Answer → Type 0
HasEnded may_lack_memory failures taken (Plan steps cost cert) = EndsBy may_lack_memory failures taken (certificate_of cert)
HasEnded may_lack_memory failures taken (Unsolvable cert) = EndsBy may_lack_memory failures taken (certificate_of cert)
HasEnded may_lack_memory failures taken (Unknown Instances) = EndsByLimit may_lack_memory failures taken raised_by.Instances
HasEnded may_lack_memory failures taken (Unknown Atoms) = ⊤
HasEnded may_lack_memory failures taken (Unknown (States least cert)) = EndsAtLimit may_lack_memory failures taken raised_by.States (certificate_of cert)
HasEnded may_lack_memory failures taken (Unknown (Time least cert)) = EndsAtLimit may_lack_memory failures taken raised_by.Seconds (certificate_of cert)
