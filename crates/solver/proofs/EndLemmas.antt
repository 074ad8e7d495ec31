-- What is said of a certificate at the end.
use Rattle.std.proofs.Common.{◌≡◌, ℕ, Bool, List, subst}
use Rattle.std.specs.Prelude.{Option, Result, Ok, Err, OnOk}
use Rattle.devices.specs.Devices.{IsWritten}
use Rattle.certificate_definitions.specs.Certificates.{Certificate}
use Rattle.devices.specs.Progress.{stream}
use Rattle.solver.specs.Said.{EndsAtLimit, EndsBy, EndsByLimit, line_of, report_of}
use Rattle.solver.specs.declared.reports.RaisedBy.{RaisedBy}
use Rattle.solver.specs.declared.reports.Report.{Report}
use Rattle.solver.specs.declared.reports.Report.TheVariants.{Limit}

-- the last line is that of the certificate
pub ends_by : {T E : Type 0} (result : Result T E) (may_lack_memory : Bool) (failures : ℕ) (taken : Option (List ℕ)) (failures_after : ℕ) (taken_after : Option (List ℕ)) (report : Report) (certificate : Certificate)
    → report ≡ report_of certificate → OnOk result (IsWritten may_lack_memory failures failures_after taken taken_after (line_of report)) → OnOk result (EndsBy may_lack_memory failures_after taken_after certificate)
ends_by (Ok done) may_lack_memory failures taken failures_after taken_after report certificate same written =
    (stream failures taken, subst (λ (r : Report). IsWritten may_lack_memory failures failures_after taken taken_after (line_of r)) same written)
ends_by (Err refused) may_lack_memory failures taken failures_after taken_after report certificate same written = tt

-- it names the option
pub ends_by_limit : {T E : Type 0} (result : Result T E) (may_lack_memory : Bool) (failures : ℕ) (taken : Option (List ℕ)) (failures_after : ℕ) (taken_after : Option (List ℕ)) (option : RaisedBy)
    → OnOk result (IsWritten may_lack_memory failures failures_after taken taken_after (line_of (Limit option))) → OnOk result (EndsByLimit may_lack_memory failures_after taken_after option)
ends_by_limit (Ok done) may_lack_memory failures taken failures_after taken_after option written = (stream failures taken, written)
ends_by_limit (Err refused) may_lack_memory failures taken failures_after taken_after option written = tt

-- or the last but one does
pub ends_at_limit : {T E : Type 0} (result : Result T E) (may_lack_memory : Bool) (failures : ℕ) (taken : Option (List ℕ)) (failures_after : ℕ) (taken_after : Option (List ℕ)) (report : Report) (certificate : Certificate)
    (option : RaisedBy) → EndsByLimit may_lack_memory failures taken option → report ≡ report_of certificate → OnOk result (IsWritten may_lack_memory failures failures_after taken taken_after (line_of report))
    → OnOk result (EndsAtLimit may_lack_memory failures_after taken_after option certificate)
ends_at_limit (Ok done) may_lack_memory failures taken failures_after taken_after report certificate option limit same written =
    (stream failures taken, limit, subst (λ (r : Report). IsWritten may_lack_memory failures failures_after taken taken_after (line_of r)) same written)
ends_at_limit (Err refused) may_lack_memory failures taken failures_after taken_after report certificate option limit same written = tt
