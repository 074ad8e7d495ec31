-- Where nothing is ever answered, a search halts by the guide's values.
use Rattle.std.proofs.Common.{◌≡◌, ◌≤◌, ℕ, List, Bool, false}
use Rattle.std.specs.Prelude.{IfOk, Result, Ok, Err}
use Rattle.model.specs.Runs.{System}
use Rattle.search.specs.declared.under_way.Halt.{Halt}
use Rattle.search.specs.declared.under_way.Halt.TheVariants.{Ended, Paused}
use Rattle.search.specs.declared.under_way.Stop.{Stop}
use Rattle.search.specs.declared.under_way.Stop.TheVariants as stop
use Rattle.search.specs.declared.under_way.Search.{Search}
use Rattle.search.specs.DeadEnds.{ReportsDeadEnds}
use Rattle.search.specs.Estimates.{IsAdmissible}
use Rattle.search.specs.OnDemand.{noted_at}
use Rattle.search.specs.Progress.{nodes_in}
use Rattle.search.specs.UnderWay.{IsUnderWay, IsUnderWayBy, IsTrueHalt, IsTrueHaltBy, IsTrueStop, IsTrueStopBy}
use Rattle.search.proofs.Valued.{by_guide, valued_alone}

module _ {S Store R : Type 0} (t : System S ℕ) (class_of : S → S) (estimate : S → ℕ) (reported : S → Bool) (answers : Bool) (none : answers ≡ false) (fits : R → Type 0) (states_of : Store → List S) (classes_of : Store → S → S)
    (width_of : Store → ℕ) (width pause max_states : ℕ) where
  pub halts_by_guide : (halt : Halt Store R) → IsTrueHaltBy t class_of estimate reported answers fits states_of classes_of width_of width pause max_states halt
      → IsTrueHalt t class_of estimate reported fits states_of classes_of width_of width pause max_states halt
  halts_by_guide (Ended outcome) by = by_guide t estimate reported answers _ _ _ none by
  halts_by_guide (Paused search) (by, long) = (by_guide t estimate reported answers _ _ _ none by, long)

module _ {S Store : Type 0} (t : System S ℕ) (class_of : S → S) (estimate : S → ℕ) (reported : S → Bool) (answers : Bool) (none : answers ≡ false) (states_of : Store → List S) (max_states : ℕ) where
  pub stops_by_guide : (halted : Stop Store) → IsTrueStopBy t class_of estimate reported answers states_of max_states halted → IsTrueStop t class_of estimate reported states_of max_states halted
  stops_by_guide (stop.Ended outcome) by = by_guide t estimate reported answers _ _ _ none by
  stops_by_guide (stop.Waiting least found) by = by_guide t estimate reported answers _ _ _ none by

-- a search that has begun stands on the guide alone
module _ {S Store R : Type 0} (t : System S ℕ) (class_of : S → S) (estimate : S → ℕ) (reported : S → Bool) (answers : Bool) (admissible : IsAdmissible t estimate) (reports : ReportsDeadEnds t reported)
    (fits : R → Type 0) (states_of : Store → List S) (classes_of : Store → S → S) (width_of : Store → ℕ) (width : ℕ) where
  pub begins_alone : {E : Type 0} (result : Result (Search Store R) E)
      → IfOk result (λ search. (max_states : ℕ) → 1 ≤ max_states → IsUnderWay t class_of estimate reported fits states_of classes_of width_of width max_states search)
      → IfOk result (λ search. (place : ℕ) → noted_at search.progress.bases place ≡ 0)
      → IfOk result (λ search. (max_states : ℕ) → 1 ≤ max_states → IsUnderWayBy t class_of estimate reported answers fits states_of classes_of width_of width max_states search)
  begins_alone (Ok search) under_way none = λ max_states some. record {
    value = estimate;
    is_dead = reported;
    valued = valued_alone t estimate reported answers (nodes_in states_of search.progress) search.progress.bases none admissible reports;
    holds = under_way max_states some;
  }
  begins_alone (Err e) under_way none = under_way
