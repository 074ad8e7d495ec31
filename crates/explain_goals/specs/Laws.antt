-- The purpose of closed sets: they are invariants, so an atom outside of one is never true.
use Rattle.std.specs.Prelude.{◌≡◌, Bool, true}
use Rattle.std.specs.FinSet.{contains}
use Rattle.model.specs.Task.{Task, Atom}
use Rattle.model.specs.Runs.{IsReachable, IsUnsolvable}
use Rattle.model.specs.Meaning.{State, system_of}
use Rattle.explain_goals.specs.Relaxation.{IsClosed, IsNeverTrue, IsRequired}

-- no list of actions leads to a state with an atom outside a closed set
abbrev pub ClosedSetsAreInvariants : Type 0
ClosedSetsAreInvariants =
    (t : Task) (set : Atom → Bool) → IsClosed t set → (s : State) → IsReachable (system_of t) s → (a : Atom) → contains s a ≡ true → set a ≡ true

-- a task is unsolvable if its goal requires an atom that is never true
abbrev pub NeverTrueGoalsAreUnsolvable : Type 0
NeverTrueGoalsAreUnsolvable = (t : Task) (a : Atom) → IsRequired t a → IsNeverTrue t a → IsUnsolvable (system_of t)
