-- What an attempt came to.
use Rattle.std.specs.Prelude.{⊤}
use Rattle.solver.specs.declared.attempt.Attempt.{Attempt}
use Rattle.solver.specs.declared.attempt.Attempt.TheVariants.{Done, Promising, InVain}

-- what was done is so
abbrev pub IfDone : {A : Type 0} → (A → Type 0) → Attempt A → Type 0
IfDone is (Done a) = is a
IfDone is Promising = ⊤
IfDone is InVain = ⊤
