use Rattle.std.proofs.Common.{take}
use Rattle.std.specs.List.{list_any}
use Rattle.formulas.specs.Effects.{change_of}
use Rattle.formulas.specs.State.{state_of}
use Rattle.explain_tasks.specs.Goals.{GainsAsked, change_makes_true}
use Rattle.explain_tasks.proofs.added.insert_added.Given as goal

-- the atoms that the changes so far add
abbrev pub invariant-loop-change : goal.invariant-loop-change
invariant-loop-change l = GainsAsked (state_of l.asked) (λ a. list_any (λ one. change_makes_true a (change_of one)) (take l.change-index l.changes)) (state_of l.initial.added) (state_of l.added)
