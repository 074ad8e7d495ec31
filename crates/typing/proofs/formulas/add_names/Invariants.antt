use Rattle.std.proofs.Common.{◌≡◌, map, take, ◌++◌}
use Rattle.task.specs.Names.{names_in}
use Rattle.typing.proofs.formulas.add_names.Given as goal

-- the names so far are added
abbrev pub invariant-loop-one : goal.invariant-loop-one
invariant-loop-one l = names_in l.names.items ≡ names_in l.initial.names.items ++ map (λ d. d.placed.name.text.now) (take l.one-index l.declared)
