use Rattle.std.proofs.Common.{◌≡◌, true, take}
use Rattle.std.specs.List.{list_all}
use Rattle.task.specs.TaskParts.{term_of}
use Rattle.model.proofs.EnumerationLemmas.{is_bound}
use Rattle.grounding_instances.proofs.parameters.all_bound.Given as goal

-- the variables so far are among them
abbrev pub invariant-loop-term : goal.invariant-loop-term
invariant-loop-term l = list_all (λ term. is_bound l.count (term_of term)) (take l.term-index l.terms) ≡ true
