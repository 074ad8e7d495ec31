use Rattle.std.proofs.Common.{◌≡◌, true, map, take}
use Rattle.std.specs.List.{list_all}
use Rattle.task.specs.TaskParts.{object_of, term_of}
use Rattle.explain_tasks.specs.Costs.{is_same_term}
use Rattle.explain_tasks.proofs.lacking.are_same_terms.Given as goal

-- each term so far does
abbrev pub invariant-loop-term : goal.invariant-loop-term
invariant-loop-term l = list_all (λ term. is_same_term (map object_of l.one.items) (map object_of l.other.items) (term_of term)) (take l.term-index l.terms) ≡ true
