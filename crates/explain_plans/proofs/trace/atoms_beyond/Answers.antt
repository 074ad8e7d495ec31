use Rattle.std.proofs.Common.{◌≡◌, ◌∙◌, ap, filter, map, not}
use Rattle.std.specs.FinSet.{contains}
use Rattle.std.specs.Map.Iter.{deref}
use Rattle.task.specs.declared.atoms.Atom.{Atom}
use Rattle.task.specs.TaskParts.{atom_of}
use Rattle.formulas.specs.State.{state_of}
use Rattle.explain_plans.proofs.TraceLemmas.{beyond, yielded_whole}
use Rattle.explain_plans.proofs.trace.atoms_beyond.Goals as goal

pub returns : goal.returns
returns c =
    let keys = c.atoms-atom-items.result.now.keys in
    let other = state_of c.args.other.now in
    let whole : map deref c.loop-atom.yielded ≡ c.atoms-atom-items.result.now.keys =
    yielded_whole c.loop-atom.yielded _ _ _ c.loop-atom.yielded_by c.in-None.ensures.steps ∙ c.into_iter-atom-iterator.ensures.into_iter_gives.0 in
    c.loop-atom.invariant
    ∙ ap (λ l. map atom_of (filter (λ (a : Atom). not (contains other (atom_of a))) l)) whole
    ∙ beyond keys (state_of c.args.state.now) other c.into_iter-atom-iterator.ensures.into_iter_gives.4 c.atoms-atom-items.ensures
