use Rattle.std.proofs.Common.{◌∙◌, subst, ℕ, List, length, get_or, is_some}
use Rattle.std.proofs.lemmas.Bool.{eqb-true}
use Rattle.std.specs.Prelude.{Contains}
use Rattle.std.specs.List.{range_with_len}
use Rattle.packed_state.specs.Packed.{bits_of}
use Rattle.grounding.specs.Ground.{task_in, atoms_in}
use Rattle.model.specs.StaticallyFalse.{kept_instances}
use Rattle.model.specs.Grounding.{ground_step}
use Rattle.model.proofs.ListLemmas.{filter-Contains}
use Rattle.solver_tests.proofs.ground_tasks.next.Goals as goal

pub successor-requires-clause-applicable : goal.successor-requires-clause-applicable
successor-requires-clause-applicable c =
    let task = task_in c.args.ground.now in
    let atoms = atoms_in c.args.ground.now in
    let bits = bits_of c.in_ok-state.state in
    let (place, within, same) = c.if-not-contains.ensures.cases in
    let listed : Contains c.deref.result.now c.args.instance = (place, within, eqb-true (get_or c.deref.result.now place c.args.instance) c.args.instance (same c.args.instance)) in
    (filter-Contains (λ (n : ℕ). is_some (ground_step task atoms bits n)) (range_with_len 0 (length (kept_instances task))) c.args.instance
    (subst (λ (numbers : List ℕ). Contains numbers c.args.instance) (c.deref.ensures.value ∙ c.in_ok-found.ensures) listed)).1
