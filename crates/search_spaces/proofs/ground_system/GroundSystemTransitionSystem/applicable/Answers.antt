use Rattle.std.proofs.Common.{List, ℕ, sym, subst}
use Rattle.std.proofs.lemmas.Result.{on_ok_weaker}
use Rattle.packed_state.specs.Packed.{bits_of}
use Rattle.search.specs.Transitions.{AreApplicable}
use Rattle.grounding.specs.Ground.{task_in, atoms_in}
use Rattle.model.specs.Grounding.{ground_system}
use Rattle.search_spaces.proofs.GroundLemmas.{are_applicable}
use Rattle.search_spaces.proofs.ground_system.GroundSystemTransitionSystem.applicable.Goals as goal

pub returns-clause-ok : goal.returns-clause-ok
returns-clause-ok c =
    let task = task_in c.args.self.now.0.now in
    let atoms = atoms_in c.args.self.now.0.now in
    let bits = bits_of c.args.state.now in
    on_ok_weaker c.list_applicable.result (λ is. subst (λ (numbers : List ℕ). AreApplicable (ground_system task atoms) bits numbers) (sym is) (are_applicable task atoms bits)) c.list_applicable.ensures.ok
