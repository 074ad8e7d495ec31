use Rattle.std.proofs.Common.{◌≡◌, ◌∙◌, map, ap, subst}
use Rattle.std.specs.FinSet.{contains}
use Rattle.std.specs.List.{list_all, list_any}
use Rattle.task.specs.Task.{task_of}
use Rattle.symmetries_definitions.specs.Symmetries.{conjuncts}
use Rattle.task.specs.TaskParts.{value_of}
use Rattle.symmetries.specs.Lent.{formulas_lent}
use Rattle.symmetries.specs.PlacesByObject.{Covers, Indexes, functions_of}
use Rattle.symmetries.proofs.symmetry_test.SymmetryTest.new.Goals as goal

pub invariant_of-result : goal.invariant_of-result
invariant_of-result c =
    let same : formulas_lent c.in_ok-conjuncts.conjuncts.items ≡ conjuncts (task_of c.args.task.now).goal = c.in_ok-conjuncts.ensures ∙ ap conjuncts c.goal.ensures in
    let given : functions_of (map value_of c.values.result.now.entries) ≡ functions_of (task_of c.args.task.now).values = ap functions_of c.values.ensures in
    record {
      are_named = c.in_ok-named.ensures;
      are_fluents = c.in_ok-fluents.ensures;
      is_initial = λ a. ap (λ s. contains s a) c.in_ok-initial.ensures;
      covers_atoms = subst (λ l. Covers l c.in_ok-atoms.atoms) c.init.ensures c.in_ok-atoms.ensures;
      covers_functions = subst (λ l. Covers l c.in_ok-functions.functions) given c.in_ok-functions.ensures;
      are_conjuncts = λ p. (ap (list_all p) same, ap (list_any p) same);
      covers_goal = subst (λ l. Indexes (formulas_lent l) c.in_ok-goals.goals) c.deref.ensures.value c.in_ok-goals.ensures;
    }
