use Rattle.std.proofs.Common.{◌≡◌, ◌∙◌, ◌++◌, map, ap, sym, subst, IfErr}
use Rattle.std.proofs.lemmas.Result.{IfOk-weaker}
use Rattle.pddl_tree.specs.Tree as read
use Rattle.typing.specs.Scope.{keys_in}
use Rattle.typing.specs.DeclaredObjects.{AreObjects}
use Rattle.typing.specs.Task.{ReportsAll}
use Rattle.model.specs.Trees.{domain_file, problem_file}
use Rattle.model.specs.Typing as typing
use Rattle.typing.proofs.objects.of_pair.Goals.{After-as_slice-objects}
use Rattle.typing.proofs.objects.of_pair.Goals as goal

all : (c : After-as_slice-objects) → typing.declared domain_file (map read.group_of c.as_slice-constants.result.now) ++ typing.declared problem_file (map read.group_of c.as_slice-objects.result.now)
    ≡ typing.declared_objects (read.domain_of c.args.domain.now) (read.problem_of c.args.problem.now)
all c = λ i. typing.declared domain_file (map read.group_of (c.as_slice-constants.ensures.value i)) ++ typing.declared problem_file (map read.group_of (c.as_slice-objects.ensures.value i))

pub returns-clause-ok : goal.returns-clause-ok
returns-clause-ok c =
    let a = (goal.at.returns-clause-ok c).After-as_slice-objects in
    let names = keys_in c.args.types.now.by_name.entries in
    IfOk-weaker c.of_lists.result _ (AreObjects names (read.domain_of c.args.domain.now) (read.problem_of c.args.problem.now))
    (λ o made. record {
      right = sym (ap (typing.objects_faults names) (all a)) ∙ made.right;
      constants = made.constants_are ∙ ap (λ gs. map (typing.object_in names) (typing.declared domain_file (map read.group_of gs))) c.as_slice-constants.ensures.value;
      all = made.all_are ∙ ap (map (typing.object_in names)) (all a);
    }) c.of_lists.ensures.ok

pub returns-clause-err : goal.returns-clause-err
returns-clause-err c =
    let names = keys_in c.args.types.now.by_name.entries in
    subst (λ xs. IfErr c.of_lists.result (ReportsAll (typing.objects_faults names xs))) (all (goal.at.returns-clause-err c).After-as_slice-objects) c.of_lists.ensures.err
