use Rattle.std.proofs.Common.{◌≡◌, ◌∙◌, List, ◌++◌, map, length, take, ap, subst, arith, IfErr, IfOk}
use Rattle.std.proofs.Math.Seq.{take-append_seam}
use Rattle.std.proofs.lemmas.List.{length-append, length-map}
use Rattle.pddl_tree.specs.Tree as read
use Rattle.typing.specs.Scope.{keys_in}
use Rattle.typing.specs.DeclaredObjects.{AreMade}
use Rattle.typing.specs.Task.{ReportsAll}
use Rattle.typing.specs.TypedLists.{declared_of}
use Rattle.model.specs.Trees.{domain_file, problem_file}
use Rattle.model.specs.Typing as typing
use Rattle.typing.proofs.objects.of_lists.Goals.{After-as_slice}
use Rattle.typing.proofs.objects.of_lists.Goals as goal

-- the declarations of constants
abbrev front : After-as_slice → List typing.Declared
front c = typing.declared domain_file (map read.group_of c.args.constants.now)

-- and of objects
abbrev back : After-as_slice → List typing.Declared
back c = typing.declared problem_file (map read.group_of c.args.objects.now)

first : (c : After-as_slice) → map declared_of c.add.new.declared.items ≡ front c
first c = c.in_ok-add.ensures ∙ ap (λ items. map declared_of items ++ front c) c.new-list.ensures.items

all : (c : After-as_slice) → map declared_of c.as_slice.result.now ≡ front c ++ back c
all c = ap (map declared_of) c.as_slice.ensures.value ∙ c.in_ok-add-2.ensures ∙ ap (λ xs. xs ++ back c) (first c)

count : (c : After-as_slice) → c.len-count.result ≡ length (front c)
count c = omega (arith, c.len-count.ensures, ap length (first c), length-map c.add.new.declared.items declared_of)

constants : (c : After-as_slice) → take c.len-count.result (map declared_of c.as_slice.result.now) ≡ front c
constants c = (λ i. take (count c i) (all c i)) ∙ take-append_seam (front c) (back c)

pub made-requires : goal.made-requires
made-requires c =
    let a = (goal.at.made-requires c).After-as_slice in
    omega (arith, count a, ap length (all a), length-map c.as_slice.result.now declared_of, length-append (front a) (back a))

pub returns-clause-ok : goal.returns-clause-ok
returns-clause-ok c =
    let a = (goal.at.returns-clause-ok c).After-as_slice in
    subst (λ (p : List typing.Declared × List typing.Declared). IfOk c.made.result (AreMade (keys_in c.args.types.now.by_name.entries) p.0 p.1)) (λ i. (constants a i, all a i)) c.made.ensures.ok

pub returns-clause-err : goal.returns-clause-err
returns-clause-err c =
    let a = (goal.at.returns-clause-err c).After-as_slice in
    subst (λ xs. IfErr c.made.result (ReportsAll (typing.objects_faults (keys_in c.args.types.now.by_name.entries) xs))) (all a) c.made.ensures.err
