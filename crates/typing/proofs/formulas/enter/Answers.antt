use Rattle.std.proofs.Common.{◌≡◌, ◌∙◌, ◌++◌, map, ap}
use Rattle.task.specs.Names.{names_in}
use Rattle.typing.proofs.Quantified.{names_declared}
use Rattle.typing.specs.TypedLists.{declared_of}
use Rattle.typing.specs.Resolver.{file_in, known_to}
use Rattle.typing.specs.Walk.{found, found_by}
use Rattle.pddl_tree.specs.Tree as read
use Rattle.model.specs.Typing as typing
use Rattle.typing.proofs.formulas.enter.Goals.{After-as_slice-declared}
use Rattle.typing.proofs.formulas.enter.Goals as goal

-- the declarations
same : (c : After-as_slice-declared) → map declared_of c.as_slice-declared.result.now ≡ typing.declared (file_in c.args.resolver.now) (read.groups_of c.args.groups.now)
same c =
    ap (map declared_of) c.as_slice-declared.ensures.value ∙ c.in_ok-list.ensures
    ∙ ap (λ gs. typing.declared (file_in c.args.resolver.now) (map read.group_of gs)) c.as_slice-groups.ensures.value

pub returns-clause-unions : goal.returns-clause-unions
returns-clause-unions c =
    let known = known_to c.args.resolver.now in
    c.in_ok-unions.ensures ∙ ap (typing.unions_in known.type_names) (same (goal.at.returns-clause-unions c).After-as_slice-declared)

pub returns-clause-known : goal.returns-clause-known
returns-clause-known c =
    let known = known_to c.args.resolver.now in
    let variables = c.in_ok-declare_variables.ensures.variables ∙ ap (typing.variables_after known.type_names known.variables) (same (goal.at.returns-clause-known c).After-as_slice-declared) in
    λ i. record known { variables = variables i }

pub returns-clause-finds : goal.returns-clause-finds
returns-clause-finds c =
    let known = known_to c.args.resolver.now in
    c.in_ok-declare_variables.ensures.finds ∙ ap (λ xs. found (found_by c.args.resolver.now.walk) (typing.variable_faults known.type_names known.variables xs)) (same (goal.at.returns-clause-finds c).After-as_slice-declared)

pub returns-clause-names : goal.returns-clause-names
returns-clause-names c =
    c.in_ok-add_names.ensures
    ∙ ap (λ l. names_in c.args.resolver.now.names.items ++ l)
    (names_declared (file_in c.args.resolver.now) (read.groups_of c.args.groups.now) c.as_slice-declared.result.now (same (goal.at.returns-clause-names c).After-as_slice-declared))
