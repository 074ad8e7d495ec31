use Rattle.std.proofs.Common.{◌≡◌, ◌∙◌, List, [], ◌++◌, map, ap, sym}
use Rattle.std.specs.List.{flat_map}
use Rattle.std.proofs.lemmas.List.Folds.{flat_map-map}
use Rattle.std.proofs.lemmas.Result.{IfOk-weaker, on_ok_weaker}
use Rattle.typing.specs.QuantifiedNames.{quantified_names}
use Rattle.typing.specs.Scope.{known_outside}
use Rattle.typing.specs.Walk.{found, found_by}
use Rattle.typing.proofs.Empty as empty
use Rattle.typing.proofs.Found as finding
use Rattle.pddl_tree.specs.Tree as read
use Rattle.pddl_tree.specs.declared.tree.Action.{Action}
use Rattle.model.specs.Trees as tree
use Rattle.model.specs.Trees.{domain_file}
use Rattle.model.specs.Typing as typing
use Rattle.typing.proofs.actions.walked_actions.Goals as goal

abbrev placed_as : Action → typing.Placed
placed_as a = typing.placed domain_file (read.name_of a.name)

abbrev twice : List Action → List typing.TypingFault
twice zs = typing.refused 16 (typing.repeated (map placed_as zs))

-- the faults of the list in memory are those of the trees
same_faults : (known : typing.Known) (xs ys : List Action) → xs ≡ ys
    → twice xs ++ flat_map (λ (a : Action). typing.schema_faults known (read.action_of a)) xs ≡ typing.action_faults known (map read.action_of ys)
same_faults known xs ys is =
    ap (λ zs. twice zs ++ flat_map (λ (a : Action). typing.schema_faults known (read.action_of a)) zs) is
    ∙ (λ i. typing.refused 16 (typing.repeated (sym (finding.map-map (λ (a : tree.Action). typing.placed domain_file a.name) read.action_of ys) i))
    ++ sym (flat_map-map (typing.schema_faults known) read.action_of ys) i)

pub returns-clause-finds : goal.returns-clause-finds
returns-clause-finds c =
    let known = known_outside c.args.resolver.now.globals.now in
    let xs = c.as_slice-actions.result.now in
    let inner = flat_map (λ (a : Action). typing.schema_faults known (read.action_of a)) xs in
    on_ok_weaker c.table.result
    (λ finds. finding.found_after (found_by c.args.resolver.now.walk) (found_by c.declare_actions.new.walk) (found_by c.table.new.resolver.walk) (twice xs) inner c.in_ok-declare_actions.ensures finds
    ∙ ap (found (found_by c.args.resolver.now.walk)) (same_faults known xs c.args.domain.now.actions.items c.as_slice-actions.ensures.value))
    c.table.ensures.finds

-- if the actions have no fault, none is declared twice
once : (known : typing.Known) (xs ys : List Action) → xs ≡ ys → typing.action_faults known (map read.action_of ys) ≡ [] → typing.repeated (map placed_as xs) ≡ []
once known xs ys is none =
    empty.not_refused 16 (typing.repeated (map placed_as xs))
    (empty.nil_left (twice xs) (flat_map (λ (a : Action). typing.schema_faults known (read.action_of a)) xs) (same_faults known xs ys is ∙ none))

-- what is made of each action
of_each : {S : Type 0} (made : tree.Action → S) (xs ys : List Action) → xs ≡ ys → map (λ (a : Action). made (read.action_of a)) xs ≡ map made (map read.action_of ys)
of_each made xs ys is = ap (map (λ (a : Action). made (read.action_of a))) is ∙ sym (finding.map-map made read.action_of ys)

pub returns-clause-table : goal.returns-clause-table
returns-clause-table c =
    let known = known_outside c.args.resolver.now.globals.now in
    let xs = c.as_slice-actions.result.now in
    let ys = c.args.domain.now.actions.items in
    let is = c.as_slice-actions.ensures.value in
    IfOk-weaker c.table.result _ _ (λ m table none. table (once known xs ys is none) ∙ of_each (typing.schema_in known) xs ys is) c.table.ensures.table

pub returns-clause-names : goal.returns-clause-names
returns-clause-names c =
    let known = known_outside c.args.resolver.now.globals.now in
    let xs = c.as_slice-actions.result.now in
    let ys = c.args.domain.now.actions.items in
    let is = c.as_slice-actions.ensures.value in
    IfOk-weaker c.table.result _ _ (λ m names none. names (once known xs ys is none) ∙ of_each (λ (a : tree.Action). quantified_names a.precondition) xs ys is) c.table.ensures.names
