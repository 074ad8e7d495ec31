use Rattle.std.proofs.Common.{◌≡◌, ◌∙◌, List, [], ◌++◌, map, fold, refl, ap, sym}
use Rattle.std.specs.List.{flat_map}
use Rattle.typing.specs.Walk.{found, found_by}
use Rattle.typing.specs.Scope.{keys_in}
use Rattle.pddl_tree.specs.Tree as read
use Rattle.model.specs.Trees.{domain_file}
use Rattle.model.specs.Typing as typing
use Rattle.task.specs.TaskParts as parts
use Rattle.typing.proofs.Found as finding
use Rattle.typing.proofs.Tables.{keys_in-named}
use Rattle.typing.proofs.Empty as empty
use Rattle.pddl_tree.specs.declared.tree.Predicate.{Predicate}
use Rattle.model.specs.Task as task
use Rattle.model.specs.Trees as tree
use Rattle.std.proofs.lemmas.List.Folds.{flat_map-map}
use Rattle.typing.proofs.declarations.declared.Goals as goal

-- the faults of the declarations, one after another
twice : List Predicate → List typing.TypingFault
twice qs = typing.refused 16 (typing.repeated (map (λ (q : Predicate). typing.placed domain_file (read.name_of q.name)) qs))

inner : List task.Name → List Predicate → List typing.TypingFault
inner names qs = flat_map (λ (q : Predicate). typing.argument_faults names (read.predicate_of q)) qs

-- are the faults of all
all_faults : (names : List task.Name) (qs : List Predicate) → twice qs ++ inner names qs ≡ typing.declaration_faults names (map read.predicate_of qs)
unfolding twice inner
all_faults names qs =
    λ i. typing.refused 16 (typing.repeated (sym (finding.map-map (λ (q : tree.Predicate). typing.placed domain_file q.name) read.predicate_of qs) i))
    ++ sym (flat_map-map (typing.argument_faults names) read.predicate_of qs) i

pub returns-clause-names : goal.returns-clause-names
returns-clause-names c =
    sym (keys_in-named parts.predicate_of (λ p. p.name) (λ e. refl) c.in_ok-table.table.entries) ∙ c.in_ok-table.ensures.names ∙ ap (fold typing.with_name []) (sym (finding.map-map (λ (q : tree.Predicate). q.name) read.predicate_of c.args.declarations.now))

pub returns-clause-table : goal.returns-clause-table
unfolding twice inner
returns-clause-table c none =
    let xs = c.args.declarations.now in let names = keys_in c.args.types.now.by_name.entries in
    let once = empty.nil_left (twice xs) (inner names xs) (all_faults names xs ∙ none) in
    c.in_ok-table.ensures.table (empty.not_refused 16 (typing.repeated (map (λ (q : Predicate). typing.placed domain_file (read.name_of q.name)) xs)) once)
    ∙ sym (finding.map-map (typing.predicate_in names) read.predicate_of xs)

pub returns-clause-finds : goal.returns-clause-finds
unfolding twice inner
returns-clause-finds c =
    let xs = c.args.declarations.now in let names = keys_in c.args.types.now.by_name.entries in
    finding.found_after (found_by c.args.walk.now) (found_by c.table.new.walk) _ (twice xs) (inner names xs) c.in_ok-table.ensures.finds c.in_ok-check_declarations.ensures
    ∙ ap (found (found_by c.args.walk.now)) (all_faults names xs)
