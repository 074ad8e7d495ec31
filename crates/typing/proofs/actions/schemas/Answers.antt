use Rattle.std.proofs.Common.{◌≡◌, ◌∙◌, map, ap}
use Rattle.std.proofs.lemmas.Result.{IfOk-weaker}
use Rattle.task.specs.TaskParts as parts
use Rattle.pddl_tree.specs.Tree.{file_of}
use Rattle.typing.specs.declared.scope.Globals.{Globals}
use Rattle.typing.specs.QuantifiedNames.{quantified_names}
use Rattle.typing.specs.Scope.{known_outside}
use Rattle.typing.specs.Walk.{found, found_by, nothing}
use Rattle.typing.proofs.Reports as printing
use Rattle.pddl_tree.specs.Tree as read
use Rattle.model.specs.Trees as tree
use Rattle.model.specs.Typing as typing
use Rattle.typing.proofs.actions.schemas.Goals as goal

pub returns : goal.returns
returns c =
    let known = known_outside c.args.globals.now in
    let actions = (read.domain_of c.args.domain.now).actions in
    let faults = typing.action_faults known actions in
    let is : known_outside c.new-resolver.result.globals.now ≡ known = ap known_outside c.new-resolver.ensures.globals in
    let total : found_by c.walked_actions.new.resolver.walk ≡ found nothing faults =
    c.in_ok-schemas.ensures.finds ∙ (λ i. found ((c.new-resolver.ensures.found ∙ c.in_ok-walk.ensures) i) (typing.action_faults (is i) actions)) in
    record {
      ok = printing.given (λ m. map parts.schema_of m.entries ≡ map (typing.schema_in known) actions) c.in_ok-schemas.schemas faults _ total (λ none. c.in_ok-schemas.ensures.table (ap (λ k. typing.action_faults k actions) is ∙ none) ∙ ap (λ k. map (typing.schema_in k) actions) is) c.finish.result c.finish.ensures.none;
      names = IfOk-weaker c.finish.result _ _ (λ m both. both.1)
          (printing.given (λ m. map parts.precondition_names_of m.entries ≡ map (λ (a : tree.Action). quantified_names a.precondition) actions) c.in_ok-schemas.schemas faults _ total
          (λ none. c.in_ok-schemas.ensures.names (ap (λ k. typing.action_faults k actions) is ∙ none)) c.finish.result c.finish.ensures.none);
      err = printing.reports_result faults _ total c.finish.result c.finish.ensures.some;
    }

pub walked_actions-requires : goal.walked_actions-requires
walked_actions-requires c = record { file = ap (λ (g : Globals). file_of g.file) c.new-resolver.ensures.globals ∙ c.requires; outside = c.new-resolver.ensures.outside }
