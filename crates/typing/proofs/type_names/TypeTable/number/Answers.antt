use Rattle.std.proofs.Common.{◌∙◌, Some, None, refl}
use Rattle.pddl_tree.specs.Tree.{name_of}
use Rattle.typing.proofs.Tables.{reported_of_entry}
use Rattle.typing.proofs.type_names.TypeTable.number.Goals as goal

pub returns-in-Some : goal.returns-in-Some
returns-in-Some c =
    (reported_of_entry (λ e. e.0) (λ k. k.items) (λ e. refl) (name_of c.args.name.now) _ (c.as_slice.ensures.value ∙ c.in_ok-fold.ensures) c.args.self.now.by_name.entries _ refl (Some c.in-Some.number) c.in-Some.ensures.index).0

pub returns-in-None : goal.returns-in-None
returns-in-None c =
    c.len.ensures.len ∙ (reported_of_entry (λ e. e.0) (λ k. k.items) (λ e. refl) (name_of c.args.name.now) _ (c.as_slice.ensures.value ∙ c.in_ok-fold.ensures) c.args.self.now.by_name.entries _ refl None c.in-None.ensures.index).0
