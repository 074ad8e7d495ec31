use Rattle.std.proofs.Common.{◌≡◌, ◌∙◌, ◌++◌, ap, map, subst}
use Rattle.std.specs.Prelude.{IfOk}
use Rattle.std.specs.Global.{Vec}
use Rattle.std.specs.List.{flat_map}
use Rattle.formulas.specs.Mentions.{mentions}
use Rattle.formulas.specs.MentionViews.{mention_of}
use Rattle.task.specs.TaskParts.{formula_of, object_of}
use Rattle.task.specs.declared.atoms.ObjectId.{ObjectId}
use Rattle.symmetries.specs.Named.{named_by}
use Rattle.symmetries.proofs.NamedLists.{of_formula}
use Rattle.symmetries.proofs.named.named_in_formula.Goals as goal

pub returns : goal.returns
returns c =
    let f = formula_of c.args.formula.now in
    let are : map mention_of c.deref.result.now ≡ mentions f =
    ap (map mention_of) c.deref.ensures.value ∙ c.in_ok-add_formula_mentions.ensures ∙ ap (λ l. map mention_of l ++ mentions f) c.new-mentions.ensures.items in
    subst (λ l. IfOk c.objects_named.result (λ (found : Vec ObjectId). map object_of found.items ≡ l)) (ap (flat_map named_by) are ∙ of_formula f) c.objects_named.ensures
