use Rattle.std.proofs.Common.{◌∙◌, ◌≡◌, map, nat_lt, length, sym, ap, rules, tests}
use Rattle.std.specs.List.{list_all}
use Rattle.std.proofs.lemmas.List.{length-map}
use Rattle.std.proofs.lemmas.Iterator.{YieldsList-from_slice}
use Rattle.std.proofs.lemmas.Iterator.Search.{all_from_yields_List}
use Rattle.task.specs.declared.atoms.ObjectId.{ObjectId}
use Rattle.task.specs.TaskParts.{object_of, object_entry_of}
use Rattle.typing.proofs.Lists.{list_all-map}
use Rattle.typing.proofs.scope.Scope.all_known.Goals as goal

pub returns : goal.returns
returns c =
    let count : c.len-count.result ≡ length (map object_entry_of c.args.self.now.globals.now.objects.now.entries) = c.len-count.ensures.len ∙ sym (length-map c.args.self.now.globals.now.objects.now.entries object_entry_of) in
    all_from_yields_List (λ (o : ObjectId). nat_lt o.0 c.len-count.result) _ _ _ c.all.ensures.ran (YieldsList-from_slice c.args.objects.now c.iter.ensures.rest) (λ x b q k. search (rules, tests))
    ∙ sym (list_all-map (λ n. nat_lt n c.len-count.result) object_of c.args.objects.now)
    ∙ ap (λ n. list_all (λ m. nat_lt m n) (map object_of c.args.objects.now)) count
