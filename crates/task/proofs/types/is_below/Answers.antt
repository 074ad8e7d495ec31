use Rattle.std.proofs.Common.{◌∙◌, ℕ, Bool, nat_eq, ap, sym, rules, tests}
use Rattle.std.specs.List.{list_any}
use Rattle.std.proofs.lemmas.Iterator.{YieldsList-from_slice}
use Rattle.std.proofs.lemmas.Iterator.Search.{any_from_yields_List}
use Rattle.task.specs.declared.atoms.TypeId.{TypeId}
use Rattle.task.specs.TaskParts.{type_of, union_of}
use Rattle.task.proofs.Lists.{list_any-map}
use Rattle.task.proofs.types.is_below.Goals as goal

pub returns : goal.returns
returns c =
    let has : ℕ → Bool = λ above. list_any (nat_eq above) (union_of c.args.required_types.now) in
    any_from_yields_List (λ (t : TypeId). has t.0) _ _ _ c.any.ensures.ran (YieldsList-from_slice c.supertypes.result.now c.iter.ensures.rest) (λ x b q k. search (rules, tests))
    ∙ sym (list_any-map has type_of c.supertypes.result.now) ∙ ap (list_any has) c.supertypes.ensures
