use Rattle.std.proofs.Common.{◌∙◌, ℕ, Bool, map, sym, rules, tests}
use Rattle.std.proofs.lemmas.Iterator.{YieldsList-from_slice}
use Rattle.std.proofs.lemmas.Iterator.Search.{all_from_yields_List}
use Rattle.task.specs.declared.atoms.TypeId.{TypeId}
use Rattle.task.specs.TaskParts.{type_entry_of, type_of, union_of}
use Rattle.model.specs.Meaning.{is_below_in}
use Rattle.task.proofs.Lists.{list_all-map}
use Rattle.task.proofs.types.all_below.Goals as goal

pub returns : goal.returns
returns c =
    let below : ℕ → Bool = is_below_in (map type_entry_of c.args.types.now.entries) (union_of c.args.required_types.now) in
    all_from_yields_List (λ (t : TypeId). below t.0) _ _ _ c.all.ensures.ran (YieldsList-from_slice c.args.some.now c.iter.ensures.rest) (λ x b q k. search (rules, tests))
    ∙ sym (list_all-map below type_of c.args.some.now)
