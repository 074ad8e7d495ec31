use Rattle.std.proofs.Common.{ℕ, ◌∙◌, ap, sym, refl}
use Rattle.std.specs.Global.{Vec}
use Rattle.std.specs.Map.{keys_of}
use Rattle.std.proofs.lemmas.Map.Made.{is_some-lookup}
use Rattle.std.specs.List.{list_any}
use Rattle.model.specs.Typing.{is_same, total_cost}
use Rattle.task.specs.TaskParts.{predicate_of}
use Rattle.typing.proofs.Lists.{list_any-map}
use Rattle.typing.proofs.Tables.{key_is, keys_in-named}
use Rattle.typing.proofs.scope.declares_cost.Goals as goal

pub returns : goal.returns
returns c =
    let entries = c.args.functions.now.entries in
    c.contains_key.ensures ∙ is_some-lookup (key_is c.as_slice.result.now) entries ∙ ap (λ q. list_any (key_is q) (keys_of entries)) c.as_slice.ensures
    ∙ sym (list_any-map (is_same total_cost) (λ (k : Vec ℕ). k.items) (keys_of entries)) ∙ ap (list_any (is_same total_cost)) (keys_in-named predicate_of (λ p. p.name) (λ e. refl) entries)
