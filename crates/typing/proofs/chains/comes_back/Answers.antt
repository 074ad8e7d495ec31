use Rattle.std.proofs.Common.{◌∙◌, nat_eq, map, ap}
use Rattle.std.specs.List.{list_any}
use Rattle.typing.proofs.Lists.{any_same}
use Rattle.task.specs.TaskParts.{type_of}
use Rattle.model.specs.Typing.{whole_chain}
use Rattle.typing.proofs.chains.comes_back.Goals as goal

pub returns : goal.returns
returns c =
    c.contains.ensures.value ∙ any_same type_of c.args.id.0 c.deref.result.now ∙ ap (λ ts. list_any (nat_eq c.args.id.0) (map type_of ts)) c.deref.ensures.value
    ∙ ap (list_any (nat_eq c.args.id.0)) (c.in_ok-chain.ensures ∙ ap (whole_chain (map type_of c.args.parents.now)) c.parent.ensures)
