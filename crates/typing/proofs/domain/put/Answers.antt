use Rattle.std.proofs.Common.{◌∙◌, is_some, refl, ap, sym}
use Rattle.typing.specs.Scope.{keys_in}
use Rattle.pddl_tree.specs.Tree as read
use Rattle.typing.proofs.Tables as tables
use Rattle.typing.proofs.domain.put.Goals as goal

pub returns : goal.returns
returns g c =
    let name = read.name_of c.args.name.now in
    let entries = c.args.table.now.entries in
    let key = c.in_ok-key.key in
    let is = c.in_ok-key.ensures.ok in
    let known = tables.is_known-entries (λ e. e.0) (λ k. k.items) (λ e. refl) name key is c.args.value entries in
    record {
      names = ap keys_in c.in_ok-before.ensures.entries ∙ tables.labels-insert (λ e. e.0) (λ k. k.items) (λ e. refl) name key is c.args.value entries;
      added = λ new. (key, is, c.in_ok-before.ensures.entries ∙ tables.insert-new (λ e. e.0) (λ k. k.items) (λ e. refl) name key is c.args.value entries (sym known ∙ new));
      again = c.is_some.ensures ∙ ap is_some c.in_ok-before.ensures.old ∙ tables.lookup-any (tables.key_is key.items) entries ∙ sym known;
    }
