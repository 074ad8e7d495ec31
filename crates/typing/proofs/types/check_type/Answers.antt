use Rattle.std.proofs.Common.{◌≡◌, ◌∙◌, [], ap, refl, sym, if◌then◌else◌}
use Rattle.pddl_tree.specs.Tree.{file_of, name_of}
use Rattle.model.specs.Typing.{refused_word, is_known}
use Rattle.typing.specs.Scope.{keys_in}
use Rattle.typing.specs.Walk.{found, found_by, found_in}
use Rattle.typing.proofs.Tables.{is_known-shown, key_is, lookup-any}
use Rattle.typing.proofs.types.check_type.Goals.{After-contains_key}
use Rattle.typing.proofs.types.check_type.Goals as goal

-- the look-up's result for the name
known : (c : After-contains_key) → c.contains_key.result ≡ is_known (keys_in c.args.names.now.entries) (name_of c.args.name.now)
known c =
    c.contains_key.ensures ∙ lookup-any (key_is c.as_slice.result.now) c.args.names.now.entries
    ∙ sym (is_known-shown (λ e. e.0) (λ k. k.items) (λ e. refl) (name_of c.args.name.now) _ (c.as_slice.ensures.value ∙ c.in_ok-fold.ensures.folded) c.args.names.now.entries)

pub returns-then-not-contains_key : goal.returns-then-not-contains_key
returns-then-not-contains_key c =
    let word = refused_word (file_of c.args.file) 14 (name_of c.args.name.now) in
    c.refuse.ensures ∙ ap (λ o. found (found_in o) word) c.fold.ensures.found
    ∙ ap (λ b. found (found_by c.args.walk.now) (if b then [] else word)) (sym c.if-not-contains_key.true ∙ known (goal.at.returns-then-not-contains_key c).After-contains_key)

pub returns-else-not-contains_key : goal.returns-else-not-contains_key
returns-else-not-contains_key c =
    let word = refused_word (file_of c.args.file) 14 (name_of c.args.name.now) in
    ap found_in c.fold.ensures.found
    ∙ ap (λ b. found (found_by c.args.walk.now) (if b then [] else word)) (sym c.if-not-contains_key.false ∙ known (goal.at.returns-else-not-contains_key c).After-contains_key)
