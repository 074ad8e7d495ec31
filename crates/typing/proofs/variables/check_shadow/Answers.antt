use Rattle.std.proofs.Common.{◌≡◌, ◌∙◌, [], ap, sym, refl, map, if◌then◌else◌}
use Rattle.typing.specs.TypedLists.{declared_of}
use Rattle.typing.specs.Scope.{variable_entry_of}
use Rattle.typing.specs.Walk.{found, found_by, found_in}
use Rattle.model.specs.Typing as typing
use Rattle.typing.proofs.Tables as tables
use Rattle.typing.proofs.variables.check_shadow.Goals.{After-contains_key}
use Rattle.typing.proofs.variables.check_shadow.Goals as goal

-- the look-up's result for the name
known : (c : After-contains_key) → c.contains_key.result ≡ typing.is_known (typing.names_of_variables (map variable_entry_of c.args.variables.now.entries)) (declared_of c.args.one.now).name
known c =
    let entries = c.args.variables.now.entries in let q = c.as_slice.result.now in
    c.contains_key.ensures ∙ tables.lookup-any (tables.key_is q) entries
    ∙ sym (tables.is_known-shown variable_entry_of (λ v. v.name) (λ e. refl) (declared_of c.args.one.now).name q (c.as_slice.ensures.value ∙ c.in_ok-fold.ensures.folded) entries)

pub returns-then-contains_key : goal.returns-then-contains_key
returns-then-contains_key c =
    let x = declared_of c.args.one.now in let word = typing.refused_word x.file 20 x.name in
    c.refuse.ensures ∙ ap (λ o. found (found_in o) word) c.fold.ensures.found
    ∙ ap (λ b. found (found_by c.args.walk.now) (if b then word else [])) (sym c.if-contains_key.true ∙ known (goal.at.returns-then-contains_key c).After-contains_key)

pub returns-else-contains_key : goal.returns-else-contains_key
returns-else-contains_key c =
    let x = declared_of c.args.one.now in let word = typing.refused_word x.file 20 x.name in
    ap found_in c.fold.ensures.found
    ∙ ap (λ b. found (found_by c.args.walk.now) (if b then word else [])) (sym c.if-contains_key.false ∙ known (goal.at.returns-else-contains_key c).After-contains_key)
