use Rattle.std.proofs.Common.{◌++◌, ◌∙◌, ap, map, length, sym}
use Rattle.std.proofs.lemmas.List.{length-map}
use Rattle.typing.specs.TypedLists.{declared_of}
use Rattle.typing.specs.Scope.{keys_in, variable_entry_of}
use Rattle.typing.specs.Walk.{found, found_by}
use Rattle.model.specs.Typing as typing
use Rattle.typing.proofs.Found.{found_after}
use Rattle.typing.proofs.variables.check_variables.Goals as goal

pub returns : goal.returns
returns c =
    let xs = map declared_of c.args.declared.now in
    let vs = map variable_entry_of c.args.variables.now.entries in
    let unknown = typing.type_faults (keys_in c.args.types.now.by_name.entries) xs in
    let twice = typing.refused 16 (typing.repeated (typing.words_of xs)) in
    let shadows = typing.refused 20 (typing.known_among (typing.names_of_variables vs) (typing.words_of xs)) in
    let many = typing.refused 25 (typing.one_too_many (length vs) (typing.words_of xs)) in
    let before = found_by c.args.walk.now in
    let count = c.len.ensures.len ∙ sym (length-map c.args.variables.now.entries variable_entry_of) in
    found_after before (found_by c.check_shadows.new.walk) _ ((unknown ++ twice) ++ shadows) many
    (found_after before (found_by c.check_repeated.new.walk) _ (unknown ++ twice) shadows
    (found_after before (found_by c.check_all.new.walk) _ unknown twice c.in_ok-check_all.ensures c.in_ok-check_repeated.ensures) c.in_ok-check_shadows.ensures)
    (c.limit_scope.ensures ∙ ap (λ n. found (found_by c.check_shadows.new.walk) (typing.refused 25 (typing.one_too_many n (typing.words_of xs)))) count)
