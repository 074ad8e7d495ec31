use Rattle.std.proofs.Common.{◌≡◌, ◌∙◌, Bool, [], if◌then◌else◌, is_some, unwrap_or, map, ap, refl, arith}
use Rattle.std.specs.Map.{keys_of}
use Rattle.std.proofs.lemmas.List.{length-map}
use Rattle.model.specs.Typing.{refused_word, number_in, is_known, names_of_objects}
use Rattle.pddl_tree.specs.Tree.{name_of}
use Rattle.pddl_tree.specs.Tree.{file_of}
use Rattle.task.specs.TaskParts.{object_entry_of}
use Rattle.typing.specs.Walk.{found, found_by, found_in}
use Rattle.typing.proofs.Tables.{reported_of_entry, number_in-le, keys_in-named}
use Rattle.typing.proofs.scope.Scope.object.Goals.{After-unwrap_or-number}
use Rattle.typing.proofs.scope.Scope.object.Goals as goal

-- the look-up's result: the number, and whether the name is known
reported : (c : After-unwrap_or-number) → (unwrap_or c.get_index_of-place.result c.len.result ≡ number_in (names_of_objects (map object_entry_of c.args.self.now.globals.now.objects.now.entries)) (name_of c.args.name.now))
    × (is_some c.get_index_of-place.result ≡ is_known (names_of_objects (map object_entry_of c.args.self.now.globals.now.objects.now.entries)) (name_of c.args.name.now))
reported c =
    reported_of_entry object_entry_of (λ x. x.name) (λ e. refl) (name_of c.args.name.now) _ (c.as_slice.ensures.value ∙ c.in_ok-fold.ensures.folded) c.args.self.now.globals.now.objects.now.entries c.len.result c.len.ensures.len c.get_index_of-place.result c.get_index_of-place.ensures.index

pub returns-clause-value : goal.returns-clause-value
returns-clause-value c = c.unwrap_or-number.ensures ∙ (reported c).0

pub returns-clause-finds : goal.returns-clause-finds
returns-clause-finds c =
    let refusals = λ (b : Bool). if b then [] else refused_word (file_of c.args.self.now.globals.now.file) 17 (name_of c.args.name.now) in
    c.check_known.ensures ∙ ap (λ o. found (found_in o) (refusals (is_some c.get_index_of-place.result))) c.fold.ensures.found ∙ ap (λ b. found (found_by c.args.walk.now) (refusals b)) (reported c).1

pub overflow_cast-result : goal.overflow_cast-result
overflow_cast-result c =
    let entries = c.args.self.now.globals.now.objects.now.entries in
    omega (arith, c.unwrap_or-number.ensures, (reported c).0, ap (λ ks. number_in ks (name_of c.args.name.now)) (keys_in-named object_entry_of (λ o. o.name) (λ e. refl) entries), number_in-le (keys_of entries) (name_of c.args.name.now), length-map entries (λ e. e.0), c.args.self.now.globals.now.few)
