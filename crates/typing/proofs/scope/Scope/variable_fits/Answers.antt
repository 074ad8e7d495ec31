use Rattle.std.proofs.Common.{◌∙◌, true, map, ap, sym}
use Rattle.std.specs.List.{list_all}
use Rattle.std.specs.Option.{option_map, option_map_or}
use Rattle.std.proofs.lemmas.Option.{slice_get-map}
use Rattle.model.specs.Meaning.{is_below_in}
use Rattle.model.specs.Typing.{Variable}
use Rattle.typing.specs.Scope.{known_of, variable_entry_of}
use Rattle.task.specs.TaskParts as parts
use Rattle.typing.proofs.scope.Scope.variable_fits.Goals as goal

pub returns-in-Some : goal.returns-in-Some
returns-in-Some c =
    let below = is_below_in (known_of c.args.self.now).types (parts.union_of c.args.required_types.now) in
    let entries = c.args.self.now.variables.now.entries in
    c.all_below.ensures ∙ ap (λ ts. list_all below (map parts.type_of ts)) c.deref.ensures.value
    ∙ ap (λ o. option_map_or (λ (v : Variable). list_all below v.types) o true) (ap (option_map variable_entry_of) c.in-Some.ensures.entry ∙ sym (slice_get-map variable_entry_of entries c.args.id.0))

pub returns-in-None : goal.returns-in-None
returns-in-None c =
    let below = is_below_in (known_of c.args.self.now).types (parts.union_of c.args.required_types.now) in
    let entries = c.args.self.now.variables.now.entries in
    ap (λ o. option_map_or (λ (v : Variable). list_all below v.types) o true) (ap (option_map variable_entry_of) c.in-None.ensures.entry ∙ sym (slice_get-map variable_entry_of entries c.args.id.0))
