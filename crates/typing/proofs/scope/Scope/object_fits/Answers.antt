use Rattle.std.proofs.Common.{◌∙◌, true, ap, sym}
use Rattle.std.specs.Option.{option_map, option_map_or}
use Rattle.std.proofs.lemmas.Option.{slice_get-map}
use Rattle.model.specs.Meaning.{is_below_in}
use Rattle.model.specs.Task as task
use Rattle.typing.specs.Scope.{known_of}
use Rattle.task.specs.TaskParts as parts
use Rattle.typing.proofs.scope.Scope.object_fits.Goals as goal

pub returns-in-Some : goal.returns-in-Some
returns-in-Some c =
    let below = is_below_in (known_of c.args.self.now).types (parts.union_of c.args.required_types.now) in
    let entries = c.args.self.now.globals.now.objects.now.entries in
    c.is_below.ensures
    ∙ ap (λ o. option_map_or (λ (v : task.Object). below v.type) o true) (ap (option_map parts.object_entry_of) c.in-Some.ensures.entry ∙ sym (slice_get-map parts.object_entry_of entries c.args.id.0))

pub returns-in-None : goal.returns-in-None
returns-in-None c =
    let below = is_below_in (known_of c.args.self.now).types (parts.union_of c.args.required_types.now) in
    let entries = c.args.self.now.globals.now.objects.now.entries in
    ap (λ o. option_map_or (λ (v : task.Object). below v.type) o true) (ap (option_map parts.object_entry_of) c.in-None.ensures.entry ∙ sym (slice_get-map parts.object_entry_of entries c.args.id.0))
