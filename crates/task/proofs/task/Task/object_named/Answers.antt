use Rattle.std.proofs.Common.{◌∙◌, ap, refl}
use Rattle.std.specs.Option.{option_map}
use Rattle.task.specs.TaskParts as parts
use Rattle.task.proofs.Tables.{named_at}
use Rattle.task.proofs.task.Task.object_named.Goals as goal

pub returns-in_err-number : goal.returns-in_err-number
returns-in_err-number c =
    ap (option_map parts.object_of) c.from_residual.ensures ∙ c.in_err-number.ensures.index ∙ named_at parts.object_entry_of (λ o. o.name) (λ e. refl) c.args.folded.now c.args.self.now.parts.objects.entries

pub returns : goal.returns
returns c = c.in_ok-number.ensures.index ∙ named_at parts.object_entry_of (λ o. o.name) (λ e. refl) c.args.folded.now c.args.self.now.parts.objects.entries
