use Rattle.std.proofs.Common.{◌∙◌, ap, refl}
use Rattle.std.specs.Option.{option_map}
use Rattle.task.specs.TaskParts as parts
use Rattle.task.proofs.Tables.{named_at}
use Rattle.task.proofs.task.Task.schema_named.Goals as goal

pub returns-in_err-number : goal.returns-in_err-number
returns-in_err-number c =
    ap (option_map parts.schema_id_of) c.from_residual.ensures ∙ c.in_err-number.ensures.index ∙ named_at parts.schema_of (λ s. s.name) (λ e. refl) c.args.folded.now c.args.self.now.parts.schemas.entries

pub returns : goal.returns
returns c = c.in_ok-number.ensures.index ∙ named_at parts.schema_of (λ s. s.name) (λ e. refl) c.args.folded.now c.args.self.now.parts.schemas.entries
