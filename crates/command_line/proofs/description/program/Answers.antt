use Rattle.std.proofs.Common.{◌∙◌, ap}
use Rattle.std.proofs.lemmas.Result.{IfOk-weaker}
use Rattle.clap.specs.Simple.{app_of_fields}
use Rattle.command_line.specs.Description.{optplan}
use Rattle.command_line.proofs.Described.{with_shapes}
use Rattle.command_line.proofs.description.program.Goals as goal

pub returns : goal.returns
returns c =
    let whole = with_shapes _ _ _ optplan.subs _ c.in_ok-subcommands.ensures c.in_ok-commands.ensures c.settings.ensures in
    IfOk-weaker c.bin_name.result _ _ (λ r named. ap app_of_fields named.0 ∙ whole) c.bin_name.ensures
