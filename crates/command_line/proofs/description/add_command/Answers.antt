use Rattle.std.proofs.Common.{◌∙◌, [], ap}
use Rattle.clap.specs.Simple.{App, app_of_fields, new_app}
use Rattle.clap.specs.declared.builder.command.Command.{Command}
use Rattle.clap.specs.declared.builder.command.Command.TheOpen.{Command-F}
use Rattle.command_line.proofs.Described.{IsDescribed, with_rules}
use Rattle.command_line.proofs.description.add_command.Goals as goal

pub returns : goal.returns
returns c rules have =
    let has_globals = λ (f : Command-F Command). f.has_globals in
    let reported : IsDescribed c.after_help.result (new_app c.args.texts.name.now) = record {
      is = ap app_of_fields c.after_help.ensures ∙ ap app_of_fields c.about.ensures ∙ c.new.ensures.app;
      local = ap has_globals c.after_help.ensures ∙ ap has_globals c.about.ensures ∙ c.new.ensures.local;
    } in
    let all = with_rules _ [] rules _ _ _ c.in_ok-command.ensures have reported in
    (_, record { is = ap (λ (a : App). a.top) all.is; local = all.local }, c.in_ok-push.ensures.items)
