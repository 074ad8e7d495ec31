-- How a parser sees a command, as it is described step by step.
use Rattle.std.proofs.Common.{◌≡◌, ◌∙◌, Bool, List, [], ◌∷◌, ◌++◌, false, append-nil, append_assoc, sym, ap, ap₂, subst}
use Rattle.std.specs.Prelude.{◌||◌}
use Rattle.std.specs.List.{fold}
use Rattle.clap.specs.Walk.{Rule, Text}
use Rattle.clap.specs.Simple.{App, Shape, app_of, with_rule, with_subcommand}
use Rattle.clap.specs.Built.{AddsArg, AddsInTurn, AddsSubcommand}
use Rattle.clap.specs.declared.builder.arg.Arg.{Arg}
use Rattle.clap.specs.declared.builder.command.Command.{Command}
use Rattle.clap.specs.declared.builder.command.Command.TheViews.{out-Command}
use Rattle.command_line.specs.Described.{HaveRules, HaveShapes}
use Rattle.command_line.specs.Description.{subcommand}

-- the command with these arguments
abbrev pub app_with : Text → List Rule → App
app_with name rules = record { top = subcommand name rules; subs = [] }

-- to a parser the command is this one, and it has no global argument
pub record IsDescribed (c : Command) (app : App) : Type 0 where
  pub is : app_of c ≡ app
  pub local : (out-Command c).has_globals ≡ false

-- arguments added in turn
pub with_rules : (name : Text) (seen rules : List Rule) (arguments : List Arg) (old new : Command) → AddsInTurn AddsArg old arguments new
    → HaveRules arguments rules → IsDescribed old (app_with name seen) → IsDescribed new (app_with name (seen ++ rules))
with_rules name seen [] [] old new added have is =
    rw (← added, append-nil seen) is
with_rules name seen (rule ∷ rules) (argument ∷ arguments) old new (next, first, others) (has, have) is =
    subst (λ all. IsDescribed new (app_with name all)) (append_assoc seen (rule ∷ []) rules) (with_rules name (seen ++ rule ∷ []) rules arguments next new others have (record {
      is = first.shape has.local ∙ ap₂ with_rule is.is has.is;
      local = first.globals ∙ ap₂ (λ (x y : Bool). x || y) is.local has.local;
    }))
with_rules name seen [] (argument ∷ arguments) old new added have is = absurd have
with_rules name seen (rule ∷ rules) [] old new added have is = absurd have

-- commands added in turn
pub with_shapes : (old new : Command) (commands : List Command) (shapes : List Shape) (app : App) → AddsInTurn AddsSubcommand old commands new
    → HaveShapes commands shapes → app_of old ≡ app → app_of new ≡ fold with_subcommand app shapes
with_shapes old new [] [] app added have is = ap app_of (sym added) ∙ is
with_shapes old new (command ∷ commands) (shape ∷ shapes) app (next, first, others) (has, have) is =
    with_shapes next new commands shapes (with_subcommand app shape) others have (first.shape has.local ∙ ap₂ with_subcommand is has.is)
with_shapes old new [] (shape ∷ shapes) app added have is = absurd have
with_shapes old new (command ∷ commands) [] app added have is = absurd have
