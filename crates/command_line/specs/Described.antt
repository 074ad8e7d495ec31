-- How a parser sees arguments and commands, as they are built step by step.
use Rattle.std.specs.Prelude.{◌≡◌, List, [], ◌∷◌, ◌++◌, true, false}
use Rattle.clap.specs.Walk.{Rule, rule_of}
use Rattle.clap.specs.Simple.{App, Shape, shape_of}
use Rattle.clap.specs.declared.builder.arg.Arg.{Arg}
use Rattle.clap.specs.declared.builder.command.Command.{Command}
use Rattle.clap.specs.declared.builder.command.Command.TheViews.{out-Command}
use Rattle.command_line.specs.Description.{optplan}

-- to a parser the argument is this one, and it belongs to its command alone
pub record HasRule (argument : Arg) (rule : Rule) : Type 0 where
  pub is : rule_of argument ≡ rule
  pub local : argument.global ≡ false

-- to a parser the command is this one, and it has no global argument
pub record HasShape (command : Command) (shape : Shape) : Type 0 where
  pub is : shape_of command ≡ shape
  pub local : (out-Command command).has_globals ≡ false

-- the same for each in turn
abbrev pub HaveRules : List Arg → List Rule → Type 0
HaveRules [] [] = Unit {0}
HaveRules (argument ∷ arguments) (rule ∷ rules) = HasRule argument rule × HaveRules arguments rules
HaveRules _ _ = ⊥

abbrev pub HaveShapes : List Command → List Shape → Type 0
HaveShapes [] [] = Unit {0}
HaveShapes (command ∷ commands) (shape ∷ shapes) = HasShape command shape × HaveShapes commands shapes
HaveShapes _ _ = ⊥

-- one more command, appended
abbrev pub AddsShape : List Command → Shape → List Command → Type 0
AddsShape old shape new = (command : Command) × HasShape command shape × (new ≡ old ++ command ∷ [])

-- the program before its commands are added
abbrev pub settings : App
settings = record { top = record optplan.top { is_leaf = true }; subs = [] }
