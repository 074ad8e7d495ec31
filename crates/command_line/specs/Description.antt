-- The command line as described for `clap`, whose definitions determine the meaning of words under a description: which words are
-- accepted (`fault_of`), and which values the arguments then have (`subcommand_of`).
use Rattle.std.specs.Prelude.{List, [], ◌∷◌, codes, Some, true, false}
use Rattle.clap.specs.Walk.{Rule, Text}
use Rattle.clap.specs.Simple.{App, Shape, new_rule, new_shape}
use Rattle.clap.specs.declared.builder.action.ArgAction.TheVariants.{SetTrue}
use Rattle.clap.specs.declared.builder.value_parser.ValueParser.TheVariants.{Unsigned}
use Rattle.command_line.specs.Limit.{most, most_seconds}
use Rattle.command_line.specs.Versions.{first_version, last_version}

-- a required file name
abbrev pub file : Text → Rule
file name = record (new_rule name) { required = true }

-- an optional file name
abbrev pub optional_file : Text → Rule
optional_file name = new_rule name

-- an option with a value, such as `--plan FILE`
abbrev pub option : Text → Rule
option name = record (new_rule name) { long = Some name; value_names = 1 }

-- an option whose value is a limit, with 1,000,000 as the default
abbrev pub limit : Text → Rule
limit name = record (option name) { parser = Some (Unsigned 1 most); defaults = codes "1000000" ∷ [] }

-- the option whose value is the limit of seconds, without a default
abbrev pub seconds : Rule
seconds = record (option (codes "seconds")) { parser = Some (Unsigned 1 most_seconds) }

-- the option whose value is the latest version that the certificate may have, by default the last
abbrev pub cert_version : Rule
cert_version = record (option (codes "cert-version")) { parser = Some (Unsigned first_version last_version); defaults = codes "4" ∷ [] }

-- a flag, such as `--json`
abbrev pub flag : Text → Rule
flag name = record (new_rule name) { long = Some name; action = Some SetTrue }

abbrev pub trace : Rule
trace = flag (codes "trace")

abbrev pub json : Rule
json = flag (codes "json")

abbrev pub progress : Rule
progress = flag (codes "progress")

-- a command with this name and these arguments
abbrev pub subcommand : Text → List Rule → Shape
subcommand name rules = record (new_shape name) { rules = rules }

-- the four commands
abbrev pub solve : Shape
solve = subcommand (codes "solve")
    (file (codes "DOMAIN") ∷ file (codes "PROBLEM") ∷ option (codes "plan") ∷ option (codes "cert")
    ∷ limit (codes "states") ∷ limit (codes "instances") ∷ seconds ∷ cert_version ∷ json ∷ progress ∷ [])

abbrev pub validate : Shape
validate = subcommand (codes "validate")
    (file (codes "DOMAIN") ∷ file (codes "PROBLEM") ∷ file (codes "PLAN") ∷ json ∷ [])

abbrev pub check : Shape
check = subcommand (codes "check")
    (file (codes "DOMAIN") ∷ file (codes "PROBLEM") ∷ file (codes "CERT") ∷ option (codes "plan")
    ∷ limit (codes "instances") ∷ json ∷ progress ∷ [])

abbrev pub explain : Shape
explain = subcommand (codes "explain")
    (file (codes "DOMAIN") ∷ file (codes "PROBLEM") ∷ optional_file (codes "PLAN") ∷ trace ∷ option (codes "cert") ∷ option (codes "plan")
    ∷ limit (codes "instances") ∷ json ∷ [])

-- the program: one of the four commands is required, and without words the usage is reported
abbrev pub optplan : App
optplan = record {
  top = record (new_shape (codes "optplan")) {
    is_leaf = false;
    no_binary_name = true;
    has_version = true;
    arg_required_else_help = true;
    subcommand_required = true;
  };
  subs = solve ∷ validate ∷ check ∷ explain ∷ [];
}
