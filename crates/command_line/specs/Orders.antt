-- The order given by the words of a command line.
use Rattle.std.specs.Prelude.{◌≡◌, ℕ, Bool, true, false, List, [], ◌∷◌, ◌++◌, codes, Option, Some, None, nat_le, not, ◌||◌, ◌&&◌, if◌then◌else◌, option_and_then}
use Rattle.std.specs.List.{list_any}
use Rattle.std.specs.Option.{option_map, option_map_or}
use Rattle.std.specs.Str.{bytes_eq}
use Rattle.std.specs.Str.Parse.{without_leading_plus, digits_value}
use Rattle.clap.specs.Walk.{Row, Text, first_of}
use Rattle.clap.specs.Simple.{subcommand_of}
use Rattle.clap.specs.Faults.{fault_of}
use Rattle.clap.specs.ValueTests.{is_unsigned_in}
use Rattle.command_line.specs.Description.{optplan}
use Rattle.command_line.specs.Limit.{most}
use Rattle.command_line.specs.OneFile.{is_one_file}
use Rattle.command_line.specs.Streams.{is_stream, streams_in}
use Rattle.command_line.specs.Versions.{version_with}

-- the options of `solve`: the limits of states, of instances and, if there is one, of seconds, the latest version that the certificate
-- may have, the files to write the plan and the certificate to, if any, whether the answer is printed as JSON, and whether the progress of the search is reported
pub record Asked : Type 0 where
  pub states : ℕ
  pub instances : ℕ
  pub seconds : Option ℕ
  pub cert_version : ℕ
  pub plan : Option Text
  pub cert : Option Text
  pub json : Bool
  pub progress : Bool

-- the options of `check`: the limit of instances, the file to read the plan from, if any, whether the answer is printed as JSON,
-- and whether the progress of reading the certificate is reported
pub record AskedOfCheck : Type 0 where
  pub instances : ℕ
  pub plan : Option Text
  pub json : Bool
  pub progress : Bool

-- the options of `explain`: the limit of instances, the file to read the plan from, if any, whether it is said what its steps add and
-- delete, and whether the explanation is printed as JSON
pub record AskedOfExplain : Type 0 where
  pub instances : ℕ
  pub plan : Option Text
  pub trace : Bool
  pub json : Bool

-- the options of `explain` for a certificate: the limit of instances, the file to read a plan from, if any, and whether the
-- explanation is printed as JSON
pub record AskedOfCert : Type 0 where
  pub instances : ℕ
  pub plan : Option Text
  pub json : Bool

-- an order, with the names of the input files
pub data Request : Type 0 where
  to_solve : (domain problem : Text) → Asked → Request
  to_validate : (domain problem plan : Text) (json : Bool) → Request
  to_check : (domain problem cert : Text) → AskedOfCheck → Request
  to_explain : (domain problem : Text) → AskedOfExplain → Request
  to_explain_cert : (domain problem cert : Text) → AskedOfCert → Request

-- the number that the text denotes in decimal digits after an optional plus, if it is from 1 to 16,777,216
abbrev pub limit_of : Text → Option ℕ
limit_of text = if is_unsigned_in 1 most text then Some (digits_value 10 (without_leading_plus text)) else None

-- the value of an argument, as a limit
abbrev pub limit_in : Text → List Row → Option ℕ
limit_in name rows = option_and_then limit_of (first_of name rows)

-- the limit of seconds: there is none where the option is not given
abbrev pub seconds_in : List Row → Option (Option ℕ)
seconds_in rows = option_map_or (λ text. option_map Some (limit_of text)) (first_of (codes "seconds") rows) (Some None)

-- the latest version that the certificate may have
abbrev pub cert_version_in : List Row → Option ℕ
cert_version_in rows = option_and_then version_with (limit_in (codes "cert-version") rows)

-- the flag is given: `clap` then gives it the value `true`, and otherwise `false`
abbrev pub is_given : Text → List Row → Bool
is_given name rows = option_map_or (λ value. bytes_eq value (codes "true")) (first_of name rows) false

-- whether a trace is asked for: this needs a plan
abbrev pub trace_in : List Row → Option Bool
trace_in rows = if is_given (codes "trace") rows then option_map (λ plan. true) (first_of (codes "PLAN") rows) else Some false

-- In a `do`, `x ← o` stands for an o whose value is x; if it has none, neither has the whole.
infixl 10 ◌>>=◌
abbrev pub ◌>>=◌ : {A B : Type 0} → Option A → (A → Option B) → Option B
o >>= f = option_and_then f o

-- the order given by the values of a command's arguments: its files and limits are there, and the given options
abbrev pub solve_in : List Row → Option Request
solve_in rows = do
  domain ← first_of (codes "DOMAIN") rows
  problem ← first_of (codes "PROBLEM") rows
  states ← limit_in (codes "states") rows
  instances ← limit_in (codes "instances") rows
  seconds ← seconds_in rows
  cert_version ← cert_version_in rows
  Some (to_solve domain problem (record {
    states = states;
    instances = instances;
    seconds = seconds;
    cert_version = cert_version;
    plan = first_of (codes "plan") rows;
    cert = first_of (codes "cert") rows;
    json = is_given (codes "json") rows;
    progress = is_given (codes "progress") rows;
  }))

abbrev pub validate_in : List Row → Option Request
validate_in rows = do
  domain ← first_of (codes "DOMAIN") rows
  problem ← first_of (codes "PROBLEM") rows
  plan ← first_of (codes "PLAN") rows
  Some (to_validate domain problem plan (is_given (codes "json") rows))

abbrev pub check_in : List Row → Option Request
check_in rows = do
  domain ← first_of (codes "DOMAIN") rows
  problem ← first_of (codes "PROBLEM") rows
  cert ← first_of (codes "CERT") rows
  instances ← limit_in (codes "instances") rows
  Some (to_check domain problem cert (record {
    instances = instances;
    plan = first_of (codes "plan") rows;
    json = is_given (codes "json") rows;
    progress = is_given (codes "progress") rows;
  }))

-- this, if none is given
abbrev pub unless_given : {A : Type 0} → Option Text → Option A → Option A
unless_given None o = o
unless_given (Some text) o = None

-- without a certificate; `--plan` goes with one
abbrev pub explain_files_in : List Row → Option Request
explain_files_in rows = do
  domain ← first_of (codes "DOMAIN") rows
  problem ← first_of (codes "PROBLEM") rows
  instances ← limit_in (codes "instances") rows
  trace ← trace_in rows
  Some (to_explain domain problem (record { instances = instances; plan = first_of (codes "PLAN") rows; trace = trace; json = is_given (codes "json") rows }))

-- with this certificate, which a plan goes with by `--plan` alone; a trace does not
abbrev pub explain_cert_in : List Row → Text → Option Request
explain_cert_in rows cert = do
  domain ← first_of (codes "DOMAIN") rows
  problem ← first_of (codes "PROBLEM") rows
  instances ← limit_in (codes "instances") rows
  if is_given (codes "trace") rows then None
      else Some (to_explain_cert domain problem cert (record { instances = instances; plan = first_of (codes "plan") rows; json = is_given (codes "json") rows }))

abbrev pub explain_in : List Row → Option Request
explain_in rows =
    option_map_or (λ cert. unless_given (first_of (codes "PLAN") rows) (explain_cert_in rows cert)) (first_of (codes "cert") rows)
    (unless_given (first_of (codes "plan") rows) (explain_files_in rows))

-- the order of a command with these values
abbrev pub request_in : Text × List Row → Option Request
request_in used =
    if bytes_eq used.0 (codes "solve") then solve_in used.1
    else (if bytes_eq used.0 (codes "validate") then validate_in used.1
    else (if bytes_eq used.0 (codes "check") then check_in used.1
    else (if bytes_eq used.0 (codes "explain") then explain_in used.1 else None)))

-- the name, if there is one, is of this file
abbrev pub is_of_file : Option Text → Text → Bool
is_of_file None file = false
is_of_file (Some name) file = is_one_file name file

-- both names, if there are two, are of one file
abbrev pub are_of_one_file : Option Text → Option Text → Bool
are_of_one_file None other = false
are_of_one_file (Some name) other = is_of_file other name

-- No file that is to be written is another file of the order. Only `solve` writes files.
abbrev pub keeps_files : Request → Bool
keeps_files (to_solve domain problem asked) =
    not (is_of_file asked.plan domain || is_of_file asked.plan problem || is_of_file asked.cert domain || is_of_file asked.cert problem || are_of_one_file asked.plan asked.cert)
keeps_files (to_validate domain problem plan json) = true
keeps_files (to_check domain problem cert asked) = true
keeps_files (to_explain domain problem asked) = true
keeps_files (to_explain_cert domain problem cert asked) = true

-- the file with this name, if one is given
abbrev pub if_named : Option Text → List Text
if_named None = []
if_named (Some name) = name ∷ []

-- the names of the files that are read
abbrev pub inputs_of : Request → List Text
inputs_of (to_validate domain problem plan json) = domain ∷ problem ∷ plan ∷ []
inputs_of (to_solve domain problem asked) = domain ∷ problem ∷ []
inputs_of (to_check domain problem cert asked) = domain ∷ problem ∷ cert ∷ if_named asked.plan
inputs_of (to_explain domain problem asked) = domain ∷ problem ∷ if_named asked.plan
inputs_of (to_explain_cert domain problem cert asked) = domain ∷ problem ∷ cert ∷ if_named asked.plan

-- the names of the files that may be written
abbrev pub written_by : Request → List Text
written_by (to_solve domain problem asked) = if_named asked.plan ++ if_named asked.cert
written_by (to_validate domain problem plan json) = []
written_by (to_check domain problem cert asked) = []
written_by (to_explain domain problem asked) = []
written_by (to_explain_cert domain problem cert asked) = []

-- at most one file is read from the standard input, and at most one is written to the standard output
abbrev pub shares_no_stream : Request → Bool
shares_no_stream request = nat_le (streams_in (inputs_of request)) 1 && nat_le (streams_in (written_by request)) 1

-- A file is written to the standard output. The answer then goes to the standard error.
abbrev pub fills_the_output : Request → Bool
fills_the_output request = list_any is_stream (written_by request)

-- the files of the order go together
abbrev pub fits : Request → Bool
fits request = keeps_files request && shares_no_stream request

-- The words are accepted and give this order, whose files go together.
abbrev pub Asks : List Text → Request → Type 0
Asks words request = (fault_of optplan words ≡ []) × (option_and_then request_in (subcommand_of optplan words) ≡ Some request) × (fits request ≡ true)

-- the words are a command
abbrev pub IsCommand : List Text → Type 0
IsCommand words = (request : Request) × Asks words request
