-- The code's orders, in the definitions' terms.
use Rattle.std.specs.Prelude.{ℕ, List, map, Option}
use Rattle.std.specs.Borrow.{Bor}
use Rattle.std.specs.Option.{option_map}
use Rattle.clap.specs.Walk.{Text}
use Rattle.command_line.specs.Orders.{Request, to_solve, to_validate, to_check, to_explain, to_explain_cert}
use Rattle.command_line.specs.Versions.{number_of}
use Rattle.command_line.specs.declared.max_count.MaxCount.{MaxCount}
use Rattle.command_line.specs.declared.order.Order.{Order}
use Rattle.command_line.specs.declared.order.Order.TheVariants.{Solve, Validate, Check, Explain, ExplainCert}
use Rattle.command_line.specs.declared.fault.WordsFault.{WordsFault}
use Rattle.command_line.specs.declared.fault.WordsFault.TheVariants.{Words, NoMemory}

-- the borrowed text, if there is one
abbrev pub text_in : Option (Bor Text) → Option Text
text_in = option_map (λ (text : Bor Text). text.now)

-- the number of the limit, if there is one
abbrev pub number_in : Option MaxCount → Option ℕ
number_in = option_map (λ (limit : MaxCount). limit.number)

-- the words of the command line
abbrev pub texts : List (Bor Text) → List Text
texts = map (λ (word : Bor Text). word.now)

-- the order
abbrev pub request_of : Order → Request
request_of (Solve domain problem plan cert states instances seconds cert_version json progress) =
    to_solve domain.now problem.now (record {
      states = states.number;
      instances = instances.number;
      seconds = number_in seconds;
      cert_version = number_of cert_version;
      plan = text_in plan;
      cert = text_in cert;
      json = json;
      progress = progress;
    })
request_of (Validate domain problem plan json) = to_validate domain.now problem.now plan.now json
request_of (Check domain problem cert plan instances json progress) =
    to_check domain.now problem.now cert.now (record { instances = instances.number; plan = text_in plan; json = json; progress = progress })
request_of (Explain domain problem plan trace instances json) =
    to_explain domain.now problem.now (record { instances = instances.number; plan = text_in plan; trace = trace; json = json })
request_of (ExplainCert domain problem cert plan instances json) =
    to_explain_cert domain.now problem.now cert.now (record { instances = instances.number; plan = text_in plan; json = json })

-- the fault is one of the words, not running out of memory
abbrev pub IsOfWords : WordsFault → Type 0
IsOfWords (Words error) = Unit {0}
IsOfWords NoMemory = ⊥
