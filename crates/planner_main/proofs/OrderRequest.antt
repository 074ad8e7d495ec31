-- The order, in the terms of the calls that carry it out.
use Rattle.std.proofs.Common.{◌≡◌, ℕ, Bool, List, ◌∙◌, sym, ap}
use Rattle.std.specs.Prelude.{Option}
use Rattle.std.specs.Borrow.{Bor}
use Rattle.solver.specs.Versions as solver
use Rattle.solver.specs.declared.limits.Limits.{Limits}
use Rattle.command_line.specs.Orders.{Asked, AskedOfCert, AskedOfCheck, AskedOfExplain, to_solve, to_check, to_explain, to_explain_cert}
use Rattle.command_line.specs.Versions as words
use Rattle.command_line.specs.View.{number_in, text_in, request_of}
use Rattle.command_line.specs.declared.cert_version.CertVersion.{CertVersion}
use Rattle.command_line.specs.declared.max_count.MaxCount.{MaxCount}
use Rattle.command_line.specs.declared.order.Order.{Order}
use Rattle.command_line.specs.declared.order.Order.TheVariants.{Solve, Check, Explain, ExplainCert}

-- this is the order, with these numbers
abbrev asked_with : (plan cert : Option (Bor (List ℕ))) (json progress : Bool) (states instances : ℕ) (seconds : Option ℕ) (version : ℕ) → Asked
asked_with plan cert json progress states instances seconds version =
    record { states = states; instances = instances; seconds = seconds; cert_version = version; plan = text_in plan; cert = text_in cert; json = json; progress = progress }

pub request_of_solve : (order : Order) (domain problem : Bor (List ℕ)) (plan cert : Option (Bor (List ℕ))) (states instances : MaxCount) (seconds : Option MaxCount) (version : CertVersion) (json progress : Bool) (limits : Limits)
    → order ≡ Solve domain problem plan cert states instances seconds version json progress → limits.states ≡ states.number → limits.instances ≡ instances.number → limits.seconds ≡ number_in seconds
    → solver.number_of limits.version ≡ words.number_of version
    → to_solve domain.now problem.now (asked_with plan cert json progress limits.states limits.instances limits.seconds (solver.number_of limits.version)) ≡ request_of order
request_of_solve order domain problem plan cert states instances seconds version json progress limits is same_states same_instances same_seconds same_version =
    ap (to_solve domain.now problem.now) (λ i. asked_with plan cert json progress (same_states i) (same_instances i) (same_seconds i) (same_version i)) ∙ sym (ap request_of is)

abbrev asked_of_check : (plan : Option (Bor (List ℕ))) (json progress : Bool) (instances : ℕ) → AskedOfCheck
asked_of_check plan json progress instances = record { instances = instances; plan = text_in plan; json = json; progress = progress }

pub request_of_check : (order : Order) (domain problem cert : Bor (List ℕ)) (plan : Option (Bor (List ℕ))) (instances : MaxCount) (json progress : Bool) (number : ℕ)
    → order ≡ Check domain problem cert plan instances json progress → number ≡ instances.number
    → to_check domain.now problem.now cert.now (record { instances = number; plan = text_in plan; json = json; progress = progress }) ≡ request_of order
request_of_check order domain problem cert plan instances json progress number is same =
    ap (λ (n : ℕ). to_check domain.now problem.now cert.now (asked_of_check plan json progress n)) same ∙ sym (ap request_of is)

abbrev asked_of_explain : (plan : Option (Bor (List ℕ))) (json trace : Bool) (instances : ℕ) → AskedOfExplain
asked_of_explain plan json trace instances = record { instances = instances; plan = text_in plan; trace = trace; json = json }

pub request_of_explain : (order : Order) (domain problem : Bor (List ℕ)) (plan : Option (Bor (List ℕ))) (trace : Bool) (instances : MaxCount) (json : Bool) (number : ℕ) (traced : Bool)
    → order ≡ Explain domain problem plan trace instances json → number ≡ instances.number → traced ≡ trace
    → to_explain domain.now problem.now (record { instances = number; plan = text_in plan; trace = traced; json = json }) ≡ request_of order
request_of_explain order domain problem plan trace instances json number traced is same same_trace =
    (λ i. to_explain domain.now problem.now (asked_of_explain plan json (same_trace i) (same i))) ∙ sym (ap request_of is)

abbrev asked_of_cert : (plan : Option (Bor (List ℕ))) (json : Bool) (instances : ℕ) → AskedOfCert
asked_of_cert plan json instances = record { instances = instances; plan = text_in plan; json = json }

pub request_of_cert : (order : Order) (domain problem cert : Bor (List ℕ)) (plan : Option (Bor (List ℕ))) (instances : MaxCount) (json : Bool) (number : ℕ)
    → order ≡ ExplainCert domain problem cert plan instances json → number ≡ instances.number
    → to_explain_cert domain.now problem.now cert.now (record { instances = number; plan = text_in plan; json = json }) ≡ request_of order
request_of_cert order domain problem cert plan instances json number is same =
    ap (λ (n : ℕ). to_explain_cert domain.now problem.now cert.now (asked_of_cert plan json n)) same ∙ sym (ap request_of is)
