use Rattle.std.proofs.Common.{inl, inr}
use Rattle.std.specs.Option.{option_map}
use Rattle.faults.proofs.Results.{passed_on}
use Rattle.task.specs.Task.{task_of}
use Rattle.formulas.specs.State.{plan_of}
use Rattle.certificate_reader.specs.Reader.{source_of}
use Rattle.certificate.specs.Certificate.{certificate_of}
use Rattle.cert_checker.specs.CertChecker.{IsNoFault}
use Rattle.cert_checker.specs.Checking.{Refuses}
use Rattle.cert_checker.proofs.AcceptLemmas.{accepts_read, counts_judged, none_at_fault, not_refused, refuses_read}
use Rattle.cert_checker.proofs.ExchangesLemmas.{exchanges_of_text}
use Rattle.cert_checker.proofs.FirstLemmas.{cuts_allowed}
use Rattle.cert_checker.proofs.CheckProgressLemmas.{whole_said}
use Rattle.devices.proofs.ProgressLemmas.{said_after, said_of_more}
use Rattle.cert_checker.proofs.checker.check_and_say.Goals as goal

pub returns-in_err-cert-clause-refused : goal.returns-in_err-cert-clause-refused
returns-in_err-cert-clause-refused g c =
    let plan = option_map (λ p. plan_of p.now) c.args.plan in
    passed_on (Refuses g.R.Source.remaining (task_of c.args.task.now) c.args.reader.now c.read_cert.new.reader plan c.args.max_instances) c.from_residual.result c.in_err-cert.field-0.0
    c.from_residual.ensures.1 (inl c.in_err-cert.ensures.refused)

pub returns-in_err-cert-clause-accepts : goal.returns-in_err-cert-clause-accepts
returns-in_err-cert-clause-accepts g c =
    λ text known accepted.
    passed_on IsNoFault c.from_residual.result c.in_err-cert.field-0.0 c.from_residual.ensures.1
    (none_at_fault g.R.Source.remaining (task_of c.args.task.now) c.args.reader.now c.read_cert.new.reader text known (option_map (λ p. plan_of p.now) c.args.plan) accepted
    c.in_err-cert.field-0.0 c.in_err-cert.ensures.refused)

pub judge-requires-clause-fluent : goal.judge-requires-clause-fluent
judge-requires-clause-fluent g c =
    let read = c.in_ok-cert.ensures.read in
    record { fluent = read.fluent; distinct = read.distinct }

pub judge-requires-clause-said : goal.judge-requires-clause-said
judge-requires-clause-said g c =
    let read = c.in_ok-cert.ensures.read in
    exchanges_of_text (task_of c.args.task.now) read.text (certificate_of c.in_ok-cert.cert) read.is_text

pub judge-requires-clause-allowed : goal.judge-requires-clause-allowed
judge-requires-clause-allowed g c = cuts_allowed (task_of c.args.task.now) (certificate_of c.in_ok-cert.cert) c.in_ok-cert.ensures.read.allowed

pub returns-clause-accepted : goal.returns-clause-accepted
returns-clause-accepted g c =
    accepts_read g.R.Source.remaining (task_of c.args.task.now) c.args.reader.now c.read_cert.new.reader (option_map (λ p. plan_of p.now) c.args.plan) c.args.max_instances
    (certificate_of c.in_ok-cert.cert) c.in_ok-cert.ensures.read c.judge.result c.judge.ensures.shown c.judge.ensures.closed c.judge.ensures.answers c.judge.ensures.within

pub returns-clause-accepts : goal.returns-clause-accepts
returns-clause-accepts g c =
    λ text known accepted.
    not_refused g.R.Source.remaining (task_of c.args.task.now) c.args.reader.now c.read_cert.new.reader text known (option_map (λ p. plan_of p.now) c.args.plan) c.args.max_instances
    (certificate_of c.in_ok-cert.cert) c.in_ok-cert.ensures.read accepted c.judge.result c.judge.ensures.refused

pub returns-clause-refused : goal.returns-clause-refused
returns-clause-refused g c =
    refuses_read g.R.Source.remaining (task_of c.args.task.now) c.args.reader.now c.read_cert.new.reader (option_map (λ p. plan_of p.now) c.args.plan) c.args.max_instances
    (certificate_of c.in_ok-cert.cert) c.in_ok-cert.ensures.read c.judge.result c.judge.ensures.refused c.judge.ensures.first

pub returns-clause-failures : goal.returns-clause-failures
returns-clause-failures g c =
    counts_judged (task_of c.args.task.now) (certificate_of c.in_ok-cert.cert) (option_map (λ p. plan_of p.now) c.args.plan) c.args.max_instances
    (g.R.Source.failures (source_of c.args.reader.now)) (g.R.Source.failures (source_of c.read_cert.new.reader)) c.judge.result c.judge.ensures.refused c.in_ok-cert.ensures.failures

-- the rows of each table have a weight for each value and one for dead ends
pub judge-requires-clause-counted : goal.judge-requires-clause-counted
judge-requires-clause-counted g c = c.in_ok-cert.ensures.weighed

pub returns-in_err-cert-clause-said : goal.returns-in_err-cert-clause-said
returns-in_err-cert-clause-said g c = said_of_more (λ line is. inl is) c.in_err-cert.ensures.said

pub returns-clause-said : goal.returns-clause-said
returns-clause-said g c =
    said_after (said_of_more (λ line is. inl is) c.in_ok-cert.ensures.said)
    (said_of_more
    (λ line is. inr (whole_said g.R.Source.remaining (task_of c.args.task.now) c.args.reader.now c.read_cert.new.reader (certificate_of c.in_ok-cert.cert) c.in_ok-cert.ensures.read line is))
    c.say_whole.ensures)
