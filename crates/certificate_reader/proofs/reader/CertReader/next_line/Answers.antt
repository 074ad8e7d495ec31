use Rattle.std.proofs.Common.{◌≡◌, ◌+◌, length, sym, subst, arith, Err}
use Rattle.certificate_definitions.proofs.Machine.{begins, occurs}
use Rattle.certificate_reader.specs.Stages.{place_of}
use Rattle.certificate_reader.specs.Reader.{IsAnswer}
use Rattle.certificate_reader.proofs.ReaderLemmas.{begun, failed, few_lines, reported_answer}
use Rattle.certificate_reader.proofs.reader.CertReader.next_line.Goals as goal

pub returns-in-Err-clause-reported : goal.returns-in-Err-clause-reported
returns-in-Err-clause-reported g c = λ before read fresh.
    let place = place_of c.args.self.now.position.stage in
    let counted : c.saturating_add-line.result ≡ length before + 1 =
    omega (arith, c.saturating_add-line.ensures, read.count, few_lines before place (occurs before place read.place)) in
    let reported = c.advance.new.self in
    subst (λ fault. IsAnswer g.R.Source.remaining c.args.self.now (failed g.R.Source.remaining c.args.self.now reported before) before (Err fault)) (sym c.reported_at.ensures)
    (reported_answer g.R.Source.remaining c.args.self.now reported before c.in-Err.fault c.saturating_add-line.result counted (c.in-Err.ensures.reported before read))

pub returns-in-Ok-clause-begins : goal.returns-in-Ok-clause-begins
returns-in-Ok-clause-begins g c = λ before read fresh.
    begun g.R.Source.remaining c.args.self.now c.advance.new.self before read c.in-Ok.read (c.in-Ok.ensures.reported before read)

pub returns-in-Err-clause-begins : goal.returns-in-Err-clause-begins
returns-in-Err-clause-begins g c = λ before read fresh. begins before (place_of c.args.self.now.position.stage) read.place
