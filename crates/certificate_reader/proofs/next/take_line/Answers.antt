use Rattle.std.proofs.Common.{Err, subst, take}
use Rattle.std.proofs.lemmas.Result.{err_from_is_err_and}
use Rattle.certificate_reader.specs.Lines.{text_line_of}
use Rattle.certificate_reader.specs.Stages.{IsReadAt, place_of}
use Rattle.certificate_reader.specs.Waiting.{waiting_of}
use Rattle.certificate_reader.proofs.NextLemmas.{line_reported, taken}
use Rattle.certificate_reader.proofs.next.take_line.Goals as goal

pub returns-in_err-read : goal.returns-in_err-read
returns-in_err-read c =
    let reported = subst (λ bytes. IsReadAt (place_of c.args.stage) (take c.args.end bytes) (Err c.in_err-read.field-0.0)) c.bytes.ensures c.in_err-read.ensures in
    let p = err_from_is_err_and c.from_residual.result c.from_residual.ensures.1 in
    rw (p.1, p.2) (line_reported (place_of c.args.stage) (waiting_of c.args.waiting.now) c.args.end c.requires.line c.in_err-read.field-0.0 reported (waiting_of c.args.waiting.now))

pub returns : goal.returns
returns c =
    let read = rw c.bytes.ensures at c.in_ok-read.ensures in
    (taken (place_of c.args.stage) (waiting_of c.args.waiting.now) c.args.end c.requires.line (text_line_of c.in_ok-read.read.0) read.0 (waiting_of c.pass.new.self) c.pass.ensures, read.1)
