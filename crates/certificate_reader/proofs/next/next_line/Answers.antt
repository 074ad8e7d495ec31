use Rattle.certificate_reader.specs.Stages.{place_of}
use Rattle.certificate_reader.specs.Waiting.{waiting_of}
use Rattle.certificate_reader.proofs.NextLemmas.{next_of_line, too_long_reported, cut_short_reported}
use Rattle.certificate_reader.proofs.next.next_line.Goals as goal

pub returns-in-Line-clause-next : goal.returns-in-Line-clause-next
returns-in-Line-clause-next g c =
    next_of_line (place_of c.args.stage) (waiting_of c.args.waiting.now) (waiting_of c.await_line.new.waiting) (g.S.Source.remaining c.args.source.now) (g.S.Source.remaining c.await_line.new.source)
    c.in_ok-end.ensures.grown (waiting_of c.take_line.new.waiting) c.take_line.result c.take_line.ensures

pub returns-in-TooLong-clause-next : goal.returns-in-TooLong-clause-next
returns-in-TooLong-clause-next g c =
    let ready = rw c.in-TooLong.is at c.in_ok-end.ensures.ready in
    too_long_reported (place_of c.args.stage) (waiting_of c.args.waiting.now) (waiting_of c.await_line.new.waiting) (g.S.Source.remaining c.args.source.now) (g.S.Source.remaining c.await_line.new.source)
    c.in_ok-end.ensures.grown ready

pub returns-in-End-clause-next : goal.returns-in-End-clause-next
returns-in-End-clause-next g c =
    let ready = rw c.in-End.is at c.in_ok-end.ensures.ready in
    cut_short_reported (place_of c.args.stage) (waiting_of c.args.waiting.now) (waiting_of c.await_line.new.waiting) (g.S.Source.remaining c.args.source.now) (g.S.Source.remaining c.await_line.new.source)
    c.in_ok-end.ensures.grown ready.0 ready.1 ready.2
