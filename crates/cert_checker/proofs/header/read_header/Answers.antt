use Rattle.std.proofs.Common.{◌≡◌, [], ◌∷◌, ◌++◌, true, refl, sym, ◌∙◌, subst, arith}
use Rattle.faults.proofs.Results.{passed_on}
use Rattle.task.specs.Task.{task_of}
use Rattle.certificate_reader.specs.Lines.{text_line_of}
use Rattle.certificate_reader.specs.Reader.{IsYielded, source_of}
use Rattle.cert_checker.specs.Given.{is_body}
use Rattle.cert_checker.specs.CertFaults.{refusal_of}
use Rattle.cert_checker.specs.Reading.{IsAt, IsLineRefusal}
use Rattle.cert_checker.proofs.GivenLemmas.{no_state_more}
use Rattle.cert_checker.proofs.ReadingLemmas.{at_next, at_start, fault_reported, few_read, have_begun, one_read, wrong_counts, wrong_reported}
use Rattle.cert_checker.proofs.TabledLemmas.{fit_head}
use Rattle.cert_checker.proofs.header.read_header.Given.{Over}
use Rattle.cert_checker.proofs.header.read_header.Goals.{In-Some}
use Rattle.cert_checker.proofs.header.read_header.Goals as goal

-- the line that was returned, and the state of the reader after it
handed : (g : Over) (c : In-Some g) → IsYielded g.R.Source.remaining c.lines.reader c.next_line.new.self c.lines.invariant.lines (text_line_of c.in-Some.line)
handed g c =
    let so_far = c.lines.invariant in
    rw c.in-Some.is at (c.in_ok-line.ensures.reported so_far.lines so_far.at.read so_far.at.going)

at_line : (g : Over) (c : In-Some g) → IsAt g.R.Source.remaining c.args.reader.now c.next_line.new.self (c.lines.invariant.lines ++ text_line_of c.in-Some.line ∷ [])
at_line g c =
    at_next g.R.Source.remaining c.args.reader.now c.lines.reader c.lines.invariant.lines c.lines.invariant.at c.next_line.new.self (text_line_of c.in-Some.line) (handed g c) c.in_ok-line.ensures.failed

pub lines-init : goal.lines-init
lines-init g c =
    let task = task_of c.args.task.now in
    record {
      lines = [];
      at = at_start g.R.Source.remaining c.args.reader.now c.requires;
      reported = c.nothing_reported-header.ensures.taken task;
      weighed = c.nothing_reported-header.ensures.weighed;
      no_state = refl;
      failures = refl;
    }

pub take-requires-clause-fit : goal.take-requires-clause-fit
take-requires-clause-fit g c =
    let so_far = c.lines.invariant in
    let line = text_line_of c.in-Some.line in
    let at = at_line g (goal.at.take-requires-clause-fit g c).In-Some in
    fit_head (task_of c.args.task.now) so_far.lines c.lines.header so_far.reported line so_far.weighed (have_begun g.R.Source.remaining c.args.reader.now c.next_line.new.self (so_far.lines ++ line ∷ []) at)

pub returns-in_err-line-clause-refused : goal.returns-in_err-line-clause-refused
returns-in_err-line-clause-refused g c =
    let task = task_of c.args.task.now in
    let so_far = c.lines.invariant in
    passed_on (IsLineRefusal g.R.Source.remaining task c.args.reader.now c.next_line.new.self) c.from_residual-in_err-line.result (refusal_of c.in_err-line.field-0.0) c.from_residual-in_err-line.ensures.1
    (fault_reported g.R.Source.remaining c.args.reader.now c.lines.reader so_far.lines so_far.at task so_far.reported.right c.next_line.new.self c.in_err-line.field-0.0
    (c.in_err-line.ensures.reported so_far.lines so_far.at.read so_far.at.going))

pub returns-in_err-line-2-clause-refused : goal.returns-in_err-line-2-clause-refused
returns-in_err-line-2-clause-refused g c =
    let task = task_of c.args.task.now in
    let so_far = c.lines.invariant in
    let line = text_line_of c.in-Some.line in
    let at = at_line g (goal.at.returns-in_err-line-2-clause-refused g c).In-Some in
    passed_on (IsLineRefusal g.R.Source.remaining task c.args.reader.now c.next_line.new.self) c.from_residual-in_err-line-2.result c.in_err-line-2.field-0.0 c.from_residual-in_err-line-2.ensures.1
    (wrong_reported g.R.Source.remaining c.args.reader.now c.next_line.new.self task so_far.lines line at so_far.reported.right c.in_err-line-2.field-0.0
    (c.in_err-line-2.ensures.wrong so_far.lines (have_begun g.R.Source.remaining c.args.reader.now c.next_line.new.self (so_far.lines ++ line ∷ []) at) (c.lines-in-lines.ensures ∙ one_read c.next_line.new.self so_far.lines line (handed g (goal.at.returns-in_err-line-2-clause-refused g c).In-Some).read) so_far.reported))

pub returns-in_err-line-2-clause-failures : goal.returns-in_err-line-2-clause-failures
returns-in_err-line-2-clause-failures g c =
    let task = task_of c.args.task.now in
    let so_far = c.lines.invariant in
    let line = text_line_of c.in-Some.line in
    let at = at_line g (goal.at.returns-in_err-line-2-clause-failures g c).In-Some in
    wrong_counts task so_far.lines line (g.R.Source.failures (source_of c.args.reader.now)) (g.R.Source.failures (source_of c.next_line.new.self))
    c.from_residual-in_err-line-2.result c.in_err-line-2.field-0.0 c.from_residual-in_err-line-2.ensures.1
    (c.in_err-line-2.ensures.wrong so_far.lines (have_begun g.R.Source.remaining c.args.reader.now c.next_line.new.self (so_far.lines ++ line ∷ []) at) (c.lines-in-lines.ensures ∙ one_read c.next_line.new.self so_far.lines line (handed g (goal.at.returns-in_err-line-2-clause-failures g c).In-Some).read) so_far.reported)
    (c.in_ok-line.ensures.failures ∙ so_far.failures)

pub returns-in-Some-2-clause-begun : goal.returns-in-Some-2-clause-begun
returns-in-Some-2-clause-begun g c =
    let task = task_of c.args.task.now in
    let so_far = c.lines.invariant in
    let line = text_line_of c.in-Some.line in
    let at = at_line g (goal.at.returns-in-Some-2-clause-begun g c).In-Some in
    let back = rw c.in-Some-2.is at (c.in_ok-line-2.ensures.taken so_far.lines (have_begun g.R.Source.remaining c.args.reader.now c.next_line.new.self (so_far.lines ++ line ∷ []) at) so_far.reported) in (
      so_far.lines,
      subst (λ line. IsAt g.R.Source.remaining c.args.reader.now c.next_line.new.self (so_far.lines ++ line ∷ [])) (sym back.1) at,
      back.0,
      so_far.no_state,
      subst (λ line. is_body line ≡ true) (sym back.1) back.2,
    )

pub returns-in-Some-2-clause-weighed : goal.returns-in-Some-2-clause-weighed
returns-in-Some-2-clause-weighed g c =
    let so_far = c.lines.invariant in
    let line = text_line_of c.in-Some.line in
    let at = at_line g (goal.at.returns-in-Some-2-clause-weighed g c).In-Some in
    c.in_ok-line-2.ensures.weighed so_far.lines (have_begun g.R.Source.remaining c.args.reader.now c.next_line.new.self (so_far.lines ++ line ∷ []) at) so_far.reported so_far.weighed

pub lines-smaller : goal.lines-smaller
lines-smaller g c =
    let so_far = c.lines.invariant in
    let line = text_line_of c.in-Some.line in
    omega (arith, few_read g.R.Source.remaining c.args.reader.now c.lines.reader so_far.lines so_far.at, one_read c.next_line.new.self so_far.lines line (handed g (goal.at.lines-smaller g c).In-Some).read, so_far.at.read.count)

pub lines-preserved : goal.lines-preserved
lines-preserved g c =
    let task = task_of c.args.task.now in
    let so_far = c.lines.invariant in
    let line = text_line_of c.in-Some.line in
    let at = at_line g (goal.at.lines-preserved g c).In-Some in
    let taken = rw c.in_default-2.is at (c.in_ok-line-2.ensures.taken so_far.lines (have_begun g.R.Source.remaining c.args.reader.now c.next_line.new.self (so_far.lines ++ line ∷ []) at) so_far.reported) in
    record {
      lines = so_far.lines ++ line ∷ [];
      at = at;
      reported = taken.0;
      weighed = c.in_ok-line-2.ensures.weighed so_far.lines (have_begun g.R.Source.remaining c.args.reader.now c.next_line.new.self (so_far.lines ++ line ∷ []) at) so_far.reported so_far.weighed;
      no_state = no_state_more so_far.lines line taken.1 so_far.no_state;
      failures = c.in_ok-line.ensures.failures ∙ so_far.failures;
    }
