use Rattle.std.proofs.Common.{◌≡◌, ◌∙◌, ◌+◌, ◌<◌, ◌-◌, ◌∷◌, ◌++◌, [], List, length, map, refl, sym, ap, subst, arith}
use Rattle.std.proofs.lemmas.List.{length-append, length-map}
use Rattle.faults.proofs.Results.{passed_on}
use Rattle.task.specs.Task.{task_of}
use Rattle.task.specs.TaskParts.{atom_of}
use Rattle.packed_state.specs.PooledView.{pooled_states, pooled_width}
use Rattle.certificate_reader.specs.Lines.{text_line_of}
use Rattle.certificate_reader.specs.declared.line.CertLine.{CertLine}
use Rattle.certificate_reader.specs.Reader.{lines_read, source_of}
use Rattle.std.specs.Option.{option_map_or}
use Rattle.certificate_definitions.specs.Certificates.{Certificate}
use Rattle.certificate.specs.Certificate.{certificate_of, tables_in}
use Rattle.certificate.specs.CertificateParts.{listed_of}
use Rattle.certificate.specs.Evidence.{potential_of}
use Rattle.cert_checker.specs.CertFaults.{refusal_of}
use Rattle.cert_checker.specs.Tabled.{HaveWeights}
use Rattle.cert_checker.specs.Taking.{heading_of}
use Rattle.cert_checker.specs.Reading.{IsLineRefusal, IsListedSoFar, IsRead}
use Rattle.cert_checker.proofs.ReadingLemmas.{fault_reported, one_read, wrong_counts, wrong_reported}
use Rattle.cert_checker.proofs.ListingLemmas.{as_many_listed, few_begun, fewer_left, fit_next, none_listed, read_whole, so_far_next}
use Rattle.certificate.specs.CertificateParts.{certificate_with}
use Rattle.cert_checker.proofs.LimitsLemmas.{limits_kept}
use Rattle.cert_checker.proofs.ReadProgressLemmas.{read_said}
use Rattle.certificate_definitions.specs.CertificateText.{TextLine}
use Rattle.devices.specs.Progress.{nothing}
use Rattle.devices.proofs.ProgressLemmas.{said_after, said_of_more}
use Rattle.cert_checker.proofs.cert_reader.read_cert.Goals as goal

length-push : (before : List TextLine) (line : TextLine) → length (before ++ line ∷ []) ≡ length before + 1
length-push before line = length-append before (line ∷ [])

pub overflow_cast-len : goal.overflow_cast-len
overflow_cast-len g c =
    let few = few_begun g.R.Source.remaining (task_of c.args.task.now) c.args.reader.now c.read_header.new.reader c.in_ok-header.header c.in_ok-header.next c.in_ok-header.ensures.begun in
    omega (arith, few, c.len.ensures.len, length-map c.in_ok-header.header.atoms.keys atom_of)

pub states-init : goal.states-init
states-init g c =
    let states = c.in_ok-states.states in
    record {
      so_far = none_listed g.R.Source.remaining (task_of c.args.task.now) c.args.reader.now c.read_header.new.reader c.in_ok-header.header
          (pooled_width states.sets) (map listed_of states.marks.items) (pooled_states states.sets)
          (ap (map listed_of) c.in_ok-states.ensures.none.0) c.in_ok-states.ensures.none.1 c.in_ok-header.next c.in_ok-header.ensures.begun;
      width = c.in_ok-states.ensures.width ∙ c.len.ensures.len;
      failures = c.in_ok-header.ensures.failures;
      said = nothing;
    }

pub take_line-requires : goal.take_line-requires
take_line-requires g c =
    let atoms = c.in_ok-header.header.atoms.keys in
    let states = c.states.states in
    let so_far = rw c.in-Some.is at c.states.invariant.so_far in
    record {
      fit = fit_next g.R.Source.remaining (task_of c.args.task.now) c.args.reader.now c.states.reader c.in_ok-header.header
          (pooled_width states.sets) (map listed_of states.marks.items) (pooled_states states.sets) c.in-Some.line (c.states.invariant.width ∙ sym (length-map atoms atom_of)) so_far;
    }

pub returns-in_err-take_line-clause-refused : goal.returns-in_err-take_line-clause-refused
returns-in_err-take_line-clause-refused g c =
    let task = task_of c.args.task.now in
    let line = text_line_of c.in-Some.line in
    let (before, at, reported, have, body) = rw c.in-Some.is at c.states.invariant.so_far in
    passed_on (IsLineRefusal g.R.Source.remaining task c.args.reader.now c.states.reader) c.from_residual-in_err-take_line.result c.in_err-take_line.field-0.0 c.from_residual-in_err-take_line.ensures.1
    (wrong_reported g.R.Source.remaining c.args.reader.now c.states.reader task before line at reported.right c.in_err-take_line.field-0.0
    (c.in_err-take_line.ensures.wrong task before (heading_of c.in_ok-header.header) refl (c.lines-number.ensures ∙ one_read c.states.reader before line at.read) reported have))

pub returns-in_err-take_line-clause-failures : goal.returns-in_err-take_line-clause-failures
returns-in_err-take_line-clause-failures g c =
    let task = task_of c.args.task.now in
    let line = text_line_of c.in-Some.line in
    let (before, at, reported, have, body) = rw c.in-Some.is at c.states.invariant.so_far in
    wrong_counts task before line (g.R.Source.failures (source_of c.args.reader.now)) (g.R.Source.failures (source_of c.states.reader))
    c.from_residual-in_err-take_line.result c.in_err-take_line.field-0.0 c.from_residual-in_err-take_line.ensures.1
    (c.in_err-take_line.ensures.wrong task before (heading_of c.in_ok-header.header) refl (c.lines-number.ensures ∙ one_read c.states.reader before line at.read) reported have)
    c.states.invariant.failures

pub returns-in_err-next-clause-refused : goal.returns-in_err-next-clause-refused
returns-in_err-next-clause-refused g c =
    let task = task_of c.args.task.now in
    let line = text_line_of c.in-Some.line in
    let (before, at, reported, have, body) = rw c.in-Some.is at c.states.invariant.so_far in
    let taken = c.in_ok-take_line.ensures.taken task before (heading_of c.in_ok-header.header) refl body reported have in
    passed_on (IsLineRefusal g.R.Source.remaining task c.args.reader.now c.next_line.new.self) c.from_residual-in_err-next.result (refusal_of c.in_err-next.field-0.0) c.from_residual-in_err-next.ensures.1
    (fault_reported g.R.Source.remaining c.args.reader.now c.states.reader (before ++ line ∷ []) at task taken.0.right c.next_line.new.self c.in_err-next.field-0.0
    (c.in_err-next.ensures.reported (before ++ line ∷ []) at.read at.going))

pub states-smaller : goal.states-smaller
states-smaller g c =
    let task = task_of c.args.task.now in
    let header = c.in_ok-header.header in
    let line = text_line_of c.in-Some.line in
    let states = c.take_line.new.states in
    let (before, at, reported, have, body) = rw c.in-Some.is at c.states.invariant.so_far in
    let taken = c.in_ok-take_line.ensures.taken task before (heading_of header) refl body reported have in
    subst (λ next. (70000000 - lines_read c.next_line.new.self) + option_map_or (λ (line : CertLine). 1) c.in_ok-next.next 0 < (70000000 - lines_read c.states.reader) + option_map_or (λ (line : CertLine). 1) next 0)
    (sym c.in-Some.is)
    (fewer_left g.R.Source.remaining task c.args.reader.now c.states.reader header (pooled_width c.states.states.sets) (map listed_of states.marks.items) (pooled_states states.sets)
    before line at taken.0 taken.1 body c.next_line.new.self c.in_ok-next.ensures.failed c.in_ok-next.next (c.in_ok-next.ensures.reported (before ++ line ∷ []) at.read at.going))

pub states-preserved : goal.states-preserved
states-preserved g c =
    let task = task_of c.args.task.now in
    let header = c.in_ok-header.header in
    let line = text_line_of c.in-Some.line in
    let states = c.take_line.new.states in
    let (before, at, reported, have, body) = rw c.in-Some.is at c.states.invariant.so_far in
    let taken = c.in_ok-take_line.ensures.taken task before (heading_of header) refl body reported have in
    record {
      so_far = subst (λ width. IsListedSoFar g.R.Source.remaining task c.args.reader.now c.next_line.new.self header width (map listed_of states.marks.items) (pooled_states states.sets) c.in_ok-next.next)
          (sym c.in_ok-take_line.ensures.width)
          (so_far_next g.R.Source.remaining task c.args.reader.now c.states.reader header (pooled_width c.states.states.sets) (map listed_of states.marks.items) (pooled_states states.sets)
          before line at taken.0 taken.1 body c.next_line.new.self c.in_ok-next.ensures.failed c.in_ok-next.next (c.in_ok-next.ensures.reported (before ++ line ∷ []) at.read at.going));
      width = c.in_ok-take_line.ensures.width ∙ c.states.invariant.width;
      failures = c.in_ok-next.ensures.failures ∙ c.states.invariant.failures;
      said = said_after c.states.invariant.said (said_of_more
          (λ l is. read_said g.R.Source.remaining c.args.reader.now c.states.reader (before ++ line ∷ []) at c.lines-number.result
          (c.lines-number.ensures ∙ one_read c.states.reader before line at.read ∙ sym (length-push before line)) l is)
          c.say_if_due-due.ensures);
    }

pub from_parts-requires-clause-limits : goal.from_parts-requires-clause-limits
from_parts-requires-clause-limits g c =
    let states = c.states.states in
    let certificate = certificate_with c.in_ok-header.header states in
    let read = read_whole g.R.Source.remaining (task_of c.args.task.now) c.args.reader.now c.states.reader c.in_ok-header.header
    (pooled_width states.sets) (map listed_of states.marks.items) (pooled_states states.sets) (rw c.in_default.is at c.states.invariant.so_far) in
    limits_kept (task_of c.args.task.now) read.text certificate read.is_text read.tables

pub from_parts-requires-clause-marked : goal.from_parts-requires-clause-marked
from_parts-requires-clause-marked g c =
    let states = c.states.states in
    as_many_listed g.R.Source.remaining (task_of c.args.task.now) c.args.reader.now c.states.reader c.in_ok-header.header
    (pooled_width states.sets) states.marks.items (pooled_states states.sets) (rw c.in_default.is at c.states.invariant.so_far)

pub returns-clause-weighed : goal.returns-clause-weighed
returns-clause-weighed g c =
    let evidence = c.in_ok-header.header.evidence in
    let cert = c.from_parts.result in
    let count : length (certificate_of cert).values + 1 ≡ length evidence.values.items + 1 =
    ap (λ (k : Certificate). length k.values + 1) c.from_parts.ensures.certificate ∙ ap (λ n. n + 1) (length-map evidence.values.items potential_of) in
    subst (λ n. HaveWeights n (tables_in cert)) (sym count) (subst (HaveWeights (length evidence.values.items + 1)) (sym c.from_parts.ensures.tables) c.in_ok-header.ensures.weighed)

pub returns-clause-read : goal.returns-clause-read
returns-clause-read g c =
    let task = task_of c.args.task.now in
    let states = c.states.states in
    subst (IsRead g.R.Source.remaining task c.args.reader.now c.states.reader) (sym c.from_parts.ensures.certificate)
    (read_whole g.R.Source.remaining task c.args.reader.now c.states.reader c.in_ok-header.header
    (pooled_width states.sets) (map listed_of states.marks.items) (pooled_states states.sets) (rw c.in_default.is at c.states.invariant.so_far))

pub returns-in_err-take_line-clause-said : goal.returns-in_err-take_line-clause-said
returns-in_err-take_line-clause-said g c =
    let line = text_line_of c.in-Some.line in
    let (before, at, reported, have, body) = rw c.in-Some.is at c.states.invariant.so_far in
    said_after c.states.invariant.said (said_of_more
    (λ l is. read_said g.R.Source.remaining c.args.reader.now c.states.reader (before ++ line ∷ []) at c.lines-number.result
    (c.lines-number.ensures ∙ one_read c.states.reader before line at.read ∙ sym (length-push before line)) l is)
    c.say_if_due-due.ensures)

pub returns-in_err-next-clause-said : goal.returns-in_err-next-clause-said
returns-in_err-next-clause-said g c =
    let line = text_line_of c.in-Some.line in
    let (before, at, reported, have, body) = rw c.in-Some.is at c.states.invariant.so_far in
    said_after c.states.invariant.said (said_of_more
    (λ l is. read_said g.R.Source.remaining c.args.reader.now c.states.reader (before ++ line ∷ []) at c.lines-number.result
    (c.lines-number.ensures ∙ one_read c.states.reader before line at.read ∙ sym (length-push before line)) l is)
    c.say_if_due-due.ensures)

pub returns-in_err-header-clause-said : goal.returns-in_err-header-clause-said
returns-in_err-header-clause-said g c = nothing

pub returns-in_err-states-clause-said : goal.returns-in_err-states-clause-said
returns-in_err-states-clause-said g c = nothing
