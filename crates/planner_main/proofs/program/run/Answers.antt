use Rattle.std.proofs.Common.{inl, inr, refl, arith}
use Rattle.devices.specs.Devices.{IsWritten}
use Rattle.command_line.specs.View.{texts, request_of}
use Rattle.devices.specs.Progress.{nothing as none_yet, stream}
use Rattle.planner_main.specs.Progress.{IsProgress, SaysAfter}
use Rattle.planner_main.specs.Program.{inputs_of, nothing, texts_of}
use Rattle.planner_main.proofs.ProgramWords.{refuses_of_words, no_failure, failed_status, device_reported, memory_reported, unread_status, files_named, device_has_failed, others_have_not_failed, words_failed, words_status, words_reported, words_memory, words_refuse_no_text, words_fail_no_device, unread_words, words_no_answer}
use Rattle.planner_main.proofs.ProgramReported.{reported_of_words, partly_of_words, reported_status}
use Rattle.planner_main.proofs.ProgressReported.{after_progress, no_answer, said_of_words, quiet_unasked, end_of_words}
use Rattle.planner_main.proofs.program.run.Goals as goal

pub returns-in-Err-clause-status : goal.returns-in-Err-clause-status
returns-in-Err-clause-status g c =
    inl (words_failed c.in-Err.fault (IsWritten g.E.Sink.may_lack_memory (g.E.Sink.failures c.args.err.now) (g.E.Sink.failures c.report_words.new.err) (g.E.Sink.taken c.args.err.now) (g.E.Sink.taken c.report_words.new.err)) _ c.report_words.ensures)

pub returns-in-Err-clause-words : goal.returns-in-Err-clause-words
returns-in-Err-clause-words g c =
    λ same. c.in-Err.ensures.refused (words_reported c.in-Err.fault (IsWritten g.E.Sink.may_lack_memory (g.E.Sink.failures c.args.err.now) (g.E.Sink.failures c.report_words.new.err) (g.E.Sink.taken c.args.err.now) (g.E.Sink.taken c.report_words.new.err)) _ c.report_words.ensures same).0

pub returns-in-Err-clause-no_command : goal.returns-in-Err-clause-no_command
returns-in-Err-clause-no_command g c =
    λ none. words_status c.in-Err.fault (IsWritten g.E.Sink.may_lack_memory (g.E.Sink.failures c.args.err.now) (g.E.Sink.failures c.report_words.new.err) (g.E.Sink.taken c.args.err.now) (g.E.Sink.taken c.report_words.new.err)) _ c.report_words.ensures

pub returns-in-Err-clause-usage : goal.returns-in-Err-clause-usage
returns-in-Err-clause-usage g c =
    λ same. (refl, (λ name. refl), (words_reported c.in-Err.fault (IsWritten g.E.Sink.may_lack_memory (g.E.Sink.failures c.args.err.now) (g.E.Sink.failures c.report_words.new.err) (g.E.Sink.taken c.args.err.now) (g.E.Sink.taken c.report_words.new.err)) _ c.report_words.ensures same).1)

pub returns-in-Err-clause-refused : goal.returns-in-Err-clause-refused
returns-in-Err-clause-refused g c =
    λ same. absurd (words_refuse_no_text c.in-Err.fault (IsWritten g.E.Sink.may_lack_memory (g.E.Sink.failures c.args.err.now) (g.E.Sink.failures c.report_words.new.err) (g.E.Sink.taken c.args.err.now) (g.E.Sink.taken c.report_words.new.err)) _ c.report_words.ensures same)

pub returns-in-Err-clause-unfailed : goal.returns-in-Err-clause-unfailed
returns-in-Err-clause-unfailed g c =
    λ other. (refl, refl)

pub returns-in-Err-clause-device : goal.returns-in-Err-clause-device
returns-in-Err-clause-device g c =
    λ same. absurd (words_fail_no_device c.in-Err.fault (IsWritten g.E.Sink.may_lack_memory (g.E.Sink.failures c.args.err.now) (g.E.Sink.failures c.report_words.new.err) (g.E.Sink.taken c.args.err.now) (g.E.Sink.taken c.report_words.new.err)) _ c.report_words.ensures same)

pub returns-in-Err-clause-memory : goal.returns-in-Err-clause-memory
returns-in-Err-clause-memory g c =
    λ same. (nothing refl (λ name. refl), (stream (g.E.Sink.failures c.args.err.now) (g.E.Sink.taken c.args.err.now), none_yet, words_memory c.in-Err.fault (IsWritten g.E.Sink.may_lack_memory (g.E.Sink.failures c.args.err.now) (g.E.Sink.failures c.report_words.new.err) (g.E.Sink.taken c.args.err.now) (g.E.Sink.taken c.report_words.new.err)) _ c.report_words.ensures same))

-- words that name a file are a command, so the failure is one of memory
pub returns-in-Err-clause-unread : goal.returns-in-Err-clause-unread
returns-in-Err-clause-unread g c =
    λ name named missing. unread_words c.in-Err.fault (IsWritten g.E.Sink.may_lack_memory (g.E.Sink.failures c.args.err.now) (g.E.Sink.failures c.report_words.new.err) (g.E.Sink.taken c.args.err.now) (g.E.Sink.taken c.report_words.new.err)) _ (texts c.args.words.now) c.report_words.ensures c.in-Err.ensures.refused (named.0, named.1)

pub returns-in-Ok-carry_out-clause-status : goal.returns-in-Ok-carry_out-clause-status
returns-in-Ok-carry_out-clause-status g c =
    inr (reported_of_words (texts c.args.words.now) (request_of c.in-Ok.order) c.in-Ok.ensures.asks g.F.Files.is_known (g.F.Files.contents c.args.files.now) (g.F.Files.contents c.carry_out.new.files) (g.O.Sink.taken c.args.out.now) (g.O.Sink.taken c.carry_out.new.out) _ c.in-Ok-carry_out.ensures.said)

pub returns-in-Ok-carry_out-clause-words : goal.returns-in-Ok-carry_out-clause-words
returns-in-Ok-carry_out-clause-words g c =
    λ same. absurd (no_failure 2 _ (reported_status (texts c.args.words.now) (request_of c.in-Ok.order) c.in-Ok.ensures.asks g.F.Files.is_known (g.F.Files.contents c.args.files.now) (g.F.Files.contents c.carry_out.new.files) (g.O.Sink.taken c.args.out.now) (g.O.Sink.taken c.carry_out.new.out) _ c.in-Ok-carry_out.ensures.said) refl (λ is. absurd (omega arith)) same)

pub returns-in-Ok-carry_out-clause-usage : goal.returns-in-Ok-carry_out-clause-usage
returns-in-Ok-carry_out-clause-usage g c =
    λ same. absurd (no_failure 2 _ (reported_status (texts c.args.words.now) (request_of c.in-Ok.order) c.in-Ok.ensures.asks g.F.Files.is_known (g.F.Files.contents c.args.files.now) (g.F.Files.contents c.carry_out.new.files) (g.O.Sink.taken c.args.out.now) (g.O.Sink.taken c.carry_out.new.out) _ c.in-Ok-carry_out.ensures.said) refl (λ is. absurd (omega arith)) same)

pub returns-in-Ok-carry_out-clause-refused : goal.returns-in-Ok-carry_out-clause-refused
returns-in-Ok-carry_out-clause-refused g c =
    λ same. inr (
      reported_of_words (texts c.args.words.now) (request_of c.in-Ok.order) c.in-Ok.ensures.asks g.F.Files.is_known (g.F.Files.contents c.args.files.now) (g.F.Files.contents c.carry_out.new.files) (g.O.Sink.taken c.args.out.now) (g.O.Sink.taken c.carry_out.new.out) _ c.in-Ok-carry_out.ensures.said,
      said_of_words (g.F.Files.contents c.args.files.now) (texts c.args.words.now) (request_of c.in-Ok.order) c.in-Ok.ensures.asks g.E.Sink.may_lack_memory
          (stream (g.E.Sink.failures c.args.err.now) (g.E.Sink.taken c.args.err.now)) (stream (g.E.Sink.failures c.carry_out.new.err) (g.E.Sink.taken c.carry_out.new.err)) c.in-Ok-carry_out.ensures.progress,
    )

pub returns-in-Ok-carry_out-clause-device : goal.returns-in-Ok-carry_out-clause-device
returns-in-Ok-carry_out-clause-device g c =
    λ same. absurd (no_failure 21 _ (reported_status (texts c.args.words.now) (request_of c.in-Ok.order) c.in-Ok.ensures.asks g.F.Files.is_known (g.F.Files.contents c.args.files.now) (g.F.Files.contents c.carry_out.new.files) (g.O.Sink.taken c.args.out.now) (g.O.Sink.taken c.carry_out.new.out) _ c.in-Ok-carry_out.ensures.said) refl (λ is. absurd (omega arith)) same)

pub returns-in-Ok-carry_out-clause-memory : goal.returns-in-Ok-carry_out-clause-memory
returns-in-Ok-carry_out-clause-memory g c =
    λ same. absurd (no_failure 22 _ (reported_status (texts c.args.words.now) (request_of c.in-Ok.order) c.in-Ok.ensures.asks g.F.Files.is_known (g.F.Files.contents c.args.files.now) (g.F.Files.contents c.carry_out.new.files) (g.O.Sink.taken c.args.out.now) (g.O.Sink.taken c.carry_out.new.out) _ c.in-Ok-carry_out.ensures.said) refl (λ is. absurd (omega arith)) same)

pub returns-in-Ok-carry_out-clause-no_command : goal.returns-in-Ok-carry_out-clause-no_command
returns-in-Ok-carry_out-clause-no_command g c =
    λ none. absurd (none (request_of c.in-Ok.order, c.in-Ok.ensures.asks))

pub returns-in-Ok-carry_out-clause-unread : goal.returns-in-Ok-carry_out-clause-unread
returns-in-Ok-carry_out-clause-unread g c =
    λ name named missing.
    absurd (c.in-Ok-carry_out.ensures.unread name (files_named inputs_of (texts c.args.words.now) (request_of c.in-Ok.order) name c.in-Ok.ensures.asks named) missing)

pub returns-in-Err-carry_out-clause-words : goal.returns-in-Err-carry_out-clause-words
returns-in-Err-carry_out-clause-words g c =
    λ same. absurd (failed_status _ _ c.in-Err-carry_out.failure c.report_failure.ensures.said same)

pub returns-in-Err-carry_out-clause-no_command : goal.returns-in-Err-carry_out-clause-no_command
returns-in-Err-carry_out-clause-no_command g c =
    λ none. absurd (none (request_of c.in-Ok.order, c.in-Ok.ensures.asks))

pub returns-in-Err-carry_out-clause-usage : goal.returns-in-Err-carry_out-clause-usage
returns-in-Err-carry_out-clause-usage g c =
    λ same. absurd (failed_status _ _ c.in-Err-carry_out.failure c.report_failure.ensures.said same)

pub returns-in-Err-carry_out-clause-refused : goal.returns-in-Err-carry_out-clause-refused
returns-in-Err-carry_out-clause-refused g c =
    λ same.
    let reported = after_progress (IsProgress (g.F.Files.contents c.args.files.now) (texts c.args.words.now)) g.E.Sink.may_lack_memory
    (g.E.Sink.failures c.args.err.now) (g.E.Sink.failures c.carry_out.new.err) (g.E.Sink.failures c.report_failure.new.err) (g.E.Sink.taken c.args.err.now) (g.E.Sink.taken c.carry_out.new.err) (g.E.Sink.taken c.report_failure.new.err)
    (said_of_words (g.F.Files.contents c.args.files.now) (texts c.args.words.now) (request_of c.in-Ok.order) c.in-Ok.ensures.asks g.E.Sink.may_lack_memory
    (stream (g.E.Sink.failures c.args.err.now) (g.E.Sink.taken c.args.err.now)) (stream (g.E.Sink.failures c.carry_out.new.err) (g.E.Sink.taken c.carry_out.new.err)) c.in-Err-carry_out.ensures.progress)
    c.in-Err-carry_out.failure _ c.report_failure.ensures.said in
    inl (refuses_of_words (g.F.Files.contents c.args.files.now) (texts c.args.words.now) (request_of c.in-Ok.order) c.in-Ok.ensures.asks (g.F.Files.contents c.carry_out.new.files) (g.O.Sink.taken c.args.out.now) (g.O.Sink.taken c.carry_out.new.out) (SaysAfter (IsProgress (g.F.Files.contents c.args.files.now) (texts c.args.words.now)) g.E.Sink.may_lack_memory (g.E.Sink.failures c.args.err.now) (g.E.Sink.failures c.report_failure.new.err) (g.E.Sink.taken c.args.err.now) (g.E.Sink.taken c.report_failure.new.err)) c.in-Err-carry_out.failure _ reported same c.in-Err-carry_out.ensures.refused)

pub returns-in-Err-carry_out-clause-device : goal.returns-in-Err-carry_out-clause-device
returns-in-Err-carry_out-clause-device g c =
    λ same.
    let reported = after_progress (IsProgress (g.F.Files.contents c.args.files.now) (texts c.args.words.now)) g.E.Sink.may_lack_memory
    (g.E.Sink.failures c.args.err.now) (g.E.Sink.failures c.carry_out.new.err) (g.E.Sink.failures c.report_failure.new.err) (g.E.Sink.taken c.args.err.now) (g.E.Sink.taken c.carry_out.new.err) (g.E.Sink.taken c.report_failure.new.err)
    (said_of_words (g.F.Files.contents c.args.files.now) (texts c.args.words.now) (request_of c.in-Ok.order) c.in-Ok.ensures.asks g.E.Sink.may_lack_memory
    (stream (g.E.Sink.failures c.args.err.now) (g.E.Sink.taken c.args.err.now)) (stream (g.E.Sink.failures c.carry_out.new.err) (g.E.Sink.taken c.carry_out.new.err)) c.in-Err-carry_out.ensures.progress)
    c.in-Err-carry_out.failure _ c.report_failure.ensures.said in
    let (is, line) = device_reported _ _ c.in-Err-carry_out.failure reported same in
    (device_has_failed _ _ _ _ c.in-Err-carry_out.failure is c.in-Err-carry_out.ensures.failures, partly_of_words (texts c.args.words.now) (request_of c.in-Ok.order) c.in-Ok.ensures.asks g.F.Files.is_known (g.F.Files.contents c.args.files.now) (g.F.Files.contents c.carry_out.new.files) (g.O.Sink.taken c.args.out.now) (g.O.Sink.taken c.carry_out.new.out) c.in-Err-carry_out.ensures.partly, line)

pub returns-in-Err-carry_out-clause-memory : goal.returns-in-Err-carry_out-clause-memory
returns-in-Err-carry_out-clause-memory g c =
    λ same.
    let reported = after_progress (IsProgress (g.F.Files.contents c.args.files.now) (texts c.args.words.now)) g.E.Sink.may_lack_memory
    (g.E.Sink.failures c.args.err.now) (g.E.Sink.failures c.carry_out.new.err) (g.E.Sink.failures c.report_failure.new.err) (g.E.Sink.taken c.args.err.now) (g.E.Sink.taken c.carry_out.new.err) (g.E.Sink.taken c.report_failure.new.err)
    (said_of_words (g.F.Files.contents c.args.files.now) (texts c.args.words.now) (request_of c.in-Ok.order) c.in-Ok.ensures.asks g.E.Sink.may_lack_memory
    (stream (g.E.Sink.failures c.args.err.now) (g.E.Sink.taken c.args.err.now)) (stream (g.E.Sink.failures c.carry_out.new.err) (g.E.Sink.taken c.carry_out.new.err)) c.in-Err-carry_out.ensures.progress)
    c.in-Err-carry_out.failure _ c.report_failure.ensures.said in
    (partly_of_words (texts c.args.words.now) (request_of c.in-Ok.order) c.in-Ok.ensures.asks g.F.Files.is_known (g.F.Files.contents c.args.files.now) (g.F.Files.contents c.carry_out.new.files) (g.O.Sink.taken c.args.out.now) (g.O.Sink.taken c.carry_out.new.out) c.in-Err-carry_out.ensures.partly, memory_reported _ _ c.in-Err-carry_out.failure reported same)

pub returns-in-Err-carry_out-clause-unfailed : goal.returns-in-Err-carry_out-clause-unfailed
returns-in-Err-carry_out-clause-unfailed g c =
    others_have_not_failed _ _ _ _ _ _ c.in-Err-carry_out.failure c.report_failure.ensures.said c.in-Err-carry_out.ensures.failures

pub returns-in-Err-carry_out-clause-unread : goal.returns-in-Err-carry_out-clause-unread
returns-in-Err-carry_out-clause-unread g c =
    λ name named missing.
    unread_status _ _ c.in-Err-carry_out.failure (c.in-Err-carry_out.ensures.unread name (files_named inputs_of (texts c.args.words.now) (request_of c.in-Ok.order) name c.in-Ok.ensures.asks named) missing) c.report_failure.ensures.said

pub returns-in-Err-clause-unreadable : goal.returns-in-Err-clause-unreadable
returns-in-Err-clause-unreadable g c =
    λ name named missing. unread_words c.in-Err.fault (IsWritten g.E.Sink.may_lack_memory (g.E.Sink.failures c.args.err.now) (g.E.Sink.failures c.report_words.new.err) (g.E.Sink.taken c.args.err.now) (g.E.Sink.taken c.report_words.new.err)) _ (texts c.args.words.now) c.report_words.ensures c.in-Err.ensures.refused (named.0, named.1)

pub returns-in-Ok-carry_out-clause-unreadable : goal.returns-in-Ok-carry_out-clause-unreadable
returns-in-Ok-carry_out-clause-unreadable g c =
    λ name named missing.
    absurd (c.in-Ok-carry_out.ensures.unreadable name (files_named texts_of (texts c.args.words.now) (request_of c.in-Ok.order) name c.in-Ok.ensures.asks named) missing)

pub returns-in-Err-carry_out-clause-unreadable : goal.returns-in-Err-carry_out-clause-unreadable
returns-in-Err-carry_out-clause-unreadable g c =
    λ name named missing.
    unread_status _ _ c.in-Err-carry_out.failure (c.in-Err-carry_out.ensures.unreadable name (files_named texts_of (texts c.args.words.now) (request_of c.in-Ok.order) name c.in-Ok.ensures.asks named) missing) c.report_failure.ensures.said

pub returns-in-Ok-carry_out-clause-quiet : goal.returns-in-Ok-carry_out-clause-quiet
returns-in-Ok-carry_out-clause-quiet g c = λ unasked answers.
    quiet_unasked (g.F.Files.contents c.args.files.now) (texts c.args.words.now) (request_of c.in-Ok.order) c.in-Ok.ensures.asks g.E.Sink.may_lack_memory
    (stream (g.E.Sink.failures c.args.err.now) (g.E.Sink.taken c.args.err.now)) (stream (g.E.Sink.failures c.carry_out.new.err) (g.E.Sink.taken c.carry_out.new.err)) c.in-Ok-carry_out.ensures.progress unasked

pub returns-in-Ok-carry_out-clause-progress : goal.returns-in-Ok-carry_out-clause-progress
returns-in-Ok-carry_out-clause-progress g c = λ answers.
    said_of_words (g.F.Files.contents c.args.files.now) (texts c.args.words.now) (request_of c.in-Ok.order) c.in-Ok.ensures.asks g.E.Sink.may_lack_memory
    (stream (g.E.Sink.failures c.args.err.now) (g.E.Sink.taken c.args.err.now)) (stream (g.E.Sink.failures c.carry_out.new.err) (g.E.Sink.taken c.carry_out.new.err)) c.in-Ok-carry_out.ensures.progress

pub returns-in-Ok-carry_out-clause-ended : goal.returns-in-Ok-carry_out-clause-ended
returns-in-Ok-carry_out-clause-ended g c =
    end_of_words (g.F.Files.contents c.args.files.now) (g.F.Files.contents c.carry_out.new.files) g.F.Files.is_known g.E.Sink.may_lack_memory
    (stream (g.E.Sink.failures c.carry_out.new.err) (g.E.Sink.taken c.carry_out.new.err)) (texts c.args.words.now) (request_of c.in-Ok.order) c.in-Ok.ensures.asks _
    c.in-Ok-carry_out.ensures.ended

pub returns-in-Err-carry_out-clause-ended : goal.returns-in-Err-carry_out-clause-ended
returns-in-Err-carry_out-clause-ended g c = λ asks which. absurd (no_answer _ c.in-Err-carry_out.failure _ c.report_failure.ensures.said which)

pub returns-in-Err-clause-ended : goal.returns-in-Err-clause-ended
returns-in-Err-clause-ended g c = λ asks which.
    absurd (words_no_answer c.in-Err.fault (IsWritten g.E.Sink.may_lack_memory (g.E.Sink.failures c.args.err.now) (g.E.Sink.failures c.report_words.new.err) (g.E.Sink.taken c.args.err.now) (g.E.Sink.taken c.report_words.new.err)) _ c.report_words.ensures which)

pub returns-in-Err-clause-quiet : goal.returns-in-Err-clause-quiet
returns-in-Err-clause-quiet g c = λ unasked answers.
    absurd (cc (words_failed c.in-Err.fault (IsWritten g.E.Sink.may_lack_memory (g.E.Sink.failures c.args.err.now) (g.E.Sink.failures c.report_words.new.err) (g.E.Sink.taken c.args.err.now) (g.E.Sink.taken c.report_words.new.err)) _ c.report_words.ensures))

pub returns-in-Err-clause-progress : goal.returns-in-Err-clause-progress
returns-in-Err-clause-progress g c = λ answers.
    absurd (cc (words_failed c.in-Err.fault (IsWritten g.E.Sink.may_lack_memory (g.E.Sink.failures c.args.err.now) (g.E.Sink.failures c.report_words.new.err) (g.E.Sink.taken c.args.err.now) (g.E.Sink.taken c.report_words.new.err)) _ c.report_words.ensures))

pub returns-in-Err-carry_out-clause-quiet : goal.returns-in-Err-carry_out-clause-quiet
returns-in-Err-carry_out-clause-quiet g c = λ unasked answers. absurd (cc c.report_failure.ensures.failure)

pub returns-in-Err-carry_out-clause-progress : goal.returns-in-Err-carry_out-clause-progress
returns-in-Err-carry_out-clause-progress g c = λ answers. absurd (cc c.report_failure.ensures.failure)
