use Rattle.std.proofs.Common.{◌∷◌, [], Some, refl, sym, ap, ◌∙◌, subst, length-append, arith}
use Rattle.certificate_reader.specs.Lines.{text_line_of}
use Rattle.certificate_definitions.proofs.Machine.{ends, occurs}
use Rattle.certificate_reader.specs.Stages.{place_of}
use Rattle.certificate_reader.specs.Reader.{waits_in}
use Rattle.certificate_reader.specs.Ready.{IsPrompt, come_at}
use Rattle.std.proofs.lemmas.Result.{err_from_is_err_and}
use Rattle.certificate_reader.proofs.AdvanceLemmas.{fault_stated}
use Rattle.certificate_reader.proofs.FaultsRead.{one_line_after}
use Rattle.certificate_reader.proofs.ReaderLemmas.{come_unless_ended, few_lines, leads_within, prompt_unless_ended, trailing_reported}
use Rattle.certificate_reader.proofs.reader.CertReader.advance.Goals as goal

pub returns-then-branch-clause-reported : goal.returns-then-branch-clause-reported
returns-then-branch-clause-reported g c = λ before read.
    let over = rw c.if-branch.true at c.in_ok-is_at_end.ensures.end in
    record {
      whole = ends before (read.place ∙ ap (λ stage. Some (place_of stage)) c.in-Ended.is);
      nothing = over.0;
      consumed = over.2;
      at_end = over.3;
      still = over.1;
      read = record { place = read.place; count = read.count };
    }

pub returns-in-Ended-clause-reported : goal.returns-in-Ended-clause-reported
returns-in-Ended-clause-reported g c = λ before read.
    let more = rw c.if-branch.false at c.in_ok-is_at_end.ensures.end in (
      more.0,
      more.1,
      trailing_reported before (ends before (read.place ∙ ap (λ stage. Some (place_of stage)) c.in-Ended.is)) _ more.0 _ more.2 more.3,
      subst (λ at. IsPrompt (come_at (place_of at)) (waits_in c.args.self.now) more.0) (sym c.in-Ended.is) more.4,
    )

pub invariant_of-self : goal.invariant_of-self
invariant_of-self g c =
    record { within = leads_within (place_of c.args.self.now.position.stage) c.args.self.now.position.within (text_line_of c.in_ok-line.line) (place_of c.in_ok-line.stage) c.in_ok-line.ensures.next.3 }

pub returns : goal.returns
returns g c = record {
  reported = λ before read.
      let next = c.in_ok-line.ensures.next in
      record {
        bytes = next.0;
        consumed = next.1;
        splits = next.2;
        read = record {
          place = one_line_after before (place_of c.args.self.now.position.stage) (place_of c.in_ok-line.stage) (text_line_of c.in_ok-line.line) read.place next.3;
          count = omega (
            arith,
            c.saturating_add.ensures,
            read.count,
            few_lines before (place_of c.args.self.now.position.stage) (occurs before (place_of c.args.self.now.position.stage) read.place),
            length-append before (text_line_of c.in_ok-line.line ∷ []),
          );
        };
        prompt = prompt_unless_ended c.args.self.now.position.stage c.in_default.not-Ended (waits_in c.args.self.now) next.0 next.4;
      };
  failed = refl;
  lazy = λ come. c.in_ok-line.ensures.lazy (sym (come_unless_ended c.args.self.now.position.stage (waits_in c.args.self.now) c.in_default.not-Ended) ∙ come);
  failures = c.in_ok-line.ensures.failures;
}

pub returns-in_err-line : goal.returns-in_err-line
returns-in_err-line g c =
    let p = err_from_is_err_and c.from_residual-in_err-line.result c.from_residual-in_err-line.ensures.1 in
    rw (p.1, p.2) (record {
      reported = λ before read. fault_stated g.R.Source.remaining c.args.self.now
          (record { alloc = c.args.self.now.alloc; source = c.next_line.new.source; waiting = c.next_line.new.waiting; position = c.args.self.now.position; failed = c.args.self.now.failed })
          refl c.in_default.not-Ended before read c.in_err-line.field-0.0 c.in_err-line.ensures.next;
      failed = refl;
      lazy = λ come. c.in_err-line.ensures.lazy (sym (come_unless_ended c.args.self.now.position.stage (waits_in c.args.self.now) c.in_default.not-Ended) ∙ come);
      failures = c.in_err-line.ensures.failures;
    })
