-- How far a text has been read, line by line.
use Rattle.std.proofs.Common.{◌≡◌, ℕ, ◌+◌, ◌<◌, inl, inr, false, List, [], ◌∷◌, ◌++◌, length, Option, None, Some, refl, sym, ap, ◌∙◌, subst, append_assoc, append-nil, length-append, arith}
use Rattle.std.specs.Prelude.{Result, Err}
use Rattle.std.specs.Result.{IsErrAnd}
use Rattle.std.proofs.lemmas.Result.{err_from_is_err_and}
use Rattle.std.specs.Io.KnownBytes.{Consumes}
use Rattle.model.specs.Task.{Task}
use Rattle.certificate_definitions.specs.CertificateText.{TextLine, BeginCertificate, IsFaultAfter, text_of, whole_line}
use Rattle.certificate_definitions.specs.CertificateChecking.{AreRight, IsLineFault, IsWrongAfter, not_of_scope, repeated_row, not_fluent, repeated_atom, repeated_state, cut_not_allowed}
use Rattle.certificate_definitions.proofs.Machine.{begins, occurs}
use Rattle.certificate_reader.specs.declared.reader.CertReader.{CertReader}
use Rattle.certificate_reader.specs.declared.reader.CertFault.{CertFault}
use Rattle.certificate_reader.specs.declared.reader.CertFault.TheVariants as cert
use Rattle.certificate_reader.specs.declared.fault.TextFault.TheVariants.{Form, Version, Truncated, Limit}
use Rattle.certificate_reader.specs.Reader.{HasRead, IsAnswer, IsYielded, IsOver, has_failed, lines_read, source_of, waits_in}
use Rattle.certificate_reader.specs.Stages.{place_of}
use Rattle.certificate_reader.proofs.ReaderLemmas.{few_lines}
use Rattle.cert_checker.specs.declared.refusal.Refusal.{Refusal}
use Rattle.cert_checker.specs.declared.refusal.Refusal.TheVariants as refusal
use Rattle.cert_checker.specs.declared.refusal.RefusalCode.{RefusalCode}
use Rattle.cert_checker.specs.declared.refusal.RefusalCode.TheVariants.{CertForm, CertVersion, Truncated as CutShort, Limit as TooMany}
use Rattle.cert_checker.specs.RefusalCode.{number_of}
use Rattle.cert_checker.proofs.GivenLemmas.{begin_front}
use Rattle.cert_checker.specs.CertFaults.{refusal_of}
use Rattle.cert_checker.specs.Reading.{CountsRefusal, IsFresh, IsAt, IsAtLast, IsLineRefusal, IsReportedAt}
use Rattle.cert_checker.specs.Taking.{IsWrongNow}

-- ---- what was read, and what was read after it

consumes_none : (known : Option (List ℕ)) → Consumes known known []
consumes_none None = tt
consumes_none (Some xs) = refl

consumes_more : (a b c : Option (List ℕ)) (xs ys : List ℕ) → Consumes a b xs → Consumes b c ys → Consumes a c (xs ++ ys)
consumes_more None b c xs ys first then = tt
consumes_more (Some all) None c xs ys first then = absurd first
consumes_more (Some all) (Some bs) None xs ys first then = absurd then
consumes_more (Some all) (Some bs) (Some cs) xs ys first then = first ∙ ap (λ bs. xs ++ bs) then ∙ sym (append_assoc xs ys cs)

text_push : (lines : List TextLine) (line : TextLine) → text_of (lines ++ line ∷ []) ≡ text_of lines ++ whole_line line
text_push [] line = append-nil (whole_line line)
text_push (first ∷ lines) line = ap (λ text. whole_line first ++ text) (text_push lines line) ∙ sym (append_assoc (whole_line first) (text_of lines) (whole_line line))

module _ {R : Type 0} (remaining : R → Option (List ℕ)) (first : CertReader R) where
  pub at_start : IsFresh first → IsAt remaining first first []
  at_start fresh = record {
    read = fresh.read;
    going = fresh.going;
    bytes = [];
    consumed = consumes_none (remaining (source_of first));
    splits = sym fresh.waits;
  }

  module _ (now : CertReader R) (lines : List TextLine) (at : IsAt remaining first now lines) where
    pub at_next : (next : CertReader R) (line : TextLine) → IsYielded remaining now next lines line → has_failed next ≡ false → IsAt remaining first next (lines ++ line ∷ [])
    at_next next line handed going = record {
      read = handed.read;
      going = going;
      bytes = at.bytes ++ handed.bytes;
      consumed = consumes_more (remaining (source_of first)) (remaining (source_of now)) (remaining (source_of next)) at.bytes handed.bytes at.consumed handed.consumed;
      splits = ap (λ bytes. bytes ++ handed.bytes) at.splits ∙ append_assoc (text_of lines) (waits_in now) handed.bytes
          ∙ ap (λ rest. text_of lines ++ rest) handed.splits ∙ sym (append_assoc (text_of lines) (whole_line line) (waits_in next))
          ∙ ap (λ text. text ++ waits_in next) (sym (text_push lines line));
    }

    pub at_last : (next : CertReader R) → IsOver remaining now next lines → IsAtLast remaining first next lines
    at_last next over = record {
      whole = over.whole;
      consumed = subst (Consumes (remaining (source_of first)) (remaining (source_of next)))
          (append-nil at.bytes ∙ at.splits ∙ ap (λ waits. text_of lines ++ waits) over.nothing ∙ append-nil (text_of lines))
          (consumes_more (remaining (source_of first)) (remaining (source_of now)) (remaining (source_of next)) at.bytes [] at.consumed over.consumed);
      at_end = over.at_end;
    }

    pub have_begun : BeginCertificate lines
    have_begun = begins lines (place_of now.position.stage) at.read.place

    pub few_read : lines_read now < 70000000
    few_read = let few = few_lines lines (place_of now.position.stage) (occurs lines (place_of now.position.stage) at.read.place) in omega (arith, at.read.count, few)

    -- ---- faults of the text

    module _ (task : Task) (right : AreRight task lines) (next : CertReader R) where
      line_fault : (bytes more : List ℕ) (number : ℕ) → IsFaultAfter lines (waits_in now ++ bytes ++ more) number → IsLineFault task ((at.bytes ++ bytes) ++ more) number (length lines + 1)
      line_fault bytes more number fault = record {
        before = lines;
        bytes = waits_in now ++ bytes ++ more;
        splits = ap (λ came. (came ++ bytes) ++ more) at.splits ∙ ap (λ rest. rest ++ more) (append_assoc (text_of lines) (waits_in now) bytes) ∙ append_assoc (text_of lines) (waits_in now ++ bytes) more;
        begins = have_begun;
        right = right;
        line_is = refl;
        at_fault = inl fault;
      }

      came : (bytes : List ℕ) → Consumes (remaining (source_of now)) (remaining (source_of next)) bytes → Consumes (remaining (source_of first)) (remaining (source_of next)) (at.bytes ++ bytes)
      came bytes consumed = consumes_more (remaining (source_of first)) (remaining (source_of now)) (remaining (source_of next)) at.bytes bytes at.consumed consumed

      pub fault_reported : (fault : CertFault) → IsAnswer remaining now next lines (Err fault) → IsLineRefusal remaining task first next (refusal_of fault)
      fault_reported (cert.Line Truncated line) (line_is, (bytes, consumed, at_end, reported)) =
          subst (IsReportedAt remaining task first next CutShort) (sym line_is) (
            at.bytes ++ bytes,
            came bytes consumed,
            at_end,
            record {
              before = lines;
              bytes = waits_in now ++ bytes;
              splits = ap (λ came. came ++ bytes) at.splits ∙ append_assoc (text_of lines) (waits_in now) bytes;
              begins = have_begun;
              right = right;
              line_is = refl;
              at_fault = inl reported;
            },
          )
      fault_reported (cert.Line Form line) (line_is, (bytes, consumed, reported, prompt)) =
          subst (IsReportedAt remaining task first next CertForm) (sym line_is) (at.bytes ++ bytes, came bytes consumed, λ more. line_fault bytes more 40 (reported more))
      fault_reported (cert.Line Version line) (line_is, (bytes, consumed, reported, prompt)) =
          subst (IsReportedAt remaining task first next CertVersion) (sym line_is) (at.bytes ++ bytes, came bytes consumed, λ more. line_fault bytes more 41 (reported more))
      fault_reported (cert.Line Limit line) (line_is, (bytes, consumed, reported, prompt)) =
          (refl, (line, subst (IsReportedAt remaining task first next TooMany) (sym line_is) (at.bytes ++ bytes, came bytes consumed, λ more. line_fault bytes more 55 (reported more))))
      fault_reported cert.Device reported = tt
      fault_reported cert.NoMemory reported = tt
      fault_reported cert.Failed reported = absurd reported

-- ---- lines that are wrong

no_truncated : (task : Task) (before : List TextLine) (line : TextLine) (number : ℕ) → IsWrongAfter task before line number → number ≡ 42 → ⊥
no_truncated task before line number (not_of_scope r atoms rows here no_scope) same = absurd (omega (arith, same))
no_truncated task before line number (repeated_row r atoms rows here of_scope there) same = absurd (omega (arith, same))
no_truncated task before line number (not_fluent a none_is) same = absurd (omega (arith, same))
no_truncated task before line number (repeated_atom a is there) same = absurd (omega (arith, same))
no_truncated task before line number (repeated_state l there) same = absurd (omega (arith, same))
no_truncated task before line number (cut_not_allowed l first cut there) same = absurd (omega (arith, same))

module _ {R : Type 0} (remaining : R → Option (List ℕ)) (first now : CertReader R) (task : Task) (before : List TextLine) (line : TextLine)
    (at : IsAt remaining first now (before ++ line ∷ [])) (right : AreRight task before) where
  line_fault_here : (number : ℕ) → IsWrongAfter task before line number → (more : List ℕ) → IsLineFault task (at.bytes ++ more) number (length before + 1)
  line_fault_here number wrong more = record {
    before = before;
    bytes = whole_line line ++ (waits_in now ++ more);
    splits = ap (λ came. came ++ more) (at.splits ∙ ap (λ text. text ++ waits_in now) (text_push before line))
        ∙ append_assoc (text_of before ++ whole_line line) (waits_in now) more ∙ append_assoc (text_of before) (whole_line line) (waits_in now ++ more);
    begins = begin_front before line (have_begun remaining first now (before ++ line ∷ []) at);
    right = right;
    line_is = refl;
    at_fault = inr (line, waits_in now ++ more, refl, have_begun remaining first now (before ++ line ∷ []) at, wrong);
  }

  wrong_here : (code : RefusalCode) → IsWrongAfter task before line (number_of code) → IsReportedAt remaining task first now code (length before + 1)
  wrong_here CutShort wrong = absurd (no_truncated task before line 42 wrong refl)
  wrong_here code wrong = (at.bytes, at.consumed, line_fault_here (number_of code) wrong)

  pub wrong_reported : (r : Refusal) → IsWrongNow task before line r → IsLineRefusal remaining task first now r
  wrong_reported (refusal.Line code number) (number_is, wrong) = subst (IsReportedAt remaining task first now code) (sym number_is) (wrong_here code wrong)
  wrong_reported refusal.NoMemory wrong = tt
  wrong_reported _ wrong = absurd wrong

-- a wrong line does not count as a device failure
counts_none : (T : Type 0) (task : Task) (before : List TextLine) (line : TextLine) (failed now : ℕ) (x : Refusal) → IsWrongNow task before line x → now ≡ failed → CountsRefusal {T = T} failed now (Err x)
counts_none T task before line failed now refusal.Device wrong same = absurd wrong
counts_none T task before line failed now _ wrong same = same

pub wrong_counts : {T : Type 0} (task : Task) (before : List TextLine) (line : TextLine) (failed now : ℕ) (r : Result T Refusal) (x : Refusal) → IsErrAnd r (λ y. y ≡ x)
    → IsWrongNow task before line x → now ≡ failed → CountsRefusal failed now r
wrong_counts {T} task before line failed now r x is_err wrong same =
    let is = err_from_is_err_and r is_err in
    rw (is.1, is.2) (counts_none T task before line failed now x wrong same)

pub one_read : {R : Type 0} (next : CertReader R) (before : List TextLine) (line : TextLine) → HasRead next (before ++ line ∷ []) → lines_read next ≡ length before + 1
one_read next before line read = omega (arith, read.count, length-append before (line ∷ []))
