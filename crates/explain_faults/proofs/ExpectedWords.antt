-- Words that may follow those before an offset may occur there, and none is left out.
use Rattle.std.specs.Prelude.{◌≡◌, ◌≤◌, ℕ, List, length, All, Result, Ok, Err, IfOk, map}
use Rattle.std.proofs.Common.{◌∙◌, ap, inr, subst, sym}
use Rattle.std.specs.Global.{Vec}
use Rattle.tokens.specs.Word.{word_of}
use Rattle.tokens.specs.declared.word.Word.{Word}
use Rattle.model.specs.Trees.{TaskFile, domain_file, problem_file}
use Rattle.model.specs.Words.{Reads, ReadsAs}
use Rattle.explain_hints.specs.Files.{text_in}
use Rattle.explain_hints.specs.declared.texts.File.{File}
use Rattle.explain_hints.specs.declared.texts.File.TheVariants.{Domain, Problem}
use Rattle.explain_hints.specs.declared.texts.NamedTexts.{NamedTexts}
use Rattle.explain_hints.specs.ReportedBytes.{reported_in}
use Rattle.explain_hints.specs.Refusals.{FileRefusal}
use Rattle.explain_faults.specs.Explained.{AreWhole}
use Rattle.explain_faults.specs.Expected.{AreSuggested, AreReportedIn, MayFollow, MayOccur, longest_reread, words_before}

module _ (file : TaskFile) (text : List ℕ) (offset : ℕ) (words items before : List Word) (reads : ReadsAs text (map word_of words)) (same : items ≡ words) (are : before ≡ words_before offset items) where
  occur : before ≡ words_before offset words
  occur = are ∙ ap (words_before offset) same

  pub may_occur : {E : Type 0} (r : Result (Vec Word) E) → IfOk r (λ found. All (MayFollow file before) found.items) → IfOk r (λ allowed. MayOccur file text offset allowed.items)
  may_occur (Ok found) follow = inr (record { words = words; reads = reads; follow = subst (λ b. All (MayFollow file b) found.items) occur follow })
  may_occur (Err e) follow = tt

  pub are_reported : {E : Type 0} (reported : List ℕ) (r : Result (Vec Word) E) → IfOk r (λ suggested. AreSuggested file before reported suggested.items)
      → IfOk r (λ allowed. AreReportedIn file text offset reported allowed.items)
  are_reported reported (Ok found) suggested = record { words = words; reads = reads; are_reported = subst (λ b. AreSuggested file b reported found.items) occur suggested }
  are_reported reported (Err e) suggested = tt

-- what is reported at a place of a text is reported for its file
module _ {E : Type 0} (texts : NamedTexts) (fault : FileRefusal) (reported : List ℕ) (same : reported ≡ reported_in (text_in texts fault.file) fault.span.start fault.span.end) where
  pub whole_in_domain : (r : Result (Vec Word) E) → fault.file ≡ Domain
      → (length (text_in texts Domain) ≤ longest_reread → Reads (text_in texts Domain) → IfOk r (λ allowed. AreReportedIn domain_file (text_in texts Domain) fault.span.start reported allowed.items))
      → IfOk r (λ allowed. AreWhole texts fault allowed.items)
  whole_in_domain (Ok allowed) is suggested =
      let bytes : reported ≡ reported_in (text_in texts Domain) fault.span.start fault.span.end =
      same ∙ ap (λ (f : File). reported_in (text_in texts f) fault.span.start fault.span.end) is in (
        λ here short reads. subst (λ (b : List ℕ). AreReportedIn domain_file (text_in texts Domain) fault.span.start b allowed.items) bytes (suggested short reads),
        λ other. absurd (let both : Domain ≡ Problem = sym is ∙ other in cc),
      )
  whole_in_domain (Err e) is suggested = tt

  pub whole_in_problem : (r : Result (Vec Word) E) → fault.file ≡ Problem
      → (length (text_in texts Problem) ≤ longest_reread → Reads (text_in texts Problem) → IfOk r (λ allowed. AreReportedIn problem_file (text_in texts Problem) fault.span.start reported allowed.items))
      → IfOk r (λ allowed. AreWhole texts fault allowed.items)
  whole_in_problem (Ok allowed) is suggested =
      let bytes : reported ≡ reported_in (text_in texts Problem) fault.span.start fault.span.end =
      same ∙ ap (λ (f : File). reported_in (text_in texts f) fault.span.start fault.span.end) is in (
        λ other. absurd (let both : Problem ≡ Domain = sym is ∙ other in cc),
        λ here short reads. subst (λ (b : List ℕ). AreReportedIn problem_file (text_in texts Problem) fault.span.start b allowed.items) bytes (suggested short reads),
      )
  whole_in_problem (Err e) is suggested = tt
