-- The faults of two files after the first, and their lines.
use Rattle.std.specs.Prelude.{◌≡◌, ℕ, nat_le, List, [], ◌++◌, All, codes, length, flat_map, if◌then◌else◌}
use Rattle.std.specs.String.{string_bytes}
use Rattle.explain_faults.specs.Explained.{BeginsWith, IsHeading}
use Rattle.explain_hints.specs.Refusals.{FileRefusal}
use Rattle.explain_hints.specs.Files.{name_in, text_in}
use Rattle.model.specs.Typing.{IsFaultOf}
use Rattle.explain_hints.specs.Places.{IsPlace}
use Rattle.explain_hints.specs.declared.place.LineColumn.{LineColumn}
use Rattle.explain_hints.specs.declared.texts.NamedTexts.{NamedTexts}
use Rattle.file_answers.specs.Files.{fault_at}
use Rattle.file_answers.specs.declared.explanation.FurtherFault.{FurtherFault}
use Rattle.model.specs.Trees.{Domain, Problem}
use Rattle.model.specs.Resolution.{TypingFault}
use Rattle.model.specs.Files.{IsDomainText, IsProblemText, IsReportedTyping}

-- the texts are a domain and a problem, and the fault is one of this pair
pub record IsFaultOfTexts (domain problem : List ℕ) (typed : TypingFault) : Type 0 where
  pub domain_tree : Domain
  pub problem_tree : Problem
  pub domain_reads : IsDomainText domain domain_tree
  pub problem_reads : IsProblemText problem problem_tree
  pub is_fault : IsFaultOf domain_tree problem_tree typed

-- the fault is reported for its file
abbrev pub IsReportedAt : TypingFault → FileRefusal → Type 0
IsReportedAt typed fault = IsReportedTyping typed (fault_at fault.file fault.code fault.span)

-- the lines of a fault of a file with this name and text: they begin with its file, its line and column, its number and its name
abbrev pub SayFault : (name text : List ℕ) → FileRefusal → (lines : List ℕ) → Type 0
SayFault name text fault lines =
    (place : LineColumn) × IsPlace text fault.span.start place × BeginsWith lines (IsHeading name text fault.span.start place fault.code)

-- the reported fault is one of these texts, and its lines state it
pub record IsFurtherOf (domain problem name text : List ℕ) (f : FurtherFault) : Type 0 where
  pub typed : TypingFault
  pub is_fault : IsFaultOfTexts domain problem typed
  pub is_reported : IsReportedAt typed f.fault
  pub says : SayFault name text f.fault (string_bytes f.text)

-- the text ends with these bytes
abbrev pub EndsWith : (text ending : List ℕ) → Type 0
EndsWith text ending = (first : List ℕ) × (text ≡ first ++ ending)

-- the lines of these faults, with an empty line before each, and if the limit is reached, a last line that there may be more
abbrev pub further_text : List FurtherFault → List ℕ
further_text further =
    flat_map (λ (f : FurtherFault). codes "\n" ++ string_bytes f.text) further
    ++ (if nat_le 20 (length further) then codes "\nthere may be more faults: mend these first\n" else [])

-- ---- intermediate definitions

-- each of the further faults is one of these texts
abbrev pub AreFurther : NamedTexts → List FurtherFault → Type 0
AreFurther texts further =
    All (λ f. IsFurtherOf texts.domain.text.now texts.problem.text.now (name_in texts f.fault.file) (text_in texts f.fault.file) f) further
