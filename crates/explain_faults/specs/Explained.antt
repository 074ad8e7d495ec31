-- The explanation of a fault: the fault as given, and its place in its file.
use Rattle.std.specs.Prelude.{◌≡◌, ℕ, ◌≤◌, ◌⊎◌, List, [], ◌++◌, codes, length, min, slice_range}
use Rattle.std.specs.Fmt.{decimal}
use Rattle.std.specs.Str.{IsAscii, IsNotAscii}
use Rattle.faults.specs.Fault.{number_of}
use Rattle.faults.specs.Fault as faults
use Rattle.faults.specs.declared.code.Code.{Code}
use Rattle.faults.specs.declared.refused.Span.{Span}
use Rattle.faults.specs.declared.code.Code.TheVariants.{BadForm, UnknownSection, UnknownRequirement}
use Rattle.explain_hints.specs.declared.place.LineColumn.{LineColumn}
use Rattle.explain_hints.specs.Files.{text_in}
use Rattle.explain_hints.specs.Places.{IsLineAt, IsPlace, lines_ended}
use Rattle.explain_hints.specs.declared.texts.File.TheVariants.{Domain, Problem, Plan}
use Rattle.explain_hints.specs.declared.texts.NamedTexts.{NamedTexts}
use Rattle.explain_hints.specs.ReportedBytes.{reported_in}
use Rattle.explain_hints.specs.Refusals.{FileRefusal}
use Rattle.explain_faults.specs.declared.explanation.FaultExplanation.{FaultExplanation}
use Rattle.explain_faults.specs.Expected.{MayOccur, AreReportedIn, longest_reread}
use Rattle.tokens.specs.declared.word.Word.{Word}
use Rattle.model.specs.Words.{Reads}
use Rattle.model.specs.Trees.{domain_file, problem_file}

-- what the first line says of the columns of this line of a text: that they count bytes, if some byte of the line is not ASCII
abbrev pub IsRemark : (line remark : List ℕ) → Type 0
IsRemark line remark = (IsAscii line × (remark ≡ [])) ⊎ (IsNotAscii line × (remark ≡ codes " (columns count bytes)"))

-- the same, for the line of an offset
abbrev pub IsRemarkAt : (text : List ℕ) → (offset : ℕ) → (remark : List ℕ) → Type 0
IsRemarkAt text offset remark = (line : Span) × IsLineAt text (min offset (length text)) line × IsRemark (slice_range text line.start line.end) remark

-- the beginning of the first line of a report: the file, the line and the column, and a message
abbrev pub line_beginning : (name : List ℕ) → LineColumn → (message : List ℕ) → List ℕ
line_beginning name place message =
    name ++ (codes ":" ++ (decimal place.line ++ (codes ":" ++ (decimal place.column ++ (codes ": error: " ++ message)))))

-- its end: the number and name of the fault, and a remark
abbrev pub line_end : Code → (remark : List ℕ) → List ℕ
line_end code remark =
    codes " [" ++ (decimal (number_of code) ++ (codes " " ++ (faults.name_in faults.names (number_of code) ++ (codes "]" ++ (remark ++ codes "\n")))))

-- the first line of the report of a fault at this offset of the text of a file with this name; its message has no line feed
pub record IsHeading (name text : List ℕ) (offset : ℕ) (place : LineColumn) (code : Code) (line : List ℕ) : Type 0 where
  pub message : List ℕ
  pub remark : List ℕ
  pub is_line : line ≡ line_beginning name place message ++ line_end code remark
  pub is_one_line : lines_ended message ≡ 0
  pub is_remark : IsRemarkAt text offset remark

-- the text begins with bytes of this form
abbrev pub BeginsWith : (text : List ℕ) → (form : List ℕ → Type 0) → Type 0
BeginsWith text form = (beginning : List ℕ) × (rest : List ℕ) × (text ≡ beginning ++ rest) × form beginning

-- the words may occur at the fault of a domain or a problem; none are reported for a plan
abbrev pub AreExpected : NamedTexts → FileRefusal → List Word → Type 0
AreExpected texts fault allowed =
    (fault.file ≡ Domain → MayOccur domain_file (text_in texts Domain) fault.span.start allowed)
    × (fault.file ≡ Problem → MayOccur problem_file (text_in texts Problem) fault.span.start allowed)
    × (fault.file ≡ Plan → allowed ≡ [])

-- a word was unexpected
abbrev pub IsOfWords : Code → Type 0
IsOfWords code = (code ≡ BadForm) ⊎ (code ≡ UnknownSection) ⊎ (code ≡ UnknownRequirement)

-- For such a fault of a domain or a problem that reads as words and is not too long, all candidates are reported that may occur at
-- its place, or for a keyword a non-empty selection of them.
abbrev pub AreWhole : NamedTexts → FileRefusal → List Word → Type 0
AreWhole texts fault allowed =
    (fault.file ≡ Domain → length (text_in texts Domain) ≤ longest_reread → Reads (text_in texts Domain)
    → AreReportedIn domain_file (text_in texts Domain) fault.span.start (reported_in (text_in texts Domain) fault.span.start fault.span.end) allowed)
    × (fault.file ≡ Problem → length (text_in texts Problem) ≤ longest_reread → Reads (text_in texts Problem)
    → AreReportedIn problem_file (text_in texts Problem) fault.span.start (reported_in (text_in texts Problem) fault.span.start fault.span.end) allowed)

-- the explanation is of this fault, the place is that of the first byte of its span, and the reported words are exactly those
-- that may occur there
pub record IsExplained (texts : NamedTexts) (fault : FileRefusal) (explanation : FaultExplanation) : Type 0 where
  pub is_fault : explanation.fault ≡ fault
  pub is_place : IsPlace (text_in texts fault.file) fault.span.start explanation.place
  pub are_expected : AreExpected texts fault explanation.allowed.items
  pub are_whole : IsOfWords fault.code → AreWhole texts fault explanation.allowed.items
