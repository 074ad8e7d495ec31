-- Further faults, and their lines.
use Rattle.std.proofs.Common.{◌≡◌, ◌∙◌, ◌≤◌, ℕ, zero, suc, true, List, [], ◌∷◌, ◌++◌, codes, length, Option, None, Some, IfSome, ap, subst, sym, arith, if◌then◌else◌}
use Rattle.std.proofs.lemmas.Bool.Decides.{nat_tests}
use Rattle.std.proofs.lemmas.List.{append_assoc}
use Rattle.std.proofs.lemmas.List.Elements.{All-append}
use Rattle.std.specs.List.{flat_map}
use Rattle.std.specs.Prelude.{nat_le}
use Rattle.std.specs.String.{string_bytes}
use Rattle.explain_hints.specs.Files.{name_in, text_in}
use Rattle.explain_hints.specs.declared.place.LineColumn.{LineColumn}
use Rattle.explain_hints.specs.Refusals.{FileRefusal}
use Rattle.explain_hints.specs.declared.texts.NamedTexts.{NamedTexts}
use Rattle.explain_faults.specs.Explained.{BeginsWith, IsHeading}
use Rattle.file_answers.specs.ExplanationLines.{place_in}
use Rattle.file_answers.specs.FurtherFaults.{AreFurther, IsFurtherOf, further_text}
use Rattle.file_answers.specs.declared.explanation.FurtherFault.{FurtherFault}
use Rattle.file_answers.specs.declared.explanation.Location.{Location}

-- a text that is extended begins as before
pub begins_before : (new old : List ℕ) (form : List ℕ → Type 0) (more : List ℕ) → new ≡ old ++ more → BeginsWith old form → BeginsWith new form
begins_before new old form more is (beginning, rest, was, has_form) =
    (beginning, rest ++ more, is ∙ ap (λ t. t ++ more) was ∙ append_assoc beginning rest more, has_form)

-- and so it states what it stated
pub says_before : (at : Option Location) (form : Location → List ℕ → Type 0) (new old more : List ℕ) → new ≡ old ++ more
    → IfSome at (λ at. BeginsWith old (form at)) → IfSome at (λ at. BeginsWith new (form at))
says_before None form new old more is says = tt
says_before (Some at) form new old more is says = begins_before new old (form at) more is says

-- a report that begins with the first line of a fault begins with it for the location at this place
pub begins_at : (texts : NamedTexts) (fault stated : FileRefusal) (place : LineColumn) (at : Location) (text : List ℕ)
    → stated ≡ fault → string_bytes at.file ≡ name_in texts fault.file → place_in at ≡ place
    → BeginsWith text (IsHeading (name_in texts stated.file) (text_in texts stated.file) stated.span.start place stated.code)
    → BeginsWith text (IsHeading (string_bytes at.file) (text_in texts fault.file) fault.span.start (place_in at) fault.code)
begins_at texts fault stated place at text is_fault is_name is_place begins =
    subst (λ (name : List ℕ). BeginsWith text (IsHeading name (text_in texts fault.file) fault.span.start (place_in at) fault.code)) (sym is_name)
    (subst (λ (p : LineColumn). BeginsWith text (IsHeading (name_in texts fault.file) (text_in texts fault.file) fault.span.start p fault.code)) (sym is_place)
    (subst (λ (f : FileRefusal). BeginsWith text (IsHeading (name_in texts f.file) (text_in texts f.file) f.span.start place f.code)) is_fault begins))

-- one more fault is reported
pub one_more_reported : (texts : NamedTexts) (stated : List FurtherFault) (f : FurtherFault)
    → IsFurtherOf texts.domain.text.now texts.problem.text.now (name_in texts f.fault.file) (text_in texts f.fault.file) f
    → AreFurther texts stated → AreFurther texts (stated ++ f ∷ [])
one_more_reported texts stated f here are =
    All-append (λ (g : FurtherFault). IsFurtherOf texts.domain.text.now texts.problem.text.now (name_in texts g.fault.file) (text_in texts g.fault.file) g) stated (f ∷ []) are alone
  where
    alone : AreFurther texts (f ∷ [])
    alone zero d below = here
    alone (suc k) d below = absurd (omega (arith, below))

-- the lines of the maximum number of faults
pub many_reported : (further : List FurtherFault) (text : List ℕ) → 20 ≤ length further
    → text ≡ flat_map (λ (f : FurtherFault). codes "\n" ++ string_bytes f.text) further ++ codes "\nthere may be more faults: mend these first\n" → text ≡ further_text further
many_reported further text many is =
    let lines = flat_map (λ (f : FurtherFault). codes "\n" ++ string_bytes f.text) further in
    let full : nat_le 20 (length further) ≡ true = grind (arith, nat_tests) in
    is ∙ sym (ap (λ b. lines ++ (if b then codes "\nthere may be more faults: mend these first\n" else [])) full)
