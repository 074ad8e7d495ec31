-- The places of steps in a plan text: its lexemes one after another, and its steps.
use Rattle.std.specs.Prelude.{◌≡◌, ℕ, ◌+◌, ◌-◌, ◌<◌, ◌≤◌, ◌==◌, Bool, true, false, ◌&&◌, if◌then◌else◌, List, [], ◌∷◌, ◌++◌, length, Option, None, Some, IsSomeAnd, refl}
use Rattle.std.proofs.Common.{sym, ◌∙◌, ap, subst, zero, suc, arith, ⊎_elim, append_assoc, true≢false}
use Rattle.std.specs.Char.{is_ascii_alphabetic}
use Rattle.std.specs.Int.{is_in_range}
use Rattle.std.specs.List.{list_all}
use Rattle.std.specs.Option.{option_map}
use Rattle.std.proofs.lemmas.Bool.{and_parts, or_cases, ne_eqb, leb-true, le-leb}
use Rattle.std.proofs.lemmas.Bool.Decides.{nat_tests}
use Rattle.std.proofs.lemmas.Option.{same_Some}
use Rattle.faults.specs.declared.refused.Span as code
use Rattle.model.specs.Fault.{Span}
use Rattle.model.specs.Words.{Form, run, form_of, Part, form, bytes, size, is_name, is_name_byte, AreParts}
use Rattle.model.specs.Trees.{Name}
use Rattle.model.specs.PlanText.{Placed, placed_from, Step, AreNames, AreSteps, IsStep}
use Rattle.tokens.specs.declared.lexeme.Shape.{Shape}
use Rattle.tokens.specs.declared.lexeme.Shape.TheVariants.{Open, Close, Run, Stray}
use Rattle.tokens.specs.Shape.{form_by}
use Rattle.tokens.proofs.Cut.{cut, cut_unique}
use Rattle.explain_plans.specs.StepPlaces.{IsStepPlace, closes, opens, place_from, span_of}

-- ---- one more lexeme of the text

module _ (left after : List Placed) (lexeme : Placed) (left_is : left ≡ lexeme ∷ after) (s : Shape) (f_is : form lexeme.part ≡ form_by s) (n opened last : ℕ) where
  abbrev found : Option Span
  found = Some (record { start = last; end = lexeme.start + size lexeme.part })

  abbrev by_form : Form → Option Span
  by_form f = if opens f then place_from n (opened + 1) lexeme.start after else (if closes f && opened == n then found else place_from n opened last after)

  read_here : place_from n opened last left ≡ by_form (form_by s)
  read_here = ap (place_from n opened last) left_is ∙ ap by_form f_is

  -- it closes the step
  pub closed_here : (closes (form_by s) && opened == n) ≡ true → place_from n opened last left ≡ found
  closed_here is = read_here ∙ by_shape s is
    where
      by_shape : (t : Shape) → (closes (form_by t) && opened == n) ≡ true → by_form (form_by t) ≡ found
      by_shape Open e = absurd (true≢false (sym e))
      by_shape Close e = ap (λ b. if b then found else place_from n opened last after) e
      by_shape Run e = absurd (true≢false (sym e))
      by_shape Stray e = absurd (true≢false (sym e))

  -- it does not
  pub passed_here : (closes (form_by s) && opened == n) ≡ false
      → place_from n opened last left ≡ place_from n (if opens (form_by s) then opened + 1 else opened) (if opens (form_by s) then lexeme.start else last) after
  passed_here other = read_here ∙ by_shape s other
    where
      by_shape : (t : Shape) → (closes (form_by t) && opened == n) ≡ false
          → by_form (form_by t) ≡ place_from n (if opens (form_by t) then opened + 1 else opened) (if opens (form_by t) then lexeme.start else last) after
      by_shape Open e = refl
      by_shape Close e = ap (λ b. if b then found else place_from n opened last after) e
      by_shape Run e = refl
      by_shape Stray e = refl

-- ---- names are runs

letter_form : (byte : ℕ) → 65 ≤ byte → byte ≤ 122 → form_of byte ≡ run
letter_form byte low high =
    rw (
      ne_eqb byte 32 (λ h. omega arith),
      ne_eqb byte 9 (λ h. omega arith),
      ne_eqb byte 10 (λ h. omega arith),
      ne_eqb byte 13 (λ h. omega arith),
      ne_eqb byte 59 (λ h. omega arith),
      ne_eqb byte 40 (λ h. omega arith),
      ne_eqb byte 41 (λ h. omega arith),
      le-leb 33 byte (omega arith),
      le-leb byte 126 (omega arith),
    )

letter_is_run : (byte : ℕ) → is_ascii_alphabetic byte ≡ true → form_of byte ≡ run
letter_is_run byte e = ⊎_elim
    (λ (h : is_in_range 65 90 byte ≡ true).
    let b = and_parts _ _ h in
    letter_form byte (leb-true 65 byte b.0) (let top = leb-true byte 90 b.1 in omega arith))
    (λ (h : is_in_range 97 122 byte ≡ true).
    let b = and_parts _ _ h in
    letter_form byte (let low = leb-true 97 byte b.0 in omega arith) (leb-true byte 122 b.1))
    (or_cases (is_in_range 65 90 byte) (is_in_range 97 122 byte) e)

-- ---- the steps of some words

is_number : (a b : ℕ) → a ≡ b → (a == b) ≡ true
is_number a b e = grind (arith, nat_tests)

is_no_number : (a b : ℕ) → a < b → (a == b) ≡ false
is_no_number a b lt = grind (arith, nat_tests)

module _ (n : ℕ) where
  name_passed : (word : Placed) → is_name (bytes word.part) ≡ true → (k o : ℕ) (rest : List Placed) → place_from n k o (word ∷ rest) ≡ place_from n k o rest
  name_passed word named k o rest =
      let letter = and_parts (is_ascii_alphabetic word.part.first) (list_all is_name_byte word.part.others) named in
      ap (λ f. if opens f then place_from n (k + 1) word.start rest
      else (if closes f && k == n then Some (record { start = o; end = word.start + size word.part }) else place_from n k o rest)) (letter_is_run word.part.first letter.0)

  names_passed : (words : List Placed) (names : List Name) → AreNames words names → (k o : ℕ) (rest : List Placed) → place_from n k o (words ++ rest) ≡ place_from n k o rest
  names_passed [] [] are k o rest = refl
  names_passed [] (name ∷ names) are k o rest = absurd are
  names_passed (word ∷ words) [] are k o rest = absurd are
  names_passed (word ∷ words) (name ∷ names) are k o rest =
      name_passed word are.0.well_formed k o (words ++ rest) ∙ names_passed words names are.1 k o rest

  step_passed : (these : List Placed) (step : Step) (is : IsStep these step) (k o : ℕ) (rest : List Placed)
      → place_from n k o (these ++ rest)
      ≡ (if (k + 1) == n then Some (record { start = is.first.start; end = is.last.start + size is.last.part }) else place_from n (k + 1) is.first.start rest)
  step_passed these step is k o rest =
      let last_words = is.names ++ is.last ∷ [] in
      ap (λ l. place_from n k o (l ++ rest)) is.in_order
      ∙ ap (λ f. if opens f then place_from n (k + 1) is.first.start (last_words ++ rest)
      else (if closes f && k == n then Some (record { start = o; end = is.first.start + size is.first.part }) else place_from n k o (last_words ++ rest))) is.opens
      ∙ ap (place_from n (k + 1) is.first.start) (append_assoc is.names (is.last ∷ []) rest)
      ∙ names_passed is.names (step.action ∷ step.objects) is.named (k + 1) is.first.start (is.last ∷ rest)
      ∙ ap (λ f. if opens f then place_from n (k + 1 + 1) is.last.start rest
      else (if closes f && (k + 1) == n then Some (record { start = is.first.start; end = is.last.start + size is.last.part }) else place_from n (k + 1) is.first.start rest)) is.closes

  -- the step that comes after this many
  record IsPlaced (words : List Placed) (m : ℕ) (span : Span) : Type 0 where
    before : List Placed
    these : List Placed
    after : List Placed
    steps : List Step
    step : Step
    in_order : words ≡ before ++ these ++ after
    steps_before : AreSteps before steps
    counted : length steps ≡ m
    is_step : IsStep these step
    start : span.start ≡ is_step.first.start
    end : span.end ≡ is_step.last.start + size is_step.last.part

  placed : (steps : List Step) (words : List Placed) → AreSteps words steps → (m k o : ℕ) → k + 1 + m ≡ n → m < length steps
      → (span : Span) × (place_from n k o words ≡ Some span) × IsPlaced words m span
  placed [] words are m k o e lt = absurd (omega (arith, lt))
  placed (step ∷ steps) words are zero k o e lt =
      let is = are.3 in (
        record { start = is.first.start; end = is.last.start + size is.last.part },
        ap (place_from n k o) are.2 ∙ step_passed are.0 step is k o are.1
            ∙ ap (λ b. if b then Some (record { start = is.first.start; end = is.last.start + size is.last.part }) else place_from n (k + 1) is.first.start are.1)
            (is_number (k + 1) n (omega (arith, e))),
        record {
          before = [];
          these = are.0;
          after = are.1;
          steps = [];
          step = step;
          in_order = are.2;
          steps_before = refl;
          counted = refl;
          is_step = is;
          start = refl;
          end = refl;
        },
      )
  placed (step ∷ steps) words are (suc m) k o e lt =
      let is = are.3 in
      let found = placed steps are.1 are.4 m (k + 1) is.first.start (omega (arith, e)) (omega (arith, lt)) in (
        found.0,
        ap (place_from n k o) are.2 ∙ step_passed are.0 step is k o are.1
            ∙ ap (λ b. if b then Some (record { start = is.first.start; end = is.last.start + size is.last.part }) else place_from n (k + 1) is.first.start are.1)
            (is_no_number (k + 1) n (omega (arith, e)))
            ∙ found.1,
        record {
          before = are.0 ++ found.2.before;
          these = found.2.these;
          after = found.2.after;
          steps = step ∷ found.2.steps;
          step = found.2.step;
          in_order = are.2 ∙ ap (λ l. are.0 ++ l) found.2.in_order ∙ sym (append_assoc are.0 (found.2.before ++ found.2.these) found.2.after)
              ∙ ap (λ l. l ++ found.2.after) (sym (append_assoc are.0 found.2.before found.2.these));
          steps_before = (are.0, found.2.before, refl, is, found.2.steps_before);
          counted = ap suc found.2.counted;
          is_step = found.2.is_step;
          start = found.2.start;
          end = found.2.end;
        },
      )

-- the span found is that of the step
pub place_is_found : (text : List ℕ) (n : ℕ) (found : Option code.Span) → option_map span_of found ≡ place_from n 0 0 (placed_from 0 (cut text))
    → (parts : List Part) (steps : List Step) → AreParts text parts → AreSteps (placed_from 0 parts) steps → 1 ≤ n → n ≤ length steps
    → IsSomeAnd found (λ s. IsStepPlace (placed_from 0 parts) n (span_of s))
place_is_found text n found is parts steps are_parts are_steps low high =
    let words = placed_from 0 parts in
    let p = placed n steps words are_steps (n - 1) 0 0 (omega (arith, low)) (omega (arith, low, high)) in
    as_some (IsStepPlace words n) found p.0 (is ∙ sym (ap (λ l. place_from n 0 0 (placed_from 0 l)) (cut_unique text parts are_parts)) ∙ p.1) (record {
      before = p.2.before;
      these = p.2.these;
      after = p.2.after;
      steps = p.2.steps;
      step = p.2.step;
      in_order = p.2.in_order;
      steps_before = p.2.steps_before;
      counted = let counts = p.2.counted in omega (arith, counts, low);
      is_step = p.2.is_step;
      start = p.2.start;
      end = p.2.end;
    })
  where
    as_some : (P : Span → Type 0) (o : Option code.Span) (span : Span) → option_map span_of o ≡ Some span → P span → IsSomeAnd o (λ s. P (span_of s))
    as_some P None span e holds = absurd (cc)
    as_some P (Some s) span e holds = subst P (sym (same_Some (span_of s) span e)) holds

-- ---- the loop

-- the number of opening parentheses stays below the number of lexemes
pub counted_more : (left after : List Placed) (lexeme : Placed) (s : Shape) (opened counted limit : ℕ) → left ≡ lexeme ∷ after → opened + length left ≤ limit
    → counted ≡ (if opens (form_by s) then opened + 1 else opened) → counted + length after ≤ limit
counted_more left after lexeme Open opened counted limit left_is few is = let sizes = ap length left_is in omega (arith, sizes, few, is)
counted_more left after lexeme Close opened counted limit left_is few is = let sizes = ap length left_is in omega (arith, sizes, few, is)
counted_more left after lexeme Run opened counted limit left_is few is = let sizes = ap length left_is in omega (arith, sizes, few, is)
counted_more left after lexeme Stray opened counted limit left_is few is = let sizes = ap length left_is in omega (arith, sizes, few, is)

-- a lexeme that changes nothing else is passed
pub kept_same : (n : ℕ) (after : List Placed) (opened last counted begun begins : ℕ) (s : Shape) → begins ≡ begun
    → counted ≡ (if opens (form_by s) then opened + 1 else opened) → (later : ℕ) → later ≡ (if opens (form_by s) then begins else last)
    → place_from n counted later after ≡ place_from n (if opens (form_by s) then opened + 1 else opened) (if opens (form_by s) then begun else last) after
kept_same n after opened last counted begun begins s same counted_is later later_is =
    (λ i. place_from n (counted_is i) (later_is i) after) ∙ ap (λ b. place_from n (if opens (form_by s) then opened + 1 else opened) (if opens (form_by s) then b else last) after) same
