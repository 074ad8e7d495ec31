-- The lexemes of a text, one after another.
use Rattle.std.proofs.Common.{◌≡◌, ℕ, ◌+◌, ◌-◌, ◌<◌, ◌≤◌, Bool, true, false, cond, IsTrue, List, [], ◌∷◌, length, get_or, take, drop, Option, Some, None, refl, sym, ap, ◌∙◌, subst}
use Rattle.std.specs.List.{prefix_len}
use Rattle.std.proofs.lemmas.List.{drop_all}
use Rattle.model.specs.Words.{Form, blank, comment, opening, closing, run, stray, form_of, may_continue, is_gap, Part, form, bytes, size}
use Rattle.model.specs.PlanText.{Placed, placed_from}
use Rattle.tokens.specs.declared.lexeme.Shape.{Shape}
use Rattle.tokens.specs.declared.lexeme.Shape.TheVariants.{Open, Close, Run, Stray}
use Rattle.tokens.specs.Shape.{form_by, form_unless_gap, is_shape, has_shape}
use Rattle.tokens.specs.Lexeme.{part_of, lexemes_from}
use Rattle.tokens.proofs.Cut.{cut, PartBetween, part_between}

-- ---- shapes

shape_is : (s : Shape) (f : Form) → IsTrue (is_shape s f) → f ≡ form_by s
shape_is Open opening h = refl
shape_is Open blank h = absurd (cc)
shape_is Open comment h = absurd (cc)
shape_is Open closing h = absurd (cc)
shape_is Open run h = absurd (cc)
shape_is Open stray h = absurd (cc)
shape_is Close closing h = refl
shape_is Close blank h = absurd (cc)
shape_is Close comment h = absurd (cc)
shape_is Close opening h = absurd (cc)
shape_is Close run h = absurd (cc)
shape_is Close stray h = absurd (cc)
shape_is Run run h = refl
shape_is Run blank h = absurd (cc)
shape_is Run comment h = absurd (cc)
shape_is Run opening h = absurd (cc)
shape_is Run closing h = absurd (cc)
shape_is Run stray h = absurd (cc)
shape_is Stray stray h = refl
shape_is Stray blank h = absurd (cc)
shape_is Stray comment h = absurd (cc)
shape_is Stray opening h = absurd (cc)
shape_is Stray closing h = absurd (cc)
shape_is Stray run h = absurd (cc)

shape_has : (s : Shape) → IsTrue (is_shape s (form_by s))
shape_has Open = refl
shape_has Close = refl
shape_has Run = refl
shape_has Stray = refl

pub form_is_shape : (s : Shape) (text : List ℕ) → IsTrue (has_shape s text) → form (part_of text) ≡ form_by s
form_is_shape s [] h = absurd (cc)
form_is_shape s (byte ∷ others) h = shape_is s (form_of byte) h

pub bytes_are_text : (s : Shape) (text : List ℕ) → IsTrue (has_shape s text) → bytes (part_of text) ≡ text
bytes_are_text s [] h = absurd (cc)
bytes_are_text s (byte ∷ others) h = refl

-- a part of this form is a lexeme of this shape, or a gap
pub no_gap : (s : Shape) (f : Form) → Some (form_by s) ≡ form_unless_gap f → (is_gap f ≡ false) × (f ≡ form_by s)
no_gap s blank e = absurd (cc)
no_gap s comment e = absurd (cc)
no_gap s opening e = (refl, (let same : form_by s ≡ opening = cc in sym same))
no_gap s closing e = (refl, (let same : form_by s ≡ closing = cc in sym same))
no_gap s run e = (refl, (let same : form_by s ≡ run = cc in sym same))
no_gap s stray e = (refl, (let same : form_by s ≡ stray = cc in sym same))

pub a_gap : (f : Form) → None ≡ form_unless_gap f → is_gap f ≡ true
a_gap blank e = refl
a_gap comment e = refl
a_gap opening e = absurd (cc)
a_gap closing e = absurd (cc)
a_gap run e = absurd (cc)
a_gap stray e = absurd (cc)

-- ---- one more part

module _ (text : List ℕ) (start end : ℕ) (f : Form) (inside : start < length text)
    (f_is : f ≡ form_of (get_or text start 0))
    (longest : end ≡ start + 1 + prefix_len (may_continue f) (drop (start + 1) text)) where
  here : PartBetween text start end
  here = part_between text start end inside (longest ∙ ap (λ g. start + 1 + prefix_len (may_continue g) (drop (start + 1) text)) f_is)

  same_form : form here.part ≡ f
  same_form = ap form_of here.first ∙ sym f_is

  lexemes_here : lexemes_from start text ≡ cond (is_gap f) (lexemes_from end text) (record { start = start; part = here.part } ∷ lexemes_from end text)
  lexemes_here =
      ap (placed_from start) here.cut_is
      ∙ ap (λ k. cond (is_gap (form here.part)) (placed_from k (cut (drop end text))) (record { start = start; part = here.part } ∷ placed_from k (cut (drop end text)))) here.size_is
      ∙ ap (λ g. cond (is_gap g) (lexemes_from end text) (record { start = start; part = here.part } ∷ lexemes_from end text)) same_form

  pub gap_skipped : is_gap f ≡ true → lexemes_from start text ≡ lexemes_from end text
  gap_skipped gap = lexemes_here ∙ ap (λ b. cond b (lexemes_from end text) (record { start = start; part = here.part } ∷ lexemes_from end text)) gap

  pub lexeme_here : is_gap f ≡ false → (slice : List ℕ) → slice ≡ take (end - start) (drop start text)
      → lexemes_from start text ≡ record { start = start; part = part_of slice } ∷ lexemes_from end text
  lexeme_here gap slice slice_is =
      lexemes_here ∙ ap (λ b. cond b (lexemes_from end text) (record { start = start; part = here.part } ∷ lexemes_from end text)) gap
      ∙ ap (λ (bs : List ℕ). record { start = start; part = part_of bs } ∷ lexemes_from end text) (here.bytes_are ∙ sym slice_is)

  pub slice_has_shape : (s : Shape) → f ≡ form_by s → (slice : List ℕ) → slice ≡ take (end - start) (drop start text) → IsTrue (has_shape s slice)
  slice_has_shape s e slice slice_is =
      subst (λ bs. IsTrue (has_shape s bs)) (here.bytes_are ∙ sym slice_is)
      (subst (λ g. IsTrue (is_shape s g)) (sym (same_form ∙ e)) (shape_has s))

-- the end of the text
pub none_left : (text : List ℕ) (start : ℕ) → length text ≤ start → lexemes_from start text ≡ []
none_left text start past = ap (λ rest. placed_from start (cut rest)) (drop_all start text past)
