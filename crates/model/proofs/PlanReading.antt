-- The machine reads exactly the steps of a plan text, and stops at the first unexpected word.
use Rattle.std.proofs.Common.{◌≡◌, ℕ, ◌≤◌, ◌⊎◌, ◌||◌, ◌==◌, Bool, true, false, cond, List, [], ◌∷◌, ◌++◌, length, sym, refl, ap, ◌∙◌, subst, inl, inr, ⊎_elim, append_assoc, arith}
use Rattle.std.specs.Char.{is_ascii_alphabetic, is_ascii_digit}
use Rattle.std.specs.Int.{is_in_range}
use Rattle.std.specs.List.{list_all}
use Rattle.std.proofs.lemmas.List.{append-nil}
use Rattle.std.proofs.lemmas.Bool.{and_parts, or_cases, cases_Bool, ne_eqb, eqb-true, leb-true, le-leb}
use Rattle.model.specs.Fault.{Span, Fault}
use Rattle.model.specs.Words.{Form, blank, comment, opening, closing, run, stray, form_of, Part, form, bytes, is_name, is_name_byte, AreParts, longest_text}
use Rattle.model.specs.Trees.{Name}
use Rattle.model.specs.PlanText.{Placed, placed_from, Step, IsName, AreNames, IsStep, AreSteps, HasSteps, BeginsSteps, is_stamp, IsTimed, IsNumberOfWord, timed, untimed, IsFormFault, refused, open_at_end}
use Rattle.model.specs.PlanMachine.{Sort, an_opening, a_closing, a_name, a_stamp, strange, sort_by, sort_of, PlanPlace, outside, opened, inside, Advance, stops, goes, ends, turn, name_at, span_at, Outcome, reads, refuses, with_step, open_at, after_turn, outcome}

-- The meaning of a word, by its sort.
opens_by : (f : Form) (named stamp : Bool) → sort_by f named stamp ≡ an_opening → f ≡ opening
opens_by blank named stamp e = absurd (cc)
opens_by comment named stamp e = absurd (cc)
opens_by opening named stamp e = refl
opens_by closing named stamp e = absurd (cc)
opens_by run true stamp e = absurd (cc)
opens_by run false true e = absurd (cc)
opens_by run false false e = absurd (cc)
opens_by stray named stamp e = absurd (cc)

closes_by : (f : Form) (named stamp : Bool) → sort_by f named stamp ≡ a_closing → f ≡ closing
closes_by blank named stamp e = absurd (cc)
closes_by comment named stamp e = absurd (cc)
closes_by opening named stamp e = absurd (cc)
closes_by closing named stamp e = refl
closes_by run true stamp e = absurd (cc)
closes_by run false true e = absurd (cc)
closes_by run false false e = absurd (cc)
closes_by stray named stamp e = absurd (cc)

names_by : (f : Form) (named stamp : Bool) → sort_by f named stamp ≡ a_name → named ≡ true
names_by blank named stamp e = absurd (cc)
names_by comment named stamp e = absurd (cc)
names_by opening named stamp e = absurd (cc)
names_by closing named stamp e = absurd (cc)
names_by run true stamp e = refl
names_by run false true e = absurd (cc)
names_by run false false e = absurd (cc)
names_by stray named stamp e = absurd (cc)

stamps_by : (f : Form) (named stamp : Bool) → sort_by f named stamp ≡ a_stamp → (f ≡ run) × (stamp ≡ true)
stamps_by blank named stamp e = absurd (cc)
stamps_by comment named stamp e = absurd (cc)
stamps_by opening named stamp e = absurd (cc)
stamps_by closing named stamp e = absurd (cc)
stamps_by run true stamp e = absurd (cc)
stamps_by run false true e = (refl, refl)
stamps_by run false false e = absurd (cc)
stamps_by stray named stamp e = absurd (cc)

is_name_at : (word : Placed) → sort_of word.part ≡ a_name → IsName word (name_at word)
is_name_at word e = record { well_formed = names_by (form word.part) (is_name (bytes word.part)) (is_stamp (bytes word.part)) e; text = refl; span = refl }

-- And its sort, by its meaning.
opening_sort : (part : Part) → form part ≡ opening → sort_of part ≡ an_opening
opening_sort part e = ap (λ f. sort_by f (is_name (bytes part)) (is_stamp (bytes part))) e

closing_sort : (part : Part) → form part ≡ closing → sort_of part ≡ a_closing
closing_sort part e = ap (λ f. sort_by f (is_name (bytes part)) (is_stamp (bytes part))) e

letter_form : (byte : ℕ) → 65 ≤ byte → byte ≤ 122 → form_of byte ≡ run
letter_form byte low high =
    rw (
      ne_eqb byte 32 (λ h. omega arith),
      ne_eqb byte 9 (λ h. omega arith),
      ne_eqb byte 10 (λ h. omega arith),
      ne_eqb byte 13 (λ h. omega arith),
      ne_eqb byte 59 (λ h. omega arith),
      ne_eqb byte 40 (λ h. omega arith),
      ne_eqb byte 41 (λ h. omega arith),
      le-leb 33 byte (omega arith),
      le-leb byte 126 (omega arith),
    )

letter_is_run : (byte : ℕ) → is_ascii_alphabetic byte ≡ true → form_of byte ≡ run
letter_is_run byte e = ⊎_elim
    (λ (h : is_in_range 65 90 byte ≡ true).
    let b = and_parts _ _ h in
    letter_form byte (leb-true 65 byte b.0) (let top = leb-true byte 90 b.1 in omega arith))
    (λ (h : is_in_range 97 122 byte ≡ true).
    let b = and_parts _ _ h in
    letter_form byte (let low = leb-true 97 byte b.0 in omega arith) (leb-true byte 122 b.1))
    (or_cases (is_in_range 65 90 byte) (is_in_range 97 122 byte) e)

name_sort : (part : Part) → is_name (bytes part) ≡ true → sort_of part ≡ a_name
name_sort part e =
    let letter = and_parts (is_ascii_alphabetic part.first) (list_all is_name_byte part.others) e in
    ap (λ f. sort_by f (is_name (bytes part)) (is_stamp (bytes part))) (letter_is_run part.first letter.0) ∙ ap (λ b. sort_by run b (is_stamp (bytes part))) e

letter_bytes : (byte : ℕ) → is_ascii_alphabetic byte ≡ true → ((65 ≤ byte) × (byte ≤ 90)) ⊎ (97 ≤ byte)
letter_bytes byte e = ⊎_elim
    (λ (h : is_in_range 65 90 byte ≡ true). let b = and_parts _ _ h in inl (leb-true 65 byte b.0, leb-true byte 90 b.1))
    (λ (h : is_in_range 97 122 byte ≡ true). inr (leb-true 97 byte (and_parts _ _ h).0))
    (or_cases (is_in_range 65 90 byte) (is_in_range 97 122 byte) e)

stamp_bytes : (byte : ℕ) → is_stamp (byte ∷ []) ≡ true → (byte ≤ 57) ⊎ (byte ≡ 91)
stamp_bytes byte e = ⊎_elim
    (λ (h : (is_ascii_digit byte || byte == 46) ≡ true). inl (⊎_elim
    (λ (digit : is_in_range 48 57 byte ≡ true). leb-true byte 57 (and_parts _ _ digit).1)
    (λ (dot : (byte == 46) ≡ true). let is = eqb-true byte 46 dot in omega arith)
    (or_cases (is_ascii_digit byte) (byte == 46) h)))
    (λ (bracket : (byte == 91) ≡ true). inr (eqb-true byte 91 bracket))
    (or_cases (is_ascii_digit byte || byte == 46) (byte == 91) e)

apart : (byte : ℕ) → ((65 ≤ byte) × (byte ≤ 90)) ⊎ (97 ≤ byte) → (byte ≤ 57) ⊎ (byte ≡ 91) → ⊥
apart byte (inl (low, high)) (inl small) = omega arith
apart byte (inl (low, high)) (inr is) = omega arith
apart byte (inr low) (inl small) = omega arith
apart byte (inr low) (inr is) = omega arith

-- a name begins with a letter, so it is not a time stamp
stamp_sort : (part : Part) → form part ≡ run → is_stamp (bytes part) ≡ true → sort_of part ≡ a_stamp
stamp_sort part is_run stamp =
    ap (λ f. sort_by f (is_name (bytes part)) (is_stamp (bytes part))) is_run ∙ ap (λ b. cond (is_name (bytes part)) a_name (cond b a_stamp strange)) stamp
    ∙ ⊎_elim
    (λ (named : is_name (bytes part) ≡ true).
    let letter = and_parts (is_ascii_alphabetic part.first) (list_all is_name_byte part.others) named in
    absurd (apart part.first (letter_bytes part.first letter.0) (stamp_bytes part.first stamp)))
    (λ (unnamed : is_name (bytes part) ≡ false). ap (λ b. cond b a_name a_stamp) unnamed)
    (cases_Bool (is_name (bytes part)))

name_is : (word : Placed) (name : Name) → IsName word name → name_at word ≡ name
name_is word name h =
    ap (λ t. let n : Name = record { text = t; span = span_at word } in n) (sym h.text)
    ∙ ap (λ s. let n : Name = record { text = name.text; span = s } in n) (sym h.span)

-- What the machine reads are steps.

-- the words read so far of a step
abbrev IsListedAs : PlanPlace → List Placed → Type 0
IsListedAs outside so_far = so_far ≡ []
IsListedAs opened so_far = (first : Placed) × (so_far ≡ first ∷ []) × (form first.part ≡ opening)
IsListedAs (inside action objects) so_far =
    (first : Placed) × (names : List Placed) × (so_far ≡ first ∷ names) × (form first.part ≡ opening)
    × AreNames names (action ∷ objects)

names_push : (words : List Placed) (names : List Name) (word : Placed) → AreNames words names → IsName word (name_at word) → AreNames (words ++ word ∷ []) (names ++ name_at word ∷ [])
names_push [] [] word h is = (is, tt)
names_push [] (n ∷ ns) word h is = absurd h
names_push (w ∷ ws) [] word h is = absurd h
names_push (w ∷ ws) (n ∷ ns) word h is = (h.0, names_push ws ns word h.1 is)

-- what is read of the words after this one
abbrev Reads : ℕ → List Placed → Type 0
Reads end words =
    (so_far : List Placed) (place : PlanPlace) (steps : List Step) → IsListedAs place so_far → outcome end words place ≡ reads steps → AreSteps (so_far ++ words) steps

ended_step : (end : ℕ) (word : Placed) (words so_far : List Placed) (step : Step) (steps : List Step) (o : Outcome) → IsStep (so_far ++ word ∷ []) step → outcome end words outside ≡ o → with_step step o ≡ reads steps → Reads end words → AreSteps (so_far ++ word ∷ words) steps
ended_step end word words so_far step steps (reads rest) is o_is e inner =
    let here : step ∷ rest ≡ steps = cc in
    subst (AreSteps (so_far ++ word ∷ words)) here (so_far ++ word ∷ [], words, sym (append_assoc so_far (word ∷ []) words), is, inner [] outside rest refl o_is)
ended_step end word words so_far step steps (refuses fault) is o_is e inner = absurd (cc)

word_reads : (end : ℕ) (word : Placed) (words so_far : List Placed) (place : PlanPlace) (s : Sort) (steps : List Step) → sort_of word.part ≡ s → IsListedAs place so_far
    → after_turn (span_at word) (turn place s (name_at word)) (outcome end words) ≡ reads steps → Reads end words → AreSteps (so_far ++ word ∷ words) steps
word_reads end word words so_far outside an_opening steps is occurs e inner =
    subst (λ ws. AreSteps (ws ++ word ∷ words) steps) (sym occurs) (inner (word ∷ []) opened steps (word, refl, opens_by (form word.part) (is_name (bytes word.part)) (is_stamp (bytes word.part)) is) e)
word_reads end word words so_far outside a_closing steps is occurs e inner = absurd (cc)
word_reads end word words so_far outside a_name steps is occurs e inner = absurd (cc)
word_reads end word words so_far outside a_stamp steps is occurs e inner = absurd (cc)
word_reads end word words so_far outside strange steps is occurs e inner = absurd (cc)
word_reads end word words so_far opened an_opening steps is occurs e inner = absurd (cc)
word_reads end word words so_far opened a_closing steps is occurs e inner = absurd (cc)
word_reads end word words so_far opened a_name steps is (first, so_far_is, opens) e inner =
    subst (λ ws. AreSteps (ws ++ word ∷ words) steps) (sym so_far_is)
    (inner (first ∷ word ∷ []) (inside (name_at word) []) steps (first, word ∷ [], refl, opens, (is_name_at word is, tt)) e)
word_reads end word words so_far opened a_stamp steps is occurs e inner = absurd (cc)
word_reads end word words so_far opened strange steps is occurs e inner = absurd (cc)
word_reads end word words so_far (inside action objects) an_opening steps is occurs e inner = absurd (cc)
word_reads end word words so_far (inside action objects) a_closing steps is (first, names, so_far_is, opens, are) e inner =
    ended_step end word words so_far _ steps (outcome end words outside)
    (record { first = first; names = names; last = word; in_order = ap (λ ws. ws ++ word ∷ []) so_far_is; opens = opens; closes = closes_by (form word.part) (is_name (bytes word.part)) (is_stamp (bytes word.part)) is; named = are })
    refl e inner
word_reads end word words so_far (inside action objects) a_name steps is (first, names, so_far_is, opens, are) e inner =
    subst (λ ws. AreSteps (ws ++ word ∷ words) steps) (sym so_far_is)
    (subst (λ ws. AreSteps ws steps) (append_assoc (first ∷ names) (word ∷ []) words)
    (inner (first ∷ names ++ word ∷ []) (inside action (objects ++ name_at word ∷ [])) steps (first, names ++ word ∷ [], refl, opens, names_push names (action ∷ objects) word are (is_name_at word is)) e))
word_reads end word words so_far (inside action objects) a_stamp steps is occurs e inner = absurd (cc)
word_reads end word words so_far (inside action objects) strange steps is occurs e inner = absurd (cc)

sound : (end : ℕ) (words so_far : List Placed) (place : PlanPlace) (steps : List Step) → IsListedAs place so_far → outcome end words place ≡ reads steps → AreSteps (so_far ++ words) steps
sound end [] so_far outside steps occurs e =
    let none : [] ≡ steps = cc in
    subst (AreSteps (so_far ++ [])) none (append-nil so_far ∙ occurs)
sound end [] so_far opened steps occurs e = absurd (cc)
sound end [] so_far (inside action objects) steps occurs e = absurd (cc)
sound end (word ∷ words) so_far place steps occurs e = word_reads end word words so_far place (sort_of word.part) steps refl occurs e (sound end words)

pub steps_of_reads : (end : ℕ) (words : List Placed) (steps : List Step) → outcome end words outside ≡ reads steps → AreSteps words steps
steps_of_reads end words steps e = sound end words [] outside steps refl e

-- And it reads all of them.
step_on : (end : ℕ) (word : Placed) (words : List Placed) (place : PlanPlace) (s : Sort) → sort_of word.part ≡ s → outcome end (word ∷ words) place ≡ after_turn (span_at word) (turn place s (name_at word)) (outcome end words)
step_on end word words place s e = ap (λ t. after_turn (span_at word) (turn place t (name_at word)) (outcome end words)) e

names_read : (end : ℕ) (words : List Placed) (names : List Name) (action : Name) (so_far : List Name) (more : List Placed) → AreNames words names → outcome end (words ++ more) (inside action so_far) ≡ outcome end more (inside action (so_far ++ names))
names_read end [] [] action so_far more h = ap (λ os. outcome end more (inside action os)) (sym (append-nil so_far))
names_read end [] (n ∷ ns) action so_far more h = absurd h
names_read end (w ∷ ws) [] action so_far more h = absurd h
names_read end (w ∷ ws) (n ∷ ns) action so_far more h =
    step_on end w (ws ++ more) (inside action so_far) a_name (name_sort w.part h.0.well_formed)
    ∙ ap (λ m. outcome end (ws ++ more) (inside action (so_far ++ m ∷ []))) (name_is w n h.0)
    ∙ names_read end ws ns action (so_far ++ n ∷ []) more h.1
    ∙ ap (λ os. outcome end more (inside action os)) (append_assoc so_far (n ∷ []) ns)

step_read : (end : ℕ) (first : Placed) (names : List Placed) (last : Placed) (rest : List Placed) (action : Name) (objects : List Name) → form first.part ≡ opening → form last.part ≡ closing → AreNames names (action ∷ objects)
    → outcome end ((first ∷ names ++ last ∷ []) ++ rest) outside ≡ with_step (record { action = action; objects = objects }) (outcome end rest outside)
step_read end first [] last rest action objects opens closes are = absurd are
step_read end first (w ∷ ws) last rest action objects opens closes are =
    step_on end first (w ∷ (ws ++ last ∷ []) ++ rest) outside an_opening (opening_sort first.part opens)
    ∙ step_on end w ((ws ++ last ∷ []) ++ rest) opened a_name (name_sort w.part are.0.well_formed)
    ∙ ap (λ n. outcome end ((ws ++ last ∷ []) ++ rest) (inside n [])) (name_is w action are.0)
    ∙ ap (λ l. outcome end l (inside action [])) (append_assoc ws (last ∷ []) rest)
    ∙ names_read end ws objects action [] (last ∷ rest) are.1
    ∙ step_on end last rest (inside action objects) a_closing (closing_sort last.part closes)

pub reads_steps : (end : ℕ) (words : List Placed) (steps : List Step) → AreSteps words steps → outcome end words outside ≡ reads steps
reads_steps end words [] h = ap (λ ws. outcome end ws outside) h
reads_steps end words (step ∷ steps) (these, rest, words_are, is, more) =
    ap (λ ws. outcome end ws outside) (words_are ∙ ap (λ ws. ws ++ rest) is.in_order)
    ∙ step_read end is.first is.names is.last rest step.action step.objects is.opens is.closes is.named
    ∙ ap (with_step step) (reads_steps end rest steps more)

pub one_list : (words : List Placed) (steps others : List Step) → AreSteps words steps → AreSteps words others → steps ≡ others
one_list words steps others h g =
    let both : reads steps ≡ reads others = sym (reads_steps 0 words steps h) ∙ reads_steps 0 words others g in
    cc

-- The places where it stops.

-- in each state some words lead to a plan text
letter : Placed
letter = record { start = 0; part = record { first = 97; others = [] } }

close : Placed
close = record { start = 0; part = record { first = 41; others = [] } }

-- these words continue to a plan text
abbrev MayContinue : ℕ → List Placed → PlanPlace → Type 0
MayContinue end words place = (more : List Placed) × (steps : List Step) × (outcome end (words ++ more) place ≡ reads steps)

any_continues : (end : ℕ) (place : PlanPlace) → MayContinue end [] place
unfolding letter close
any_continues end outside = ([], [], refl)
any_continues end opened = (letter ∷ close ∷ [], record { action = name_at letter; objects = [] } ∷ [], refl)
any_continues end (inside action objects) = (close ∷ [], record { action = action; objects = objects } ∷ [], refl)

-- these words leave no step open
abbrev LeavesNone : ℕ → List Placed → PlanPlace → Type 0
LeavesNone end words place = (steps : List Step) × (outcome end words place ≡ reads steps)

-- the number that a word stops with
data StopsWith (end : ℕ) (before : List Placed) (place : PlanPlace) (word : Placed) (code : ℕ) : Type 0 where
  at_stamp : LeavesNone end before place → sort_of word.part ≡ a_stamp → code ≡ 31 → StopsWith end before place word code
  elsewhere : (LeavesNone end before place → sort_of word.part ≡ a_stamp → ⊥) → code ≡ 30 → StopsWith end before place word code

record StopsAt (end : ℕ) (words : List Placed) (place : PlanPlace) (fault : Fault) : Type 0 where
  before : List Placed
  after : List Placed
  word : Placed
  in_order : words ≡ before ++ word ∷ after
  may_continue : MayContinue end before place
  dead : (more : List Placed) → outcome end (before ++ word ∷ more) place ≡ refuses fault
  number : StopsWith end before place word fault.code
  span_is : fault.span ≡ span_at word

record IsOpen (end : ℕ) (words : List Placed) (place : PlanPlace) (fault : Fault) : Type 0 where
  may_continue : MayContinue end words place
  fault_is : fault ≡ open_at end

rest_refused : (step : Step) (fault : Fault) (o : Outcome) → with_step step o ≡ refuses fault → o ≡ refuses fault
rest_refused step fault (reads steps) e = absurd (cc)
rest_refused step fault (refuses other) e = e

-- one more word before
module _ (end : ℕ) (word : Placed) (place next : PlanPlace) (give : Outcome → Outcome)
    (given : (steps : List Step) → (more : List Step) × (give (reads steps) ≡ reads more))
    (kept : (fault : Fault) → give (refuses fault) ≡ refuses fault)
    (on : (words : List Placed) → outcome end (word ∷ words) place ≡ give (outcome end words next)) where
  more_continues : (words : List Placed) → MayContinue end words next → MayContinue end (word ∷ words) place
  more_continues words (more, steps, e) = (more, (given steps).0, on (words ++ more) ∙ ap give e ∙ (given steps).1)

  more_none : (words : List Placed) → LeavesNone end words next → LeavesNone end (word ∷ words) place
  more_none words (steps, e) = ((given steps).0, on words ∙ ap give e ∙ (given steps).1)

  was_read : (steps : List Step) (o : Outcome) → give o ≡ reads steps → (more : List Step) × (o ≡ reads more)
  was_read steps (reads more) e = (more, refl)
  was_read steps (refuses fault) e = let impossible : refuses fault ≡ reads steps = sym (kept fault) ∙ e in absurd (cc)

  less_none : (words : List Placed) → LeavesNone end (word ∷ words) place → LeavesNone end words next
  less_none words (steps, e) = was_read steps (outcome end words next) (sym (on words) ∙ e)

  more_with : (before : List Placed) (other : Placed) (code : ℕ) → StopsWith end before next other code → StopsWith end (word ∷ before) place other code
  more_with before other code (at_stamp none stamp is) = at_stamp (more_none before none) stamp is
  more_with before other code (elsewhere never is) = elsewhere (λ none. never (less_none before none)) is

  more_stops : (words : List Placed) (fault : Fault) → StopsAt end words next fault → StopsAt end (word ∷ words) place fault
  more_stops words fault s = record {
    before = word ∷ s.before;
    after = s.after;
    word = s.word;
    in_order = ap (λ ws. word ∷ ws) s.in_order;
    may_continue = more_continues s.before s.may_continue;
    dead = λ more. on (s.before ++ s.word ∷ more) ∙ ap give (s.dead more) ∙ kept fault;
    number = more_with s.before s.word fault.code s.number;
    span_is = s.span_is;
  }

  more_open : (words : List Placed) (fault : Fault) → IsOpen end words next fault → IsOpen end (word ∷ words) place fault
  more_open words fault o = record { may_continue = more_continues words o.may_continue; fault_is = o.fault_is }

  more_found : (words : List Placed) (fault : Fault) → StopsAt end words next fault ⊎ IsOpen end words next fault → StopsAt end (word ∷ words) place fault ⊎ IsOpen end (word ∷ words) place fault
  more_found words fault (inl s) = inl (more_stops words fault s)
  more_found words fault (inr o) = inr (more_open words fault o)

-- the number of the first word
outside_other : (end : ℕ) (word : Placed) (s : Sort) (code : ℕ) → sort_of word.part ≡ s → (s ≡ a_stamp → ⊥) → code ≡ 30 → StopsWith end [] outside word code
outside_other end word s code is differs e = elsewhere (λ none stamp. differs (sym is ∙ stamp)) e

open_other : (end : ℕ) (word : Placed) (place : PlanPlace) (code : ℕ) (fault : Fault) → outcome end [] place ≡ refuses fault → code ≡ 30 → StopsWith end [] place word code
open_other end word place code fault is_open e =
    elsewhere (λ (steps, read) stamp. let impossible : refuses fault ≡ reads steps = sym is_open ∙ read in cc) e

first_with : (end : ℕ) (word : Placed) (place : PlanPlace) (s : Sort) (code : ℕ) → sort_of word.part ≡ s → turn place s (name_at word) ≡ stops code → StopsWith end [] place word code
first_with end word outside an_opening code is e = absurd (cc)
first_with end word outside a_closing code is e = outside_other end word a_closing code is (λ same. cc) (cc)
first_with end word outside a_name code is e = outside_other end word a_name code is (λ same. cc) (cc)
first_with end word outside a_stamp code is e = at_stamp ([], refl) is (cc)
first_with end word outside strange code is e = outside_other end word strange code is (λ same. cc) (cc)
first_with end word opened an_opening code is e = open_other end word opened code (open_at end) refl (cc)
first_with end word opened a_closing code is e = open_other end word opened code (open_at end) refl (cc)
first_with end word opened a_name code is e = absurd (cc)
first_with end word opened a_stamp code is e = open_other end word opened code (open_at end) refl (cc)
first_with end word opened strange code is e = open_other end word opened code (open_at end) refl (cc)
first_with end word (inside action objects) an_opening code is e = open_other end word (inside action objects) code (open_at end) refl (cc)
first_with end word (inside action objects) a_closing code is e = absurd (cc)
first_with end word (inside action objects) a_name code is e = absurd (cc)
first_with end word (inside action objects) a_stamp code is e = open_other end word (inside action objects) code (open_at end) refl (cc)
first_with end word (inside action objects) strange code is e = open_other end word (inside action objects) code (open_at end) refl (cc)

word_found : (end : ℕ) (word : Placed) (words : List Placed) (place : PlanPlace) (t : Advance) (fault : Fault) → turn place (sort_of word.part) (name_at word) ≡ t → after_turn (span_at word) t (outcome end words) ≡ refuses fault
    → ((next : PlanPlace) → outcome end words next ≡ refuses fault → StopsAt end words next fault ⊎ IsOpen end words next fault)
    → StopsAt end (word ∷ words) place fault ⊎ IsOpen end (word ∷ words) place fault
word_found end word words place (stops code) fault is e inner =
    let reported : Fault = record { code = code; span = span_at word } in
    let same : reported ≡ fault = cc in
    inl (record {
      before = [];
      after = words;
      word = word;
      in_order = refl;
      may_continue = any_continues end place;
      dead = λ more. ap (λ t. after_turn (span_at word) t (outcome end more)) is ∙ ap refuses same;
      number = subst (StopsWith end [] place word) (ap (λ (f : Fault). f.code) same) (first_with end word place (sort_of word.part) code refl is);
      span_is = sym (ap (λ (f : Fault). f.span) same);
    })
word_found end word words place (goes next) fault is e inner =
    more_found end word place next (λ o. o) (λ steps. (steps, refl)) (λ f. refl) (λ ws. ap (λ t. after_turn (span_at word) t (outcome end ws)) is) words fault (inner next e)
word_found end word words place (ends step) fault is e inner =
    more_found end word place outside (with_step step) (λ steps. (step ∷ steps, refl)) (λ f. refl) (λ ws. ap (λ t. after_turn (span_at word) t (outcome end ws)) is) words fault
    (inner outside (rest_refused step fault (outcome end words outside) e))

found : (end : ℕ) (words : List Placed) (place : PlanPlace) (fault : Fault) → outcome end words place ≡ refuses fault → StopsAt end words place fault ⊎ IsOpen end words place fault
found end [] outside fault e = absurd (cc)
found end [] opened fault e = inr (record { may_continue = any_continues end opened; fault_is = let same : open_at end ≡ fault = cc in sym same })
found end [] (inside action objects) fault e = inr (record { may_continue = any_continues end (inside action objects); fault_is = let same : open_at end ≡ fault = cc in sym same })
found end (word ∷ words) place fault e = word_found end word words place (turn place (sort_of word.part) (name_at word)) fault refl e (λ next. found end words next fault)

begins : (end : ℕ) (words : List Placed) → MayContinue end words outside → BeginsSteps words
begins end words (more, steps, e) = (more, steps, steps_of_reads end (words ++ more) steps e)

number_reported : (end : ℕ) (before : List Placed) (word : Placed) (code : ℕ) → StopsWith end before outside word code → IsNumberOfWord before word code
number_reported end before word code (at_stamp (steps, e) sort is) =
    let both = stamps_by (form word.part) (is_name (bytes word.part)) (is_stamp (bytes word.part)) sort in
    timed (record { steps = steps; outside = steps_of_reads end before steps e; is_run = both.0; stamp = both.1 }) is
number_reported end before word code (elsewhere never is) =
    untimed (λ (t : IsTimed before word). never (t.steps, reads_steps end before t.steps t.outside) (stamp_sort word.part t.is_run t.stamp)) is

-- the fault of the form is where it stops
pub form_fault : (text : List ℕ) (parts : List Part) (fault : Fault) → length text ≤ longest_text → AreParts text parts → outcome (length text) (placed_from 0 parts) outside ≡ refuses fault → IsFormFault text fault
form_fault text parts fault short are e = by_place (found (length text) (placed_from 0 parts) outside fault e)
  where
    n : ℕ
    n = length text

    words : List Placed
    words = placed_from 0 parts

    by_place : StopsAt n words outside fault ⊎ IsOpen n words outside fault → IsFormFault text fault
    by_place (inl s) = refused short parts are s.before s.after s.word s.in_order (begins n s.before s.may_continue)
        (λ (more, steps, all).
        let stopped : outcome n ((s.before ++ s.word ∷ []) ++ more) outside ≡ refuses fault = ap (λ ws. outcome n ws outside) (append_assoc s.before (s.word ∷ []) more) ∙ s.dead more in
        let read = reads_steps n ((s.before ++ s.word ∷ []) ++ more) steps all in
        let impossible : reads steps ≡ refuses fault = sym read ∙ stopped in
        cc)
        (number_reported n s.before s.word fault.code s.number)
        (ap (λ (x : Span). x.start) s.span_is) (ap (λ (x : Span). x.end) s.span_is)
    by_place (inr o) = open_at_end short parts are (begins n words o.may_continue)
        (λ steps all. let impossible : reads steps ≡ refuses fault = sym (reads_steps n words steps all) ∙ e in cc)
        (ap (λ (f : Fault). f.code) o.fault_is) (ap (λ (f : Fault). f.span.start) o.fault_is) (ap (λ (f : Fault). f.span.end) o.fault_is)

pub has_steps : (text : List ℕ) (parts : List Part) (steps : List Step) → length text ≤ longest_text → AreParts text parts → outcome (length text) (placed_from 0 parts) outside ≡ reads steps → HasSteps text steps
has_steps text parts steps short are e = record { short = short; parts = parts; cut = are; steps_of_parts = steps_of_reads (length text) (placed_from 0 parts) steps e }
