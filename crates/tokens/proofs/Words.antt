-- A text reads as the words that the scanner reads, and as no others, exactly if the scanner finds no fault.
use Rattle.std.proofs.Common.{◌≡◌, ℕ, zero, suc, ◌+◌, ◌-◌, ◌<◌, ◌≤◌, ◌⊎◌, Bool, true, false, cond, IsTrue, List, [], ◌∷◌, ◌++◌, length, Option, Some, None, sym, refl, ap, ◌∙◌, subst, eqb, ltb, inl, inr, ⊎_elim, arith}
use Rattle.std.specs.Option.{option_to_list}
use Rattle.std.proofs.lemmas.Bool.{cases_eq, eq-eqb, ne_eqb, lt-ltb, le-ltb, cases_lt, cases_Bool, cond-true, cond-false}
use Rattle.model.specs.Fault as reported
use Rattle.model.specs.Words.{Form, blank, comment, opening, closing, run, stray, Part, form, bytes, size, Kind, name, variable, keyword, number, dash, equals, opens, closes, Word, kind_by, kind_of_part, kind_of_run, is_name, is_marked_name, is_number, is_only, open_with, longest_text, is_gap, IsWordAt, AreGapsAndWords, AreNested, kinds_of, ReadsAs}
use Rattle.tokens.specs.Scanner.{fault_by, fault_of_run, fault_of_word, fault_at, word_at, closed_with}
use Rattle.tokens.proofs.Cut.{cut, cut_unique, cut_parts}
use Rattle.tokens.proofs.Reading.{or_else, first_fault, fault_of_end, words_from, closed_stays}

-- a kind other than the parentheses
abbrev IsOfRun : Kind → Type 0
IsOfRun opens = ⊥
IsOfRun closes = ⊥
IsOfRun _ = Unit {0}

by_test : (t : Bool) (k : Kind) (o : Option Kind) → IsOfRun k → ((j : Kind) → o ≡ Some j → IsOfRun j) → (j : Kind) → cond t (Some k) o ≡ Some j → IsOfRun j
by_test true k o here there j e = let same : k ≡ j = cc in subst IsOfRun same here
by_test false k o here there j e = there j e

kind_of_run_is : (text : List ℕ) (k : Kind) → kind_of_run text ≡ Some k → IsOfRun k
kind_of_run_is text =
    by_test (is_name text) name _ tt
    (by_test (is_marked_name 63 text) variable _ tt
    (by_test (is_marked_name 58 text) keyword _ tt
    (by_test (is_number text) number _ tt
    (by_test (is_only 45 text) dash _ tt
    (by_test (is_only 61 text) equals None tt (λ j e. absurd (cc)))))))

-- words that are runs leave the lists unchanged
run_nested : (n : ℕ) (k : Kind) (kinds : List Kind) → IsOfRun k → AreNested n kinds → AreNested n (k ∷ kinds)
run_nested n name kinds r h = h
run_nested n variable kinds r h = h
run_nested n keyword kinds r h = h
run_nested n number kinds r h = h
run_nested n dash kinds r h = h
run_nested n equals kinds r h = h
run_nested n opens kinds r h = absurd r
run_nested n closes kinds r h = absurd r

nested_run : (n : ℕ) (k : Kind) (kinds : List Kind) → IsOfRun k → AreNested n (k ∷ kinds) → AreNested n kinds
nested_run n name kinds r h = h
nested_run n variable kinds r h = h
nested_run n keyword kinds r h = h
nested_run n number kinds r h = h
nested_run n dash kinds r h = h
nested_run n equals kinds r h = h
nested_run n opens kinds r h = absurd r
nested_run n closes kinds r h = absurd r

-- The words of a list of parts are determined.
pub gap_has_no_kind : (f : Form) (text : List ℕ) → IsTrue (is_gap f) → kind_by f text ≡ None
gap_has_no_kind blank text g = refl
gap_has_no_kind comment text g = refl
gap_has_no_kind opening text g = absurd (cc)
gap_has_no_kind closing text g = absurd (cc)
gap_has_no_kind run text g = absurd (cc)
gap_has_no_kind stray text g = absurd (cc)

gap_first : (start : ℕ) (part : Part) (parts : List Part) (words : List Word) → IsTrue (is_gap (form part)) → AreGapsAndWords (start + size part) parts words → AreGapsAndWords start (part ∷ parts) words
gap_first start part parts [] g h = (g, h)
gap_first start part parts (word ∷ words) g h = inl (g, h)

the_word : (start : ℕ) (part : Part) (word : Word) → IsWordAt start part word → word_at start (bytes part) (kind_of_part part) ≡ Some word
the_word start part word h =
    ap (word_at start (bytes part)) h.kind
    ∙ ap (λ text. let w : Word = record { kind = word.kind; text = text; start = start } in Some w) (sym h.text)
    ∙ ap (λ at. let w : Word = record { kind = word.kind; text = word.text; start = at } in Some w) (sym h.start_at)

words_are : (start : ℕ) (parts : List Part) (words : List Word) → AreGapsAndWords start parts words → words ≡ words_from start parts
words_are start [] words h = h
words_are start (part ∷ parts) [] h =
    words_are (start + size part) parts [] h.1
    ∙ ap (λ o. option_to_list (word_at start (bytes part) o) ++ words_from (start + size part) parts) (sym (gap_has_no_kind (form part) (bytes part) h.0))
words_are start (part ∷ parts) (word ∷ words) (inl h) =
    words_are (start + size part) parts (word ∷ words) h.1
    ∙ ap (λ o. option_to_list (word_at start (bytes part) o) ++ words_from (start + size part) parts) (sym (gap_has_no_kind (form part) (bytes part) h.0))
words_are start (part ∷ parts) (word ∷ words) (inr h) =
    ap (λ ws. word ∷ ws) (words_are (start + size part) parts words h.1)
    ∙ ap (λ o. option_to_list o ++ words_from (start + size part) parts) (sym (the_word start part word h.0))

-- a text reads as no other words
pub reading_is : (text : List ℕ) (words : List Word) → ReadsAs text words → words ≡ words_from 0 (cut text)
reading_is text words h = words_are 0 h.parts words h.in_turn ∙ ap (words_from 0) (cut_unique text h.parts h.cut)

pub one_reading_lem : (text : List ℕ) (one other : List Word) → ReadsAs text one → ReadsAs text other → one ≡ other
one_reading_lem text one other h g = reading_is text one h ∙ sym (reading_is text other g)

-- If the scanner finds no fault, the text reads as the words that it reads.

-- the properties of a part without a fault
abbrev IsSound : Form → List ℕ → Type 0
IsSound f text = (IsTrue (is_gap f) × (kind_by f text ≡ None)) ⊎ ((k : Kind) × (kind_by f text ≡ Some k) × (f ≡ run → length text ≤ 255))

sound_part : (n : ℕ) (c : Bool) (f : Form) (text : List ℕ) → fault_by n c f text ≡ None → IsSound f text
sound_part n c blank text e = inl (refl, refl)
sound_part n c comment text e = inl (refl, refl)
sound_part n c opening text e = inr (opens, refl, λ h. absurd (cc))
sound_part n c closing text e = inr (closes, refl, λ h. absurd (cc))
sound_part n c stray text e = absurd (cc)
sound_part n c run text e = by_kind (kind_of_run text) refl e
  where
    by_kind : (k : Option Kind) → kind_of_run text ≡ k → fault_of_run c k (length text) ≡ None → IsSound run text
    by_kind None h g = absurd (cc)
    by_kind (Some k) h g = inr (
      k,
      h,
      λ _. ⊎_elim
          (λ (l : 255 < length text). absurd (let e = cond-true (ltb 255 (length text)) (Some 5) (fault_of_word c) (lt-ltb 255 (length text) l) in cc))
          (λ (l : length text ≤ 255). l) (cases_lt 255 (length text)),
    )

-- no fault: none at this part, and none later
no_fault : (o : Option ℕ) (start size : ℕ) (rest : Option reported.Fault) → or_else (fault_at start size o) rest ≡ None → (o ≡ None) × (rest ≡ None)
no_fault None start size rest e = (refl, e)
no_fault (Some k) start size rest e = absurd (cc)

gaps_and_words : (start n : ℕ) (c : Bool) (parts : List Part) → first_fault start n c parts ≡ None → AreGapsAndWords start parts (words_from start parts)
gaps_and_words start n c [] e = refl
gaps_and_words start n c (part ∷ parts) e =
    let none = no_fault (fault_by n c (form part) (bytes part)) start (size part) _ e in
    let inner = gaps_and_words (start + size part) (open_with n (form part)) (closed_with n c (form part)) parts none.1 in
    by_part (sound_part n c (form part) (bytes part) none.0) inner
  where
    by_part : IsSound (form part) (bytes part) → AreGapsAndWords (start + size part) parts (words_from (start + size part) parts) → AreGapsAndWords start (part ∷ parts) (words_from start (part ∷ parts))
    by_part (inl h) inner = subst (λ o. AreGapsAndWords start (part ∷ parts) (option_to_list (word_at start (bytes part) o) ++ words_from (start + size part) parts)) (sym h.1) (gap_first start part parts (words_from (start + size part) parts) h.0 inner)
    by_part (inr h) inner = subst (λ o. AreGapsAndWords start (part ∷ parts) (option_to_list (word_at start (bytes part) o) ++ words_from (start + size part) parts)) (sym h.1)
        (inr (record { kind = h.1; text = refl; start_at = refl; short = h.2 }, inner))

-- after the first list is closed, a part without a fault is not a word
closed_part : (n : ℕ) (f : Form) (text : List ℕ) → fault_by n true f text ≡ None → kind_by f text ≡ None
closed_part n blank text e = refl
closed_part n comment text e = refl
closed_part n opening text e = ⊎_elim
    (λ (t : eqb n 64 ≡ true). absurd (let u = cond-true (eqb n 64) (Some 4) (fault_of_word true) t in cc))
    (λ (t : eqb n 64 ≡ false). absurd (let u = cond-false (eqb n 64) (Some 4) (fault_of_word true) t in cc)) (cases_Bool (eqb n 64))
closed_part n closing text e = ⊎_elim
    (λ (t : eqb n 0 ≡ true). absurd (let u = cond-true (eqb n 0) (Some 3) (fault_of_word true) t in cc))
    (λ (t : eqb n 0 ≡ false). absurd (let u = cond-false (eqb n 0) (Some 3) (fault_of_word true) t in cc)) (cases_Bool (eqb n 0))
closed_part n stray text e = refl
closed_part n run text e = by_kind (kind_of_run text) e
  where
    by_kind : (k : Option Kind) → fault_of_run true k (length text) ≡ None → k ≡ None
    by_kind None g = refl
    by_kind (Some k) g = ⊎_elim
        (λ (t : ltb 255 (length text) ≡ true). absurd (let u = cond-true (ltb 255 (length text)) (Some 5) (fault_of_word true) t in cc))
        (λ (t : ltb 255 (length text) ≡ false). absurd (let u = cond-false (ltb 255 (length text)) (Some 5) (fault_of_word true) t in cc)) (cases_Bool (ltb 255 (length text)))

nothing_follows : (start n : ℕ) (parts : List Part) → first_fault start n true parts ≡ None → words_from start parts ≡ []
nothing_follows start n [] e = refl
nothing_follows start n (part ∷ parts) e =
    let none = no_fault (fault_by n true (form part) (bytes part)) start (size part) _ e in
    ap (λ o. option_to_list (word_at start (bytes part) o) ++ words_from (start + size part) parts) (closed_part n (form part) (bytes part) none.0)
    ∙ nothing_follows (start + size part) (open_with n (form part)) parts
    (ap (λ c. first_fault (start + size part) (open_with n (form part)) c parts) (sym (closed_stays n (form part))) ∙ none.1)

-- a part without a fault keeps the lists well nested
nested_part : (n : ℕ) (f : Form) (text : List ℕ) (start : ℕ) (words : List Word) → n ≤ 64 → fault_by n false f text ≡ None
    → (closed_with n false f ≡ false → open_with n f ≤ 64 → AreNested (open_with n f) (kinds_of words))
    → (closed_with n false f ≡ true → words ≡ [])
    → AreNested n (kinds_of (option_to_list (word_at start text (kind_by f text)) ++ words))
nested_part n blank text start words shallow e inner over = inner refl shallow
nested_part n comment text start words shallow e inner over = inner refl shallow
nested_part n stray text start words shallow e inner over = absurd (cc)
nested_part n opening text start words shallow e inner over = ⊎_elim
    (λ (h : n ≡ 64). absurd (let u = cond-true (eqb n 64) (Some 4) (fault_of_word false) (eq-eqb n 64 h) in cc))
    (λ ne. let below : n < 64 = omega arith in (below, inner refl (omega arith))) (cases_eq n 64)
nested_part zero closing text start words shallow e inner over = absurd (cc)
nested_part (suc zero) closing text start words shallow e inner over = ap kinds_of (over refl)
nested_part (suc (suc m)) closing text start words shallow e inner over =
    let less : suc (suc m) - 1 ≡ suc m = omega arith in
    subst (λ k. AreNested k (kinds_of words)) less (inner (ne_eqb (suc (suc m)) 1 (λ h. omega arith)) (omega arith))
nested_part n run text start words shallow e inner over = by_kind (kind_of_run text) refl e
  where
    by_kind : (k : Option Kind) → kind_of_run text ≡ k → fault_of_run false k (length text) ≡ None → AreNested n (kinds_of (option_to_list (word_at start text k) ++ words))
    by_kind None h g = absurd (cc)
    by_kind (Some k) h g = run_nested n k (kinds_of words) (kind_of_run_is text k h) (inner refl shallow)

nested : (start n : ℕ) (c : Bool) (parts : List Part) → c ≡ false → n ≤ 64 → first_fault start n c parts ≡ None → AreNested n (kinds_of (words_from start parts))
nested start n c [] is_open shallow e = ⊎_elim
    (λ (h : 0 < n). absurd (let u = cond-true (ltb 0 n) (Some (let g : reported.Fault = record { code = 3; span = record { start = start; end = start } } in g)) None (lt-ltb 0 n h) in cc))
    (λ (h : n ≤ 0). let none : n ≡ 0 = omega arith in none) (cases_lt 0 n)
nested start n c (part ∷ parts) is_open shallow e =
    let e' = subst (λ b. first_fault start n b (part ∷ parts) ≡ None) is_open e in
    let none = no_fault (fault_by n false (form part) (bytes part)) start (size part) _ e' in
    nested_part n (form part) (bytes part) start (words_from (start + size part) parts) shallow none.0
    (λ still less. nested (start + size part) (open_with n (form part)) (closed_with n false (form part)) parts still less none.1)
    (λ over. nothing_follows (start + size part) (open_with n (form part)) parts (subst (λ b. first_fault (start + size part) (open_with n (form part)) b parts ≡ None) over none.1))

-- the text reads as what the scanner reads without a fault
pub reads_as : (text : List ℕ) → length text ≤ longest_text → first_fault 0 0 false (cut text) ≡ None → ReadsAs text (words_from 0 (cut text))
reads_as text short e = record {
  short = short;
  parts = cut text;
  cut = cut_parts text;
  in_turn = gaps_and_words 0 0 false (cut text) e;
  nested = nested 0 0 false (cut text) refl (omega arith) e;
}

-- If a text reads as words, the scanner finds no fault.
passes : (start n m : ℕ) (c d : Bool) (f : Form) (text : List ℕ) (parts : List Part) → fault_by n c f text ≡ None → open_with n f ≡ m → closed_with n c f ≡ d → first_fault (start + length text) m d parts ≡ None
    → or_else (fault_at start (length text) (fault_by n c f text)) (first_fault (start + length text) (open_with n f) (closed_with n c f) parts) ≡ None
passes start n m c d f text parts sound opens_is closes_is inner =
    ap (λ o. or_else (fault_at start (length text) o) (first_fault (start + length text) (open_with n f) (closed_with n c f) parts)) sound
    ∙ ap (λ k. first_fault (start + length text) k (closed_with n c f) parts) opens_is
    ∙ ap (λ b. first_fault (start + length text) m b parts) closes_is ∙ inner

pub record Passes (n : ℕ) (c : Bool) (f : Form) (text : List ℕ) (m : ℕ) (d : Bool) : Type 0 where
  pub sound : fault_by n c f text ≡ None
  pub open_lists : open_with n f ≡ m
  pub has_closed : closed_with n c f ≡ d

pub gap_passes : (n : ℕ) (c : Bool) (f : Form) (text : List ℕ) → IsTrue (is_gap f) → Passes n c f text n c
gap_passes n c blank text g = record { sound = refl; open_lists = refl; has_closed = refl }
gap_passes n c comment text g = record { sound = refl; open_lists = refl; has_closed = refl }
gap_passes n c opening text g = absurd (cc)
gap_passes n c closing text g = absurd (cc)
gap_passes n c run text g = absurd (cc)
gap_passes n c stray text g = absurd (cc)

gaps_pass : (start : ℕ) (parts : List Part) → AreGapsAndWords start parts [] → first_fault start 0 true parts ≡ None
gaps_pass start [] h = refl
gaps_pass start (part ∷ parts) (g, h) =
    let p = gap_passes 0 true (form part) (bytes part) g in
    passes start 0 0 true true (form part) (bytes part) parts p.sound p.open_lists p.has_closed (gaps_pass (start + size part) parts h)

no_words : (words : List Word) → kinds_of words ≡ [] → words ≡ []
no_words [] h = refl
no_words (word ∷ words) h = absurd (cc)

-- after a word: the lists stay well nested, or the first is closed and no word follows
abbrev WordPasses : ℕ → Form → List ℕ → List Word → Type 0
WordPasses n f text words =
    ((m : ℕ) × Passes n false f text m false × AreNested m (kinds_of words)) ⊎ (Passes n false f text 0 true × (words ≡ []))

word_passes : (n : ℕ) (f : Form) (text : List ℕ) (k : Kind) (words : List Word) → kind_by f text ≡ Some k → (f ≡ run → length text ≤ 255) → AreNested n (k ∷ kinds_of words) → WordPasses n f text words
word_passes n blank text k words e short h = absurd (cc)
word_passes n comment text k words e short h = absurd (cc)
word_passes n stray text k words e short h = absurd (cc)
word_passes n opening text k words e short h =
    let same : k ≡ opens = cc in
    let h' = subst (λ j. AreNested n (j ∷ kinds_of words)) same h in
    inl (suc n, record { sound = cond-false (eqb n 64) (Some 4) (fault_of_word false) (ne_eqb n 64 (λ e. let below = h'.0 in omega arith)); open_lists = refl; has_closed = refl }, h'.1)
word_passes zero closing text k words e short h =
    let same : k ≡ closes = cc in
    absurd (subst (λ j. AreNested 0 (j ∷ kinds_of words)) same h)
word_passes (suc zero) closing text k words e short h =
    let same : k ≡ closes = cc in
    inr (record { sound = refl; open_lists = refl; has_closed = refl }, no_words words (subst (λ j. AreNested 1 (j ∷ kinds_of words)) same h))
word_passes (suc (suc m)) closing text k words e short h =
    let same : k ≡ closes = cc in
    let less : suc (suc m) - 1 ≡ suc m = omega arith in
    inl (suc m, record { sound = cond-false (eqb (suc (suc m)) 0) (Some 3) (fault_of_word false) (ne_eqb (suc (suc m)) 0 (λ e. omega arith)); open_lists = less; has_closed = ne_eqb (suc (suc m)) 1 (λ e. omega arith) }, subst (λ j. AreNested (suc (suc m)) (j ∷ kinds_of words)) same h)
word_passes n run text k words e short h =
    inl (n, record { sound = ap (λ o. fault_of_run false o (length text)) e ∙ cond-false (ltb 255 (length text)) (Some 5) (fault_of_word false) (le-ltb 255 (length text) (short refl)); open_lists = refl; has_closed = refl }, nested_run n k (kinds_of words) (kind_of_run_is text k e) h)

words_pass : (start n : ℕ) (parts : List Part) (words : List Word) → AreGapsAndWords start parts words → AreNested n (kinds_of words) → first_fault start n false parts ≡ None
words_pass start n [] words h nest =
    let none : n ≡ 0 = subst (λ ws. AreNested n (kinds_of ws)) h nest in
    ap (fault_of_end start) none
words_pass start n (part ∷ parts) [] h nest =
    let p = gap_passes n false (form part) (bytes part) h.0 in
    passes start n n false false (form part) (bytes part) parts p.sound p.open_lists p.has_closed (words_pass (start + size part) n parts [] h.1 nest)
words_pass start n (part ∷ parts) (word ∷ words) (inl h) nest =
    let p = gap_passes n false (form part) (bytes part) h.0 in
    passes start n n false false (form part) (bytes part) parts p.sound p.open_lists p.has_closed (words_pass (start + size part) n parts (word ∷ words) h.1 nest)
words_pass start n (part ∷ parts) (word ∷ words) (inr h) nest =
    by_word (word_passes n (form part) (bytes part) word.kind words h.0.kind h.0.short nest) (λ m inner. words_pass (start + size part) m parts words h.1 inner)
  where
    by_word : WordPasses n (form part) (bytes part) words → ((m : ℕ) → AreNested m (kinds_of words) → first_fault (start + size part) m false parts ≡ None) → first_fault start n false (part ∷ parts) ≡ None
    by_word (inl (m, p, inner)) rest = passes start n m false false (form part) (bytes part) parts p.sound p.open_lists p.has_closed (rest m inner)
    by_word (inr (p, none)) rest = passes start n 0 false true (form part) (bytes part) parts p.sound p.open_lists p.has_closed (gaps_pass (start + size part) parts (subst (AreGapsAndWords (start + size part) parts) none h.1))

-- a text that reads as words has no fault that the scanner would find
pub read_has_no_fault : (text : List ℕ) (words : List Word) → ReadsAs text words → first_fault 0 0 false (cut text) ≡ None
read_has_no_fault text words h =
    ap (first_fault 0 0 false) (sym (cut_unique text h.parts h.cut)) ∙ words_pass 0 0 h.parts words h.in_turn h.nested
