-- The first fault that the scanner finds is a fault of the text, and none comes before it.
use Rattle.std.proofs.Common.{◌≡◌, ℕ, ◌+◌, ◌<◌, ◌≤◌, ◌⊎◌, Bool, true, false, List, [], ◌∷◌, ◌++◌, length, Option, Some, None, sym, refl, ap, ◌∙◌, subst, eqb, ltb, inl, inr, ⊎_elim, append_assoc, arith}
use Rattle.std.specs.List.{fold}
use Rattle.std.proofs.lemmas.Bool.{cases_eq, eq-eqb, ne_eqb, lt-ltb, le-ltb, cases_lt, or_cases, or_right, false≢true, cond-true, cond-false, eqb-true}
use Rattle.std.proofs.lemmas.List.Sums.{sum_by-cons, sum_by_push, fold_push}
use Rattle.std.proofs.lemmas.List.{append-nil, length-append}
use Rattle.model.specs.Fault as reported
use Rattle.model.specs.Words.{Form, blank, comment, opening, closing, run, stray, Part, form, bytes, size, kind_by, kind_of_run, open_with, open_after, size_of_all, HasClosedAList, IsWord, AreParts, IsAtFault, bad_byte, bad_word, unbalanced, too_deep, too_long, trailing, IsFault, at_part, open_at_end, ComesNoLater, IsReported, comes_first, longest_text}
use Rattle.tokens.specs.Scanner.{fault_by, fault_of_run, fault_of_word, fault_at, closed_with}
use Rattle.tokens.proofs.Cut.{cut, cut_unique, cut_parts}
use Rattle.tokens.proofs.Reading.{or_else, first_fault, closed_stays}

-- a faulty part, given the number of open lists before it and whether the first list is closed
pub data AtFault (n : ℕ) (c : Bool) (f : Form) (text : List ℕ) : ℕ → Type 0 where
  byte' : f ≡ stray → AtFault n c f text 1
  word' : f ≡ run → kind_by f text ≡ None → AtFault n c f text 2
  closing' : f ≡ closing → n ≡ 0 → AtFault n c f text 3
  opening' : f ≡ opening → n ≡ 64 → AtFault n c f text 4
  long' : f ≡ run → 255 < length text → AtFault n c f text 5
  trailing' : IsWord f → c ≡ true → AtFault n c f text 6

-- some number up to a bound is reported
abbrev Reported : Option ℕ → ℕ → Type 0
Reported o code = (k : ℕ) × (o ≡ Some k) × (k ≤ code)

run_reported : (c : Bool) (text : List ℕ) (code : ℕ) → 2 ≤ code → 255 < length text → 5 ≤ code → Reported (fault_by 0 c run text) code
run_reported c text code two long five = by_kind (kind_of_run text)
  where
    by_kind : (k : Option _) → Reported (fault_of_run c k (length text)) code
    by_kind None = (2, refl, two)
    by_kind (Some k) = (5, cond-true (ltb 255 (length text)) (Some 5) (fault_of_word c) (lt-ltb 255 (length text) long), five)

word_reported : (n : ℕ) (c : Bool) (f : Form) (text : List ℕ) → IsWord f → c ≡ true → Reported (fault_by n c f text) 6
word_reported n c opening text w e = ⊎_elim
    (λ (h : n ≡ 64). (4, cond-true (eqb n 64) (Some 4) (fault_of_word c) (eq-eqb n 64 h), omega arith))
    (λ h. (6, cond-false (eqb n 64) (Some 4) (fault_of_word c) (ne_eqb n 64 h) ∙ ap fault_of_word e, omega arith)) (cases_eq n 64)
word_reported n c closing text w e = ⊎_elim
    (λ (h : n ≡ 0). (3, cond-true (eqb n 0) (Some 3) (fault_of_word c) (eq-eqb n 0 h), omega arith))
    (λ h. (6, cond-false (eqb n 0) (Some 3) (fault_of_word c) (ne_eqb n 0 h) ∙ ap fault_of_word e, omega arith)) (cases_eq n 0)
word_reported n c run text w e = by_kind (kind_of_run text)
  where
    by_kind : (k : Option _) → Reported (fault_of_run c k (length text)) 6
    by_kind None = (2, refl, omega arith)
    by_kind (Some k) = ⊎_elim
        (λ (h : 255 < length text). (5, cond-true (ltb 255 (length text)) (Some 5) (fault_of_word c) (lt-ltb 255 (length text) h), omega arith))
        (λ (h : length text ≤ 255). (6, cond-false (ltb 255 (length text)) (Some 5) (fault_of_word c) (le-ltb 255 (length text) h) ∙ ap fault_of_word e, omega arith)) (cases_lt 255 (length text))
word_reported n c blank text w e = absurd w
word_reported n c comment text w e = absurd w
word_reported n c stray text w e = absurd w

-- the number that is reported for a part is its lowest
least : (n : ℕ) (c : Bool) (f : Form) (text : List ℕ) (code : ℕ) → AtFault n c f text code → Reported (fault_by n c f text) code
least n c f text code (byte' e) = subst (λ g. Reported (fault_by n c g text) 1) (sym e) (1, refl, omega arith)
least n c f text code (word' e h) =
    let h' = subst (λ g. kind_by g text ≡ None) e h in
    subst (λ g. Reported (fault_by n c g text) 2) (sym e) (2, ap (λ k. fault_of_run c k (length text)) h', omega arith)
least n c f text code (closing' e z) =
    subst (λ g. Reported (fault_by n c g text) 3) (sym e) (3, cond-true (eqb n 0) (Some 3) (fault_of_word c) (eq-eqb n 0 z), omega arith)
least n c f text code (opening' e z) =
    subst (λ g. Reported (fault_by n c g text) 4) (sym e) (4, cond-true (eqb n 64) (Some 4) (fault_of_word c) (eq-eqb n 64 z), omega arith)
least n c f text code (long' e l) =
    subst (λ g. Reported (fault_by n c g text) 5) (sym e) (run_reported c text 5 (omega arith) l (omega arith))
least n c f text code (trailing' w e) = word_reported n c f text w e

same_number : {k code : ℕ} (n : ℕ) (c : Bool) (f : Form) (text : List ℕ) → AtFault n c f text k → Some k ≡ Some code → AtFault n c f text code
same_number {k} {code} n c f text fault e = let same : k ≡ code = cc in subst (AtFault n c f text) same fault

word_number : (n : ℕ) (c : Bool) (f : Form) (text : List ℕ) (code : ℕ) → IsWord f → fault_of_word c ≡ Some code → AtFault n c f text code
word_number n true f text code w e = same_number n true f text (trailing' w refl) e
word_number n false f text code w e = absurd (cc)

-- the number reported for a part is that of one of its faults
reported_fault : (n : ℕ) (c : Bool) (f : Form) (text : List ℕ) (code : ℕ) → fault_by n c f text ≡ Some code → AtFault n c f text code
reported_fault n c blank text code e = absurd (cc)
reported_fault n c comment text code e = absurd (cc)
reported_fault n c stray text code e = same_number n c stray text (byte' refl) e
reported_fault n c opening text code e = ⊎_elim
    (λ (h : n ≡ 64). same_number n c opening text (opening' refl h) (sym (cond-true (eqb n 64) (Some 4) (fault_of_word c) (eq-eqb n 64 h)) ∙ e))
    (λ h. word_number n c opening text code tt (sym (cond-false (eqb n 64) (Some 4) (fault_of_word c) (ne_eqb n 64 h)) ∙ e)) (cases_eq n 64)
reported_fault n c closing text code e = ⊎_elim
    (λ (h : n ≡ 0). same_number n c closing text (closing' refl h) (sym (cond-true (eqb n 0) (Some 3) (fault_of_word c) (eq-eqb n 0 h)) ∙ e))
    (λ h. word_number n c closing text code tt (sym (cond-false (eqb n 0) (Some 3) (fault_of_word c) (ne_eqb n 0 h)) ∙ e)) (cases_eq n 0)
reported_fault n c run text code e = by_kind (kind_of_run text) refl e
  where
    by_kind : (k : Option _) → kind_of_run text ≡ k → fault_of_run c k (length text) ≡ Some code → AtFault n c run text code
    by_kind None h g = same_number n c run text (word' refl h) g
    by_kind (Some k) h g = ⊎_elim
        (λ (l : 255 < length text). same_number n c run text (long' refl l) (sym (cond-true (ltb 255 (length text)) (Some 5) (fault_of_word c) (lt-ltb 255 (length text) l)) ∙ g))
        (λ (l : length text ≤ 255). word_number n c run text code tt (sym (cond-false (ltb 255 (length text)) (Some 5) (fault_of_word c) (le-ltb 255 (length text) l)) ∙ g)) (cases_lt 255 (length text))

-- a fault of the parts from `start` on
abbrev pub HereAt : ℕ → ℕ → Bool → Form → List ℕ → reported.Fault → Type 0
HereAt start n c f text fault = AtFault n c f text fault.code × (fault.span.start ≡ start) × (fault.span.end ≡ start + length text)

abbrev pub FaultIn : ℕ → ℕ → Bool → List Part → reported.Fault → Type 0
FaultIn start n c [] fault = (0 < n) × (fault.code ≡ 3) × (fault.span.start ≡ start) × (fault.span.end ≡ start)
FaultIn start n c (part ∷ parts) fault =
    HereAt start n c (form part) (bytes part) fault
    ⊎ FaultIn (start + size part) (open_with n (form part)) (closed_with n c (form part)) parts fault

pub later : (start n : ℕ) (c : Bool) (parts : List Part) (fault : reported.Fault) → FaultIn start n c parts fault → start ≤ fault.span.start
later start n c [] fault h = omega arith
later start n c (part ∷ parts) fault (inl h) = omega arith
later start n c (part ∷ parts) fault (inr h) = omega (arith, later (start + size part) (open_with n (form part)) (closed_with n c (form part)) parts fault h)

-- where the scanner finds no fault there is none
pub none_found : (start n : ℕ) (c : Bool) (parts : List Part) (fault : reported.Fault) → first_fault start n c parts ≡ None → FaultIn start n c parts fault → ⊥
none_found start n c [] fault none h =
    let e = cond-true (ltb 0 n) (Some (let g : reported.Fault = record { code = 3; span = record { start = start; end = start } } in g)) None (lt-ltb 0 n h.0) in
    cc
none_found start n c (part ∷ parts) fault none h = by_number (fault_by n c (form part) (bytes part)) refl none h (none_found (start + size part) (open_with n (form part)) (closed_with n c (form part)) parts fault)
  where
    rest : Option reported.Fault
    rest = first_fault (start + size part) (open_with n (form part)) (closed_with n c (form part)) parts

    by_number : (o : Option ℕ) → fault_by n c (form part) (bytes part) ≡ o → or_else (fault_at start (size part) o) rest ≡ None → FaultIn start n c (part ∷ parts) fault → (rest ≡ None → FaultIn (start + size part) (open_with n (form part)) (closed_with n c (form part)) parts fault → ⊥) → ⊥
    by_number (Some k) e none h inner = cc
    by_number None e none (inr h) inner = inner none h
    by_number None e none (inl h) inner =
        let t = least n c (form part) (bytes part) fault.code h.0 in
        let impossible : None ≡ Some t.0 = sym e ∙ t.1 in
        cc

-- what the scanner finds is a fault
pub found : (start n : ℕ) (c : Bool) (parts : List Part) (fault : reported.Fault) → first_fault start n c parts ≡ Some fault → FaultIn start n c parts fault
found start n c [] fault is = ⊎_elim
    (λ (h : 0 < n).
    let g : reported.Fault = record { code = 3; span = record { start = start; end = start } } in
    let same : Some g ≡ Some fault = sym (cond-true (ltb 0 n) (Some g) None (lt-ltb 0 n h)) ∙ is in
    let e : g ≡ fault = cc in
    (h, sym (ap (λ (x : reported.Fault). x.code) e), sym (ap (λ (x : reported.Fault). x.span.start) e), sym (ap (λ (x : reported.Fault). x.span.end) e)))
    (λ (h : n ≤ 0).
    let g : reported.Fault = record { code = 3; span = record { start = start; end = start } } in
    let impossible : None ≡ Some fault = sym (cond-false (ltb 0 n) (Some g) None (le-ltb 0 n h)) ∙ is in
    absurd (cc)) (cases_lt 0 n)
found start n c (part ∷ parts) fault is = by_number (fault_by n c (form part) (bytes part)) refl is (found (start + size part) (open_with n (form part)) (closed_with n c (form part)) parts fault)
  where
    rest : Option reported.Fault
    rest = first_fault (start + size part) (open_with n (form part)) (closed_with n c (form part)) parts

    by_number : (o : Option ℕ) → fault_by n c (form part) (bytes part) ≡ o → or_else (fault_at start (size part) o) rest ≡ Some fault → (rest ≡ Some fault → FaultIn (start + size part) (open_with n (form part)) (closed_with n c (form part)) parts fault) → FaultIn start n c (part ∷ parts) fault
    by_number None e is inner = inr (inner is)
    by_number (Some k) e is inner =
        let g : reported.Fault = record { code = k; span = record { start = start; end = start + size part } } in
        let same : g ≡ fault = cc in
        subst (λ (x : reported.Fault). FaultIn start n c (part ∷ parts) x) same (inl (reported_fault n c (form part) (bytes part) k e, refl, refl))

-- and no fault comes before it
pub found_first : (start n : ℕ) (c : Bool) (parts : List Part) (fault other : reported.Fault) → first_fault start n c parts ≡ Some fault → FaultIn start n c parts other → ComesNoLater fault other
found_first start n c [] fault other is h =
    let mine = found start n c [] fault is in
    inr (mine.2 ∙ sym h.2, omega (arith, mine.1, h.1))
found_first start n c (part ∷ parts) fault other is h = by_number (fault_by n c (form part) (bytes part)) refl is h (found_first (start + size part) (open_with n (form part)) (closed_with n c (form part)) parts fault other)
  where
    rest : Option reported.Fault
    rest = first_fault (start + size part) (open_with n (form part)) (closed_with n c (form part)) parts

    by_number : (o : Option ℕ) → fault_by n c (form part) (bytes part) ≡ o → or_else (fault_at start (size part) o) rest ≡ Some fault → FaultIn start n c (part ∷ parts) other → (rest ≡ Some fault → FaultIn (start + size part) (open_with n (form part)) (closed_with n c (form part)) parts other → ComesNoLater fault other) → ComesNoLater fault other
    by_number None e is (inr h) inner = inner is h
    by_number None e is (inl h) inner =
        let t = least n c (form part) (bytes part) other.code h.0 in
        let impossible : None ≡ Some t.0 = sym e ∙ t.1 in
        absurd (cc)
    by_number (Some k) e is (inl h) inner =
        let g : reported.Fault = record { code = k; span = record { start = start; end = start + size part } } in
        let same : g ≡ fault = cc in
        let t = least n c (form part) (bytes part) other.code h.0 in
        let number : k ≡ t.0 = (let both : Some k ≡ Some t.0 = sym e ∙ t.1 in cc) in
        subst (λ (x : reported.Fault). ComesNoLater x other) same (inr (sym h.1, omega (arith, t.2)))
    by_number (Some k) e is (inr h) inner =
        let g : reported.Fault = record { code = k; span = record { start = start; end = start + size part } } in
        let same : g ≡ fault = cc in
        let after = later (start + size part) (open_with n (form part)) (closed_with n c (form part)) parts other h in
        subst (λ (x : reported.Fault). ComesNoLater x other) same (inl (omega (arith, after)))

-- the number of open lists after these parts, and whether the first list is closed
abbrev open_from : ℕ → List Part → ℕ
open_from n parts = fold (λ k (part : Part). open_with k (form part)) n parts

abbrev closed_from : ℕ → Bool → List Part → Bool
closed_from n c [] = c
closed_from n c (part ∷ parts) = closed_from (open_with n (form part)) (closed_with n c (form part)) parts

closed_from-append : (n : ℕ) (c : Bool) (a b : List Part) → closed_from n c (a ++ b) ≡ closed_from (open_from n a) (closed_from n c a) b
closed_from-append n c [] b = refl
closed_from-append n c (part ∷ a) b = closed_from-append (open_with n (form part)) (closed_with n c (form part)) a b

stays_closed : (n : ℕ) (parts : List Part) → closed_from n true parts ≡ true
stays_closed n [] = refl
stays_closed n (part ∷ parts) = ap (λ c. closed_from (open_with n (form part)) c parts) (closed_stays n (form part)) ∙ stays_closed (open_with n (form part)) parts

closes_first : (n : ℕ) (c : Bool) (f : Form) → f ≡ closing → n ≡ 1 → closed_with n c f ≡ true
closes_first n c f e one = ap (closed_with n c) e ∙ or_right c (eqb n 1) (eq-eqb n 1 one)

closed_by_part : (parts : List Part) → HasClosedAList parts → closed_from 0 false parts ≡ true
closed_by_part parts (before, after, part, e, is_closing, one) =
    ap (closed_from 0 false) e ∙ closed_from-append 0 false before (part ∷ after)
    ∙ ap (λ c. closed_from (open_with (open_from 0 before) (form part)) c after) (closes_first (open_from 0 before) (closed_from 0 false before) (form part) is_closing one)
    ∙ stays_closed (open_with (open_from 0 before) (form part)) after

by_state : (before : List Part) (part : Part) (code : ℕ) → IsAtFault before part code → AtFault (open_from 0 before) (closed_from 0 false before) (form part) (bytes part) code
by_state before part code (bad_byte e) = byte' e
by_state before part code (bad_word e h) = word' e h
by_state before part code (unbalanced e h) = closing' e h
by_state before part code (too_deep e h) = opening' e h
by_state before part code (too_long e h) = long' e h
by_state before part code (trailing w h) = trailing' w (closed_by_part before h)

into : (start n : ℕ) (c : Bool) (before after : List Part) (part : Part) (fault : reported.Fault) → HereAt (start + size_of_all before) (open_from n before) (closed_from n c before) (form part) (bytes part) fault → FaultIn start n c (before ++ part ∷ after) fault
into start n c [] after part fault h = inl (h.0, h.1 ∙ (let e : start + 0 ≡ start = omega arith in e), h.2 ∙ (let e : start + 0 + size part ≡ start + size part = omega arith in e))
into start n c (head ∷ before) after part fault h =
    let sum = sum_by-cons size head before in
    inr (into (start + size head) (open_with n (form head)) (closed_with n c (form head)) before after part fault (h.0, omega (arith, h.1, sum), omega (arith, h.2, sum)))

into_end : (start n : ℕ) (c : Bool) (parts : List Part) (fault : reported.Fault) → 0 < open_from n parts → fault.code ≡ 3 → fault.span.start ≡ start + size_of_all parts → fault.span.end ≡ start + size_of_all parts → FaultIn start n c parts fault
into_end start n c [] fault h code s e = (h, code, omega (arith, s), omega (arith, e))
into_end start n c (part ∷ parts) fault h code s e =
    let sum = sum_by-cons size part parts in
    inr (into_end (start + size part) (open_with n (form part)) (closed_with n c (form part)) parts fault h code (omega (arith, s, sum)) (omega (arith, e, sum)))

pub size_is : (text : List ℕ) (parts : List Part) → AreParts text parts → size_of_all parts ≡ length text
size_is text [] h = sym (ap length h)
size_is text (part ∷ parts) (rest, e, _, _, more) =
    let sum = sum_by-cons size part parts in
    let inner = size_is rest parts more in
    let whole = ap length e in
    let joined = length-append (bytes part) rest in
    omega (arith, sum, inner, whole, joined)

-- the scanner meets each fault of the text
pub fault_met : (text : List ℕ) (fault : reported.Fault) → IsFault text fault → FaultIn 0 0 false (cut text) fault
fault_met text fault (at_part before after part parts wrong start end) =
    subst (λ ps. FaultIn 0 0 false ps fault) (cut_unique text (before ++ part ∷ after) parts)
    (into 0 0 false before after part fault (by_state before part fault.code wrong, omega (arith, start), omega (arith, end)))
fault_met text fault (open_at_end parts are left code start end) =
    let sizes = size_is text parts are in
    subst (λ ps. FaultIn 0 0 false ps fault) (cut_unique text parts are)
    (into_end 0 0 false parts fault left code (omega (arith, start, sizes)) (omega (arith, end, sizes)))

-- the context of a part, as the scanner knows it
record IsListedAs (before : List Part) (start n : ℕ) (c : Bool) : Type 0 where
  at_start : start ≡ size_of_all before
  open_lists : n ≡ open_after before
  has_closed : c ≡ true → HasClosedAList before

closed_so_far : (before : List Part) (part : Part) (n : ℕ) (c : Bool) → n ≡ open_after before → (c ≡ true → HasClosedAList before) → closed_with n c (form part) ≡ true → HasClosedAList (before ++ part ∷ [])
closed_so_far before part n c open_is closed h = by_form (form part) refl h
  where
    same : c ≡ true → HasClosedAList (before ++ part ∷ [])
    same e =
        let known = closed e in
        (known.0, known.1 ++ part ∷ [], known.2, ap (λ ps. ps ++ part ∷ []) known.3 ∙ append_assoc known.0 (known.2 ∷ known.1) (part ∷ []), known.4, known.5)

    by_form : (f : Form) → form part ≡ f → closed_with n c f ≡ true → HasClosedAList (before ++ part ∷ [])
    by_form blank e h = same h
    by_form comment e h = same h
    by_form opening e h = same h
    by_form closing e h = ⊎_elim same (λ one. (before, [], part, refl, e, sym open_is ∙ eqb-true n 1 one)) (or_cases c (eqb n 1) h)
    by_form run e h = same h
    by_form stray e h = same h

next : (before : List Part) (part : Part) (start n : ℕ) (c : Bool) → IsListedAs before start n c → IsListedAs (before ++ part ∷ []) (start + size part) (open_with n (form part)) (closed_with n c (form part))
next before part start n c s = record {
  at_start = ap (λ k. k + size part) s.at_start ∙ sym (sum_by_push size before part);
  open_lists = ap (λ k. open_with k (form part)) s.open_lists ∙ sym (fold_push (λ k (p : Part). open_with k (form p)) 0 before part);
  has_closed = closed_so_far before part n c s.open_lists s.has_closed;
}

by_parts : (before : List Part) (part : Part) (start n : ℕ) (c : Bool) (code : ℕ) → IsListedAs before start n c → AtFault n c (form part) (bytes part) code → IsAtFault before part code
by_parts before part start n c code s (byte' e) = bad_byte e
by_parts before part start n c code s (word' e h) = bad_word e h
by_parts before part start n c code s (closing' e h) = unbalanced e (sym s.open_lists ∙ h)
by_parts before part start n c code s (opening' e h) = too_deep e (sym s.open_lists ∙ h)
by_parts before part start n c code s (long' e h) = too_long e h
by_parts before part start n c code s (trailing' w h) = trailing w (s.has_closed h)

out_of : (text : List ℕ) (before parts : List Part) (start n : ℕ) (c : Bool) (fault : reported.Fault) → AreParts text (before ++ parts) → IsListedAs before start n c → FaultIn start n c parts fault → IsFault text fault
out_of text before [] start n c fault are s h =
    let whole : AreParts text before = subst (AreParts text) (append-nil before) are in
    let sizes = size_is text before whole in
    open_at_end before whole (let left : 0 < open_after before = omega (arith, h.0, s.open_lists) in left) h.1 (omega (arith, h.2, s.at_start, sizes)) (omega (arith, h.3, s.at_start, sizes))
out_of text before (part ∷ parts) start n c fault are s (inl h) =
    at_part before parts part are (by_parts before part start n c fault.code s h.0) (h.1 ∙ s.at_start) (h.2 ∙ ap (λ k. k + size part) s.at_start)
out_of text before (part ∷ parts) start n c fault are s (inr h) =
    out_of text (before ++ part ∷ []) parts (start + size part) (open_with n (form part)) (closed_with n c (form part)) fault
    (subst (AreParts text) (sym (append_assoc before (part ∷ []) parts)) are) (next before part start n c s) h

-- each fault that the scanner meets is a fault of the text
pub met_fault : (text : List ℕ) (fault : reported.Fault) → FaultIn 0 0 false (cut text) fault → IsFault text fault
met_fault text fault h = out_of text [] (cut text) 0 0 false fault (cut_parts text) (record { at_start = refl; open_lists = refl; has_closed = λ e. absurd (false≢true e) }) h

-- the scanner's first fault is the one reported for the text
pub first_is_reported : (text : List ℕ) (fault : reported.Fault) → length text ≤ longest_text → first_fault 0 0 false (cut text) ≡ Some fault → IsReported text fault
first_is_reported text fault short is =
    comes_first short (met_fault text fault (found 0 0 false (cut text) fault is))
    (λ other h. found_first 0 0 false (cut text) fault other is (fault_met text other h))
