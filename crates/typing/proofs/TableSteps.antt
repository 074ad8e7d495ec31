-- A table filled along a list in which no name is declared twice.
use Rattle.std.proofs.Common.{◌≤◌, ◌≡◌, ℕ, ◌+◌, Bool, true, false, List, [], ◌∷◌, ◌++◌, map, fold, length, refl, ap, sym, ◌∙◌, if◌then◌else◌, drop, get_or, ◌<◌}
use Rattle.std.specs.Global.{Vec}
use Rattle.std.proofs.lemmas.List.{append_assoc, append-nil, drop_more, drop_all, map-append}
use Rattle.model.specs.Task as task
use Rattle.model.specs.Trees as tree
use Rattle.model.specs.Typing.{Placed, folded, is_known, with_name, repeated_after}
use Rattle.typing.specs.Scope.{keys_in, IsAdded}
use Rattle.typing.proofs.Found.{got_twice}

-- a name that is not declared again: it is new, and so are those after it
pub not_again : (before : List task.Name) (w : Placed) (rest : List Placed) → repeated_after before (w ∷ rest) ≡ []
    → (is_known before w.word ≡ false) × (repeated_after (with_name before w.word) rest ≡ [])
not_again before w rest e = by (is_known before w.word) e
  where
    by : (b : Bool) → (if b then w ∷ [] else []) ++ repeated_after (with_name before w.word) rest ≡ [] → (b ≡ false) × (repeated_after (with_name before w.word) rest ≡ [])
    by true f = absurd (cc)
    by false f = (refl, f)

-- one step of filling a table along a list
pub table_step : {X V S : Type 0} (placed_as : X → Placed) (made : X → S) (shown : Vec ℕ × V → S) (xs : List X) (i : ℕ) (x : X) → i < length xs → x ≡ get_or xs i x
    → (old new : List (Vec ℕ × V)) (value : V) (whole : List S) → ((key : Vec ℕ) → key.items ≡ folded (placed_as x).word → shown (key, value) ≡ made x)
    → keys_in new ≡ with_name (keys_in old) (placed_as x).word
    → (is_known (keys_in old) (placed_as x).word ≡ false → IsAdded old new (placed_as x).word value)
    → (repeated_after (keys_in old) (map placed_as (drop i xs)) ≡ []) × (map shown old ++ map made (drop i xs) ≡ whole)
    → (repeated_after (keys_in new) (map placed_as (drop (i + 1) xs)) ≡ []) × (map shown new ++ map made (drop (i + 1) xs) ≡ whole)
table_step placed_as made shown xs i x l is old new value whole shows names added h =
    let rest = drop (i + 1) xs in
    let split : drop i xs ≡ x ∷ rest = drop_more xs i x l ∙ ap (λ y. y ∷ rest) (sym is) in
    let again = not_again (keys_in old) (placed_as x) (map placed_as rest) (ap (λ ys. repeated_after (keys_in old) (map placed_as ys)) (sym split) ∙ h.0) in
    let one = added again.0 in (
      ap (λ ks. repeated_after ks (map placed_as rest)) names ∙ again.1,
      ap (λ es. map shown es ++ map made rest) one.2 ∙ ap (λ ss. ss ++ map made rest) (map-append shown old ((one.0, value) ∷ []))
          ∙ ap (λ s. (map shown old ++ s ∷ []) ++ map made rest) (shows one.0 one.1) ∙ append_assoc (map shown old) (made x ∷ []) (map made rest)
          ∙ ap (λ ys. map shown old ++ map made ys) (sym split) ∙ h.1,
    )

pub table_step_at : {X V S : Type 0} (placed_as : X → Placed) (made : X → S) (shown : Vec ℕ × V → S) (xs : List X) (i : ℕ) (d : X) → i < length xs
    → (old new : List (Vec ℕ × V)) (value : V) (whole : List S) → ((key : Vec ℕ) → key.items ≡ folded (placed_as (get_or xs i d)).word → shown (key, value) ≡ made (get_or xs i d))
    → keys_in new ≡ with_name (keys_in old) (placed_as (get_or xs i d)).word
    → (is_known (keys_in old) (placed_as (get_or xs i d)).word ≡ false → IsAdded old new (placed_as (get_or xs i d)).word value)
    → (repeated_after (keys_in old) (map placed_as (drop i xs)) ≡ []) × (map shown old ++ map made (drop i xs) ≡ whole)
    → (repeated_after (keys_in new) (map placed_as (drop (i + 1) xs)) ≡ []) × (map shown new ++ map made (drop (i + 1) xs) ≡ whole)
table_step_at placed_as made shown xs i d l = table_step placed_as made shown xs i (get_or xs i d) l (got_twice xs i d l)

-- the names of the table, whether or not some are declared twice
pub names_step : {X : Type 0} (label : X → tree.Name) (xs : List X) (i : ℕ) (x : X) → i < length xs → x ≡ get_or xs i x
    → (old new whole : List task.Name) → new ≡ with_name old (label x)
    → fold with_name old (map label (drop i xs)) ≡ whole → fold with_name new (map label (drop (i + 1) xs)) ≡ whole
names_step label xs i x l is old new whole adds h =
    let split : drop i xs ≡ x ∷ drop (i + 1) xs = drop_more xs i x l ∙ ap (λ y. y ∷ drop (i + 1) xs) (sym is) in
    ap (λ ns. fold with_name ns (map label (drop (i + 1) xs))) adds ∙ ap (λ ys. fold with_name old (map label ys)) (sym split) ∙ h

pub names_end : {X : Type 0} (label : X → tree.Name) (xs : List X) (i : ℕ) → length xs ≤ i → (names whole : List task.Name)
    → fold with_name names (map label (drop i xs)) ≡ whole → names ≡ whole
names_end label xs i l names whole h = sym (ap (λ ys. fold with_name names (map label ys)) (drop_all i xs l)) ∙ h

-- the whole table
pub table_end : {X S : Type 0} (made : X → S) (xs : List X) (i : ℕ) → length xs ≤ i → (shown whole : List S) → shown ++ map made (drop i xs) ≡ whole → shown ≡ whole
table_end made xs i l shown whole h = sym (append-nil shown) ∙ ap (λ ys. shown ++ map made ys) (sym (drop_all i xs l)) ∙ h
