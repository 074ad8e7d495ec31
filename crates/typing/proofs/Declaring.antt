-- Variables and types when none is declared twice and all types are known.
use Rattle.std.proofs.Common.{◌≡◌, ℕ, ◌+◌, ◌-◌, ◌<◌, ◌≤◌, nat_le, cond, ◌||◌, Bool, true, false, List, [], ◌∷◌, ◌++◌, map, fold, length, slice_index, nat_lt, refl, ap, sym, ◌∙◌, arith, zero, suc, if◌then◌else◌}
use Rattle.std.specs.List.{flat_map}
use Rattle.std.proofs.lemmas.Bool.Decides.{nat_tests}
use Rattle.std.proofs.lemmas.List.{map-append, append_assoc, append-nil}
use Rattle.std.proofs.lemmas.List.Folds.{list_any-append}
use Rattle.model.specs.Task as task
use Rattle.model.specs.Trees as tree
use Rattle.model.specs.Trees.{TaskFile}
use Rattle.model.specs.Typing.{Declared, Placed, Variable, is_known, is_same, folded, with_name, with_variable, variable_in, variables_after, known_among, one_after, one_too_many, unions_in, names_of_variables, number_in, type_in, types_from, comes_back, cycle_faults_from, unknown_faults, types_faults, type_faults, words_of, refused, refused_word, repeated, repeated_after}
use Rattle.typing.proofs.Empty.{nil_left, nil_right, not_refused, within}
use Rattle.typing.proofs.Found.{map-map}
use Rattle.typing.proofs.Lists.{list_any-position}

-- ---- variables

pub names_with_variable : (vs : List Variable) (types : List task.Name) (x : Declared) → names_of_variables (with_variable vs (variable_in types x)) ≡ with_name (names_of_variables vs) x.name
names_with_variable vs types x = by (is_known (names_of_variables vs) x.name)
  where
    by : (b : Bool) → names_of_variables (if b then vs else vs ++ variable_in types x ∷ []) ≡ (if b then names_of_variables vs else names_of_variables vs ++ folded x.name ∷ [])
    by true = refl
    by false = map-append (λ (v : Variable). v.name) vs (variable_in types x ∷ [])

kept_variables : (types : List task.Name) (vs : List Variable) (xs : List Declared) → repeated_after (names_of_variables vs) (words_of xs) ≡ []
    → fold with_variable vs (map (variable_in types) xs) ≡ vs ++ map (variable_in types) xs
kept_variables types vs [] e = sym (append-nil vs)
kept_variables types vs (x ∷ xs) e = by (is_known (names_of_variables vs) x.name) refl e (kept_variables types (with_variable vs (variable_in types x)) xs)
  where
    by : (b : Bool) → is_known (names_of_variables vs) x.name ≡ b
        → (if b then record { file = x.file; word = x.name } ∷ [] else []) ++ repeated_after (with_name (names_of_variables vs) x.name) (words_of xs) ≡ []
        → (repeated_after (names_of_variables (with_variable vs (variable_in types x))) (words_of xs) ≡ []
        → fold with_variable (with_variable vs (variable_in types x)) (map (variable_in types) xs) ≡ with_variable vs (variable_in types x) ++ map (variable_in types) xs)
        → fold with_variable (with_variable vs (variable_in types x)) (map (variable_in types) xs) ≡ vs ++ variable_in types x ∷ map (variable_in types) xs
    by true t f next = absurd (cc)
    by false t f next =
        next (ap (λ ns. repeated_after ns (words_of xs)) (names_with_variable vs types x) ∙ f)
        ∙ ap (λ (b : Bool). (if b then vs else vs ++ variable_in types x ∷ []) ++ map (variable_in types) xs) t
        ∙ append_assoc vs (variable_in types x ∷ []) (map (variable_in types) xs)

-- distinct words that are not in scope are also distinct from those in scope
repeated_apart : (scope before : List task.Name) (ws : List Placed) → repeated_after before ws ≡ [] → known_among scope ws ≡ [] → repeated_after (scope ++ before) ws ≡ []
repeated_apart scope before [] e f = refl
repeated_apart scope before (w ∷ rest) e f = by (is_known before w.word) refl (is_known scope w.word) refl e f (repeated_apart scope (with_name before w.word) rest)
  where
    by : (b : Bool) → is_known before w.word ≡ b → (s : Bool) → is_known scope w.word ≡ s
        → (if b then w ∷ [] else []) ++ repeated_after (with_name before w.word) rest ≡ []
        → cond s (w ∷ known_among scope rest) (known_among scope rest) ≡ []
        → (repeated_after (with_name before w.word) rest ≡ [] → known_among scope rest ≡ [] → repeated_after (scope ++ with_name before w.word) rest ≡ [])
        → repeated_after (scope ++ before) (w ∷ rest) ≡ []
    by true t s u e f next = absurd (cc)
    by false t true u e f next = absurd (cc)
    by false t false u e f next =
        let new : is_known (scope ++ before) w.word ≡ false = list_any-append (is_same (folded w.word)) scope before ∙ (λ i. u i || t i) in
        let names : with_name (scope ++ before) w.word ≡ scope ++ with_name before w.word =
        ap (λ b. if b then scope ++ before else (scope ++ before) ++ folded w.word ∷ []) new ∙ append_assoc scope before (folded w.word ∷ [])
        ∙ ap (λ b. scope ++ (if b then before else before ++ folded w.word ∷ [])) (sym t) in
        (λ i. (if new i then w ∷ [] else []) ++ repeated_after (names i) rest) ∙ next e f

-- the variables of a list without faults come after those in scope
pub variables_are : (types : List task.Name) (vs : List Variable) (xs : List Declared) → refused 16 (repeated (words_of xs)) ≡ [] → refused 20 (known_among (names_of_variables vs) (words_of xs)) ≡ []
    → map (λ (v : Variable). v.types) (variables_after types vs xs) ≡ map (λ (v : Variable). v.types) vs ++ unions_in types xs
variables_are types vs xs once apart =
    let names = names_of_variables vs in
    let new = ap (λ ns. repeated_after ns (words_of xs)) (sym (append-nil names))
    ∙ repeated_apart names [] (words_of xs) (not_refused 16 (repeated (words_of xs)) once) (not_refused 20 (known_among names (words_of xs)) apart) in
    ap (map (λ (v : Variable). v.types)) (kept_variables types vs xs new) ∙ map-append (λ (v : Variable). v.types) vs (map (variable_in types) xs)
    ∙ ap (λ us. map (λ (v : Variable). v.types) vs ++ us) (map-map (λ (v : Variable). v.types) (variable_in types) xs)

-- and they are within the limit
pub few_variables : (count : ℕ) (words : List Placed) → count ≤ 16 → refused 25 (one_too_many count words) ≡ [] → count + length words ≤ 16
few_variables count words low e = by (nat_le count 16) refl e
  where
    by : (b : Bool) → nat_le count 16 ≡ b → refused 25 (if b then one_after (16 - count) words else []) ≡ [] → count + length words ≤ 16
    by true t f = omega (arith, within 25 (16 - count) words f, low)
    by false t f = absurd (grind (arith, nat_tests))

-- ---- types

known_type : (file : TaskFile) (names : List task.Name) (name : tree.Name) → unknown_faults file 14 names name ≡ [] → number_in names name < length names
known_type file names name e = by (is_known names name) (list_any-position (is_same (folded name)) names) e
  where
    by : (b : Bool) → b ≡ nat_lt (number_in names name) (length names) → (if b then [] else refused_word file 14 name) ≡ [] → number_in names name < length names
    by true t f = grind (arith, nat_tests)
    by false t f = absurd (cc)

parent_low : (names : List task.Name) → 0 < length names → (x : Declared) → types_faults names x ≡ [] → type_in names x.types < length names
parent_low names l x e = by x.types e
  where
    by : (types : List tree.Name) → flat_map (unknown_faults x.file 14 names) types ≡ [] → type_in names types < length names
    by [] f = l
    by (first ∷ others) f = known_type x.file names first (nil_left (unknown_faults x.file 14 names first) (flat_map (unknown_faults x.file 14 names) others) f)

pub parents_low : (names : List task.Name) → 0 < length names → (xs : List Declared) → type_faults names xs ≡ [] → (k : ℕ) → slice_index (map (λ (x : Declared). type_in names x.types) xs) k < length names
parents_low names l [] e zero = l
parents_low names l [] e (suc k) = l
parents_low names l (x ∷ xs) e zero = parent_low names l x (nil_left (types_faults names x) (type_faults names xs) e)
parents_low names l (x ∷ xs) e (suc k) = parents_low names l xs (nil_right (types_faults names x) (type_faults names xs) e) k

pub none_comes_back : (parents : List ℕ) (start : ℕ) (xs : List Declared) → cycle_faults_from parents start xs ≡ [] → (k : ℕ) → k < length xs → comes_back parents (start + k) ≡ false
none_comes_back parents start [] e k l = absurd (omega (arith, l))
none_comes_back parents start (x ∷ xs) e zero l =
    ap (comes_back parents) (omega arith) ∙ by (comes_back parents start) (nil_left _ (cycle_faults_from parents (start + 1) xs) e)
  where
    by : (b : Bool) → (if b then refused_word x.file 15 x.name else []) ≡ [] → b ≡ false
    by true f = absurd (cc)
    by false f = refl
none_comes_back parents start (x ∷ xs) e (suc k) l =
    ap (comes_back parents) (omega arith) ∙ none_comes_back parents (start + 1) xs (nil_right _ (cycle_faults_from parents (start + 1) xs) e) k (omega (arith, l))

pub length-types : (parents : List ℕ) (start : ℕ) (names : List task.Name) → length (types_from parents start names) ≡ length names
length-types parents start [] = refl
length-types parents start (name ∷ names) = ap suc (length-types parents (start + 1) names)
