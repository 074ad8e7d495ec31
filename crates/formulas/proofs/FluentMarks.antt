-- Tables of numbers, mark by mark, and those of the fluent predicates.
use Rattle.std.proofs.Common.{◌≡◌, ℕ, zero, suc, ◌+◌, ◌<◌, ◌≤◌, Bool, true, false, ◌||◌, List, [], ◌∷◌, ◌++◌, length, map, take, drop, get_or, Some, refl, sym, ap, ◌∙◌}
use Rattle.std.specs.Prelude.{slice_get}
use Rattle.std.specs.List.{list_any}
use Rattle.std.proofs.lemmas.List.{take_all, drop_all}
use Rattle.std.proofs.lemmas.List.Folds.{list_any_more}
use Rattle.model.specs.Task.{Schema, Task}
use Rattle.model.specs.Fluents.{touches, is_fluent}
use Rattle.model.proofs.ListLemmas.{drop-here}
use Rattle.model.proofs.StaticLemmas.{or_false}
use Rattle.formulas.specs.Marks.{IsTableOf, Marks, is_marked}
use Rattle.formulas.proofs.FluentTests.{schema_touches}
use Rattle.formulas.proofs.Trees.{list_any_map}

or_assoc : (a b c : Bool) → ((a || b) || c) ≡ (a || (b || c))
or_assoc true b c = refl
or_assoc false b c = refl

-- the table with one more number, unmarked
pub longer : (table : List Bool) (predicate : ℕ) → is_marked (table ++ false ∷ []) predicate ≡ is_marked table predicate
longer [] zero = refl
longer [] (suc predicate) = refl
longer (x ∷ xs) zero = refl
longer (x ∷ xs) (suc predicate) = longer xs predicate

-- ---- the predicates of several parts

pub marks_none : (table : List Bool) → Marks (λ _. false) table table
marks_none table n = sym (or_false (is_marked table n))

module _ {X : Type 0} (touched : ℕ → X → Bool) (xs : List X) (i : ℕ) (old : List Bool) where
  pub marks_more : (x : X) (now new : List Bool) → i < length xs → x ≡ get_or xs i x
      → Marks (λ n. list_any (touched n) (take i xs)) old now → Marks (λ n. touched n x) now new → Marks (λ n. list_any (touched n) (take (i + 1) xs)) old new
  marks_more x now new within at before here n =
      here n ∙ ap (λ b. b || touched n x) (before n) ∙ or_assoc (is_marked old n) (list_any (touched n) (take i xs)) (touched n x)
      ∙ ap (λ b. is_marked old n || b) (ap (λ y. list_any (touched n) (take i xs) || touched n y) at ∙ sym (list_any_more (touched n) xs i x within))

  pub marks_all : (new : List Bool) → length xs ≤ i → Marks (λ n. list_any (touched n) (take i xs)) old new → Marks (λ n. list_any (touched n) xs) old new
  marks_all new past before n = before n ∙ ap (λ l. is_marked old n || list_any (touched n) l) (take_all i xs past)

pub marks_by : (comes other : ℕ → Bool) (old new : List Bool) → ((n : ℕ) → comes n ≡ other n) → Marks comes old new → Marks other old new
marks_by comes other old new same marks n = marks n ∙ ap (λ b. is_marked old n || b) (same n)

-- the marks of one more element
pub marks_next : {X : Type 0} (test : ℕ → X → Bool) (xs : List X) (i : ℕ) (one : X) (old now new : List Bool) → i < length xs
    → Marks (λ n. list_any (test n) (take i xs)) old now → Marks (λ n. test n (get_or xs i one)) now new → Marks (λ n. list_any (test n) (take (i + 1) xs)) old new
marks_next test xs i one old now new within before here n =
    here n ∙ ap (λ b. b || test n (get_or xs i one)) (before n) ∙ or_assoc (is_marked old n) (list_any (test n) (take i xs)) (test n (get_or xs i one))
    ∙ ap (λ b. is_marked old n || b) (sym (list_any_more (test n) xs i one within))

-- the marks of all elements are the table
pub table_of : {X Y : Type 0} (test : ℕ → Y → Bool) (view : X → Y) (xs : List X) (table : List Bool)
    → Marks (λ n. list_any (λ x. test n (view x)) xs) [] table → IsTableOf test (map view xs) table
table_of test view xs table marks n = marks n ∙ sym (list_any_map (test n) view xs)

-- ---- the schemas, one after another

-- the predicates that the schemas from this number on touch are added to the table, and then it is complete
abbrev pub Lacks : Task → ℕ → List Bool → Type 0
Lacks t number table = (n : ℕ) → is_fluent t n ≡ (is_marked table n || list_any (schema_touches n) (drop number t.schemas))

pub lacks_fewer : (t : Task) (number : ℕ) (s : Schema) (old new : List Bool) → slice_get t.schemas number ≡ Some s → Lacks t number old
    → Marks (λ n. touches n s.effect) old new → Lacks t (number + 1) new
lacks_fewer t number s old new at so here n =
    so n ∙ ap (λ l. is_marked old n || list_any (schema_touches n) l) (drop-here t.schemas number s at)
    ∙ sym (or_assoc (is_marked old n) (touches n s.effect) (list_any (schema_touches n) (drop (number + 1) t.schemas)))
    ∙ ap (λ b. b || list_any (schema_touches n) (drop (number + 1) t.schemas)) (sym (here n))

pub lacks_none : (t : Task) (number : ℕ) (table : List Bool) → length t.schemas ≤ number → Lacks t number table → (n : ℕ) → is_marked table n ≡ is_fluent t n
lacks_none t number table past so n =
    sym (so n ∙ ap (λ l. is_marked table n || list_any (schema_touches n) l) (drop_all number t.schemas past) ∙ or_false (is_marked table n))
