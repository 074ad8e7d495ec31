-- Look-ups in tables of names, in terms of the names.
use Rattle.std.proofs.Common.{◌==◌, ◌≤◌, arith, slice_get, ◌≡◌, ℕ, Bool, true, false, cond, List, [], ◌∷◌, ◌++◌, map, length, refl, ap, sym, ◌∙◌, Option, None, Some, if◌then◌else◌, nat_eq, is_some, unwrap_or, ◌||◌, true≢false}
use Rattle.std.proofs.lemmas.Bool.Decides.{nat_tests}
use Rattle.std.specs.Option.{option_map}
use Rattle.std.specs.Global.{Vec}
use Rattle.std.specs.Cmp.Lexicographic.{pointwise}
use Rattle.std.specs.List.{list_any, position, position_or_len}
use Rattle.std.specs.Map.{lookup, keys_of}
use Rattle.std.proofs.lemmas.List.{map-append, length-map}
use Rattle.std.proofs.lemmas.Option.{slice_get-map, slice_get_past}
use Rattle.indexmap.specs.IndexMap.{insert_entry}
use Rattle.model.specs.Task as task
use Rattle.model.specs.Trees as tree
use Rattle.model.specs.Trees.{TaskFile}
use Rattle.model.specs.Typing.{folded, is_same, is_known, number_in, with_name, names_of_predicates, refused_word, faults_against}
use Rattle.typing.specs.Scope.{names_in}
pub use Rattle.task.proofs.Tables.{key_is, keys_in-named, named_at}
use Rattle.typing.proofs.Lists.{position_or_len-map, position_or_len-le, list_any-map, position-found, position-missing}

-- the number that a look-up gives a name, and whether it is known
pub reported_of_place : (name : tree.Name) (q : List ℕ) → q ≡ folded name → (keys : List (Vec ℕ)) (count : ℕ) → count ≡ length keys
    → (place : Option ℕ) → place ≡ position (key_is q) keys
    → (unwrap_or place count ≡ number_in (names_in keys) name) × (is_some place ≡ is_known (names_in keys) name)
reported_of_place name q is keys count all (Some i) e =
    let h = position-found (key_is q) keys i e in (
      h.0 ∙ sym (position_or_len-map (is_same q) (λ key. key.items) keys) ∙ ap (λ r. position_or_len (is_same r) (names_in keys)) is,
      sym h.1 ∙ sym (list_any-map (is_same q) (λ key. key.items) keys) ∙ ap (λ r. list_any (is_same r) (names_in keys)) is,
    )
reported_of_place name q is keys count all None e =
    let h = position-missing (key_is q) keys e in (
      all ∙ h.0 ∙ sym (position_or_len-map (is_same q) (λ key. key.items) keys) ∙ ap (λ r. position_or_len (is_same r) (names_in keys)) is,
      sym h.1 ∙ sym (list_any-map (is_same q) (λ key. key.items) keys) ∙ ap (λ r. list_any (is_same r) (names_in keys)) is,
    )

pub number_in-le : (keys : List (Vec ℕ)) (name : tree.Name) → number_in (names_in keys) name ≤ length keys
number_in-le keys name = omega (arith, position_or_len-le (is_same (folded name)) (names_in keys), length-map keys (λ (k : Vec ℕ). k.items))

-- the same for a table whose entries show the names of their keys
pub reported_of_entry : {V S : Type 0} (shown : Vec ℕ × V → S) (label : S → task.Name) (named : (e : Vec ℕ × V) → label (shown e) ≡ e.0.items)
    → (name : tree.Name) (q : List ℕ) → q ≡ folded name → (entries : List (Vec ℕ × V)) (count : ℕ) → count ≡ length entries
    → (place : Option ℕ) → place ≡ position (key_is q) (keys_of entries)
    → (unwrap_or place count ≡ number_in (map label (map shown entries)) name) × (is_some place ≡ is_known (map label (map shown entries)) name)
reported_of_entry shown label named name q is entries count all place e =
    let h = reported_of_place name q is (keys_of entries) count (all ∙ sym (length-map entries (λ e. e.0))) place e in (
      h.0 ∙ ap (λ ks. number_in ks name) (keys_in-named shown label named entries),
      h.1 ∙ ap (λ ks. is_known ks name) (keys_in-named shown label named entries),
    )

-- a table of predicates, each entry with the name of its key
module _ {P : Type 0} (shown : Vec ℕ × P → task.Predicate) (named : (e : Vec ℕ × P) → (shown e).name ≡ e.0.items)
    (file : TaskFile) (name : tree.Name) (q : List ℕ) (is : q ≡ folded name) (entries : List (Vec ℕ × P)) (count : ℕ) where
  number_of_key : position_or_len (key_is q) (keys_of entries) ≡ number_in (names_of_predicates (map shown entries)) name
  number_of_key =
      sym (position_or_len-map (is_same q) (λ (key : Vec ℕ). key.items) (keys_of entries))
      ∙ ap (position_or_len (is_same q)) (keys_in-named shown (λ p. p.name) named entries)
      ∙ ap (λ r. position_or_len (is_same r) (names_of_predicates (map shown entries))) is

  pub found_predicate : (i : ℕ) (k : Vec ℕ) (v : P) → Some i ≡ position (key_is q) (keys_of entries) → slice_get entries i ≡ Some (k, v)
      → (i ≡ number_in (names_of_predicates (map shown entries)) name)
      × (faults_against file (slice_get (map shown entries) (number_in (names_of_predicates (map shown entries)) name)) name count
      ≡ (if count == length (shown (k, v)).arguments then [] else refused_word file 18 name))
  found_predicate i k v e at =
      let place = (position-found (key_is q) (keys_of entries) i e).0 ∙ number_of_key in (
        place,
        ap (λ n. faults_against file (slice_get (map shown entries) n) name count) (sym place)
            ∙ ap (λ o. faults_against file o name count) (slice_get-map shown entries i ∙ ap (option_map shown) at),
      )

  pub missing_predicate : None ≡ position (key_is q) (keys_of entries)
      → (length entries ≡ number_in (names_of_predicates (map shown entries)) name)
      × (faults_against file (slice_get (map shown entries) (number_in (names_of_predicates (map shown entries)) name)) name count ≡ refused_word file 17 name)
  missing_predicate e =
      let place = sym (length-map entries (λ (x : Vec ℕ × P). x.0)) ∙ (position-missing (key_is q) (keys_of entries) e).0 ∙ number_of_key in (
        place,
        ap (λ n. faults_against file (slice_get (map shown entries) n) name count) (sym place)
            ∙ ap (λ o. faults_against file o name count) (slice_get_past (map shown entries) (length entries) (omega (arith, length-map entries shown))),
      )

-- whether a number of terms is that of a declaration
pub other_count : (arity count : ℕ) → (arity ≡ count → ⊥) → (count == arity) ≡ false
other_count arity count h = grind (arith, nat_tests)

pub same_count : (arity count : ℕ) → arity ≡ count → (count == arity) ≡ true
same_count arity count h = grind (arith, nat_tests)

-- whether a name in lower case is among those of a set of names
pub is_known-folded : (name : tree.Name) (q : List ℕ) → q ≡ folded name → (keys : List (Vec ℕ)) → is_known (names_in keys) name ≡ list_any (key_is q) keys
is_known-folded name q is keys = ap (λ r. list_any (is_same r) (names_in keys)) (sym is) ∙ list_any-map (is_same q) (λ k. k.items) keys

-- whether a look-up finds something
pub lookup-any : {K V : Type 0} (test : K → Bool) (es : List (K × V)) → is_some (lookup test es) ≡ list_any (λ e. test e.0) es
lookup-any test [] = refl
lookup-any test (e ∷ es) = by (test e.0) (lookup-any test es)
  where
    by : (b : Bool) → is_some (lookup test es) ≡ list_any (λ e. test e.0) es → is_some (cond b (Some e.1) (lookup test es)) ≡ (b || list_any (λ e. test e.0) es)
    by true h = refl
    by false h = h

-- a table whose entries show the names of their keys, after one more entry
module _ {V S : Type 0} (shown : Vec ℕ × V → S) (label : S → List ℕ) (named : (e : Vec ℕ × V) → label (shown e) ≡ e.0.items)
    (name : tree.Name) (key : Vec ℕ) (is : key.items ≡ folded name) (value : V) where
  abbrev labels : List (Vec ℕ × V) → List (List ℕ)
  labels es = map label (map shown es)

  any-labels : (es : List (Vec ℕ × V)) → list_any (λ e. key_is key.items e.0) es ≡ list_any (is_same key.items) (labels es)
  any-labels [] = refl
  any-labels (e ∷ es) = (λ i. is_same key.items (sym (named e) i) || any-labels es i)

  pub is_known-entries : (es : List (Vec ℕ × V)) → is_known (labels es) name ≡ list_any (λ e. key_is key.items e.0) es
  is_known-entries es = ap (λ r. list_any (is_same r) (labels es)) (sym is) ∙ sym (any-labels es)

  pub insert-new : (es : List (Vec ℕ × V)) → list_any (λ e. key_is key.items e.0) es ≡ false
      → insert_entry (λ (x y : Vec ℕ). pointwise nat_eq x.items y.items) es key value ≡ es ++ (key, value) ∷ []
  insert-new [] h = refl
  insert-new (e ∷ es) h = by (key_is key.items e.0) refl h (insert-new es)
    where
      by : (b : Bool) → key_is key.items e.0 ≡ b → (b || list_any (λ e. key_is key.items e.0) es) ≡ false
          → (list_any (λ e. key_is key.items e.0) es ≡ false → insert_entry (λ (x y : Vec ℕ). pointwise nat_eq x.items y.items) es key value ≡ es ++ (key, value) ∷ [])
          → (if b then (e.0, value) ∷ es else e ∷ insert_entry (λ (x y : Vec ℕ). pointwise nat_eq x.items y.items) es key value) ≡ e ∷ (es ++ (key, value) ∷ [])
      by true t f rest = absurd (true≢false f)
      by false t f rest = ap (λ r. e ∷ r) (rest f)

  -- an existing key keeps its index and its label
  insert-present : (es : List (Vec ℕ × V)) → list_any (λ e. key_is key.items e.0) es ≡ true
      → labels (insert_entry (λ (x y : Vec ℕ). pointwise nat_eq x.items y.items) es key value) ≡ labels es
  insert-present [] h = absurd (true≢false (sym h))
  insert-present (e ∷ es) h = by (key_is key.items e.0) h (insert-present es)
    where
      by : (b : Bool) → (b || list_any (λ e. key_is key.items e.0) es) ≡ true
          → (list_any (λ e. key_is key.items e.0) es ≡ true → labels (insert_entry (λ (x y : Vec ℕ). pointwise nat_eq x.items y.items) es key value) ≡ labels es)
          → labels (if b then (e.0, value) ∷ es else e ∷ insert_entry (λ (x y : Vec ℕ). pointwise nat_eq x.items y.items) es key value) ≡ label (shown e) ∷ labels es
      by true f rest = ap (λ l. l ∷ labels es) (named (e.0, value) ∙ sym (named e))
      by false f rest = ap (λ r. label (shown e) ∷ r) (rest f)

  pub labels-insert : (es : List (Vec ℕ × V)) → labels (insert_entry (λ (x y : Vec ℕ). pointwise nat_eq x.items y.items) es key value) ≡ with_name (labels es) name
  labels-insert es = by (list_any (λ e. key_is key.items e.0) es) refl
    where
      by : (b : Bool) → list_any (λ e. key_is key.items e.0) es ≡ b → labels (insert_entry (λ (x y : Vec ℕ). pointwise nat_eq x.items y.items) es key value) ≡ with_name (labels es) name
      by true t = insert-present es t ∙ sym (ap (λ c. if c then labels es else labels es ++ folded name ∷ []) (is_known-entries es ∙ t))
      by false t =
          ap labels (insert-new es t) ∙ ap (map label) (map-append shown es ((key, value) ∷ [])) ∙ map-append label (map shown es) (shown (key, value) ∷ [])
          ∙ ap (λ l. labels es ++ l ∷ []) (named (key, value) ∙ is)
          ∙ sym (ap (λ c. if c then labels es else labels es ++ folded name ∷ []) (is_known-entries es ∙ t))

-- whether a name is among those that a table's entries show
pub is_known-shown : {V S : Type 0} (shown : Vec ℕ × V → S) (label : S → List ℕ) (named : (e : Vec ℕ × V) → label (shown e) ≡ e.0.items)
    (name : tree.Name) (q : List ℕ) → q ≡ folded name → (es : List (Vec ℕ × V)) → is_known (map label (map shown es)) name ≡ list_any (λ e. key_is q e.0) es
is_known-shown shown label named name q is es =
    sym (ap (λ ks. is_known ks name) (keys_in-named shown label named es)) ∙ is_known-folded name q is (keys_of es) ∙ list_any-map (key_is q) (λ e. e.0) es
