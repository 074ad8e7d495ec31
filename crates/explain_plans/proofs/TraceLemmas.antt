-- What a step adds and deletes, in order, and the lines of a trace one after another.
use Rattle.std.specs.Prelude.{◌≡◌, ℕ, ◌+◌, ◌≤◌, Bool, true, false, cond, not, ◌&&◌, T, List, [], ◌∷◌, ◌++◌, codes, drop, filter, length, map, slice_get, Option, None, Some, is_some, refl}
use Rattle.std.proofs.Common.{sym, ◌∙◌, ap, subst}
use Rattle.std.specs.declared.cmp.Ordering.TheVariants.{Less}
use Rattle.std.specs.Ordering.{eq_by_cmp, is_lt}
use Rattle.std.specs.FinMap.{entries, entries_sorted, from_entries, get-entries, get-from_entries}
use Rattle.std.specs.FinMap.Entries.{below_all, find, find-where_key, is_some-find, is_sorted, is_sorted-where_key, same_entries, where_key}
use Rattle.std.specs.FinSet.{contains, contains-difference, contains-from_list, contains-items, difference, from_list, items}
use Rattle.std.specs.List.{AllByRecursion, flat_map, list_any}
use Rattle.std.specs.List.Sorted.{IsStrictlySortedBy}
use Rattle.std.specs.Borrow.{Bor}
use Rattle.std.specs.Iterator.{Yields}
use Rattle.std.specs.Map.Iter.{TakesFirst, deref}
use Rattle.std.specs.Option.{option_map_or}
use Rattle.std.proofs.lemmas.List.{at_drop_all}
use Rattle.task.specs.declared.atoms.Atom as code
use Rattle.task.specs.TaskParts.{atom_of, AreInOrder}
use Rattle.formulas.proofs.States.{code_cmp}
use Rattle.formulas.proofs.States as states
use Rattle.model.specs.Task.{Task, Atom, Instance}
use Rattle.model.specs.Meaning.{State, atom_cmp, cost_of, step}
use Rattle.model.proofs.Atoms.{atoms_apart, atoms_total}
use Rattle.model.proofs.ListLemmas.{drop-here}
use Rattle.explain_plans.specs.PlanLines.{cost_line}
use Rattle.explain_plans.specs.Traces.{as_entry, atoms_line, change_lines, in_order, spaced_text, trace_lines}

-- ---- atoms in order

firsts : (xs : List Atom) → map (λ (e : Atom × Unit {0}). e.0) (map as_entry xs) ≡ xs
firsts [] = refl
firsts (x ∷ xs) = ap (λ rest. x ∷ rest) (firsts xs)

both : (a b : Bool) → T a → T b → T (a && b)
both true b p q = q
both false b p q = p

-- what ascends in the code's order ascends in the model's
below : (x : code.Atom) (keys : List code.Atom) → AllByRecursion (λ y. atom_cmp (atom_of x) (atom_of y) ≡ Less) keys
    → T (below_all atom_cmp (atom_of x) (map as_entry (map atom_of keys)))
below x [] less = tt
below x (y ∷ keys) less = both _ _ (subst (λ r. T (is_lt r)) (sym less.0) tt) (below x keys less.1)

rising : (keys : List code.Atom) → AreInOrder keys → T (is_sorted atom_cmp (map as_entry (map atom_of keys)))
unfolding IsStrictlySortedBy
rising [] ordered = tt
rising (x ∷ keys) ordered = both _ _ (below x keys ordered.0) (rising keys ordered.1)

where_pairs : (p : Atom → Bool) (xs : List Atom) → where_key atom_cmp p (map as_entry xs) ≡ map as_entry (filter p xs)
where_pairs p [] = refl
where_pairs p (x ∷ xs) =
    elim (p x) as (λ b. cond b (as_entry x ∷ where_key atom_cmp p (map as_entry xs)) (where_key atom_cmp p (map as_entry xs))
    ≡ map as_entry (cond b (x ∷ filter p xs) (filter p xs))) [
      | true ↦ ap (λ rest. as_entry x ∷ rest) (where_pairs p xs)
      | false ↦ where_pairs p xs
    ]

found_in : (q : Atom) (xs : List Atom) → is_some (find atom_cmp q (map as_entry xs)) ≡ list_any (eq_by_cmp atom_cmp q) xs
found_in q xs = is_some-find atom_cmp q (map as_entry xs) ∙ ap (list_any (eq_by_cmp atom_cmp q)) (firsts xs)

same_found : (o p : Option (Unit {0})) → is_some o ≡ is_some p → o ≡ p
same_found None None same = refl
same_found None (Some v) same = absurd (cc)
same_found (Some u) None same = absurd (cc)
same_found (Some u) (Some v) same = refl

-- a list that ascends and has the atoms of a set
in_order_is : (s : State) (xs : List Atom) → T (is_sorted atom_cmp (map as_entry xs))
    → ((q : Atom) → contains s q ≡ list_any (eq_by_cmp atom_cmp q) xs) → in_order s ≡ xs
in_order_is s xs rises same =
    let listed = map as_entry (items s) in
    let made = from_entries {R = atom_cmp} listed in
    let all : entries made ≡ map as_entry xs =
    same_entries atom_cmp atoms_total atoms_apart (entries made) (map as_entry xs) (entries_sorted made) rises (λ q.
    sym (get-entries made q) ∙ get-from_entries atoms_total listed q
    ∙ same_found _ _ (found_in q (items s) ∙ sym (contains-items s q) ∙ same q ∙ sym (found_in q xs)))
    in
    ap (map (λ (e : Atom × Unit {0}). e.0)) all ∙ firsts xs

some_if : (b : Bool) (o : Option (Unit {0})) → is_some (cond b o None) ≡ (is_some o && b)
some_if true None = refl
some_if true (Some u) = refl
some_if false None = refl
some_if false (Some u) = refl

module _ (p : Atom → Bool) where
  any_kept : (q : Atom) (xs : List Atom) → list_any (eq_by_cmp atom_cmp q) (filter p xs) ≡ (list_any (eq_by_cmp atom_cmp q) xs && p q)
  any_kept q xs =
      sym (found_in q (filter p xs)) ∙ ap (λ es. is_some (find atom_cmp q es)) (sym (where_pairs p xs))
      ∙ ap is_some (find-where_key atom_cmp p q (λ x tied. ap p (sym (atoms_apart q x tied))) (map as_entry xs))
      ∙ some_if (p q) (find atom_cmp q (map as_entry xs)) ∙ ap (λ b. b && p q) (found_in q xs)

  filter_atoms : (keys : List code.Atom) → filter p (map atom_of keys) ≡ map atom_of (filter (λ k. p (atom_of k)) keys)
  filter_atoms [] = refl
  filter_atoms (k ∷ keys) =
      elim (p (atom_of k)) as (λ b. cond b (atom_of k ∷ filter p (map atom_of keys)) (filter p (map atom_of keys)) ≡ map atom_of (cond b (k ∷ filter (λ x. p (atom_of x)) keys) (filter (λ x. p (atom_of x)) keys))) [
        | true ↦ ap (λ rest. atom_of k ∷ rest) (filter_atoms keys)
        | false ↦ filter_atoms keys
      ]

-- the atoms of a set of the code that are not in another state, in order
pub beyond : (keys : List code.Atom) (s other : State) → IsStrictlySortedBy code_cmp keys → from_list (map atom_of keys) ≡ s
    → map atom_of (filter (λ k. not (contains other (atom_of k))) keys) ≡ in_order (difference s other)
beyond keys s other ordered is =
    let p = λ (a : Atom). not (contains other a) in
    let xs = map atom_of keys in
    let rises = subst (λ es. T (is_sorted atom_cmp es)) (where_pairs p xs) (is_sorted-where_key atom_cmp p (map as_entry xs) (rising keys (states.in_order keys ordered))) in
    sym (in_order_is (difference s other) (filter p xs) rises (λ q.
    contains-difference atoms_total s other q ∙ ap (λ b. b && p q) (ap (λ set. contains set q) (sym is) ∙ contains-from_list atoms_total xs q)
    ∙ sym (any_kept p q xs))
    ∙ filter_atoms p keys)

-- what an iterator over a set has given when it ends is the whole set
pub yielded_whole : (xs : List (Bor code.Atom)) (s t u : List code.Atom) → Yields (TakesFirst deref) s xs t → TakesFirst {A = Bor code.Atom} deref t None u → map deref xs ≡ s
yielded_whole [] s t u same ended = sym (same ∙ ended.0)
yielded_whole (x ∷ xs) s t u (j, takes, rest) ended = ap (λ l. deref x ∷ l) (yielded_whole xs j t u rest ended) ∙ sym takes

-- ---- lines

-- with atoms there is a line
pub line_with : (t : Task) (deed : List ℕ) (first : Atom) (xs : List Atom) → slice_get xs 0 ≡ Some first
    → atoms_line t deed xs ≡ deed ++ (flat_map (spaced_text t) xs ++ codes "\n")
line_with t deed first [] is = absurd (cc)
line_with t deed first (x ∷ xs) is = refl

-- without atoms there is none
pub line_without : (t : Task) (deed : List ℕ) (xs : List Atom) → slice_get xs 0 ≡ None → atoms_line t deed xs ≡ []
line_without t deed [] is = refl
line_without t deed (x ∷ xs) is = absurd (cc)

module _ (t : Task) (plan : List Instance) (i total : ℕ) (before : State) where
  -- what the lines are, by what the next step leads to
  abbrev lines_by : Instance → Option State → List ℕ
  lines_by a =
      (λ o. option_map_or (λ after.
      cost_line t (i + 1) a (cost_of t a) (total + cost_of t a)
      ++ (change_lines t before after ++ trace_lines t (i + 1) (total + cost_of t a) after (drop (i + 1) plan))) o [])

  module _ (a : Instance) (here : slice_get plan i ≡ Some a) where
    -- one step more
    pub trace_more : (after : State) → step t before a ≡ Some after
        → trace_lines t i total before (drop i plan)
        ≡ cost_line t (i + 1) a (cost_of t a) (total + cost_of t a) ++ (change_lines t before after ++ trace_lines t (i + 1) (total + cost_of t a) after (drop (i + 1) plan))
    trace_more after leads = ap (trace_lines t i total before) (drop-here plan i a here) ∙ ap (lines_by a) leads

    -- a step that is not applicable
    pub trace_stops : step t before a ≡ None → trace_lines t i total before (drop i plan) ≡ []
    trace_stops blocked = ap (trace_lines t i total before) (drop-here plan i a here) ∙ ap (lines_by a) blocked

  -- no step is left
  pub trace_end : length plan ≤ i → trace_lines t i total before (drop i plan) ≡ []
  trace_end past = at_drop_all (trace_lines t i total before) plan i past
