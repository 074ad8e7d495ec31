-- How facts that give values to functions change the values given before, and their faults.
use Rattle.std.proofs.Common.{◌≡◌, ◌∙◌, ℕ, ◌+◌, ◌<◌, ◌≤◌, ◌==◌, Bool, true, false, not, is_some, List, [], ◌∷◌, ◌++◌, map, length, drop, fold, get_or, None, Some, sym, ap, if◌then◌else◌}
use Rattle.std.specs.List.{flat_map, list_any}
use Rattle.std.specs.Option.{option_map_or}
use Rattle.std.proofs.lemmas.List.{drop_more, drop_all}
use Rattle.std.proofs.lemmas.List.Concat.{flat_map-append}
use Rattle.std.proofs.lemmas.List.Sums.{fold-append}
use Rattle.std.proofs.Math.Bool.{or-false}
use Rattle.model.specs.Task as task
use Rattle.model.specs.Meaning.{value_in}
use Rattle.model.specs.Trees as tree
use Rattle.model.specs.Trees.{TaskFile}
use Rattle.model.specs.Typing.{Known, TypingFault, atom_in, differing, fact_faults, facts_faults, in_function, is_named, value_faults, values_after, values_in, with_value}
use Rattle.typing.specs.Walk.{Findings, found}
use Rattle.typing.proofs.Found.{found-append}

-- ---- one more value

module _ (values : List task.FunctionValue) (v : task.FunctionValue) where
  -- a function of these objects has a value
  pub kept_before : (first : ℕ) → value_in values v.function ≡ Some first → values ≡ with_value values v
  kept_before first is = ap (λ o. if is_some {T = ℕ} o then values else values ++ v ∷ []) (sym is)

  pub differs_by_first : (first : ℕ) → value_in values v.function ≡ Some first → not (first == v.value) ≡ differing values v
  differs_by_first first is = ap (λ o. option_map_or (λ value. not (value == v.value)) o false) (sym is)

  -- it has none
  pub put_last : value_in values v.function ≡ None → values ++ v ∷ [] ≡ with_value values v
  put_last is = ap (λ o. if is_some {T = ℕ} o then values else values ++ v ∷ []) (sym is)

  pub none_differs : value_in values v.function ≡ None → false ≡ differing values v
  none_differs is = ap (λ o. option_map_or (λ value. not (value == v.value)) o false) (sym is)

-- the values of some facts, followed by others
values_after-append : (known : Known) (given : List task.FunctionValue) (first rest : List tree.Fact)
    → values_after known given (first ++ rest) ≡ values_after known (values_after known given first) rest
values_after-append known given first rest =
    ap (fold with_value given) (flat_map-append (values_in known) first rest) ∙ fold-append with_value given (flat_map (values_in known) first) (flat_map (values_in known) rest)

-- the fault of a value whose names are known
pub reported_of_named : (known : Known) (values : List task.FunctionValue) (v : tree.InitialValue) (function : task.Atom)
    → Some function ≡ (if is_named (in_function known) v.function then Some (atom_in (in_function known) v.function) else None) → (other : List TypingFault)
    → (if differing values (record { function = function; value = v.value }) then other else [])
    ≡ (if list_any (differing values) (values_in known (tree.initial_value v)) then other else [])
reported_of_named known values v function named other = by (is_named (in_function known) v.function) named
  where
    by : (b : Bool) → Some function ≡ (if b then Some (atom_in (in_function known) v.function) else None)
        → (if differing values (record { function = function; value = v.value }) then other else [])
        ≡ (if list_any (differing values) (if b then record { function = atom_in (in_function known) v.function; value = v.value } ∷ [] else []) then other else [])
    by false none = absurd (cc)
    by true is =
        let same : function ≡ atom_in (in_function known) v.function = cc in
        (λ i. if differing values (record { function = same i; value = v.value }) then other else [])
        ∙ ap (λ b. if b then other else []) (sym (or-false (differing values (record { function = atom_in (in_function known) v.function; value = v.value }))))

-- ---- one more fact of a list

module _ {X : Type 0} (known : Known) (seen : X → tree.Fact) (xs : List X) (i : ℕ) where
  module _ (x : X) (below : i < length xs) (is : x ≡ get_or xs i x) (old new : List task.FunctionValue) (adds : new ≡ values_after known old (seen x ∷ [])) where
    split : drop i xs ≡ x ∷ drop (i + 1) xs
    split = drop_more xs i x below ∙ ap (λ y. y ∷ drop (i + 1) xs) (sym is)

    pub values_step : (whole : List task.FunctionValue) → values_after known old (map seen (drop i xs)) ≡ whole → values_after known new (map seen (drop (i + 1) xs)) ≡ whole
    values_step whole h =
        ap (λ values. values_after known values (map seen (drop (i + 1) xs))) adds ∙ sym (values_after-append known old (seen x ∷ []) (map seen (drop (i + 1) xs)))
        ∙ ap (λ ys. values_after known old (map seen ys)) (sym split) ∙ h

    pub facts_step : (file : TaskFile) (least reported whole : Findings) → reported ≡ found least (fact_faults file known (seen x) ++ value_faults file known old (seen x))
        → found least (facts_faults file known old (map seen (drop i xs))) ≡ whole → found reported (facts_faults file known new (map seen (drop (i + 1) xs))) ≡ whole
    facts_step file least reported whole finds h =
        let rest = map seen (drop (i + 1) xs) in
        let own = fact_faults file known (seen x) ++ value_faults file known old (seen x) in
        (λ j. found (finds j) (facts_faults file known (adds j) rest)) ∙ sym (found-append least own (facts_faults file known (values_after known old (seen x ∷ [])) rest))
        ∙ ap (λ ys. found least (facts_faults file known old (map seen ys))) (sym split) ∙ h

  -- and the end
  module _ (past : length xs ≤ i) (values : List task.FunctionValue) where
    pub values_end : (whole : List task.FunctionValue) → values_after known values (map seen (drop i xs)) ≡ whole → values ≡ whole
    values_end whole h = sym (ap (λ ys. values_after known values (map seen ys)) (drop_all i xs past)) ∙ h

    pub facts_end : (file : TaskFile) (least whole : Findings) → found least (facts_faults file known values (map seen (drop i xs))) ≡ whole → least ≡ whole
    facts_end file least whole h = sym (ap (λ ys. found least (facts_faults file known values (map seen ys))) (drop_all i xs past)) ∙ h
