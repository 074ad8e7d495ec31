-- The faults found by the walks over functions, the metric and the initial costs.
use Rattle.std.proofs.Common.{ℕ, zero, suc, ◌≡◌, ◌∙◌, Bool, true, false, ◌||◌, List, [], ◌∷◌, ◌++◌, map, fold, drop, is_some, Option, None, Some, refl, sym, ap, Bor, if◌then◌else◌}
use Rattle.std.specs.Cmp.Lexicographic.{same_text}
use Rattle.std.specs.List.{list_any}
use Rattle.std.specs.Option.{option_map, option_map_or, option_copied}
use Rattle.std.proofs.lemmas.List.Folds.{list_any-append}
use Rattle.std.proofs.Math.Bool.{or-false, or_assoc}
use Rattle.pddl_tree.specs.declared.terms.Name.{Name}
use Rattle.pddl_tree.specs.Tree.{name_of}
use Rattle.model.specs.Task as task
use Rattle.model.specs.Trees.{TaskFile, problem_file}
use Rattle.model.specs.Trees as tree
use Rattle.model.specs.Typing.{TypingFault, folded, is_same, is_known, names_of_predicates, predicate_in, refused, refused_word, total_cost, with_name}
use Rattle.typing.specs.Walk.{Findings, found}
use Rattle.typing.proofs.Found.{map-map}

-- whether a name is among the declared ones, with one more, and after some more
any_with : (q : task.Name) (before : List task.Name) (name : tree.Name) → list_any (is_same q) (with_name before name) ≡ (list_any (is_same q) before || is_same q (folded name))
any_with q before name = by (is_known before name) refl
  where
    either : (b : Bool) → is_known before name ≡ true → is_same q (folded name) ≡ b → list_any (is_same q) before ≡ (list_any (is_same q) before || b)
    either false known same = sym (or-false (list_any (is_same q) before))
    either true known same = let here = ap (λ r. list_any (is_same r) before) (same_text q (folded name) (sym same)) ∙ known in here ∙ sym (ap (λ b. b || true) here)

    by : (b : Bool) → is_known before name ≡ b → list_any (is_same q) (if b then before else before ++ folded name ∷ []) ≡ (list_any (is_same q) before || is_same q (folded name))
    by true known = either (is_same q (folded name)) known refl
    by false new = list_any-append (is_same q) before (folded name ∷ []) ∙ ap (λ b. list_any (is_same q) before || b) (or-false (is_same q (folded name)))

any_with_names : (q : task.Name) (before : List task.Name) (names : List tree.Name) → list_any (is_same q) (fold with_name before names) ≡ (list_any (is_same q) before || list_any (is_same q) (map folded names))
any_with_names q before [] = sym (or-false (list_any (is_same q) before))
any_with_names q before (name ∷ names) =
    any_with_names q (with_name before name) names ∙ ap (λ b. b || list_any (is_same q) (map folded names)) (any_with q before name)
    ∙ or_assoc (list_any (is_same q) before) (is_same q (folded name)) (list_any (is_same q) (map folded names))

-- so the total cost is declared if it is among the names of the table
pub cost_declared : (types : List task.Name) (qs : List tree.Predicate)
    → list_any (is_same total_cost) (fold with_name [] (map (λ (q : tree.Predicate). q.name) qs)) ≡ list_any (is_same total_cost) (names_of_predicates (map (predicate_in types) qs))
cost_declared types qs =
    any_with_names total_cost [] (map (λ (q : tree.Predicate). q.name) qs)
    ∙ ap (list_any (is_same total_cost)) (map-map folded (λ (q : tree.Predicate). q.name) qs ∙ sym (map-map (λ (p : task.Predicate). p.name) (predicate_in types) qs))

-- the faults of the metric
abbrev pub metric_faults : Bool → Option tree.Name → List TypingFault
metric_faults has_cost metric = option_map_or (λ n. if has_cost then [] else refused_word problem_file 22 n) metric []

pub metric_reported : (has_cost : Bool) (lent : Option (Bor Name)) (metric : Option Name) → option_copied lent ≡ metric
    → option_map_or (λ n. if has_cost then [] else refused_word problem_file 22 (name_of n.now)) lent [] ≡ metric_faults has_cost (option_map name_of metric)
metric_reported has_cost lent metric is = by lent ∙ ap (λ o. metric_faults has_cost (option_map name_of o)) is
  where
    by : (o : Option (Bor Name)) → option_map_or (λ n. if has_cost then [] else refused_word problem_file 22 (name_of n.now)) o [] ≡ metric_faults has_cost (option_map name_of (option_copied o))
    by None = refl
    by (Some n) = refl

-- at the end of the `=`s, however many are allowed
pub equals_end : (allowed : ℕ) (least : Findings) → found least (refused 23 (drop allowed [])) ≡ least
equals_end zero least = refl
equals_end (suc allowed) least = refl

pub is_some-map : {X Y : Type 0} (f : X → Y) (o : Option X) → is_some (option_map f o) ≡ is_some o
is_some-map f None = refl
is_some-map f (Some x) = refl
