-- The texts of conjunctions and disjunctions by the lists of their parts, and the lines of parts one after another.
use Rattle.std.proofs.Common.{◌≡◌, ℕ, ◌+◌, ◌<◌, ◌≤◌, drop, length, suc, zero, List, [], ◌∷◌, ◌++◌, map, take, None, Some, refl, ap, sym, ◌∙◌, append_assoc, append-nil}
use Rattle.std.specs.Prelude.{codes, get_or, slice_get}
use Rattle.std.proofs.lemmas.List.{at_drop_all}
use Rattle.std.specs.Global.{Vec}
use Rattle.task.specs.declared.schemas.Formula.{Formula}
use Rattle.task.specs.declared.schemas.Formula as formula
use Rattle.task.specs.TaskParts.{formula_of}
use Rattle.explain_plans.specs.FalseParts.{Part}
use Rattle.explain_plans.specs.FormulaText.{Scope, formula_text, parts_text, scope_after}
use Rattle.explain_plans.specs.Histories.{History}
use Rattle.explain_plans.specs.NamesLeft.{formulas}
use Rattle.explain_plans.proofs.FormulaLists.{conjunction, disjunction, next_left}
use Rattle.model.proofs.ListLemmas.{drop-here}
use Rattle.explain_plans.specs.PlanLines.{cost_line, cost_lines, reason_line, reason_lines}
use Rattle.model.specs.Task.{Task, Instance}

-- ---- pieces added one after another

pub two_added : (old first second x y : List ℕ) → x ≡ old ++ first → y ≡ x ++ second → y ≡ old ++ (first ++ second)
two_added old first second x y one two = two ∙ ap (λ l. l ++ second) one ∙ append_assoc old first second

pub three_added : (old first second third x y z : List ℕ) → x ≡ old ++ first → y ≡ x ++ second → z ≡ y ++ third → z ≡ old ++ (first ++ (second ++ third))
three_added old first second third x y z one two three =
    three ∙ ap (λ l. l ++ third) (two_added old first second x y one two)
    ∙ append_assoc old (first ++ second) third ∙ ap (λ l. old ++ l) (append_assoc first second third)

-- ---- conjunctions and disjunctions

module _ (t : Task) (scope : Scope) (f : Formula) (parts : Vec Formula) (items : List Formula) where
  pub and_text : f ≡ formula.And parts → items ≡ parts.items
      → formula_text t scope (formula_of f) ≡ codes "(and" ++ (parts_text t scope (formulas (map formula_of items)) ++ codes ")")
  and_text is same = ap (formula_text t scope) (conjunction f parts items is same)

  pub or_text : f ≡ formula.Or parts → items ≡ parts.items
      → formula_text t scope (formula_of f) ≡ codes "(or" ++ (parts_text t scope (formulas (map formula_of items)) ++ codes ")")
  or_text is same = ap (formula_text t scope) (disjunction f parts items is same)

module _ (t : Task) (scope : Scope) (parts : List Formula) (i : ℕ) (text whole : List ℕ)
    (left : text ++ parts_text t scope (formulas (map formula_of (drop i parts))) ≡ whole) where
  -- one more part is added
  pub part_added : (part : Formula) → i < length parts → part ≡ get_or parts i part → (middle last : List ℕ) → middle ≡ text ++ codes " "
      → last ≡ middle ++ formula_text t scope (formula_of part) → (next : Scope) → next ≡ scope_after scope (formula_of part)
      → last ++ parts_text t next (formulas (map formula_of (drop (i + 1) parts))) ≡ whole
  part_added part lt at middle last blank added next is =
      let one = formula_text t scope (formula_of part) in
      let others = parts_text t (scope_after scope (formula_of part)) (formulas (map formula_of (drop (i + 1) parts))) in
      ap (λ s. last ++ parts_text t s (formulas (map formula_of (drop (i + 1) parts)))) is
      ∙ ap (λ l. l ++ others) (two_added text (codes " ") one middle last blank added)
      ∙ append_assoc text (codes " " ++ one) others
      ∙ ap (λ l. text ++ l) (append_assoc (codes " ") one others ∙ sym (next_left (λ l. parts_text t scope (formulas (map formula_of l))) parts i part lt at))
      ∙ left

  -- at the end
  pub parts_added : length parts ≤ i → text ≡ whole
  parts_added past =
      sym (append-nil text) ∙ ap (λ l. text ++ l) (sym (at_drop_all (λ l. parts_text t scope (formulas (map formula_of l))) parts i past)) ∙ left

-- ---- the lines of parts

module _ (t : Task) (steps : List Instance) where
  lines_at : (i : ℕ) (ps : List Part) (hs : List History) (p : Part) (h : History) → slice_get ps i ≡ Some p → slice_get hs i ≡ Some h
      → reason_lines t steps (take (suc i) ps) hs ≡ reason_lines t steps (take i ps) hs ++ reason_line t steps p h
  lines_at i [] hs p h here there = absurd (cc)
  lines_at i (x ∷ ps) [] p h here there = absurd (cc)
  lines_at zero (x ∷ ps) (y ∷ hs) p h here there =
      let same_part : x ≡ p = cc in
      let same_history : y ≡ h = cc in
      append-nil (reason_line t steps x y) ∙ ap (λ q. reason_line t steps q y) same_part ∙ ap (reason_line t steps p) same_history
  lines_at (suc i) (x ∷ ps) (y ∷ hs) p h here there =
      ap (λ l. reason_line t steps x y ++ l) (lines_at i ps hs p h here there)
      ∙ sym (append_assoc (reason_line t steps x y) (reason_lines t steps (take i ps) hs) (reason_line t steps p h))

  -- one more part, with its history
  pub lines_more : (i j : ℕ) → j ≡ suc i → (ps : List Part) (hs : List History) (p : Part) (h : History) → slice_get ps i ≡ Some p → slice_get hs i ≡ Some h
      → reason_lines t steps (take j ps) hs ≡ reason_lines t steps (take i ps) hs ++ reason_line t steps p h
  lines_more i j next ps hs p h here there =
      ap (λ n. reason_lines t steps (take n ps) hs) next ∙ lines_at i ps hs p h here there

  none_left : (ps : List Part) → reason_lines t steps ps [] ≡ []
  none_left [] = refl
  none_left (x ∷ ps) = refl

  -- at the end
  pub lines_end : (i : ℕ) (ps : List Part) (hs : List History) → slice_get hs i ≡ None
      → reason_lines t steps (take i ps) hs ≡ reason_lines t steps ps hs
  lines_end i ps [] none = none_left (take i ps) ∙ sym (none_left ps)
  lines_end zero ps (y ∷ hs) none = absurd (cc)
  lines_end (suc i) [] (y ∷ hs) none = refl
  lines_end (suc i) (x ∷ ps) (y ∷ hs) none = ap (λ l. reason_line t steps x y ++ l) (lines_end i ps hs none)

-- ---- the lines of what steps cost

module _ (t : Task) (steps : List Instance) (costs : List ℕ) where
  -- one line more
  pub cost_more : (i paid : ℕ) (step : Instance) (cost : ℕ) → slice_get steps i ≡ Some step → slice_get costs i ≡ Some cost
      → cost_lines t i paid (drop i steps) (drop i costs) ≡ cost_line t (i + 1) step cost (paid + cost) ++ cost_lines t (i + 1) (paid + cost) (drop (i + 1) steps) (drop (i + 1) costs)
  cost_more i paid step cost here there = λ k. cost_lines t i paid (drop-here steps i step here k) (drop-here costs i cost there k)

  without_costs : (i paid : ℕ) (left : List Instance) → cost_lines t i paid left [] ≡ []
  without_costs i paid [] = refl
  without_costs i paid (step ∷ left) = refl

  -- none is left where no cost is, or no step
  pub cost_end : (i paid : ℕ) → length costs ≤ i → cost_lines t i paid (drop i steps) (drop i costs) ≡ []
  cost_end i paid past = at_drop_all (cost_lines t i paid (drop i steps)) costs i past ∙ without_costs i paid (drop i steps)
