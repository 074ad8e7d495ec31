-- Runs and their costs, one instance after another.
use Rattle.std.specs.Prelude.{◌≡◌, ℕ, ◌+◌, ◌-◌, ◌<◌, ◌≤◌, List, [], ◌∷◌, ◌++◌, length, map, take, slice_get, None, Some, sum_by, refl}
use Rattle.std.proofs.Common.{sym, ◌∙◌, ap, subst, get_or, arith}
use Rattle.std.specs.Option.{option_and_then, option_map}
use Rattle.std.proofs.lemmas.List.{take_all, take_more}
use Rattle.std.proofs.lemmas.List.Sums.{sum_by-append, sum_by-cons}
use Rattle.std.proofs.lemmas.Option.{none-some, same_Some, slice_get-map, slice_get_read, slice_get_within, get_or_from_slice_get}
use Rattle.formulas.specs.declared.instance.Instance.{Instance}
use Rattle.formulas.specs.State.{instance_of}
use Rattle.model.specs.Task as task
use Rattle.model.specs.Runs.{System, run, StopsAt, cost_of_all}

-- the instance at an index of the code's list is there in the model's
pub occurs : (items : List Instance) (plan : List task.Instance) (i : ℕ) (item : Instance) → map instance_of items ≡ plan → i < length items → item ≡ get_or items i item
    → slice_get plan i ≡ Some (instance_of item)
occurs items plan i item same lt at =
    ap (λ l. slice_get l i) (sym same) ∙ slice_get-map instance_of items i ∙ ap (option_map instance_of) (slice_get_read items (length items) i item refl lt at)

sum_by-one : {X : Type 0} (f : X → ℕ) (x : X) → sum_by f (x ∷ []) ≡ f x
sum_by-one f x = sum_by-cons f x [] ∙ (omega arith)

module _ {S A : Type 0} (t : System S A) where
  run_push : (s next last : S) (xs : List A) (a : A) → run t s xs ≡ Some next → t.step next a ≡ Some last → run t s (xs ++ a ∷ []) ≡ Some last
  run_push s next last [] a runs leads =
      ap (option_and_then (λ n. Some n)) (ap (λ n. t.step n a) (same_Some s next runs) ∙ leads)
  run_push s next last (x ∷ xs) a runs leads =
      elim (t.step s x) as (λ o. option_and_then (λ n. run t n xs) o ≡ Some next → option_and_then (λ n. run t n (xs ++ a ∷ [])) o ≡ Some last) [
        | None ↦ λ e. absurd (none-some next e)
        | Some n ↦ λ e. run_push n next last xs a e leads
      ] runs

  -- the instances before the next one, by its number from 1
  pub run_before : (plan : List A) (i : ℕ) (before : S) → run t t.initial (take i plan) ≡ Some before → run t t.initial (take ((i + 1) - 1) plan) ≡ Some before
  run_before plan i before runs =
      let same : i ≡ (i + 1) - 1 = omega arith in
      subst (λ k. run t t.initial (take k plan) ≡ Some before) same runs

  module _ (plan : List A) (i : ℕ) (a : A) (here : slice_get plan i ≡ Some a) where
    one_more : take (i + 1) plan ≡ take i plan ++ a ∷ []
    one_more =
        take_more plan i a (slice_get_within plan i a here) ∙ ap (λ y. take i plan ++ y ∷ []) (get_or_from_slice_get plan i a a here)

    -- one more instance, which is applicable
    pub run_more : (s next last : S) → run t s (take i plan) ≡ Some next → t.step next a ≡ Some last → run t s (take (i + 1) plan) ≡ Some last
    run_more s next last runs leads = ap (run t s) one_more ∙ run_push s next last (take i plan) a runs leads

    -- the next instance, which is not
    pub stops : (before : S) → run t t.initial (take i plan) ≡ Some before → t.step before a ≡ None → StopsAt t plan (i + 1)
    stops before runs blocked =
        let same : i ≡ (i + 1) - 1 = omega arith in
        record {
          counted_from_one = omega arith;
          before = before;
          next = a;
          runs = run_before plan i before runs;
          found_there = subst (λ k. slice_get plan k ≡ Some a) same here;
          is_not_applicable = blocked;
        }

    -- its cost
    pub cost_more : (cost here : ℕ) → cost ≡ cost_of_all t (take i plan) → here ≡ t.cost a → cost + here ≡ cost_of_all t (take (i + 1) plan)
    cost_more cost here so is =
        (λ j. so j + is j) ∙ sym (ap (cost_of_all t) one_more ∙ sum_by-append t.cost (take i plan) (a ∷ []) ∙ ap (λ n. cost_of_all t (take i plan) + n) (sum_by-one t.cost a))

  -- all instances
  pub run_whole : (plan : List A) (i : ℕ) (s last : S) → length plan ≤ i → run t s (take i plan) ≡ Some last → run t s plan ≡ Some last
  run_whole plan i s last past runs = ap (run t s) (sym (take_all i plan past)) ∙ runs

  pub cost_whole : (plan : List A) (i cost : ℕ) → length plan ≤ i → cost ≡ cost_of_all t (take i plan) → cost ≡ cost_of_all t plan
  cost_whole plan i cost past so = so ∙ ap (cost_of_all t) (take_all i plan past)
