-- Exactly one verdict is true of each list of actions.
use Rattle.std.specs.Prelude.{◌≡◌, ℕ, ◌+◌, ◌-◌, true, false, IsTrue, List, [], ◌∷◌, take, slice_get, None, Some, ◌⊎◌, refl}
use Rattle.std.proofs.Common.{sym, ◌∙◌, ap, inl, inr, zero, suc, arith, true≢false}
use Rattle.std.specs.Option.{option_and_then}
use Rattle.std.proofs.lemmas.Option.{none-some, same_Some}
use Rattle.model.specs.Runs.{System, run, StopsAt, Verdict, valid, not_applicable, goal_missed, IsVerdict, cost_of_all}
use Rattle.validator.proofs.VerdictRuns.{stops}

module _ {S A : Type 0} (t : System S A) where
  -- after the first i actions, the next one is not applicable
  record Halts (s : S) (plan : List A) (i : ℕ) : Type 0 where
    before : S
    next : A
    runs : run t s (take i plan) ≡ Some before
    found_there : slice_get plan i ≡ Some next
    blocked : t.step before next ≡ None

  -- all actions of a list are applicable in order, or one of them is not
  runs_or_halts : (s : S) (plan : List A) → ((last : S) × (run t s plan ≡ Some last)) ⊎ ((i : ℕ) × Halts s plan i)
  runs_or_halts s [] = inl (s, refl)
  runs_or_halts s (a ∷ rest) =
      elim (t.step s a) as (λ o. t.step s a ≡ o → ((last : S) × (run t s (a ∷ rest) ≡ Some last)) ⊎ ((i : ℕ) × Halts s (a ∷ rest) i)) [
        | None ↦ λ e. inr (0, record { before = s; next = a; runs = refl; found_there = refl; blocked = e })
        | Some n ↦ λ e. elim (runs_or_halts n rest) [
          | inl w ↦ inl (w.0, ap (option_and_then (λ m. run t m rest)) e ∙ w.1)
          | inr w ↦ inr (
            suc w.0,
            record {
              before = w.1.before;
              next = w.1.next;
              runs = ap (option_and_then (λ m. run t m (take w.0 rest))) e ∙ w.1.runs;
              found_there = w.1.found_there;
              blocked = w.1.blocked;
            },
          )
        ]
      ] refl

  -- if the first action is not applicable, no list that begins with it runs
  nothing_after : (s last : S) (a : A) (rest : List A) → t.step s a ≡ None → run t s (a ∷ rest) ≡ Some last → ⊥
  nothing_after s last a rest e runs = none-some last (sym (ap (option_and_then (λ m. run t m rest)) e) ∙ runs)

  blocked_at_once : (s : S) (a : A) (rest : List A) → Halts s (a ∷ rest) 0 → t.step s a ≡ None
  blocked_at_once s a rest h =
      (λ i. t.step (same_Some s h.before h.runs i) (same_Some a h.next h.found_there i)) ∙ h.blocked

  -- what follows if the first action is applicable
  after_first : (s n : S) (a : A) (rest : List A) (i : ℕ) → t.step s a ≡ Some n → Halts s (a ∷ rest) (suc i) → Halts n rest i
  after_first s n a rest i e h = record {
    before = h.before;
    next = h.next;
    runs = sym (ap (option_and_then (λ m. run t m (take i rest))) e) ∙ h.runs;
    found_there = h.found_there;
    blocked = h.blocked;
  }

  never_both : (s last : S) (plan : List A) (i : ℕ) → run t s plan ≡ Some last → Halts s plan i → ⊥
  never_both s last [] i runs h = none-some h.next h.found_there
  never_both s last (a ∷ rest) zero runs h = nothing_after s last a rest (blocked_at_once s a rest h) runs
  never_both s last (a ∷ rest) (suc i) runs h =
      elim (t.step s a) as (λ o. t.step s a ≡ o → ⊥) [
        | None ↦ λ e. nothing_after s last a rest e runs
        | Some n ↦ λ e. never_both n last rest i (sym (ap (option_and_then (λ m. run t m rest)) e) ∙ runs) (after_first s n a rest i e h)
      ] refl

  halts_once : (s : S) (plan : List A) (i j : ℕ) → Halts s plan i → Halts s plan j → i ≡ j
  halts_once s [] i j h g = absurd (none-some h.next h.found_there)
  halts_once s (a ∷ rest) zero zero h g = refl
  halts_once s (a ∷ rest) zero (suc j) h g = absurd (nothing_after s g.before a (take j rest) (blocked_at_once s a rest h) g.runs)
  halts_once s (a ∷ rest) (suc i) zero h g = absurd (nothing_after s h.before a (take i rest) (blocked_at_once s a rest g) h.runs)
  halts_once s (a ∷ rest) (suc i) (suc j) h g =
      elim (t.step s a) as (λ o. t.step s a ≡ o → suc i ≡ suc j) [
        | None ↦ λ e. absurd (nothing_after s h.before a (take i rest) e h.runs)
        | Some n ↦ λ e. ap suc (halts_once n rest i j (after_first s n a rest i e h) (after_first s n a rest j e g))
      ] refl

  halts_of : (plan : List A) (n : ℕ) → StopsAt t plan n → Halts t.initial plan (n - 1)
  halts_of plan n h = record { before = h.before; next = h.next; runs = h.runs; found_there = h.found_there; blocked = h.is_not_applicable }

  -- a list that runs to this state: only the goal decides
  of_run : (plan : List A) (last : S) → run t t.initial plan ≡ Some last → (v : Verdict) × IsVerdict t plan v × ((w : Verdict) → IsVerdict t plan w → w ≡ v)
  of_run plan last runs =
      elim (t.meets_goal last) as (λ b. t.meets_goal last ≡ b → (v : Verdict) × IsVerdict t plan v × ((w : Verdict) → IsVerdict t plan w → w ≡ v)) [
        | true ↦ λ met. (valid (cost_of_all t plan), ((last, runs, met), refl), only_valid met)
        | false ↦ λ missed. (goal_missed, (last, runs, missed), only_missed missed)
      ] refl
    where
      the_last : (s : S) → run t t.initial plan ≡ Some s → t.meets_goal s ≡ t.meets_goal last
      the_last s r = ap t.meets_goal (same_Some s last (sym r ∙ runs))

      only_valid : IsTrue (t.meets_goal last) → (w : Verdict) → IsVerdict t plan w → w ≡ valid (cost_of_all t plan)
      only_valid met (valid cost) is = ap valid is.1
      only_valid met (not_applicable n) is = absurd (never_both t.initial last plan (n - 1) runs (halts_of plan n is))
      only_valid met goal_missed is = absurd (true≢false (sym met ∙ sym (the_last is.0 is.1) ∙ is.2))

      only_missed : t.meets_goal last ≡ false → (w : Verdict) → IsVerdict t plan w → w ≡ goal_missed
      only_missed missed (valid cost) is = absurd (true≢false (sym is.0.2 ∙ the_last is.0.0 is.0.1 ∙ missed))
      only_missed missed (not_applicable n) is = absurd (never_both t.initial last plan (n - 1) runs (halts_of plan n is))
      only_missed missed goal_missed is = refl

  -- a list that stops at this index
  of_halt : (plan : List A) (i : ℕ) → Halts t.initial plan i → (v : Verdict) × IsVerdict t plan v × ((w : Verdict) → IsVerdict t plan w → w ≡ v)
  of_halt plan i h = (not_applicable (i + 1), stops t plan i h.next h.found_there h.before h.runs h.blocked, only)
    where
      only : (w : Verdict) → IsVerdict t plan w → w ≡ not_applicable (i + 1)
      only (valid cost) is = absurd (never_both t.initial is.0.0 plan i is.0.1 h)
      only (not_applicable n) is =
          let same = halts_once t.initial plan (n - 1) i (halts_of plan n is) h in
          ap not_applicable (omega (arith, is.counted_from_one, same))
      only goal_missed is = absurd (never_both t.initial is.0 plan i is.1 h)

  pub exactly_one_verdict : (plan : List A) → (v : Verdict) × IsVerdict t plan v × ((w : Verdict) → IsVerdict t plan w → w ≡ v)
  exactly_one_verdict plan =
      elim (runs_or_halts t.initial plan) [
        | inl w ↦ of_run plan w.0 w.1
        | inr w ↦ of_halt plan w.0 w.1
      ]
