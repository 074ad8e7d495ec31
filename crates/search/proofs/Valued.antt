-- The values by which a search goes, as states are found, raised and told to be dead.
use Rattle.std.proofs.Common.{◌≡◌, ℕ, ◌<◌, ◌≤◌, ◌≢◌, ◌⊎◌, inl, inr, List, Bool, Option, Some, None, true, false, refl, sym, ap, ◌∙◌, subst, le_refl, arith}
use Rattle.std.proofs.Math.Path.{fun_ext}
use Rattle.std.specs.Prelude.{◌^◌, slice_get, IsTrue}
use Rattle.std.proofs.lemmas.Bool.{cases_eq, false≢true}
use Rattle.std.proofs.lemmas.Option.{same_Some}
use Rattle.model.specs.Runs.{System, run}
use Rattle.search.specs.declared.bases.Bases.{Bases}
use Rattle.search.specs.Estimates.{IsAdmissible, IsLowerBound}
use Rattle.search.specs.DeadEnds.{IsDeadEnd, ReportsDeadEnds, IsValueUnlessDead}
use Rattle.search.specs.Nodes.{Found, has_been_expanded, IsLater}
use Rattle.search.specs.OnDemand.{noted_at, IsNoted, IsRestOf, value_on, AreValued, HoldsBy}
use Rattle.search.proofs.Raised.{DiffersAt}
use Rattle.search.proofs.Updated.{with_at, with_cases, with_here, with_other}

-- a state's value is no less than its estimate
value_on-least : {S : Type 0} (estimate : S → ℕ) (noted : ℕ) (s : S) → estimate s ≤ value_on estimate noted s
value_on-least estimate noted s = omega arith

-- and it is the estimate where nothing is kept
value_on-none : {S : Type 0} (estimate : S → ℕ) (noted : ℕ) (s : S) → noted ≡ 0 → value_on estimate noted s ≡ estimate s
value_on-none estimate noted s none = omega (arith, none)

-- of two lower bounds the greater one is a lower bound
value_on-bound : {S : Type 0} (t : System S ℕ) (estimate : S → ℕ) (noted : ℕ) (s : S) → IsLowerBound t s (estimate s) → IsLowerBound t s noted → IsLowerBound t s (value_on estimate noted s)
value_on-bound t estimate noted s one other end plan runs goal = omega (arith, one end plan runs goal, other end plan runs goal)

module _ {S : Type 0} (t : System S ℕ) (estimate : S → ℕ) (reported : S → Bool) (answers : Bool) where
  -- no value of a found state is below the guide's
  pub no_lower : (nodes : List (Found S)) (bases : Bases) (value : S → ℕ) (is_dead : S → Bool) → AreValued t estimate reported answers nodes bases value is_dead
      → (k : ℕ) (n : Found S) → slice_get nodes k ≡ Some n → is_dead n.state ≡ false → estimate n.state ≤ value n.state
  no_lower nodes bases value is_dead valued k n at alive = omega (arith, value_on-least estimate (noted_at bases k) n.state, valued.value_is k n at alive)

  -- only the states matter, not how they were reached
  pub valued_same : (nodes after : List (Found S)) (bases bases' : Bases) (value : S → ℕ) (is_dead : S → Bool) → ((k : ℕ) → noted_at bases' k ≡ noted_at bases k)
      → ((k : ℕ) (n : Found S) → slice_get after k ≡ Some n → (m : Found S) × (slice_get nodes k ≡ Some m) × (m.state ≡ n.state))
      → AreValued t estimate reported answers nodes bases value is_dead → AreValued t estimate reported answers after bases' value is_dead
  valued_same nodes after bases bases' value is_dead same was old = record {
    value_is = λ k n at alive.
        let (m, at_m, is) = was k n at in
        ap value (sym is) ∙ old.value_is k m at_m (ap is_dead is ∙ alive) ∙ ap (λ (v : ℕ). value_on estimate v m.state) (sym (same k)) ∙ ap (value_on estimate (noted_at bases' k)) is;
    alive = λ k n at alive.
        let (m, at_m, is) = was k n at in
        ap reported (sym is) ∙ old.alive k m at_m (ap is_dead is ∙ alive);
    fits = λ k. omega (arith, old.fits k, same k);
    admissible = old.admissible;
    dead_ends = old.dead_ends;
    alone = old.alone;
  }

-- Of states in bits, one has another value, or is dead now.
module _ (t : System (List Bool) ℕ) (estimate : List Bool → ℕ) (reported : List Bool → Bool) (answers : Bool) (value : List Bool → ℕ) (is_dead : List Bool → Bool) (s : List Bool) where
  with-admissible : (v : ℕ) → IsAdmissible t value → IsLowerBound t s v → IsAdmissible t (with_at value s v)
  with-admissible v old new x end plan runs goal =
      elim (with_cases value s v x) [
        | inl (is, here) ↦ omega (arith, here, new end plan (ap (λ (y : List Bool). run t y plan) (sym is) ∙ runs) goal)
        | inr (other, there) ↦ omega (arith, there, old x end plan runs goal)
      ]

  with-dead_ends : (d : Bool) → ReportsDeadEnds t is_dead → (IsTrue d → IsDeadEnd t s) → ReportsDeadEnds t (with_at is_dead s d)
  with-dead_ends d old new x dead end plan runs =
      elim (with_cases is_dead s d x) [
        | inl (is, here) ↦ new (sym here ∙ dead) end plan (ap (λ (y : List Bool). run t y plan) (sym is) ∙ runs)
        | inr (other, there) ↦ old x (sym there ∙ dead) end plan runs
      ]

  -- a state that is not found yet has the value that it rests on
  module _ (nodes : List (Found (List Bool))) (bases : Bases) (old : AreValued t estimate reported answers nodes bases value is_dead) (is_new : (k : ℕ) (n : Found (List Bool)) → slice_get nodes k ≡ Some n → n.state ≢ s)
      (rest : ℕ) (right : IsRestOf answers t s rest) (admissible : IsAdmissible t estimate) (reports : ReportsDeadEnds t reported) where
    abbrev pub new_value : List Bool → ℕ
    new_value = with_at value s (value_on estimate rest s)

    abbrev pub new_dead : List Bool → Bool
    new_dead = with_at is_dead s (reported s)

    -- by the values of the found states, nothing changes
    pub differs_nowhere : IsLater value new_value is_dead new_dead nodes
    differs_nowhere =
        let same : (k : ℕ) (n : Found (List Bool)) → slice_get nodes k ≡ Some n → new_value n.state ≡ value n.state = λ k n at. with_other value s (value_on estimate rest s) n.state (is_new k n at) in
        let same_dead : (k : ℕ) (n : Found (List Bool)) → slice_get nodes k ≡ Some n → new_dead n.state ≡ is_dead n.state = λ k n at. with_other is_dead s (reported s) n.state (is_new k n at) in
        record {
          settled = λ k n at _. same k n at;
          settled_dead = λ k n at _. same_dead k n at;
          no_less = λ k n at. omega (arith, same k n at);
          stays_dead = λ k n at dead. same_dead k n at ∙ dead;
        }

    pub new_is : new_value s ≡ value_on estimate rest s
    new_is = with_here value s (value_on estimate rest s)

    pub new_dead_is : new_dead s ≡ reported s
    new_dead_is = with_here is_dead s (reported s)

    -- what the guide reports, with what it rests on, is the state's value now
    pub reported_new : (result : Option ℕ) → IsValueUnlessDead (value_on estimate rest) reported s result → IsValueUnlessDead new_value new_dead s result
    reported_new None dead = new_dead_is ∙ dead
    reported_new (Some e) (alive, is, fits) = (new_dead_is ∙ alive, is ∙ sym new_is, fits)

    -- it is found at this place now, and its value is kept
    pub valued_new : (after : List (Found (List Bool))) (bases' : Bases) (j : ℕ) → IsNoted bases bases' j rest
        → ((k : ℕ) (n : Found (List Bool)) → slice_get after k ≡ Some n → ((k ≡ j) × (n.state ≡ s)) ⊎ ((k ≢ j) × (slice_get nodes k ≡ Some n)))
        → AreValued t estimate reported answers after bases' new_value new_dead
    valued_new after bases' j noted cases =
        let others : (k : ℕ) (n : Found (List Bool)) → slice_get nodes k ≡ Some n → (new_value n.state ≡ value n.state) × (new_dead n.state ≡ is_dead n.state) =
        λ k n at. (with_other value s (value_on estimate rest s) n.state (is_new k n at), with_other is_dead s (reported s) n.state (is_new k n at)) in
        let here : (k : ℕ) → k ≡ j → noted_at bases' k ≡ rest = λ k is. ap (noted_at bases') is ∙ noted.here in
        record {
          value_is = λ k n at alive.
              elim (cases k n at) [
                | inl (is, same) ↦
                    ap new_value same ∙ new_is ∙ ap (λ (v : ℕ). value_on estimate v s) (sym (here k is))
                    ∙ ap (value_on estimate (noted_at bases' k)) (sym same)
                | inr (other, there) ↦
                    let (same, same_dead) = others k n there in
                    same ∙ old.value_is k n there (sym same_dead ∙ alive) ∙ ap (λ (v : ℕ). value_on estimate v n.state) (sym (noted.others k other))
              ];
          alive = λ k n at alive.
              elim (cases k n at) [
                | inl (is, same) ↦ ap reported same ∙ sym new_dead_is ∙ ap new_dead (sym same) ∙ alive
                | inr (other, there) ↦ old.alive k n there (sym (others k n there).1 ∙ alive)
              ];
          fits = λ k.
              elim (cases_eq k j) [
                | inl at_j ↦ omega (arith, here k at_j, right.1)
                | inr other ↦ omega (arith, noted.others k other, old.fits k)
              ];
          admissible = with-admissible (value_on estimate rest s) old.admissible (value_on-bound t estimate rest s (admissible s) right.0);
          dead_ends = with-dead_ends (reported s) old.dead_ends (reports s);
          alone = λ none. (
            λ x.
                elim (with_cases value s (value_on estimate rest s) x) [
                  | inl (is, at_s) ↦ at_s ∙ value_on-none estimate rest s (right.2 none) ∙ ap estimate (sym is)
                  | inr (other, there) ↦ there ∙ (old.alone none).0 x
                ],
            λ x.
                elim (with_cases is_dead s (reported s) x) [
                  | inl (is, at_s) ↦ at_s ∙ ap reported (sym is)
                  | inr (other, there) ↦ there ∙ (old.alone none).1 x
                ],
          );
        }

  -- a found state, which was never expanded, is asked for
  module _ (nodes : List (Found (List Bool))) (bases bases' : Bases) (old : AreValued t estimate reported answers nodes bases value is_dead) (i : ℕ) (one : Found (List Bool)) (stood : slice_get nodes i ≡ Some one)
      (is_s : one.state ≡ s) (distinct : (k : ℕ) (n : Found (List Bool)) → slice_get nodes k ≡ Some n → n.state ≡ s → k ≡ i) (fresh : has_been_expanded one.node ≡ false) (alive : is_dead s ≡ false)
      (answered : answers ≡ true) (noted : ℕ) (small : noted < 2 ^ 63) (kept : IsNoted bases bases' i noted) where
    other_state : (k : ℕ) (n : Found (List Bool)) → k ≢ i → slice_get nodes k ≡ Some n → n.state ≢ s
    other_state k n other at is = other (distinct k n at is)

    fresh_at : (n : Found (List Bool)) → slice_get nodes i ≡ Some n → has_been_expanded n.node ≡ false
    fresh_at n at = subst (λ (x : Found (List Bool)). has_been_expanded x.node ≡ false) (same_Some one n (sym stood ∙ at)) fresh

    state_at : (n : Found (List Bool)) → slice_get nodes i ≡ Some n → n.state ≡ s
    state_at n at = subst (λ (x : Found (List Bool)). x.state ≡ s) (same_Some one n (sym stood ∙ at)) is_s

    fits_now : (k : ℕ) → noted_at bases' k < 2 ^ 63
    fits_now k =
        elim (cases_eq k i) [
          | inl here ↦ omega (arith, ap (noted_at bases') here, kept.here, small)
          | inr other ↦ omega (arith, kept.others k other, old.fits k)
        ]

    -- it is raised
    module _ (bound : IsLowerBound t s noted) (above : value s < noted) where
      abbrev pub raised : List Bool → ℕ
      raised = with_at value s noted

      pub raised_is : raised s ≡ noted
      raised_is = with_here value s noted

      pub differs_raised : DiffersAt value raised is_dead is_dead nodes i
      differs_raised = record {
        same = λ k n other at. with_other value s noted n.state (other_state k n other at);
        same_dead = λ _ _ _ _. refl;
        new = fresh_at;
        no_less = λ n at. let same = state_at n at in omega (arith, ap value same, ap raised same, raised_is, above);
        stays_dead = λ _ _ dead. dead;
      }

      pub valued_raised : AreValued t estimate reported answers nodes bases' raised is_dead
      valued_raised = record {
        value_is = λ k n at living.
            elim (cases_eq k i) [
              | inl here ↦
                  let same = state_at n (ap (slice_get nodes) (sym here) ∙ at) in
                  let was : value s ≡ value_on estimate (noted_at bases i) s = ap value (sym is_s) ∙ old.value_is i one stood (ap is_dead is_s ∙ alive) ∙ ap (value_on estimate (noted_at bases i)) is_s in
                  let it : value_on estimate noted s ≡ noted = omega (arith, above, was, value_on-least estimate (noted_at bases i) s) in
                  ap raised same ∙ raised_is ∙ sym it ∙ ap (λ (v : ℕ). value_on estimate v s) (sym (ap (noted_at bases') here ∙ kept.here))
                  ∙ ap (value_on estimate (noted_at bases' k)) (sym same)
              | inr other ↦
                  with_other value s noted n.state (other_state k n other at) ∙ old.value_is k n at living ∙ ap (λ (v : ℕ). value_on estimate v n.state) (sym (kept.others k other))
            ];
        alive = old.alive;
        fits = fits_now;
        admissible = with-admissible noted old.admissible bound;
        dead_ends = old.dead_ends;
        alone = λ none. absurd (false≢true (sym none ∙ answered));
      }

    -- it is told to be dead
    module _ (dead : IsDeadEnd t s) where
      abbrev pub buried : List Bool → Bool
      buried = with_at is_dead s true

      pub buried_is : buried s ≡ true
      buried_is = with_here is_dead s true

      pub differs_buried : DiffersAt value value is_dead buried nodes i
      differs_buried = record {
        same = λ _ _ _ _. refl;
        same_dead = λ k n other at. with_other is_dead s true n.state (other_state k n other at);
        new = fresh_at;
        no_less = λ n _. le_refl (value n.state);
        stays_dead = λ n at _. ap buried (state_at n at) ∙ buried_is;
      }

      pub valued_buried : AreValued t estimate reported answers nodes bases' value buried
      valued_buried = record {
        value_is = λ k n at living.
            elim (cases_eq k i) [
              | inl here ↦ absurd (false≢true (sym living ∙ ap buried (state_at n (ap (slice_get nodes) (sym here) ∙ at)) ∙ buried_is))
              | inr other ↦
                  old.value_is k n at (sym (with_other is_dead s true n.state (other_state k n other at)) ∙ living)
                  ∙ ap (λ (v : ℕ). value_on estimate v n.state) (sym (kept.others k other))
            ];
        alive = λ k n at living.
            elim (cases_eq k i) [
              | inl here ↦ absurd (false≢true (sym living ∙ ap buried (state_at n (ap (slice_get nodes) (sym here) ∙ at)) ∙ buried_is))
              | inr other ↦ old.alive k n at (sym (with_other is_dead s true n.state (other_state k n other at)) ∙ living)
            ];
        fits = fits_now;
        admissible = old.admissible;
        dead_ends = with-dead_ends true old.dead_ends (λ _. dead);
        alone = λ none. absurd (false≢true (sym none ∙ answered));
      }

-- Where nothing is ever answered, what holds by the values of the search holds by the estimate and the test for dead ends.
pub by_guide : {S : Type 0} (t : System S ℕ) (estimate : S → ℕ) (reported : S → Bool) (answers : Bool) (nodes : List (Found S)) (bases : Bases) (P : (S → ℕ) → (S → Bool) → Type 0)
    → answers ≡ false → HoldsBy t estimate reported answers nodes bases P → P estimate reported
by_guide {S} t estimate reported answers nodes bases P none by =
    let (same, same_dead) = by.valued.alone none in
    let value_is : by.value ≡ estimate = fun_ext same in
    let dead_is : by.is_dead ≡ reported = fun_ext same_dead in
    subst (λ (v : S → ℕ). P v reported) value_is (subst (λ (d : S → Bool). P by.value d) dead_is by.holds)

-- Where no value is kept, the values are those of the guide.
pub valued_alone : {S : Type 0} (t : System S ℕ) (estimate : S → ℕ) (reported : S → Bool) (answers : Bool) (nodes : List (Found S)) (bases : Bases) → ((k : ℕ) → noted_at bases k ≡ 0)
    → IsAdmissible t estimate → ReportsDeadEnds t reported → AreValued t estimate reported answers nodes bases estimate reported
valued_alone {S} t estimate reported answers nodes bases none admissible reports = record {
  value_is = λ k n _ _. sym (value_on-none estimate (noted_at bases k) n.state (none k));
  alive = λ _ _ _ alive. alive;
  fits = λ k. omega (arith, none k);
  admissible = admissible;
  dead_ends = reports;
  alone = λ _. ((λ _. refl), (λ _. refl));
}
