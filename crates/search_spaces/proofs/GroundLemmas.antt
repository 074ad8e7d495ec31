-- What is known of the ground task, carried over to its task.
use Rattle.std.proofs.Common.{◌≡◌, ◌∙◌, ℕ, zero, suc, ◌<◌, Bool, true, List, [], ◌∷◌, map, length, None, Some, refl, sym, ap, arith}
use Rattle.std.specs.Prelude.{Contains, All, IsTrue, slice_get, is_some}
use Rattle.std.specs.List.{AllZip}
use Rattle.std.proofs.lemmas.Option.{slice_get_within}
use Rattle.packed_state.specs.Store.{AreDistinct}
use Rattle.search.specs.Transitions.{AreApplicable}
use Rattle.model.specs.Task.{Atom, Task, Instance}
use Rattle.model.specs.Meaning.{State}
use Rattle.model.specs.Fluents.{is_fluent}
use Rattle.model.specs.StaticallyFalse.{kept_instances}
use Rattle.model.specs.NumberedAtoms.{numbered_atoms}
use Rattle.model.specs.Grounding.{state_of_bits, bits_of_state, ground_step, ground_system, applicable_numbers, NamesKept}
use Rattle.model.proofs.GroundTaskLemmas.{Contains-applicable, applicable-Contains, packs_states}

-- ---- the applicable numbers

pub are_applicable : (task : Task) (atoms : List Atom) (bits : List Bool) → AreApplicable (ground_system task atoms) bits (applicable_numbers task atoms bits)
are_applicable task atoms bits number = (
  λ at. ap is_some (applicable-Contains task atoms bits number at).1,
  λ some. elim (ground_step task atoms bits number) as (λ o. ground_step task atoms bits number ≡ o → is_some o ≡ true → Contains (applicable_numbers task atoms bits) number) [
    | None ↦ λ _ none. absurd (cc)
    | Some next ↦ λ leads _. Contains-applicable task atoms bits number next leads
  ] refl some,
)

-- ---- states and packed states

-- distinct states have distinct views, where the view keeps them apart
view_at : {S T : Type 0} (view : S → T) (states : List S) (k : ℕ) (t : T) → slice_get (map view states) k ≡ Some t → (s : S) × (slice_get states k ≡ Some s) × (view s ≡ t)
view_at view [] k t at = absurd (cc)
view_at view (s ∷ states) zero t at = (s, refl, cc)
view_at view (s ∷ states) (suc k) t at = view_at view states k t at

distinct_views : {S T : Type 0} (view : S → T) (states : List S) → ((j k : ℕ) (s s' : S) → slice_get states j ≡ Some s → slice_get states k ≡ Some s' → view s ≡ view s' → s ≡ s') → AreDistinct states
    → AreDistinct (map view states)
distinct_views view states apart distinct j k t at_j at_k =
    let (s, here, is) = view_at view states j t at_j in
    let (s', there, is') = view_at view states k t at_k in
    let same = apart j k s s' here there (is ∙ sym is') in
    distinct j k s here (there ∙ ap Some (sym same))

module _ (task : Task) where
  abbrev atoms : List Atom
  atoms = numbered_atoms task []

  abbrev none_more : All (λ (a : Atom). IsTrue (is_fluent task a.predicate)) []
  none_more = λ k d below. absurd (omega (arith, below))

  abbrev view : List Bool → State
  view = state_of_bits task atoms

  -- packed states of the atoms' length that stand for one state are the same
  pub one_state : (bits bits' : List Bool) → length bits ≡ length atoms → length bits' ≡ length atoms → view bits ≡ view bits' → bits ≡ bits'
  one_state bits bits' long long' same =
      let packs = packs_states task [] none_more in
      sym (packs.one_packed bits long) ∙ ap (bits_of_state atoms) same ∙ packs.one_packed bits' long'

  pub distinct_states : (states : List (List Bool)) → ((k : ℕ) (bits : List Bool) → slice_get states k ≡ Some bits → length bits ≡ length atoms) → AreDistinct states → AreDistinct (map view states)
  distinct_states states long distinct =
      distinct_views view states (λ j k s s' at_j at_k same. one_state s s' (long j s at_j) (long k s' at_k) same) distinct

-- ---- named instances

-- each number of a plan is that of a kept instance
pub numbers_named : (task : Task) (numbers : List ℕ) (plan : List Instance) → AllZip (NamesKept task) numbers plan → All (λ (n : ℕ). n < length (kept_instances task)) numbers
numbers_named task [] plan named k d below = absurd (omega (arith, below))
numbers_named task (n ∷ numbers) [] named k d below = absurd (named)
numbers_named task (n ∷ numbers) (i ∷ plan) named zero d below = slice_get_within (kept_instances task) n i named.0
numbers_named task (n ∷ numbers) (i ∷ plan) named (suc k) d below = numbers_named task numbers plan named.1 k d (omega (arith, below))

-- and names one
pub one_named : (task : Task) (numbers : List ℕ) (plan plan' : List Instance) → AllZip (NamesKept task) numbers plan → AllZip (NamesKept task) numbers plan' → plan ≡ plan'
one_named task [] [] [] named named' = refl
one_named task [] (i ∷ plan) plan' named named' = absurd (named)
one_named task [] [] (i ∷ plan') named named' = absurd (named')
one_named task (n ∷ numbers) [] plan' named named' = absurd (named)
one_named task (n ∷ numbers) (i ∷ plan) [] named named' = absurd (named')
one_named task (n ∷ numbers) (i ∷ plan) (j ∷ plan') named named' =
    let same : i ≡ j = cc (named.0, named'.0) in
    λ k. same k ∷ one_named task numbers plan plan' named.1 named'.1 k
