-- A closed set is an invariant: by induction on the list of actions, each of whose states has the initial static atoms.
use Rattle.std.proofs.Common.{◌≡◌, ◌∙◌, Bool, true, false, true≢false, not, ◌&&◌, inl, inr, List, [], ◌∷◌, ◌++◌, Option, None, Some, refl, sym, ap}
use Rattle.std.specs.Prelude.{Contains, cond, filter, if◌then◌else◌, map, slice_get}
use Rattle.std.specs.List.{list_all}
use Rattle.std.specs.Option.{option_and_then, option_map_or}
use Rattle.std.specs.FinSet.{contains}
use Rattle.std.proofs.lemmas.Bool.{and_parts, and_from, or_cases}
use Rattle.std.proofs.lemmas.List.Folds.{list_all-append}
use Rattle.model.specs.Task.{Atom, Schema, Task, Instance}
use Rattle.model.specs.Runs.{run}
use Rattle.model.specs.Meaning.{State, fits, has_amount, holds, can_apply, GroundLiteral, adds, deletes, Change, after_changes, after_literals, changes_of, literals_in, added_by, deleted_by, initial_state, step, system_of}
use Rattle.model.specs.Fluents.{HasInitialStatics}
use Rattle.model.specs.SureLiterals.{Literal, is_true, is_false, literal_holds, sure}
use Rattle.model.specs.StaticallyFalse.{counting_changes}
use Rattle.model.specs.NumberedAtoms.{occurs_in}
use Rattle.model.proofs.ListLemmas.{Contains-here, Contains-there, Contains-place}
use Rattle.model.proofs.Tests.{passes_got}
use Rattle.model.proofs.StaticLemmas.{contains-after_literals, same_atom}
use Rattle.model.proofs.StaticallyFalseLemmas.{Contains-kept}
use Rattle.model.proofs.SureLiteralsHold.{sure_literals_hold}
use Rattle.model.proofs.GroundTaskLemmas.{step-counting, step-HasInitialStatics}
use Rattle.explain_goals.specs.Relaxation.{sure_of_instance, IsClosed}
use Rattle.explain_goals.specs.Contradictions.{ContradictoryGoalsAreUnsolvable}
use Rattle.explain_goals.specs.Laws.{ClosedSetsAreInvariants, NeverTrueGoalsAreUnsolvable}

-- a literal among literals that hold
pub holds-at : (s : State) (literals : List Literal) (l : Literal) → list_all (literal_holds s) literals ≡ true → Contains literals l → literal_holds s l ≡ true
holds-at s literals l all at = let place = Contains-place literals l at in passes_got (literal_holds s) literals place.0 l place.1 all

-- the precondition of an instance that is applied holds
applied : (a b c : Bool) (x y : State) → (if a && (b && c) then Some x else None) ≡ Some y → c ≡ true
applied true true true x y is = refl
applied true true false x y is = absurd (cc)
applied true false c x y is = absurd (cc)
applied false b c x y is = absurd (cc)

pub precondition-holds : (t : Task) (s next : State) (i : Instance) → step t s i ≡ Some next → list_all (literal_holds s) (sure_of_instance t i) ≡ true
precondition-holds t s next i leads =
    elim (slice_get t.schemas i.schema) as (λ o. option_and_then by o ≡ Some next → list_all (literal_holds s) (option_map_or (λ (schema : Schema). sure t schema.precondition i.objects) o []) ≡ true) [
      | None ↦ λ none. refl
      | Some schema ↦ λ some.
          sure_literals_hold t schema.precondition i.objects s
          (applied (fits t schema i.objects) (has_amount t schema i.objects) (holds t schema.precondition i.objects s) (after_changes t s (changes_of t schema.effect i.objects)) next some)
    ] leads
  where
    by : Schema → Option State
    by schema = if fits t schema i.objects && can_apply t schema i.objects s then Some (after_changes t s (changes_of t schema.effect i.objects)) else None

-- an atom that is added is added by a change whose condition holds
pub record IsMade (t : Task) (s : State) (changes : List Change) (a : Atom) : Type 0 where
  pub change : Change
  pub among : Contains changes change
  pub holding : holds t change.condition change.binding s ≡ true
  pub is : change.literal ≡ adds a

pub made-by : (t : Task) (s : State) (changes : List Change) (a : Atom) → occurs_in (added_by (literals_in t s changes)) a ≡ true → IsMade t s changes a
made-by t s [] a none = absurd (true≢false (sym none))
made-by t s (c ∷ changes) a some =
    elim (holds t c.condition c.binding s) as (λ b. holds t c.condition c.binding s ≡ b → occurs_in (added_by (map (λ (d : Change). d.literal) (cond b (c ∷ met) met))) a ≡ true → IsMade t s (c ∷ changes) a) [
      | true ↦ λ holding. first (made-by t s changes a) holding c.literal refl
      | false ↦ λ _ rest. later (made-by t s changes a rest)
    ] refl some
  where
    met : List Change
    met = filter (λ (d : Change). holds t d.condition d.binding s) changes

    later : IsMade t s changes a → IsMade t s (c ∷ changes) a
    later m = record { change = m.change; among = Contains-there c changes m.change m.among; holding = m.holding; is = m.is }

    first : (occurs_in (added_by (literals_in t s changes)) a ≡ true → IsMade t s changes a) → holds t c.condition c.binding s ≡ true → (l : GroundLiteral) → c.literal ≡ l → occurs_in (added_by (l ∷ literals_in t s changes)) a ≡ true → IsMade t s (c ∷ changes) a
    first rest_by holding (adds b) is either =
        elim (or_cases _ (occurs_in (added_by (literals_in t s changes)) a) either) [
          | inl same ↦ record { change = c; among = Contains-here c changes; holding = holding; is = is ∙ ap adds (sym (same_atom a b same)) }
          | inr rest ↦ later (rest_by rest)
        ]
    first rest_by holding (deletes b) is rest = later (rest_by rest)

module _ (t : Task) (set : Atom → Bool) (closed : IsClosed t set) where
  -- across one action
  stays : (s next : State) (i : Instance) → HasInitialStatics t s → step t s i ≡ Some next → ((a : Atom) → contains s a ≡ true → set a ≡ true)
      → (a : Atom) → contains next a ≡ true → set a ≡ true
  stays s next i statics leads within a there =
      let literals = literals_in t s (counting_changes t i) in
      let after : contains (after_literals s literals) a ≡ true = ap (λ (u : State). contains u a) (step-counting t s next i statics leads) ∙ there in
      elim (or_cases (contains s a && not (occurs_in (deleted_by literals) a)) (occurs_in (added_by literals) a) (sym (contains-after_literals s literals a) ∙ after)) [
        | inl before ↦ within a (and_parts (contains s a) (not (occurs_in (deleted_by literals) a)) before).0
        | inr added ↦
            let m = made-by t s (counting_changes t i) a added in
            let c = m.change in
            let surely : list_all (literal_holds s) (sure_of_instance t i ++ sure t c.condition c.binding) ≡ true =
            list_all-append (literal_holds s) (sure_of_instance t i) (sure t c.condition c.binding)
            ∙ and_from (list_all (literal_holds s) (sure_of_instance t i)) (list_all (literal_holds s) (sure t c.condition c.binding))
            (precondition-holds t s next i leads) (sure_literals_hold t c.condition c.binding s m.holding) in
            closed.added i c a (record { kept = Contains-kept t s next i statics leads; counts = m.among; is = m.is })
            (λ b needed. within b (holds-at s (sure_of_instance t i ++ sure t c.condition c.binding) (is_true b) surely needed))
      ]

  along : (plan : List Instance) (s end : State) → HasInitialStatics t s → ((a : Atom) → contains s a ≡ true → set a ≡ true) → run (system_of t) s plan ≡ Some end
      → (a : Atom) → contains end a ≡ true → set a ≡ true
  along [] s end statics within runs a there = let same : s ≡ end = cc in within a (ap (λ (u : State). contains u a) same ∙ there)
  along (i ∷ plan) s end statics within runs a there =
      elim (step t s i) as (λ o. step t s i ≡ o → option_and_then (λ next. run (system_of t) next plan) o ≡ Some end → set a ≡ true) [
        | None ↦ λ _ none. absurd (cc)
        | Some next ↦ λ leads on. along plan next end (step-HasInitialStatics t s next i statics leads) (stays s next i statics leads within) on a there
      ] refl runs

pub closed_sets_are_invariants : ClosedSetsAreInvariants
closed_sets_are_invariants t set closed s reached a there = along t set closed reached.0 (initial_state t) s (λ q static. refl) closed.initial reached.1 a there

pub never_true_goals_are_unsolvable : NeverTrueGoalsAreUnsolvable
never_true_goals_are_unsolvable t a required never plan solves =
    true≢false (sym (holds-at solves.0 (sure t t.goal []) (is_true a) (sure_literals_hold t t.goal [] solves.0 solves.2) required) ∙ never solves.0 (plan, solves.1))

pub contradictory_goals_are_unsolvable : ContradictoryGoalsAreUnsolvable
contradictory_goals_are_unsolvable t a both plan solves =
    let surely = sure_literals_hold t t.goal [] solves.0 solves.2 in
    let there = holds-at solves.0 (sure t t.goal []) (is_true a) surely both.as_true in
    let not_there = holds-at solves.0 (sure t t.goal []) (is_false a) surely both.as_false in
    true≢false (sym not_there ∙ ap not there)
