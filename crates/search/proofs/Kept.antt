-- What stays true of the found states while each keeps its place, at no higher cost, and its state if it has been expanded.
use Rattle.std.proofs.Common.{◌≡◌, ℕ, ◌+◌, ◌≤◌, ◌≢◌, List, [], Bool, Some, true, false, refl, sym, ap, ◌∙◌, subst, le_refl, arith}
use Rattle.std.specs.Prelude.{slice_get, All}
use Rattle.std.proofs.lemmas.Bool.{false≢true}
use Rattle.std.proofs.lemmas.List.Elements.{All-weaker}
use Rattle.model.specs.Runs.{System}
use Rattle.search.specs.Outcome.{AreOfOneClass, AreOwnClasses}
use Rattle.search.specs.Nodes.{Waiting, place_of, IsEntryOf, has_been_expanded, parent_of, begins, follows, IsWay, HasWay, Found, Leads, IsFoundWithin, IsClosedAt, AreSettled, IsLater}

-- The node's place has one of its class still, which costs no more: another one only where it costs less and the node has never been
-- expanded.
pub record IsKept {S : Type 0} (class_of : S → S) (after : List (Found S)) (k : ℕ) (n : Found S) : Type 0 where
  pub now : Found S
  pub there : slice_get after k ≡ Some now
  pub alike : AreOfOneClass class_of now.state n.state
  pub cheaper : now.node.cost ≤ n.node.cost
  pub same_cost : now.node.cost ≡ n.node.cost → now.state ≡ n.state
  pub expanded : has_been_expanded n.node ≡ true → (now.state ≡ n.state) × (has_been_expanded now.node ≡ true)

abbrev pub AreKept : {S : Type 0} → (S → S) → List (Found S) → List (Found S) → Type 0
AreKept {S} class_of nodes after = (k : ℕ) (n : Found S) → slice_get nodes k ≡ Some n → IsKept class_of after k n

module _ {S : Type 0} (nodes after : List (Found S)) where
  -- Ways lead to where they led, if each still goes on from parent to child.
  pub way_kept : ((k : ℕ) (n : Found S) → k ≢ 0 → slice_get nodes k ≡ Some n → HasWay after (parent_of n.node) → HasWay after k) → (k : ℕ) (way : List ℕ) → IsWay nodes k way → HasWay after k
  way_kept again k way (begins first none) = ([], begins first refl)
  way_kept again k way (follows n before elsewhere at earlier is) = again k n elsewhere at (way_kept again (parent_of n.node) before earlier)

  module _ (class_of : S → S) (kept : AreKept class_of nodes after) where
    pub found_kept : (s : S) (cost : ℕ) → IsFoundWithin class_of nodes s cost → IsFoundWithin class_of after s cost
    found_kept s cost (k, n, at, alike, within) =
        let is = kept k n at in
        (k, is.now, is.there, is.alike ∙ alike, omega (arith, is.cheaper, within))

    pub open_kept : (t : System S ℕ) (n : Found S) → IsClosedAt t class_of nodes n → IsClosedAt t class_of after n
    open_kept t n is_open a next step = found_kept next (n.node.cost + t.cost a) (is_open a next step)

    -- later values that are settled there are settled before
    pub settled_before : (value later : S → ℕ) → AreSettled value later after → AreSettled value later nodes
    settled_before value later settled k n at expanded =
        let is = kept k n at in
        let (same, been) = is.expanded expanded in
        ap later (sym same) ∙ settled k is.now is.there been ∙ ap value same

    -- if each state is a class of its own, no other takes its place
    pub later_before : AreOwnClasses class_of → (value later : S → ℕ) (is_dead later_dead : S → Bool) → IsLater value later is_dead later_dead after → IsLater value later is_dead later_dead nodes
    later_before own value later is_dead later_dead is_later = record {
      settled = settled_before value later is_later.settled;
      settled_dead = λ k n at expanded.
          let is = kept k n at in
          let (same, been) = is.expanded expanded in
          ap later_dead (sym same) ∙ is_later.settled_dead k is.now is.there been ∙ ap is_dead same;
      no_less = λ k n at.
          let is = kept k n at in
          subst (λ (x : S). value x ≤ later x) (own is.now.state n.state is.alike) (is_later.no_less k is.now is.there);
      stays_dead = λ k n at dead.
          let is = kept k n at in
          let same : is.now.state ≡ n.state = own is.now.state n.state is.alike in
          ap later_dead (sym same) ∙ is_later.stays_dead k is.now is.there (ap is_dead same ∙ dead);
    }

    -- a node's parent may be reached more cheaply, and is the same state
    pub leads_kept : (t : System S ℕ) (value : S → ℕ) (is_dead : S → Bool) (n : Found S) → Leads t value is_dead nodes n → Leads t value is_dead after n
    leads_kept t value is_dead n leads =
        let is = kept (parent_of n.node) leads.parent leads.occurs in
        let (same, expanded) = is.expanded leads.expanded in
        record {
          parent = is.now;
          occurs = is.there;
          cost = omega (arith, leads.cost, is.cheaper);
          expanded = expanded;
          step = ap (λ (s : S). t.step s n.node.action) same ∙ leads.step;
          no_goal = ap t.meets_goal same ∙ leads.no_goal;
          alive = ap is_dead same ∙ leads.alive;
          no_dearer = λ plan solves. omega (arith, leads.no_dearer plan solves, is.cheaper, ap value same);
        }

    -- an entry's state stays where it is, or its place is reached at less now
    entry_kept : (value : S → ℕ) (is_dead : S → Bool) (w : Waiting) → IsEntryOf value is_dead nodes w → IsEntryOf value is_dead after w
    entry_kept value is_dead w of =
        let is = kept (place_of w) of.found of.occurs in
        record {
          found = is.now;
          occurs = is.there;
          no_dearer = omega (arith, of.no_dearer, is.cheaper);
          alive = λ sums. ap is_dead (is.same_cost (omega (arith, sums, of.no_dearer, is.cheaper))) ∙ of.alive (omega (arith, sums, of.no_dearer, is.cheaper));
          estimate = λ sums. of.estimate (omega (arith, sums, of.no_dearer, is.cheaper)) ∙ sym (ap value (is.same_cost (omega (arith, sums, of.no_dearer, is.cheaper))));
        }

    pub entries_kept : (value : S → ℕ) (is_dead : S → Bool) (open_list : List Waiting) → All (IsEntryOf value is_dead nodes) open_list → All (IsEntryOf value is_dead after) open_list
    entries_kept value is_dead open_list all = All-weaker (IsEntryOf value is_dead nodes) (IsEntryOf value is_dead after) (entry_kept value is_dead) open_list all

module _ {S : Type 0} (value : S → ℕ) (is_dead : S → Bool) (nodes : List (Found S)) where
  -- the search's own values are among those to which it may come
  pub later_same : IsLater value value is_dead is_dead nodes
  later_same = record { settled = λ _ _ _ _. refl; settled_dead = λ _ _ _ _. refl; no_less = λ _ n _. le_refl (value n.state); stays_dead = λ _ _ _ dead. dead }

  -- what is not reported dead later is not now
  pub alive_before : (later : S → ℕ) (later_dead : S → Bool) → IsLater value later is_dead later_dead nodes → (k : ℕ) (n : Found S) → slice_get nodes k ≡ Some n → later_dead n.state ≡ false → is_dead n.state ≡ false
  alive_before later later_dead is_later k n at alive =
      elim (is_dead n.state) as (λ d. is_dead n.state ≡ d → d ≡ false) [
        | false ↦ λ _. refl
        | true ↦ λ dead. absurd (false≢true (sym alive ∙ is_later.stays_dead k n at dead))
      ] refl
