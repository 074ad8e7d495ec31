-- The open list of a search, and the way back from child to parent.
use Rattle.std.proofs.Common.{◌≡◌, ℕ, ◌+◌, ◌<◌, ◌≤◌, ◌≢◌, ◌⊎◌, inl, inr, List, [], ◌∷◌, ◌++◌, reverse, length, get_or, Some, true, false, refl, sym, ap, ◌∙◌, subst, arith, append_assoc}
use Rattle.std.specs.Prelude.{slice_get, Contains, All, IsPermutation}
use Rattle.std.specs.Ordering.{is_lt}
use Rattle.std.proofs.lemmas.Bool.{false≢true}
use Rattle.std.proofs.lemmas.Bool.Decides.{nat_tests}
use Rattle.std.proofs.lemmas.Option.{same_Some, slice_get_read, slice_get_within}
use Rattle.std.proofs.lemmas.List.{append-nil, reverse-append, length-append, length-reverse}
use Rattle.std.proofs.lemmas.List.Elements.{All-contains, All-tail, All-head}
use Rattle.std.proofs.lemmas.List.Sorted.{Contains-permutation, All-permutation}
use Rattle.model.proofs.ListLemmas.{Contains-cases, Contains-got}
use Rattle.search.specs.declared.nodes.Node.{Node}
use Rattle.search.specs.declared.turns.Turn.{Turn}
use Rattle.search.specs.Outcome.{is_expanded}
use Rattle.search.specs.Nodes.{Waiting, sum_of, estimate_of, place_of, AreSingle, IsEntry, IsCurrent, parent_of, IsPath, begins, follows, IsReachedIn}
use Rattle.search.specs.OpenList.{by_sum}
use Rattle.search.specs.Progress.{TakesNext, IsLeastWith}
use Rattle.search.proofs.Lists.{get_there}
use Rattle.search.proofs.OpenListLemmas.{IsFirst}
use Rattle.search.proofs.Single.{single_permutation, single_tail}

-- what is not below another in the open list's order has no greater sum
sum-le : (x w : Waiting) → is_lt (by_sum x w) ≡ false → sum_of x ≤ sum_of w
sum-le x w above = grind (arith, nat_tests)

-- of equal sum it has no greater estimate
estimate-le : (x w : Waiting) → is_lt (by_sum x w) ≡ false → sum_of w ≡ sum_of x → estimate_of x ≤ estimate_of w
estimate-le x w above same = grind (arith, nat_tests)

-- and of equal estimate it comes no later
place-le : (x w : Waiting) → is_lt (by_sum x w) ≡ false → sum_of w ≡ sum_of x → estimate_of w ≡ estimate_of x → place_of x ≤ place_of w
place-le x w above same near = grind (arith, nat_tests)

first-of : (x : Waiting) (open_list : List Waiting) → IsFirst x open_list → (w : Waiting) → Contains open_list w → is_lt (by_sum x w) ≡ false
first-of x open_list first w at = All-contains (λ y. is_lt (by_sum x y) ≡ false) open_list w first at

-- what holds of all in a list holds of all in another that has no more
pub All-among : {X : Type 0} (P : X → Type 0) (old new : List X) → ((x : X) → Contains new x → Contains old x) → All P old → All P new
All-among P old new among all k d below =
    All-contains P old (get_or new k d) all (among (get_or new k d) (Contains-got new k (get_or new k d) (get_there new k d below)))

-- the open list, from which only entries that are stale have gone
pub record KeepsCurrent (initial now : List Waiting) (all : List Node) : Type 0 where
  pub kept : (w : Waiting) → Contains now w → Contains initial w
  pub entries : All (IsEntry (length all)) now
  pub current : (w : Waiting) → Contains initial w → IsCurrent all w → Contains now w
  pub single : AreSingle initial → AreSingle now

popped-cases : (old new : List Waiting) (x w : Waiting) → IsPermutation old (x ∷ new) → Contains old w → (x ≡ w) ⊎ Contains new w
popped-cases old new x w moved at = Contains-cases x new w (Contains-permutation old (x ∷ new) w moved at)

module _ (initial old new : List Waiting) (all : List Node) (x : Waiting) (keeps : KeepsCurrent initial old all) (moved : IsPermutation old (x ∷ new)) where
  both : All (λ w. Contains initial w × IsEntry (length all) w) (x ∷ new)
  both = All-permutation (λ w. Contains initial w × IsEntry (length all) w) old (x ∷ new) moved
      (λ k d below. (keeps.kept (get_or old k d) (Contains-got old k (get_or old k d) (get_there old k d below)), keeps.entries k d below))

  -- the entry that goes is one of the open list
  pub popped : Contains initial x × IsEntry (length all) x
  popped = All-head (λ w. Contains initial w × IsEntry (length all) w) x new both

  left : All (λ w. Contains initial w × IsEntry (length all) w) new
  left = All-tail (λ w. Contains initial w × IsEntry (length all) w) x new both

  pub kept-popped : (w : Waiting) → Contains new w → Contains initial w
  kept-popped w at = (All-contains (λ w. Contains initial w × IsEntry (length all) w) new w left at).0

  -- a stale entry goes
  pub keeps-popped : (¬ IsCurrent all x) → KeepsCurrent initial new all
  keeps-popped stale = record {
    kept = kept-popped;
    entries = λ k d below. (left k d below).1;
    current = λ w at now.
        elim (popped-cases old new x w moved (keeps.current w at now)) [
          | inl is ↦ absurd (stale (subst (λ y. IsCurrent all y) (sym is) now))
          | inr there ↦ there
        ];
    single = λ single. single_tail x new (single_permutation old (x ∷ new) moved (keeps.single single));
  }

  -- a current entry is taken
  pub takes-popped : IsFirst x old → IsCurrent all x → (turn : Turn) → place_of x ≡ turn.id.0 → sum_of x ≡ turn.sum → estimate_of x ≡ turn.estimate → TakesNext initial new all turn
  takes-popped ahead now turn place sum estimate = record {
    next = x;
    occurs = place;
    sum = sum;
    estimate = estimate;
    among = popped.0;
    current = now;
    least = λ w at current. sum-le x w (first-of x old ahead w (keeps.current w at current));
    nearest = λ w at current same. estimate-le x w (first-of x old ahead w (keeps.current w at current)) same;
    first = λ w at current same near. place-le x w (first-of x old ahead w (keeps.current w at current)) same near;
    rest = λ w at current other.
        elim (popped-cases old new x w moved (keeps.current w at current)) [
          | inl is ↦ absurd (other (ap place_of (sym is) ∙ place))
          | inr there ↦ there
        ];
    single = λ single. single_permutation old (x ∷ new) moved (keeps.single single);
  }

-- the least of a sum and those of the current entries, of which one is taken
pub least_taken : (old new : List Waiting) (all : List Node) (turn : Turn) → TakesNext old new all turn → (sum least : ℕ) → least ≤ sum → least ≤ turn.sum → (sum ≤ least) ⊎ (turn.sum ≤ least) → IsLeastWith sum old all least
least_taken old new all turn takes sum least below below_turn reached = record {
  no_greater = below;
  at_most_each = λ w at current. omega (arith, below_turn, takes.sum, takes.least w at current);
  of_one =
      elim reached [
        | inl is ↦ inl (omega (arith, is, below))
        | inr is ↦ inr (takes.next, takes.among, takes.current, omega (arith, is, below_turn, takes.sum))
      ];
}

-- or where none is current
pub least_alone : (open_list : List Waiting) (all : List Node) (sum : ℕ) → ((w : Waiting) → Contains open_list w → ¬ IsCurrent all w) → IsLeastWith sum open_list all sum
least_alone open_list all sum none = record { no_greater = omega arith; at_most_each = λ w at current. absurd (none w at current); of_one = inl refl }

-- what was read of the entry's state
pub current-read : (all : List Node) (w : Waiting) (r : Node) → place_of w < length all → r ≡ get_or all (place_of w) r → is_expanded r ≡ false → r.cost + estimate_of w ≡ sum_of w → IsCurrent all w
current-read all w r within read waits same = (r, slice_get_read all (length all) (place_of w) r refl within read, same, waits)

pub stale-read : (all : List Node) (w : Waiting) (r : Node) → place_of w < length all → r ≡ get_or all (place_of w) r → (is_expanded r ≡ true) ⊎ (r.cost + estimate_of w ≢ sum_of w) → ¬ IsCurrent all w
stale-read all w r within read cases (node, occurs, sums, waits) =
    let same : r ≡ node = same_Some r node (sym (slice_get_read all (length all) (place_of w) r refl within read) ∙ occurs) in
    elim cases [
      | inl expanded ↦ absurd (false≢true (sym waits ∙ sym (ap (λ (x : Node). is_expanded x) same) ∙ expanded))
      | inr dearer ↦ absurd (dearer (ap (λ (x : Node). x.cost + estimate_of w) same ∙ sums))
    ]

-- On the way back from the goal: the steps so far, backwards, lead from this place to the goal, and some before them here.
pub record IsWayBack (nodes : List Node) (goal at : ℕ) (steps : List ℕ) : Type 0 where
  pub before : List ℕ
  pub here : IsPath nodes at before
  pub leads : IsPath nodes goal (before ++ reverse steps)
  pub short : length before + length steps ≤ length nodes

-- the last action before a node that is not the initial state
pub record IsLastStep (nodes : List Node) (at : ℕ) (path : List ℕ) (node : Node) : Type 0 where
  pub before : List ℕ
  pub occurs : slice_get nodes at ≡ Some node
  pub leads : IsPath nodes (parent_of node) before
  pub is : path ≡ before ++ node.action ∷ []

last_step : (nodes : List Node) (at : ℕ) (path : List ℕ) → IsPath nodes at path → at ≢ 0 → (node : Node) × IsLastStep nodes at path node
last_step nodes at path (begins first none) elsewhere = absurd (elsewhere first)
last_step nodes at path (follows node before _ occurs earlier is) elsewhere =
    (node, record { before = before; occurs = occurs; leads = earlier; is = is })

-- no action leads to the initial state
path_at_root : (nodes : List Node) (at : ℕ) (path : List ℕ) → IsPath nodes at path → at ≡ 0 → path ≡ []
path_at_root nodes at path (begins first none) root = none
path_at_root nodes at path (follows node before elsewhere occurs earlier is) root = absurd (elsewhere root)

module _ (nodes : List Node) (goal : ℕ) where
  pub way_back-start : IsReachedIn nodes goal (length nodes) → IsWayBack nodes goal goal []
  way_back-start (path, leads, short) = record {
    before = path;
    here = leads;
    leads = subst (λ p. IsPath nodes goal p) (sym (append-nil path)) leads;
    short = omega (arith, short);
  }

  -- the place is within the list
  pub way_back-within : (at : ℕ) (steps : List ℕ) → IsWayBack nodes goal at steps → at ≢ 0 → at < length nodes
  way_back-within at steps way elsewhere =
      let (node, last) = last_step nodes at way.before way.here elsewhere in
      slice_get_within nodes at node last.occurs

  pub way_back-more : (at : ℕ) (steps : List ℕ) (node : Node) → IsWayBack nodes goal at steps → at ≢ 0 → slice_get nodes at ≡ Some node
      → IsWayBack nodes goal (parent_of node) (steps ++ node.action ∷ []) × (length (steps ++ node.action ∷ []) ≤ length nodes)
  way_back-more at steps node way elsewhere occurs =
      let (there, last) = last_step nodes at way.before way.here elsewhere in
      let same : there ≡ node = same_Some there node (sym last.occurs ∙ occurs) in
      let is : way.before ≡ last.before ++ node.action ∷ [] = last.is ∙ ap (λ (x : Node). last.before ++ x.action ∷ []) same in
      let count : length way.before ≡ length last.before + 1 = ap length is ∙ length-append last.before (node.action ∷ []) in
      let more : length (steps ++ node.action ∷ []) ≡ length steps + 1 = length-append steps (node.action ∷ []) in (
        record {
          before = last.before;
          here = subst (λ (x : Node). IsPath nodes (parent_of x) last.before) same last.leads;
          leads = subst (λ p. IsPath nodes goal p)
              (ap (λ p. p ++ reverse steps) is ∙ append_assoc last.before (node.action ∷ []) (reverse steps) ∙ ap (λ p. last.before ++ p) (sym (reverse-append steps (node.action ∷ []))))
              way.leads;
          short = omega (arith, way.short, count, more);
        },
        omega (arith, way.short, count, more),
      )

  pub way_back-end : (at : ℕ) (steps : List ℕ) → IsWayBack nodes goal at steps → at ≡ 0 → IsPath nodes goal (reverse steps) × (length (reverse steps) ≤ length nodes)
  way_back-end at steps way first =
      let none : way.before ≡ [] = path_at_root nodes at way.before way.here first in (
        subst (λ p. IsPath nodes goal (p ++ reverse steps)) none way.leads,
        omega (arith, way.short, length-reverse steps),
      )
