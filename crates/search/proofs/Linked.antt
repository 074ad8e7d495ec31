-- The found states are the two lists put together, place by place.
use Rattle.std.proofs.Common.{◌≡◌, ℕ, zero, suc, ◌<◌, ◌≢◌, ◌⊎◌, inl, inr, List, [], ◌∷◌, ◌++◌, length, set, Some, true, false, refl, sym, ap, ◌∙◌, subst, arith}
use Rattle.std.specs.Prelude.{slice_get}
use Rattle.std.proofs.lemmas.Bool.{cases_eq}
use Rattle.std.proofs.lemmas.Option.{same_Some, slice_get_within}
use Rattle.std.proofs.lemmas.List.{length-set, length-append}
use Rattle.search.specs.declared.nodes.Node.{Node}
use Rattle.search.specs.Outcome.{AreOfOneClass, is_expanded}
use Rattle.search.specs.Nodes.{has_been_expanded, Found, found_of, Updates}
use Rattle.search.proofs.Lists.{get-push_new, get-push_other, get-set_here, get-set_other}
use Rattle.search.proofs.Work.{work_push, work_cheaper}

module _ {S : Type 0} where
  pub length-found_of : (states : List S) (all : List Node) → length all ≡ length states → length (found_of states all) ≡ length states
  length-found_of [] all one_each = refl
  length-found_of (s ∷ states) [] one_each = absurd (omega arith)
  length-found_of (s ∷ states) (r ∷ all) one_each = ap suc (length-found_of states all (omega arith))

  -- what the lists have at a place
  pub found_of-get : (states : List S) (all : List Node) (k : ℕ) (n : Found S) → slice_get (found_of states all) k ≡ Some n
      → (slice_get states k ≡ Some n.state) × (slice_get all k ≡ Some n.node)
  found_of-get [] all k n at = absurd (cc)
  found_of-get (s ∷ states) [] k n at = absurd (cc)
  found_of-get (s ∷ states) (r ∷ all) zero n at =
      let one : Found S = record { state = s; node = r } in
      let same : one ≡ n = same_Some one n at in
      (ap (λ (x : Found S). Some x.state) same, ap (λ (x : Found S). Some x.node) same)
  found_of-get (s ∷ states) (r ∷ all) (suc k) n at = found_of-get states all k n at

  pub get-found_of : (states : List S) (all : List Node) (k : ℕ) (s : S) (r : Node)
      → slice_get states k ≡ Some s → slice_get all k ≡ Some r → slice_get (found_of states all) k ≡ Some (record { state = s; node = r })
  get-found_of [] all k s r is_s is_r = absurd (cc)
  get-found_of (x ∷ states) [] k s r is_s is_r = absurd (cc)
  get-found_of (x ∷ states) (y ∷ all) zero s r is_s is_r =
      let a : x ≡ s = same_Some x s is_s in
      let b : y ≡ r = same_Some y r is_r in
      cc
  get-found_of (x ∷ states) (y ∷ all) (suc k) s r is_s is_r = get-found_of states all k s r is_s is_r

  pub found_of-push : (states : List S) (all : List Node) (s : S) (r : Node) → length all ≡ length states
      → found_of (states ++ s ∷ []) (all ++ r ∷ []) ≡ found_of states all ++ record { state = s; node = r } ∷ []
  found_of-push [] [] s r one_each = refl
  found_of-push [] (y ∷ all) s r one_each = absurd (omega arith)
  found_of-push (x ∷ states) [] s r one_each = absurd (omega arith)
  found_of-push (x ∷ states) (y ∷ all) s r one_each =
      ap (λ ns. record { state = x; node = y } ∷ ns) (found_of-push states all s r (omega arith))

  pub found_of-set : (states : List S) (all : List Node) (k : ℕ) (n : Found S) (r : Node) → slice_get (found_of states all) k ≡ Some n
      → found_of states (set all k r) ≡ set (found_of states all) k (record { state = n.state; node = r })
  found_of-set [] all k n r at = absurd (cc)
  found_of-set (x ∷ states) [] k n r at = absurd (cc)
  found_of-set (x ∷ states) (y ∷ all) zero n r at =
      let one : Found S = record { state = x; node = y } in
      let same : x ≡ n.state = ap (λ (w : Found S). w.state) (same_Some one n at) in
      ap (λ (w : S). record { state = w; node = r } ∷ found_of states all) same
  found_of-set (x ∷ states) (y ∷ all) (suc k) n r at =
      ap (λ ns. record { state = x; node = y } ∷ ns) (found_of-set states all k n r at)

  -- another state takes the place
  pub found_of-replace : (states : List S) (all : List Node) (k : ℕ) (n : Found S) (s : S) (r : Node) → slice_get (found_of states all) k ≡ Some n
      → found_of (set states k s) (set all k r) ≡ set (found_of states all) k (record { state = s; node = r })
  found_of-replace [] all k n s r at = absurd (cc)
  found_of-replace (x ∷ states) [] k n s r at = absurd (cc)
  found_of-replace (x ∷ states) (y ∷ all) zero n s r at = refl
  found_of-replace (x ∷ states) (y ∷ all) (suc k) n s r at =
      ap (λ ns. record { state = x; node = y } ∷ ns) (found_of-replace states all k n s r at)

  -- a node is new
  pub updates-push : (class_of : S → S) (nodes : List (Found S)) (m : Found S) → is_expanded m.node ≡ false → ((k : ℕ) (n : Found S) → slice_get nodes k ≡ Some n → n.state ≡ m.state → ⊥)
      → Updates class_of nodes (nodes ++ m ∷ []) (length nodes) m
  updates-push class_of nodes m waits is_new =
      let none : (n : Found S) → slice_get nodes (length nodes) ≡ Some n → ⊥ = λ n at. omega (arith, slice_get_within nodes (length nodes) n at) in
      record {
        here = get-push_new nodes m;
        others = λ k other. get-push_other nodes m k other;
        waits = waits;
        same_class = λ n at. absurd (none n at);
        same_state = λ n at. absurd (none n at);
        cheaper = λ n at. absurd (none n at);
        only = λ k n at same. absurd (is_new k n at same);
        longer = omega (arith, length-append nodes (m ∷ []));
        less = λ most within cheap. work_push nodes m most waits within cheap;
      }

  -- a node is reached at a lower cost, or another of its class takes its place
  pub updates-set : (class_of : S → S) (nodes : List (Found S)) (j : ℕ) (n m : Found S) → slice_get nodes j ≡ Some n → is_expanded m.node ≡ false → AreOfOneClass class_of m.state n.state
      → (has_been_expanded n.node ≡ true → (m.state ≡ n.state) × (has_been_expanded m.node ≡ true)) → m.node.cost < n.node.cost
      → ((k : ℕ) (x : Found S) → slice_get nodes k ≡ Some x → x.state ≡ m.state → k ≡ j) → Updates class_of nodes (set nodes j m) j m
  updates-set class_of nodes j n m at waits alike same cheaper only =
      let is : (x : Found S) → slice_get nodes j ≡ Some x → n ≡ x = λ x at_x. same_Some n x (sym at ∙ at_x) in
      record {
        here = get-set_here nodes j m n at;
        others = λ k other. get-set_other nodes j m k other;
        waits = waits;
        same_class = λ x at_x. subst (λ (y : Found S). AreOfOneClass class_of m.state y.state) (is x at_x) alike;
        same_state = λ x at_x. subst (λ (y : Found S). has_been_expanded y.node ≡ true → (m.state ≡ y.state) × (has_been_expanded m.node ≡ true)) (is x at_x) same;
        cheaper = λ x at_x. subst (λ (y : Found S). m.node.cost < y.node.cost) (is x at_x) cheaper;
        only = only;
        longer = omega (arith, length-set nodes j m);
        less = λ most _ _. work_cheaper nodes j n m most at waits cheaper;
      }

module _ {S : Type 0} (states : List S) (all : List Node) (s : S) (now : Node) (states' : List S) (all' : List Node) where
  -- the found states once one joins them, is reached at less, or takes the place of another
  pub after_new : length all ≡ length states → states' ≡ states ++ s ∷ [] → all' ≡ all ++ now ∷ [] → found_of states' all' ≡ found_of states all ++ record { state = s; node = now } ∷ []
  after_new one_each is_states is_all = ap (λ (ss : List S). found_of ss all') is_states ∙ ap (found_of (states ++ s ∷ [])) is_all ∙ found_of-push states all s now one_each

  pub after_cheaper : (j : ℕ) (n : Found S) → slice_get (found_of states all) j ≡ Some n → n.state ≡ s → states' ≡ states → all' ≡ set all j now → found_of states' all' ≡ set (found_of states all) j (record { state = s; node = now })
  after_cheaper j n stood is is_states is_all =
      ap (λ (ss : List S). found_of ss all') is_states ∙ ap (found_of states) is_all ∙ found_of-set states all j n now stood
      ∙ ap (λ (x : S). set (found_of states all) j (record { state = x; node = now })) is

  pub after_replaced : (j : ℕ) (n : Found S) → slice_get (found_of states all) j ≡ Some n → states' ≡ set states j s → all' ≡ set all j now → found_of states' all' ≡ set (found_of states all) j (record { state = s; node = now })
  after_replaced j n stood is_states is_all =
      ap (λ (ss : List S). found_of ss all') is_states ∙ ap (found_of (set states j s)) is_all ∙ found_of-replace states all j n s now stood

module _ {S : Type 0} (nodes : List (Found S)) (m : Found S) where
  -- what is there was there, or is new
  pub cases_push : (j : ℕ) → j ≡ length nodes → (k : ℕ) (n : Found S) → slice_get (nodes ++ m ∷ []) k ≡ Some n → ((k ≡ j) × (n.state ≡ m.state)) ⊎ ((k ≢ j) × (slice_get nodes k ≡ Some n))
  cases_push j last k n at =
      elim (cases_eq k j) [
        | inl is ↦ inl (is, ap (λ (x : Found S). x.state) (same_Some n m (sym at ∙ ap (slice_get (nodes ++ m ∷ [])) (is ∙ last) ∙ get-push_new nodes m)))
        | inr other ↦ inr (other, sym (get-push_other nodes m k (λ is. other (is ∙ sym last))) ∙ at)
      ]

  pub cases_set : (j : ℕ) (one : Found S) → slice_get nodes j ≡ Some one → (k : ℕ) (n : Found S) → slice_get (set nodes j m) k ≡ Some n → ((k ≡ j) × (n.state ≡ m.state)) ⊎ ((k ≢ j) × (slice_get nodes k ≡ Some n))
  cases_set j one stood k n at =
      elim (cases_eq k j) [
        | inl is ↦ inl (is, ap (λ (x : Found S). x.state) (same_Some n m (sym at ∙ ap (slice_get (set nodes j m)) is ∙ get-set_here nodes j m one stood)))
        | inr other ↦ inr (other, sym (get-set_other nodes j m k other) ∙ at)
      ]

  -- where a state keeps its place
  pub set_was : (j : ℕ) (one : Found S) → slice_get nodes j ≡ Some one → m.state ≡ one.state → (k : ℕ) (n : Found S) → slice_get (set nodes j m) k ≡ Some n
      → (x : Found S) × (slice_get nodes k ≡ Some x) × (x.state ≡ n.state)
  set_was j one stood same k n at =
      elim (cases_set j one stood k n at) [
        | inl (is, now) ↦ (one, ap (slice_get nodes) is ∙ stood, sym same ∙ sym now)
        | inr (other, there) ↦ (n, there, refl)
      ]
