-- Orbits of a system are a bisimulation equivalence.
use Rattle.std.proofs.Common.{◌≡◌, ◌∙◌, Option, None, Some, refl, sym, ap}
use Rattle.std.specs.Option.{option_map}
use Rattle.model.specs.Runs.{System}
use Rattle.model.specs.Bisimulation.{IsBisimulationEquivalence}
use Rattle.symmetries_definitions.specs.Orbits.{IsBijection, IsAutomorphism, AreOfOneOrbit}
use Rattle.symmetries_definitions.specs.Laws.{OrbitsKeepSteps}

map_map : {X : Type 0} (f g : X → X) (o : Option X) → option_map f (option_map g o) ≡ option_map (λ x. f (g x)) o
map_map f g None = refl
map_map f g (Some x) = refl

map_itself : {X : Type 0} (o : Option X) → o ≡ option_map (λ x. x) o
map_itself None = refl
map_itself (Some x) = refl

-- ---- automorphisms

one_after : {X : Type 0} (f g : X → X) → IsBijection f → IsBijection g → IsBijection (λ x. f (g x))
one_after f g p q = (
  λ x. q.0 (p.0 x),
  λ x. ap q.0 (p.1 (g x)) ∙ q.1 x,
  λ x. ap f (q.2 (p.0 x)) ∙ p.2 x,
)

module _ {S A : Type 0} (t : System S A) where
  pub automorphism_itself : IsAutomorphism t (λ s. s) (λ a. a)
  automorphism_itself = record {
    permutes_states = (λ s. s, λ s. refl, λ s. refl);
    permutes_actions = (λ a. a, λ a. refl, λ a. refl);
    steps = λ s a. map_itself (t.step s a);
    costs = λ s next a leads. refl;
    goals = λ s. refl;
  }

  pub automorphism_after : (h k : S → S) (a b : A → A) → IsAutomorphism t h a → IsAutomorphism t k b → IsAutomorphism t (λ s. h (k s)) (λ x. a (b x))
  automorphism_after h k a b second first = record {
    permutes_states = one_after h k second.permutes_states first.permutes_states;
    permutes_actions = one_after a b second.permutes_actions first.permutes_actions;
    steps = λ s x. second.steps (k s) (b x) ∙ ap (option_map h) (first.steps s x) ∙ map_map h k (t.step s x);
    costs = λ s next x leads. second.costs (k s) (k next) (b x) (first.steps s x ∙ ap (option_map k) leads) ∙ first.costs s next x leads;
    goals = λ s. second.goals (k s) ∙ first.goals s;
  }

  pub symmetric_itself : (s : S) → AreOfOneOrbit t s s
  symmetric_itself s = (λ r. r, λ a. a, automorphism_itself, refl)

  pub symmetric_after : (s r q : S) → AreOfOneOrbit t s r → AreOfOneOrbit t r q → AreOfOneOrbit t s q
  symmetric_after s r q (k, b, first, to_r) (h, a, second, to_q) = (λ x. h (k x), λ x. a (b x), automorphism_after h k a b second first, ap h to_r ∙ to_q)

-- ---- orbits

there_and_back : {X : Type 0} (to back : X → X) → ((x : X) → back (to x) ≡ x) → (o : Option X) → option_map back (option_map to o) ≡ o
there_and_back to back is None = refl
there_and_back to back is (Some x) = ap Some (is x)

module _ {S A : Type 0} (t : System S A) where
  -- the inverse of an automorphism
  backward : (h : S → S) (actions : A → A) (auto : IsAutomorphism t h actions) → IsAutomorphism t auto.permutes_states.0 auto.permutes_actions.0
  backward h actions auto =
      let s_back = auto.permutes_states.0 in
      let a_back = auto.permutes_actions.0 in
      let steps = λ (s : S) (a : A).
      sym (there_and_back h s_back auto.permutes_states.1 (t.step (s_back s) (a_back a))) ∙ ap (option_map s_back) (sym (auto.steps (s_back s) (a_back a)))
      ∙ (λ i. option_map s_back (t.step (auto.permutes_states.2 s i) (auto.permutes_actions.2 a i))) in
      record {
        permutes_states = (h, auto.permutes_states.2, auto.permutes_states.1);
        permutes_actions = (actions, auto.permutes_actions.2, auto.permutes_actions.1);
        steps = steps;
        costs = λ s next a leads. sym (auto.costs (s_back s) (s_back next) (a_back a) (steps s a ∙ ap (option_map s_back) leads)) ∙ ap t.cost (auto.permutes_actions.2 a);
        goals = λ s. sym (auto.goals (s_back s)) ∙ ap t.meets_goal (auto.permutes_states.2 s);
      }

  pub symmetric_back : (s r : S) → AreOfOneOrbit t s r → AreOfOneOrbit t r s
  symmetric_back s r (h, actions, auto, is) =
      (auto.permutes_states.0, auto.permutes_actions.0, backward h actions auto, ap auto.permutes_states.0 (sym is) ∙ auto.permutes_states.1 s)

  pub orbits_are_classes : IsBisimulationEquivalence t (AreOfOneOrbit t)
  orbits_are_classes = record {
    itself = symmetric_itself t;
    turned = symmetric_back;
    joined = symmetric_after t;
    steps = λ s r next a (h, actions, auto, is) leads. (
      actions a,
      h next,
      ap (λ x. t.step x (actions a)) (sym is) ∙ auto.steps s a ∙ ap (option_map h) leads,
      auto.costs s next a leads,
      (h, actions, auto, refl),
    );
    goals = λ s r (h, actions, auto, is). sym (auto.goals s) ∙ ap t.meets_goal is;
  }

  -- states with the same representative are in the same orbit, if each representative is an image of its state
  pub represented_alike : (represent : S → S) → ((s : S) → AreOfOneOrbit t s (represent s)) → (s r : S) → represent s ≡ represent r → AreOfOneOrbit t s r
  represented_alike represent symmetric s r is =
      let one = symmetric s in
      symmetric_after t s (represent r) r (one.0, one.1, one.2, one.3 ∙ is) (symmetric_back r (represent r) (symmetric r))

pub orbits_keep_steps : {S A : Type 0} (t : System S A) → OrbitsKeepSteps t
orbits_keep_steps t = orbits_are_classes t
