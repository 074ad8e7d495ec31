use Rattle.std.proofs.Common.{◌≡◌, ◌∙◌, List, Bool, [], ◌∷◌, ◌++◌, length, ap, subst, arith}
use Rattle.std.specs.Prelude.{Contains}
use Rattle.packed_state.specs.Packed.{bits_of}
use Rattle.packed_state.specs.PooledView.{pooled_states}
use Rattle.search_spaces.specs.States.{states_of}
use Rattle.search_spaces.specs.Orbits.{key_by, states_in}
use Rattle.search_spaces.proofs.OrbitLemmas.{placed_by, lacks}
use Rattle.search_spaces.proofs.orbits.Orbits.place.Goals as goal
use Rattle.search_spaces.proofs.orbits.Orbits.place.Goals.{In-None}

-- the key was not found, so the state is not listed
not_there : (c : In-None) → Contains (states_in c.args.self.now) (bits_of c.args.state.now) → ⊥
not_there c =
    let old = c.args.self.now in
    lacks old (bits_of c.args.state.now) c.requires.linked
    (subst (λ (keys : List (List Bool)). Contains keys (key_by old.representatives.now (bits_of c.args.state.now)) → ⊥) (ap pooled_states c.class_of.ensures.keys)
    (subst (λ (key : List Bool). Contains (pooled_states c.class_of.new.self.keys) key → ⊥) c.in-None.ensures.class.0 c.in-None.ensures.class.1))

pub returns-in-Some-clause-placed : goal.returns-in-Some-clause-placed
returns-in-Some-clause-placed c =
    placed_by c.args.self.now c.class_of.new.self (bits_of c.args.state.now) c.args.max_states c.place_in_class.result c.class_of.ensures.representatives c.class_of.ensures.states c.place_in_class.ensures

pub returns-in_ok-place-in-None-clause-placed : goal.returns-in_ok-place-in-None-clause-placed
returns-in_ok-place-in-None-clause-placed c =
    let old = c.args.self.now in
    let same : states_in c.class_of.new.self ≡ states_in old = ap states_of c.class_of.ensures.states in
    let less = c.if-len-max_states.true in (
      not_there (goal.at.returns-in_ok-place-in-None-clause-placed c).In-None,
      omega (arith, less, c.len.ensures, ap length same),
      c.in_ok-place-in-None.ensures.states ∙ ap (λ xs. xs ++ bits_of c.args.state.now ∷ []) same,
      c.in_ok-place-in-None.ensures.place ∙ ap length same,
    )

pub returns-in-None-2-clause-placed : goal.returns-in-None-2-clause-placed
returns-in-None-2-clause-placed c =
    let same : states_in c.class_of.new.self ≡ states_in c.args.self.now = ap states_of c.class_of.ensures.states in (
      not_there (goal.at.returns-in-None-2-clause-placed c).In-None,
      omega (arith, c.if-len-max_states.false, c.requires.within, c.len.ensures, ap length same),
      same,
    )
