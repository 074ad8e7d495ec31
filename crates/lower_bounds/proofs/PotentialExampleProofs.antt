-- The worked examples of potential functions.
use Rattle.std.specs.Prelude.{◌≡◌, ℕ, zero, suc, ◌<◌, ℤ, pos, ◌≤ℤ◌, List, [], ◌∷◌, length, slice_get, All, Some, refl}
use Rattle.std.specs.List.{filter_map}
use Rattle.std.specs.Int.Signed.{le_z_yes}
use Rattle.std.proofs.Common.{◌∙◌, sym, ap, subst, arith}
use Rattle.std.proofs.lemmas.List.Elements.{All-cons, All-nil}
use Rattle.std.proofs.lemmas.Int.{ints}
use Rattle.model.specs.Task.{Atom, Task, Instance}
use Rattle.model.specs.Meaning.{cost_of}
use Rattle.model.specs.StaticallyFalse.{kept_instances}
use Rattle.model.specs.NumberedLiterals.{numbered_change, literals_of_instance}
use Rattle.model.proofs.GroundingComputes.{kept-is, counting, counting_numbers-is, initial-is}
use Rattle.lower_bounds.specs.PotentialFunctions.{PotentialFunction, value}
use Rattle.lower_bounds.specs.FairPotentials.{loses_at_most, instance_loses, IsFairAt, nothing, IsFirstUnfair, IsFirstDeadUnfair}
use Rattle.lower_bounds.specs.PotentialExamples.{hop_task, hop_atoms, hop_weights, when_task, when_atoms, lamps_task, lamps_atoms, token_task, token_atoms, one_missing, potentials, minus, AreJudged}
use Rattle.model.specs.Examples.{instance}

module _ (task : Task) (atoms : List Atom) where
  -- the loss of an instance, in a form that computes
  abbrev pub losing : List ℤ → Instance → ℤ
  losing weights i = loses_at_most (length atoms) weights (literals_of_instance task atoms i) (filter_map (numbered_change atoms) (counting task i))

  pub losing-is : (weights : List ℤ) (i : Instance) → instance_loses task atoms weights i ≡ losing weights i
  losing-is weights i = ap (loses_at_most (length atoms) weights (literals_of_instance task atoms i)) (counting_numbers-is task atoms i)

  module _ (allowance : Instance → ℕ) where
    pub is_fair_within : (weights : List ℤ) (i : Instance) → losing weights i ≤ℤ pos (allowance i) → IsFairAt (allowance i) task atoms weights i
    is_fair_within weights i within = record { within = subst (λ z. z ≤ℤ pos (allowance i)) (sym (losing-is weights i)) within }

    pub is_unfair_within : (weights : List ℤ) (i : Instance) (allowed : ℕ) (more : ℤ) → losing weights i ≡ more → allowance i ≡ allowed → (more ≤ℤ pos allowed → ⊥)
        → IsFairAt (allowance i) task atoms weights i → ⊥
    is_unfair_within weights i allowed more loses allows too_much fair =
        too_much (subst (λ c. more ≤ℤ pos c) allows (subst (λ z. z ≤ℤ pos (allowance i)) (losing-is weights i ∙ loses) fair.within))

    abbrev AllFair : List ℤ → List Instance → Type 0
    AllFair weights found = All (λ (i : Instance). IsFairAt (allowance i) task atoms weights i) found

  pub is_fair_at : (weights : List ℤ) (i : Instance) → losing weights i ≤ℤ pos (cost_of task i) → IsFairAt (cost_of task i) task atoms weights i
  is_fair_at = is_fair_within (cost_of task)

  pub is_unfair_at : (weights : List ℤ) (i : Instance) (cost : ℕ) (more : ℤ) → losing weights i ≡ more → cost_of task i ≡ cost → (more ≤ℤ pos cost → ⊥) → IsFairAt (cost_of task i) task atoms weights i → ⊥
  is_unfair_at = is_unfair_within (cost_of task)

abbrev pub hop : ℕ → ℕ → Instance
hop from to = instance 0 (from ∷ to ∷ [])

abbrev pub leap : Instance
leap = instance 1 (0 ∷ 2 ∷ [])

-- ---- hops and leaps

pub hops_kept : kept_instances hop_task ≡ hop 0 1 ∷ hop 1 2 ∷ leap ∷ []
hops_kept = kept-is hop_task ∙ refl

hops-fair : AllFair hop_task hop_atoms (cost_of hop_task) hop_weights (kept_instances hop_task)
hops-fair =
    let P = λ (i : Instance). IsFairAt (cost_of hop_task i) hop_task hop_atoms hop_weights i in
    subst (All P) (sym hops_kept)
    (All-cons P (hop 0 1) (hop 1 2 ∷ leap ∷ []) (is_fair_at hop_task hop_atoms hop_weights (hop 0 1) (le_z_yes tt))
    (All-cons P (hop 1 2) (leap ∷ []) (is_fair_at hop_task hop_atoms hop_weights (hop 1 2) (le_z_yes tt))
    (All-cons P leap [] (is_fair_at hop_task hop_atoms hop_weights leap (le_z_yes tt)) (All-nil P))))

abbrev dear_second : List ℤ
dear_second = pos 0 ∷ minus 2 ∷ minus 6 ∷ []

second-unfair : IsFirstUnfair hop_task hop_atoms (potentials (pos 6) dear_second) 1
second-unfair = record {
  instance = hop 1 2;
  named = ap (λ l. slice_get l 1) hops_kept ∙ refl;
  unfair = is_unfair_at hop_task hop_atoms dear_second (hop 1 2) 3 (pos 4) refl refl (λ h. absurd (omega (arith, ints)));
  earlier = λ n i below named. first n i below (sym (ap (λ l. slice_get l n) hops_kept) ∙ named);
}
  where
    first : (n : ℕ) (i : Instance) → n < 1 → slice_get (hop 0 1 ∷ hop 1 2 ∷ leap ∷ []) n ≡ Some i → IsFairAt (cost_of hop_task i) hop_task hop_atoms dear_second i
    first zero i below named =
        let same : hop 0 1 ≡ i = cc in
        subst (λ j. IsFairAt (cost_of hop_task j) hop_task hop_atoms dear_second j) same (is_fair_at hop_task hop_atoms dear_second (hop 0 1) (le_z_yes tt))
    first (suc n) i below named = absurd (omega arith)

-- ---- a condition that may or may not hold

abbrev pub the_one : Instance
the_one = instance 0 []

pub one_kept : kept_instances when_task ≡ the_one ∷ []
one_kept = kept-is when_task ∙ refl

one-fair : (weights : List ℤ) → losing when_task when_atoms weights the_one ≤ℤ pos 1 → AllFair when_task when_atoms (cost_of when_task) weights (kept_instances when_task)
one-fair weights within =
    let P = λ (i : Instance). IsFairAt (cost_of when_task i) when_task when_atoms weights i in
    subst (All P) (sym one_kept) (All-cons P the_one [] (is_fair_at when_task when_atoms weights the_one within) (All-nil P))

uncertain : IsFirstUnfair when_task when_atoms (potentials (pos 1) (pos 2 ∷ minus 3 ∷ pos 0 ∷ [])) 0
uncertain = record {
  instance = the_one;
  named = ap (λ l. slice_get l 0) one_kept ∙ refl;
  unfair = is_unfair_at when_task when_atoms (pos 2 ∷ minus 3 ∷ pos 0 ∷ []) the_one 1 (pos 3) refl refl (λ h. absurd (omega (arith, ints)));
  earlier = λ n i below _. absurd (omega arith);
}

-- ---- lamps

abbrev flip : ℕ → Instance
flip lamp = instance 0 (lamp ∷ [])

abbrev lamps_weights : List ℤ
lamps_weights = minus 1 ∷ minus 1 ∷ []

flips_kept : kept_instances lamps_task ≡ flip 0 ∷ flip 1 ∷ []
flips_kept = kept-is lamps_task ∙ refl

flips-fair : AllFair lamps_task lamps_atoms (cost_of lamps_task) lamps_weights (kept_instances lamps_task)
flips-fair =
    let P = λ (i : Instance). IsFairAt (cost_of lamps_task i) lamps_task lamps_atoms lamps_weights i in
    subst (All P) (sym flips_kept)
    (All-cons P (flip 0) (flip 1 ∷ []) (is_fair_at lamps_task lamps_atoms lamps_weights (flip 0) (le_z_yes tt))
    (All-cons P (flip 1) [] (is_fair_at lamps_task lamps_atoms lamps_weights (flip 1) (le_z_yes tt)) (All-nil P)))

-- ---- a token that is here or there

abbrev pub fore : Instance
fore = instance 0 []

abbrev pub back : Instance
back = instance 1 []

pub moves_kept : kept_instances token_task ≡ fore ∷ back ∷ []
moves_kept = kept-is token_task ∙ refl

moves-fair : (allowance : Instance → ℕ) (weights : List ℤ) → losing token_task token_atoms weights fore ≤ℤ pos (allowance fore)
    → losing token_task token_atoms weights back ≤ℤ pos (allowance back) → AllFair token_task token_atoms allowance weights (kept_instances token_task)
moves-fair allowance weights fore_within back_within =
    let P = λ (i : Instance). IsFairAt (allowance i) token_task token_atoms weights i in
    subst (All P) (sym moves_kept)
    (All-cons P fore (back ∷ []) (is_fair_within token_task token_atoms allowance weights fore fore_within)
    (All-cons P back [] (is_fair_within token_task token_atoms allowance weights back back_within) (All-nil P)))

first-dead_unfair : (task : Task) (atoms : List Atom) (p : PotentialFunction) (first : Instance) (rest : List Instance) (more : ℤ) → kept_instances task ≡ first ∷ rest
    → losing task atoms p.weights first ≡ more → (more ≤ℤ pos 0 → ⊥) → IsFirstDeadUnfair task atoms p 0
first-dead_unfair task atoms p first rest more kept loses too_much = record {
  instance = first;
  named = ap (λ l. slice_get l 0) kept ∙ refl;
  unfair = is_unfair_within task atoms nothing p.weights first 0 more loses refl too_much;
  earlier = λ n i below _. absurd (omega arith);
}

-- ---- all of them

at_most_zero : (z : ℤ) → z ≡ pos 1 → z ≤ℤ pos 0 → ⊥
at_most_zero z is h = absurd (omega (arith, ints))

pub are_judged : AreJudged
are_judged = record {
  add = record { three = refl; minus_three = refl; zero = refl };
  add_to_true = record { three = refl; minus_three = refl; zero = refl };
  add_to_false = record { three = refl; minus_three = refl; zero = refl };
  delete = record { three = refl; minus_three = refl; zero = refl };
  delete_of_true = record { three = refl; minus_three = refl; zero = refl };
  delete_of_false = record { three = refl; minus_three = refl; zero = refl };
  uncertain_add = record { three = refl; minus_three = refl; zero = refl };
  uncertain_add_to_true = record { three = refl; minus_three = refl; zero = refl };
  uncertain_add_to_false = record { three = refl; minus_three = refl; zero = refl };
  uncertain_delete = record { three = refl; minus_three = refl; zero = refl };
  uncertain_delete_of_true = record { three = refl; minus_three = refl; zero = refl };
  uncertain_delete_of_false = record { three = refl; minus_three = refl; zero = refl };
  add_and_delete = record { three = refl; minus_three = refl; zero = refl };
  delete_and_add = record { three = refl; minus_three = refl; zero = refl };
  add_and_uncertain_delete = record { three = refl; minus_three = refl; zero = refl };
  delete_and_uncertain_add = record { three = refl; minus_three = refl; zero = refl };
  delete_and_uncertain_add_to_false = record { three = refl; minus_three = refl; zero = refl };
  delete_and_uncertain_delete = record { three = refl; minus_three = refl; zero = refl };
  both_uncertain = record { three = refl; minus_three = refl; zero = refl };
  both_uncertain_at_true = record { three = refl; minus_three = refl; zero = refl };
  both_uncertain_at_false = record { three = refl; minus_three = refl; zero = refl };
  never_applicable = record { three = refl; minus_three = refl; zero = refl };
  untouched = record { three = refl; minus_three = refl; zero = refl };
  touched_twice = record { three = refl; minus_three = refl; zero = refl };
  of_another = record { three = refl; minus_three = refl; zero = refl };
  of_two_atoms = refl;
  of_no_atom = refl;
  to_be_true = record { three = refl; minus_three = refl; zero = refl };
  to_be_false = record { three = refl; minus_three = refl; zero = refl };
  to_be_both = record { three = refl; minus_three = refl; zero = refl };
  not_named = record { three = refl; minus_three = refl; zero = refl };
  of_some = refl;
  of_none = refl;
  below_zero = refl;
  without_weights = refl;
  hop_loses = losing-is hop_task hop_atoms hop_weights (hop 0 1) ∙ refl;
  leap_loses = losing-is hop_task hop_atoms hop_weights leap ∙ refl;
  no_road = losing-is hop_task hop_atoms hop_weights (hop 0 2) ∙ refl;
  hops_are_fair = record { instances = hops-fair; goals = record { within = le_z_yes tt } };
  hops_begin_at = ap (value (potentials (pos 6) hop_weights)) (initial-is hop_task hop_atoms) ∙ refl;
  second_hop_is_unfair = second-unfair;
  constant_too_high = record { instances = hops-fair; goals = λ fair. at_most_zero (pos 1) refl fair.within };
  uncertain_add_gives_nothing = uncertain;
  without_it = record { instances = one-fair (pos 0 ∷ minus 1 ∷ pos 0 ∷ []) (le_z_yes tt); goals = record { within = le_z_yes tt } };
  goals_are_unfair = record { instances = one-fair (pos 0 ∷ minus 1 ∷ pos 0 ∷ []) (le_z_yes tt); goals = λ fair. at_most_zero (pos 1) refl fair.within };
  lamps_are_fair = record { instances = flips-fair; goals = record { within = le_z_yes tt } };
  lamps_begin_at = ap (value (potentials (pos 2) lamps_weights)) (initial-is lamps_task lamps_atoms) ∙ refl;
  token_is_dead_fair = record { instances = moves-fair nothing one_missing.weights (le_z_yes tt) (le_z_yes tt); goals = record { within = le_z_yes tt } };
  token_begins_at = ap (value one_missing) (initial-is token_task token_atoms) ∙ refl;
  token_begins_dead = refl;
  token_never_there = refl;
  both_is_not_dead = refl;
  dead_constant_too_high = record { instances = moves-fair nothing one_missing.weights (le_z_yes tt) (le_z_yes tt); goals = λ fair. at_most_zero (pos 1) refl fair.within };
  fore_costs_one = record { instances = moves-fair (cost_of token_task) (minus 1 ∷ minus 2 ∷ []) (le_z_yes tt) (le_z_yes tt); goals = record { within = le_z_yes tt } };
  fore_is_dead_unfair = first-dead_unfair token_task token_atoms (potentials (pos 2) (minus 1 ∷ minus 2 ∷ [])) fore (back ∷ []) (pos 1) moves_kept refl (λ h. absurd (omega (arith, ints)));
  hops_are_not_dead_fair = first-dead_unfair hop_task hop_atoms (potentials (pos 6) hop_weights) (hop 0 1) (hop 1 2 ∷ leap ∷ []) (pos 3) hops_kept refl (λ h. absurd (omega (arith, ints)));
}
