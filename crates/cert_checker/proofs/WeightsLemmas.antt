-- Potential functions that give each atom the same weight: they are fair alike, and where further atoms have the weight 0,
-- a state has the same value.
use Rattle.std.proofs.Common.{◌≡◌, ◌∙◌, ℕ, zero, suc, ◌+◌, ◌-◌, ◌<◌, ◌≤◌, Bool, true, false, List, [], ◌∷◌, ◌++◌, length, map, take, replicate, get_or, Some, refl, sym, ap, subst, arith, ℤ, pos, ◌+ℤ◌, ◌≤ℤ◌}
use Rattle.std.specs.Prelude.{All, IsTrue, if◌then◌else◌, slice_get}
use Rattle.std.specs.Int.{int_max}
use Rattle.std.specs.FinSet.{contains}
use Rattle.std.proofs.lemmas.Int.{ints}
use Rattle.std.proofs.lemmas.List.{length-append, length-map, length-replicate, map-append, get_or_append_left, get_or_default, get_or_past, take_all}
use Rattle.std.proofs.lemmas.Option.{same_Some}
use Rattle.model.specs.Task.{Atom, Task, Instance}
use Rattle.model.specs.Meaning.{State}
use Rattle.model.specs.StaticallyFalse.{kept_instances}
use Rattle.model.specs.NumberedAtoms.{numbered_atoms}
use Rattle.model.specs.NumberedLiterals.{literals_of_instance, literals_of_goal, counting_of_instance}
use Rattle.model.specs.Grounding.{bits_of_state}
use Rattle.model.proofs.ListLemmas.{Contains-got}
use Rattle.lower_bounds.specs.PotentialFunctions.{PotentialFunction, weight, sum_below, given, or_zero, value, value_of_state, IsInRange, AreInRange}
use Rattle.lower_bounds.specs.FairPotentials.{touches, worst, loses, instance_loses, IsFairAt, says, goal_gives, goal_gives_at_most, IsFairAtGoals, AreFairAt, AreDeadFair, IsFirstUnfairAt}
use Rattle.lower_bounds.proofs.Sums.{sum-alike}
use Rattle.lower_bounds.proofs.Ranges.{zero-range}
use Rattle.lower_bounds.proofs.Zero.{zero-dead_fair}
use Rattle.potentials.specs.Fairness.{AreInstancesFairAt}
use Rattle.certificate.specs.declared.evidence.Evidence.{Evidence}
use Rattle.certificate.specs.declared.evidence.WrittenPotentials.{WrittenPotentials}
use Rattle.certificate.specs.Evidence.{evidence_of, potential_of}
use Rattle.lower_bounds.specs.TableFunctions.{SeveralValues}
use Rattle.certificate_definitions.specs.Certificates.{Version, Certificate, potentials_of, several_of, are_potentials, is_value_count, is_weight}
use Rattle.certificate_definitions.specs.CertificateRefusals.{MayLose}
use Rattle.cert_checker.specs.Weights.{HasItsWeights}
use Rattle.cert_checker.proofs.VersionLemmas.{some_value}
use Rattle.cert_checker.specs.CertChecker.{IsFirstToLoseAt}

-- ---- the same weights

-- they have one constant, and each number has one weight
pub record AreAlike (p q : PotentialFunction) : Type 0 where
  pub constant : p.constant ≡ q.constant
  pub weights : (n : ℕ) → weight p.weights n ≡ weight q.weights n

module _ (v w : List ℤ) (same : (n : ℕ) → weight v n ≡ weight w n) where
  loses-alike : (task : Task) (atoms : List Atom) (i : Instance) → instance_loses task atoms v i ≡ instance_loses task atoms w i
  loses-alike task atoms i =
      let literals = literals_of_instance task atoms i in
      let changes = counting_of_instance task atoms i in
      sum-alike (length atoms) (loses literals changes v) (loses literals changes w) (λ n below. ap (λ z. if touches changes n then worst literals changes z n else pos 0) (same n))

  pub fair_at-alike : (cost : ℕ) (task : Task) (atoms : List Atom) (i : Instance) → IsFairAt cost task atoms v i → IsFairAt cost task atoms w i
  fair_at-alike cost task atoms i fair = record { within = subst (λ z. z ≤ℤ pos cost) (loses-alike task atoms i) fair.within }

module _ (task : Task) (atoms : List Atom) (p q : PotentialFunction) (same : AreAlike p q) where
  pub goals-alike : IsFairAtGoals task atoms p → IsFairAtGoals task atoms q
  goals-alike fair =
      let literals = literals_of_goal task atoms in
      let gives : goal_gives_at_most (length atoms) p.weights literals ≡ goal_gives_at_most (length atoms) q.weights literals =
      sum-alike (length atoms) (goal_gives literals p.weights) (goal_gives literals q.weights)
      (λ n below. ap (λ z. if says literals n false then pos 0 else if says literals n true then z else int_max (pos 0) z) (same.weights n)) in
      record { within = subst (λ z. (z +ℤ goal_gives_at_most (length atoms) q.weights literals) ≤ℤ pos 0) same.constant (subst (λ z. (p.constant +ℤ z) ≤ℤ pos 0) gives fair.within) }

  module _ (allowance : Instance → ℕ) where
    pub instance-alike : (i : Instance) → IsFairAt (allowance i) task atoms p.weights i → IsFairAt (allowance i) task atoms q.weights i
    instance-alike i fair = fair_at-alike p.weights q.weights same.weights (allowance i) task atoms i fair

    pub instances-alike : AreInstancesFairAt allowance task atoms p → AreInstancesFairAt allowance task atoms q
    instances-alike fair = λ place d below. instance-alike (get_or (kept_instances task) place d) (fair place d below)

    pub fair-alike : AreFairAt allowance task atoms p → AreFairAt allowance task atoms q
    fair-alike fair = record { instances = instances-alike fair.instances; goals = goals-alike fair.goals }

pub alike_itself : (p : PotentialFunction) → AreAlike p p
alike_itself p = record { constant = refl; weights = λ n. refl }

-- ---- the value

-- what is 0 from some number on adds nothing to the sum
sum-ends : (n m : ℕ) (f : ℕ → ℤ) → ((k : ℕ) → n ≤ k → f k ≡ pos 0) → sum_below (n + m) f ≡ sum_below n f
sum-ends n zero f none = let same : n + 0 ≡ n = omega arith in ap (λ k. sum_below k f) same
sum-ends n (suc m) f none =
    let next : n + suc m ≡ suc (n + m) = omega arith in
    let rest = sum-ends n m f none in
    let last = none (n + m) (omega arith) in
    let all : (sum_below (n + m) f +ℤ f (n + m)) ≡ sum_below n f = omega (arith, ints, rest, last) in
    ap (λ k. sum_below k f) next ∙ all

-- what bits of atoms without a weight say changes no score
module _ (p q : PotentialFunction) (same : AreAlike p q) where
  given-first : (first more : List Bool) (k : ℕ) → k < length first → given p.weights (first ++ more) k ≡ given q.weights first k
  given-first first more k below =
      ap (λ b. if b then weight p.weights k else pos 0) (get_or_append_left first more false k below) ∙ ap (λ z. if get_or first k false then z else pos 0) (same.weights k)

  none-given : (b : Bool) → (if b then pos 0 else pos 0) ≡ pos 0
  none-given true = refl
  none-given false = refl

  given-more : (bits : List Bool) (k : ℕ) → length q.weights ≤ k → given p.weights bits k ≡ pos 0
  given-more bits k past =
      ap (λ z. if get_or bits k false then z else pos 0) (same.weights k ∙ get_or_past q.weights k (pos 0) past) ∙ none-given (get_or bits k false)

  pub value-first : (first more : List Bool) → length q.weights ≤ length first → value p (first ++ more) ≡ value q first
  value-first first more enough =
      let sums : sum_below (length (first ++ more)) (given p.weights (first ++ more)) ≡ sum_below (length first) (given q.weights first) =
      ap (λ n. sum_below n (given p.weights (first ++ more))) (length-append first more)
      ∙ sum-ends (length first) (length more) (given p.weights (first ++ more)) (λ k past. given-more (first ++ more) k (omega (arith, enough, past)))
      ∙ sum-alike (length first) (given p.weights (first ++ more)) (given q.weights first) (given-first first more) in
      ap (λ z. or_zero (z +ℤ sum_below (length (first ++ more)) (given p.weights (first ++ more)))) same.constant ∙ ap (λ z. or_zero (q.constant +ℤ z)) sums

-- so a state has the same value where further atoms have numbers
pub value-numbered : (p q : PotentialFunction) → AreAlike p q → (atoms first more : List Atom) (s : State) → atoms ≡ first ++ more → length q.weights ≤ length first
    → value p (bits_of_state atoms s) ≡ value_of_state first q s
value-numbered p q same atoms first more s is enough =
    ap (λ those. value p (bits_of_state those s)) is
    ∙ ap (value p) (map-append (contains s) first more)
    ∙ value-first p q same (bits_of_state first s) (bits_of_state more s) (omega (arith, enough, length-map first (contains s)))

-- ---- a certificate's first value

first_mapped : {X Y : Type 0} (f : X → Y) (xs : List X) (first : X) (d : Y) → 0 < length xs → first ≡ get_or xs 0 first → get_or (map f xs) 0 d ≡ f first
first_mapped f [] first d some is = absurd (omega arith)
first_mapped f (x ∷ xs) first d some is = ap f (sym is)

pub first_value : (c : Certificate) (b : Evidence) (first : WrittenPotentials) → IsTrue (is_value_count c.version (length b.values.items)) → evidence_of b ≡ several_of c → first ≡ get_or b.values.items 0 first
    → potential_of first ≡ potentials_of c
first_value c b first count same is =
    let none : PotentialFunction = record { constant = pos 0; weights = [] } in
    sym (first_mapped potential_of b.values.items first none (some_value c.version (length b.values.items) count) is) ∙ ap (λ (s : SeveralValues). get_or s.values 0 none) same

-- it keeps the limits, as each of them does
pub first_within : (v : Version) (atom_count : ℕ) (values : List WrittenPotentials) (first : WrittenPotentials) → IsTrue (is_value_count v (length values))
    → All (λ (p : WrittenPotentials). IsTrue (are_potentials is_weight atom_count (potential_of p))) values → first ≡ get_or values 0 first → IsTrue (are_potentials is_weight atom_count (potential_of first))
first_within v atom_count values first count all is =
    subst (λ (p : WrittenPotentials). IsTrue (are_potentials is_weight atom_count (potential_of p))) (sym is) (all 0 first (some_value v (length values) count))

-- ---- a certificate's potentials, with weights for more atoms

pub alike : (said : PotentialFunction) (width : ℕ) (p : PotentialFunction) → HasItsWeights said width p → AreAlike p said
alike said width p has = record { constant = has.constant; weights = has.weights }

pub alike_back : (said : PotentialFunction) (width : ℕ) (p : PotentialFunction) → HasItsWeights said width p → AreAlike said p
alike_back said width p has = record { constant = sym has.constant; weights = λ n. sym (has.weights n) }

-- weights with zeros after them
weight-zeros : (v : List ℤ) (more n : ℕ) → weight (v ++ replicate more (pos 0)) n ≡ weight v n
weight-zeros [] more n = zeros more n
  where
    zeros : (more n : ℕ) → weight (replicate more (pos 0)) n ≡ weight [] n
    zeros zero n = refl
    zeros (suc more) zero = refl
    zeros (suc more) (suc n) = zeros more n
weight-zeros (w ∷ v) more zero = refl
weight-zeros (w ∷ v) more (suc n) = weight-zeros v more n

pub widened : (said : PotentialFunction) (width : ℕ) (p : PotentialFunction) (v : List ℤ) → length said.weights ≤ width → v ≡ said.weights → p.constant ≡ said.constant
    → p.weights ≡ take width v ++ replicate (width - length v) (pos 0) → HasItsWeights said width p
widened said width p v enough same constant are =
    let all : take width v ≡ v = take_all width v (omega (arith, ap length same, enough)) in
    let is : p.weights ≡ v ++ replicate (width - length v) (pos 0) = are ∙ ap (λ l. l ++ replicate (width - length v) (pos 0)) all in
    record {
      constant = constant;
      weights = λ n. ap (λ l. weight l n) is ∙ weight-zeros v (width - length v) n ∙ ap (λ l. weight l n) same;
      as_many =
          let long = ap length is in
          omega (arith, long, length-append v (replicate (width - length v) (pos 0)), length-replicate (width - length v) (pos 0), ap length same, enough);
    }

all_in_range : (v : List ℤ) → ((n : ℕ) → IsInRange (weight v n)) → All IsInRange v
all_in_range v each place d below = subst IsInRange (get_or_default v place (pos 0) d below) (each place)

-- and so they are with further weights
range_at : (v : List ℤ) (n : ℕ) → All IsInRange v → IsInRange (weight v n)
range_at [] n all = zero-range
range_at (w ∷ v) zero all = all 0 w (omega arith)
range_at (w ∷ v) (suc n) all = range_at v n (λ k d below. all (suc k) d (omega (arith, below)))

pub widened_in_range : (said : PotentialFunction) (width : ℕ) (p : PotentialFunction) → AreInRange said → HasItsWeights said width p → AreInRange p
widened_in_range said width p within has = record {
  constant = subst IsInRange (sym has.constant) within.constant;
  weights = all_in_range p.weights (λ n. subst IsInRange (sym (has.weights n)) (range_at said.weights n within.weights));
}

-- ---- what is reported for them is reported for the certificate

module _ (allowance : Instance → ℕ) (task : Task) (c : Certificate) (said : PotentialFunction) (atoms : List Atom) (p : PotentialFunction) (numbered : atoms ≡ numbered_atoms task c.atoms)
    (has : HasItsWeights said (length atoms) p) where
  pub fair_reported : AreFairAt allowance task atoms p → AreFairAt allowance task (numbered_atoms task c.atoms) said
  fair_reported fair = subst (λ those. AreFairAt allowance task those said) numbered (fair-alike task atoms p said (alike said (length atoms) p has) allowance fair)

  pub instances_reported : AreInstancesFairAt allowance task atoms p → AreInstancesFairAt allowance task (numbered_atoms task c.atoms) said
  instances_reported fair = subst (λ those. AreInstancesFairAt allowance task those said) numbered (instances-alike task atoms p said (alike said (length atoms) p has) allowance fair)

  pub goals_reported : ¬ IsFairAtGoals task atoms p → ¬ IsFairAtGoals task (numbered_atoms task c.atoms) said
  goals_reported unfair fair =
      unfair (goals-alike task atoms said p (alike_back said (length atoms) p has) (subst (λ those. IsFairAtGoals task those said) (sym numbered) fair))

  pub first_reported : (number : ℕ) (i : Instance) → IsFirstUnfairAt allowance task atoms p number → slice_get (kept_instances task) number ≡ Some i → IsFirstToLoseAt allowance task c said i
  first_reported number i first at =
      subst (λ those. (n : ℕ) × (f : IsFirstUnfairAt allowance task those said n) × (f.instance ≡ i)) numbered (number, there, is)
    where
      there : IsFirstUnfairAt allowance task atoms said number
      there = record {
        instance = first.instance;
        named = first.named;
        unfair = λ fair. first.unfair (instance-alike task atoms said p (alike_back said (length atoms) p has) allowance first.instance fair);
        earlier = λ n j below before. instance-alike task atoms p said (alike said (length atoms) p has) allowance j (first.earlier n j below before);
      }

      is : there.instance ≡ i
      is = same_Some first.instance i (sym first.named ∙ at)

  -- the first one that is unfair is one
  pub unfair_reported : (number : ℕ) (i : Instance) → IsFirstUnfairAt allowance task atoms p number → slice_get (kept_instances task) number ≡ Some i → MayLose (allowance i) task c said i
  unfair_reported number i first at =
      let (place, there, is) = first_reported number i first at in
      subst (λ (j : Instance). MayLose (allowance j) task c said j) is (Contains-got (kept_instances task) place there.instance there.named, there.unfair)

-- ---- potentials that are all 0

zeros_are : (v : List ℤ) → All (λ (w : ℤ). w ≡ pos 0) v → v ≡ replicate (length v) (pos 0)
zeros_are [] all = refl
zeros_are (w ∷ v) all =
    let here : w ≡ pos 0 = all 0 w (omega arith) in
    let more = zeros_are v (λ k d below. all (suc k) d (omega (arith, below))) in
    λ i. here i ∷ more i

-- they are dead-fair
pub zero_reported : (task : Task) (atoms : List Atom) (p : PotentialFunction) → length p.weights ≡ length atoms → p.constant ≡ pos 0 → All (λ (w : ℤ). w ≡ pos 0) p.weights → AreDeadFair task atoms p
zero_reported task atoms p long constant weights =
    let weights_are : p.weights ≡ replicate (length atoms) (pos 0) = zeros_are p.weights weights ∙ ap (λ n. replicate n (pos 0)) long in
    subst (AreDeadFair task atoms) (λ i. record { constant = sym constant i; weights = sym weights_are i }) (zero-dead_fair task atoms)
