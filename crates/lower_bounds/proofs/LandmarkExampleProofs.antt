-- The worked examples of landmark values.
use Rattle.std.proofs.Common.{◌≡◌, ◌∙◌, ℕ, ◌≤◌, ◌<◌, Bool, true, false, true≢false, List, [], ◌∷◌, sum_by, refl, sym, ap, subst, arith}
use Rattle.std.specs.Prelude.{All, IsTrue, filter, if◌then◌else◌}
use Rattle.std.specs.List.{list_all, filter_map}
use Rattle.std.proofs.lemmas.List.Elements.{All-nil, All-cons}
use Rattle.std.specs.FinSet.{from_list}
use Rattle.model.specs.Grounding.{bits_of_state}
use Rattle.model.specs.Task.{Atom, Task, Instance}
use Rattle.model.specs.Meaning.{cost_of}
use Rattle.model.specs.StaticallyFalse.{kept_instances}
use Rattle.model.specs.NumberedLiterals.{literals_of_instance}
use Rattle.model.specs.ConditionalChanges.{conditional_change, conditional_of_instance}
use Rattle.model.specs.Examples.{instance}
use Rattle.model.proofs.GroundingComputes.{counting, counting-is, kept-is}
use Rattle.lower_bounds.specs.FairPotentials.{nothing}
use Rattle.lower_bounds.specs.PotentialExamples.{hop_task, hop_atoms, when_task, when_atoms, token_task, token_atoms}
use Rattle.lower_bounds.proofs.PotentialExampleProofs.{hop, leap, hops_kept, the_one, fore, back, moves_kept}
use Rattle.lower_bounds.specs.TableFunctions.{Table}
use Rattle.lower_bounds.specs.FairTables.{is_asked, is_closed}
use Rattle.lower_bounds.specs.TableExamples.{never_at_a, never_at_b, x, y}
use Rattle.lower_bounds.proofs.TableExampleProofs.{y-unnumbered}
use Rattle.lower_bounds.specs.LandmarkFunctions.{Zone, Landmark, LandmarkFunction, value}
use Rattle.lower_bounds.specs.FairLandmarks.{may_break, instance_may_break, cut_of, charge, charges, IsFairAt, AreFairAt, AreOfGoal, IsFair, IsDeadFair, AreClosed}
use Rattle.lower_bounds.specs.LandmarkExamples.{AreZonesJudged, AreTasksJudged, zone, weighing, alone, beside, not_at_c, at_neither, by_hops, at_once, never_without_tables, fire_task, fire_atoms, burning, nowhere, not_here}

pub zones_are_judged : AreZonesJudged
zones_are_judged = record {
  whole = refl;
  not_whole_by_atom = refl;
  not_whole_by_negated = refl;
  add_breaks = refl;
  delete_keeps = refl;
  other_keeps = refl;
  delete_breaks = refl;
  add_keeps = refl;
  added_again = refl;
  added_first = refl;
  perhaps_added_again = refl;
  not_whole_before = refl;
  negation_before = refl;
  whole_before = refl;
  contradicted_before = refl;
  condition_keeps = refl;
  when_breaks = refl;
  another_breaks = refl;
  never_breaks = refl;
}

-- ---- instances, in a form that computes

module _ (task : Task) (atoms : List Atom) where
  abbrev breaks : Zone → Instance → Bool
  breaks zone i = may_break (literals_of_instance task atoms i) (filter_map (conditional_change task atoms) (counting task i)) zone

  breaks-is : (zone : Zone) (i : Instance) → instance_may_break task atoms zone i ≡ breaks zone i
  breaks-is zone i = ap (λ changes. may_break (literals_of_instance task atoms i) (filter_map (conditional_change task atoms) changes) zone) (counting-is task i)

  cut-is : (zone : Zone) (kept : List Instance) → kept_instances task ≡ kept → cut_of task atoms zone ≡ filter (breaks zone) kept
  cut-is zone kept are = λ k. filter (λ i. breaks-is zone i k) (are k)

  abbrev charged : List Landmark → Instance → ℕ
  charged landmarks i = sum_by (charge (literals_of_instance task atoms i) (filter_map (conditional_change task atoms) (counting task i))) landmarks

  charges-is : (landmarks : List Landmark) (i : Instance) → charges task atoms landmarks i ≡ charged landmarks i
  charges-is landmarks i = ap (λ changes. sum_by (charge (literals_of_instance task atoms i) (filter_map (conditional_change task atoms) changes)) landmarks) (counting-is task i)

  fair : (h : LandmarkFunction) (allowed lost : ℕ) (i : Instance) → charged h.landmarks i ≡ lost → lost ≤ allowed → IsFairAt allowed task atoms h i
  fair h allowed lost i is less = record { within = omega (arith, charges-is h.landmarks i) }

  unfair : (h : LandmarkFunction) (allowed lost : ℕ) (i : Instance) → charged h.landmarks i ≡ lost → allowed < lost → IsFairAt allowed task atoms h i → ⊥
  unfair h allowed lost i is more fair = let within = fair.within in absurd (omega (arith, charges-is h.landmarks i))

-- ---- the walk

abbrev IsFairIfAsked : LandmarkFunction → Instance → Type 0
IsFairIfAsked h i = IsTrue (is_asked hop_task hop_atoms h.tables i) → IsFairAt (cost_of hop_task i) hop_task hop_atoms h i

hops : (h : LandmarkFunction) → IsFairIfAsked h (hop 0 1) → IsFairIfAsked h (hop 1 2) → IsFairIfAsked h leap → AreOfGoal hop_task hop_atoms h → IsFair hop_task hop_atoms h
hops h first second leaps goals =
    let P = IsFairIfAsked h in
    record {
      instances = subst (All P) (sym hops_kept) (All-cons P (hop 0 1) (hop 1 2 ∷ leap ∷ []) first (All-cons P (hop 1 2) (leap ∷ []) second (All-cons P leap [] leaps (All-nil P))));
      goals = goals;
    }

of_hops : (h : LandmarkFunction) → IsFair hop_task hop_atoms h → All (IsFairIfAsked h) (hop 0 1 ∷ hop 1 2 ∷ leap ∷ [])
of_hops h fair = subst (All (IsFairIfAsked h)) hops_kept fair.instances

-- charged this much
hop-fair : (h : LandmarkFunction) (lost : ℕ) (i : Instance) → cost_of hop_task i ≡ 3 → charged hop_task hop_atoms h.landmarks i ≡ lost → lost ≤ 3 → IsFairIfAsked h i
hop-fair h lost i costs is less asked = fair hop_task hop_atoms h (cost_of hop_task i) lost i is (omega arith)

leap-fair : (h : LandmarkFunction) (lost : ℕ) → charged hop_task hop_atoms h.landmarks leap ≡ lost → lost ≤ 10 → IsFairIfAsked h leap
leap-fair h lost is less asked = fair hop_task hop_atoms h 10 lost leap is less

shut_out : (h : LandmarkFunction) (i : Instance) → is_asked hop_task hop_atoms h.tables i ≡ false → IsFairIfAsked h i
shut_out h i out asked = absurd (true≢false (sym asked ∙ out))

second-too_dear : (h : LandmarkFunction) (lost : ℕ) → is_asked hop_task hop_atoms h.tables (hop 1 2) ≡ true → charged hop_task hop_atoms h.landmarks (hop 1 2) ≡ lost → 3 < lost → ¬ IsFair hop_task hop_atoms h
second-too_dear h lost asked is more fair = unfair hop_task hop_atoms h 3 lost (hop 1 2) is more (of_hops h fair 1 leap (omega arith) asked)

first-too_dear : (h : LandmarkFunction) (lost : ℕ) → is_asked hop_task hop_atoms h.tables (hop 0 1) ≡ true → charged hop_task hop_atoms h.landmarks (hop 0 1) ≡ lost → 3 < lost → ¬ IsFair hop_task hop_atoms h
first-too_dear h lost asked is more fair = unfair hop_task hop_atoms h 3 lost (hop 0 1) is more (of_hops h fair 0 leap (omega arith) asked)

abbrev IsClosedIfAsked : List Table → Instance → Type 0
IsClosedIfAsked tables i = IsTrue (is_asked hop_task hop_atoms tables i) → IsTrue (list_all (is_closed (literals_of_instance hop_task hop_atoms i) (conditional_of_instance hop_task hop_atoms i)) tables)

hole-open : ¬ AreClosed hop_task hop_atoms never_at_b.tables
hole-open closed =
    let first : IsClosedIfAsked never_at_b.tables (hop 0 1) = subst (All (IsClosedIfAsked never_at_b.tables)) hops_kept closed 0 leap (omega arith) in
    true≢false (sym (first refl))

-- ---- the fire and the token

abbrev douse : Instance
douse = instance 0 []

douse_kept : kept_instances fire_task ≡ douse ∷ []
douse_kept = kept-is fire_task ∙ refl

abbrev IsDousingFair : ℕ → Instance → Type 0
IsDousingFair weight i = IsTrue (is_asked fire_task fire_atoms [] i) → IsFairAt (cost_of fire_task i) fire_task fire_atoms (burning weight) i

fire-fair : IsFair fire_task fire_atoms (burning 2)
fire-fair = record {
  instances = subst (All (IsDousingFair 2)) (sym douse_kept) (All-cons (IsDousingFair 2) douse [] (λ _. fair fire_task fire_atoms (burning 2) 2 2 douse refl (omega arith)) (All-nil (IsDousingFair 2)));
  goals = refl;
}

fire-too_dear : ¬ IsFair fire_task fire_atoms (burning 3)
fire-too_dear is = unfair fire_task fire_atoms (burning 3) 2 3 douse refl (omega arith) (subst (All (IsDousingFair 3)) douse_kept is.instances 0 douse (omega arith) refl)

abbrev AreMovesFair : (Instance → ℕ) → LandmarkFunction → Instance → Type 0
AreMovesFair allowance h i = IsTrue (is_asked token_task token_atoms h.tables i) → IsFairAt (allowance i) token_task token_atoms h i

moves : (allowance : Instance → ℕ) (h : LandmarkFunction) → AreMovesFair allowance h fore → AreMovesFair allowance h back → AreOfGoal token_task token_atoms h → AreFairAt allowance token_task token_atoms h
moves allowance h fore_fair back_fair goals =
    let P = AreMovesFair allowance h in
    record { instances = subst (All P) (sym moves_kept) (All-cons P fore (back ∷ []) fore_fair (All-cons P back [] back_fair (All-nil P))); goals = goals }

back-too_dear : ¬ IsDeadFair token_task token_atoms not_here
back-too_dear is = unfair token_task token_atoms not_here 0 1 back refl (omega arith) (subst (All (AreMovesFair nothing not_here)) moves_kept is.instances 1 back (omega arith) refl)

-- ---- all of them

pub tasks_are_judged : AreTasksJudged
tasks_are_judged = record {
  two_lead_to_c = cut-is hop_task hop_atoms not_at_c (hop 0 1 ∷ hop 1 2 ∷ leap ∷ []) hops_kept ∙ refl;
  cut_is_fair = let h = alone (weighing 3 not_at_c ∷ []) in hops h (hop-fair h 0 (hop 0 1) refl refl (omega arith)) (hop-fair h 3 (hop 1 2) refl refl (omega arith)) (leap-fair h 3 refl (omega arith)) refl;
  cut_is_too_dear = second-too_dear (alone (weighing 4 not_at_c ∷ [])) 4 refl refl (omega arith);
  first_cut = cut-is hop_task hop_atoms at_neither (hop 0 1 ∷ hop 1 2 ∷ leap ∷ []) hops_kept ∙ refl;
  leap_is_charged_both = charges-is hop_task hop_atoms by_hops.landmarks leap ∙ refl;
  walk_is_fair = hops by_hops (hop-fair by_hops 3 (hop 0 1) refl refl (omega arith)) (hop-fair by_hops 3 (hop 1 2) refl refl (omega arith)) (leap-fair by_hops 6 refl (omega arith)) refl;
  walk_at_a = refl;
  walk_at_b = refl;
  walk_at_c = refl;
  once_is_fair = let h = at_once 2 1 in hops h (hop-fair h 0 (hop 0 1) refl refl (omega arith)) (hop-fair h 3 (hop 1 2) refl refl (omega arith)) (leap-fair h 3 refl (omega arith)) refl;
  once_at_b = refl;
  once_at_a = refl;
  dearer_by_one = charges-is hop_task hop_atoms (at_once 2 2).landmarks (hop 1 2) ∙ refl;
  once_is_too_dear = second-too_dear (at_once 2 2) 4 refl refl (omega arith);
  not_of_goal = λ all. true≢false (sym all);
  left_at_c = refl;
  when_breaks = breaks-is when_task when_atoms (zone (0 ∷ []) []) the_one ∙ refl;
  condition_keeps = breaks-is when_task when_atoms (zone (0 ∷ 2 ∷ []) []) the_one ∙ refl;
  fire_is_fair = fire-fair;
  fire_is_too_dear = fire-too_dear;
  while_it_burns = refl;
  after_fire = refl;
  nowhere_is_dead_fair =
      moves nothing nowhere (λ _. fair token_task token_atoms nowhere 0 0 fore refl (omega arith)) (λ _. fair token_task token_atoms nowhere 0 0 back refl (omega arith)) refl;
  nowhere_is_dead = refl;
  there_is_not_dead = refl;
  back_costs_one =
      moves (cost_of token_task) not_here (λ _. fair token_task token_atoms not_here 1 0 fore refl (omega arith)) (λ _. fair token_task token_atoms not_here 1 1 back refl (omega arith)) refl;
  back_breaks_it = back-too_dear;
  hop_is_shut_out = refl;
  shut_out_is_fair =
      let h = beside never_at_a.tables never_without_tables.landmarks in
      hops h (shut_out h (hop 0 1) refl) (hop-fair h 0 (hop 1 2) refl refl (omega arith)) (shut_out h leap refl) refl;
  without_tables = first-too_dear never_without_tables 1000 refl refl (omega arith);
  without_row = refl;
  fair_beside_hole =
      let h = beside never_at_b.tables by_hops.landmarks in
      hops h (hop-fair h 3 (hop 0 1) refl refl (omega arith)) (shut_out h (hop 1 2) refl) (leap-fair h 6 refl (omega arith)) refl;
  before_hole = refl;
  in_hole = refl;
  not_closed = hole-open;
  unnumbered =
      let h = alone (weighing 5 (zone (0 ∷ []) []) ∷ []) in
      ap (λ b. if b then value h (bits_of_state (x ∷ []) (from_list (y ∷ []))) else 0) y-unnumbered;
}
