-- The worked examples of symmetries. The tests compute; a state, being a set, is given by its atoms.
use Rattle.std.proofs.Common.{◌≡◌, ◌∙◌, ℕ, Bool, true, false, ◌||◌, List, [], ◌∷◌, refl, sym}
use Rattle.std.specs.Ordering.{eq_by_cmp}
use Rattle.std.specs.FinSet.{from_list, contains-from_list}
use Rattle.model.specs.Task.{Atom}
use Rattle.model.specs.Meaning.{atom_cmp}
use Rattle.model.proofs.Atoms.{atoms_total, same_state}
use Rattle.symmetries_definitions.specs.Exchanges.{Exchange}
use Rattle.symmetries_definitions.specs.SymmetryExamples.{swapping, ball_atoms, balls_in, from_first, from_second, mark_of, marks, AreExchangesJudged, AreTasksJudged, AreActionsJudged, AreGoalsJudged, AreRepresentativesJudged}
use Rattle.model.specs.Examples.{ground}
use Rattle.symmetries_definitions.proofs.ImagesCompute.{images-list}

pub exchanges_are_judged : AreExchangesJudged
exchanges_are_judged = record { gripper_typed = refl; balls = refl; grippers = refl; balls_and_grippers = refl; nothing = refl; two_types = refl; rooms = refl; twice = refl; with_itself = refl }

pub tasks_are_judged : AreTasksJudged
tasks_are_judged = record {
  delivery_typed = refl;
  one_destination = refl;
  two_destinations = refl;
  with_destinations = refl;
  one_way = refl;
  below = refl;
  one_fragile = refl;
  other_fragile = refl;
  both_fragile = refl;
  one_heavier = refl;
  one_weighed = refl;
  none_weighed = refl;
}

pub actions_are_judged : AreActionsJudged
actions_are_judged = record {
  acting_typed = refl;
  in_precondition = refl;
  in_equality = refl;
  in_conclusion = refl;
  under_exists = refl;
  under_forall = refl;
  of_all = refl;
  of_another = refl;
  in_effect = refl;
  for_each = refl;
  in_condition = refl;
  under_condition = refl;
  in_increase = refl;
}

pub goals_are_judged : AreGoalsJudged
goals_are_judged = record { goal_typed = refl; nested = refl; one_required = refl; one_more = refl; under_or = refl; or_each = refl; by_forall = refl; under_forall = refl; forall_each = refl }

-- ---- representatives

-- the atoms of the two balls
abbrev in_rooms : ℕ → ℕ → List Atom
in_rooms first second = ground 1 (2 ∷ first ∷ []) ∷ ground 1 (3 ∷ second ∷ []) ∷ []

pub representatives_are_judged : AreRepresentativesJudged
representatives_are_judged = record {
  exchanged = images-list ball_atoms (swapping 2 3 ∷ []) (refl, tt) 4 (in_rooms 1 0) ∙ turned 1 0;
  itself = images-list ball_atoms (swapping 2 3 ∷ []) (refl, tt) 4 (in_rooms 0 1);
  together = images-list ball_atoms (swapping 2 3 ∷ []) (refl, tt) 4 (in_rooms 1 1);
  other_order = images-list other_atoms (swapping 2 3 ∷ []) (refl, tt) 4 (in_rooms 0 1) ∙ turned 0 1;
  alone = refl;
  cut_short = images-list marks by_turns (refl, (refl, tt)) 9 (mark_of 0 ∷ []);
  one_more = images-list marks by_turns (refl, (refl, tt)) 9 (mark_of 9 ∷ []);
  whole_chain = images-list marks by_turns (refl, (refl, tt)) 9 (mark_of 1 ∷ []);
}
  where
    by_turns : List Exchange
    by_turns = from_first ∷ from_second ∷ []

    other_atoms : List Atom
    other_atoms = ground 1 (3 ∷ 0 ∷ []) ∷ ground 1 (2 ∷ 0 ∷ []) ∷ []

    either : (b c : Bool) → (b || (c || false)) ≡ (c || (b || false))
    either true true = refl
    either true false = refl
    either false true = refl
    either false false = refl

    -- the atoms of two balls, in another order
    turned : (first second : ℕ) → from_list (ground 1 (3 ∷ first ∷ []) ∷ ground 1 (2 ∷ second ∷ []) ∷ []) ≡ balls_in second first
    turned first second =
        let other = ground 1 (3 ∷ first ∷ []) ∷ ground 1 (2 ∷ second ∷ []) ∷ [] in
        same_state (from_list other) (balls_in second first) (λ a.
        contains-from_list atoms_total other a
        ∙ either (eq_by_cmp atom_cmp a (ground 1 (3 ∷ first ∷ []))) (eq_by_cmp atom_cmp a (ground 1 (2 ∷ second ∷ [])))
        ∙ sym (contains-from_list atoms_total (in_rooms second first) a))
