-- The worked plan texts: each computes.
use Rattle.std.proofs.Common.{◌≡◌, ℕ, true, true≢false, ◌&&◌, List, [], ◌∷◌, None, Some, refl, sym, ◌∙◌, ap, arith}
use Rattle.std.specs.Prelude.{codes}
use Rattle.model.specs.Words.{Part}
use Rattle.model.specs.Trees.{Name}
use Rattle.model.specs.Meaning.{is_of}
use Rattle.model.specs.Examples.{fleet_task, see, place_or_truck, instance}
use Rattle.model.specs.PlanText.{Step, IsNumberOf, schema_names, object_names, Means, of_form, of_step, unknown_action, wrong_count, wrong_object, NamesObject}
use Rattle.model.specs.PlanExamples.{fault, ArePlans}
use Rattle.model.proofs.PlanReading.{has_steps, form_fault}

abbrev part : ℕ → List ℕ → Part
part first others = record { first = first; others = others }

abbrev named : List ℕ → ℕ → ℕ → Name
named text start end = record { text = text; span = record { start = start; end = end } }

abbrev step : Name → List Name → Step
step action objects = record { action = action; objects = objects }

abbrev opening : Part
opening = part 40 []

abbrev closing : Part
closing = part 41 []

abbrev gap : Part
gap = part 32 []

-- a step of `see` means its instance
sees : (action name : Name) (number : ℕ) → IsNumberOf (schema_names fleet_task) action 0 → IsNumberOf (object_names fleet_task) name number → is_of fleet_task place_or_truck number ≡ true
    → Means fleet_task (step action (name ∷ [])) (instance 0 (number ∷ []))
sees action name number is named of = record { action = is; objects = (named, tt); fits = ap (λ b. b && true) of }

-- v is declared, but is neither a place nor a truck; q is not declared
not_a_place : NamesObject fleet_task place_or_truck (named (codes "v") 5 6) → ⊥
not_a_place (number, is, of) = let one : Some 1 ≡ Some number = is in let same : 1 ≡ number = cc in absurd (true≢false (sym of ∙ ap (is_of fleet_task place_or_truck) (sym same)))

not_declared : NamesObject fleet_task place_or_truck (named (codes "q") 5 6) → ⊥
not_declared (number, is, of) = let none : None ≡ Some number = is in cc

pub are_plans : ArePlans
are_plans = record {
  no_step = ([], has_steps (codes " ;x") (gap ∷ part 59 (codes "x") ∷ []) ([]) (omega arith) (codes ";x", refl, refl, refl, ([], refl, refl, tt, refl)) refl, tt);
  two_steps = (step (named (codes "See") 1 4) (named (codes "p") 5 6 ∷ []) ∷ step (named (codes "see") 8 11) (named (codes "T") 12 13 ∷ []) ∷ [], has_steps (codes "(See p)(see T)") (opening ∷ part 83 (codes "ee") ∷ gap ∷ part 112 [] ∷ closing ∷ opening ∷ part 115 (codes "ee") ∷ gap ∷ part 84 [] ∷ closing ∷ []) (step (named (codes "See") 1 4) (named (codes "p") 5 6 ∷ []) ∷ step (named (codes "see") 8 11) (named (codes "T") 12 13 ∷ []) ∷ []) (omega arith) (codes "See p)(see T)", refl, refl, refl, (codes " p)(see T)", refl, refl, refl, (codes "p)(see T)", refl, refl, refl, (codes ")(see T)", refl, refl, refl, (codes "(see T)", refl, refl, refl, (codes "see T)", refl, refl, refl, (codes " T)", refl, refl, refl, (codes "T)", refl, refl, refl, (codes ")", refl, refl, refl, ([], refl, refl, tt, refl)))))))))) refl, (sees (named (codes "See") 1 4) (named (codes "p") 5 6) 2 refl refl refl, (sees (named (codes "see") 8 11) (named (codes "T") 12 13) 0 refl refl refl, tt)));
  wrong_type = of_step (step (named (codes "see") 1 4) (named (codes "v") 5 6 ∷ []) ∷ []) ([]) ([]) (step (named (codes "see") 1 4) (named (codes "v") 5 6 ∷ [])) ([]) (has_steps (codes "(see v)") (opening ∷ part 115 (codes "ee") ∷ gap ∷ part 118 [] ∷ closing ∷ []) (step (named (codes "see") 1 4) (named (codes "v") 5 6 ∷ []) ∷ []) (omega arith) (codes "see v)", refl, refl, refl, (codes " v)", refl, refl, refl, (codes "v)", refl, refl, refl, (codes ")", refl, refl, refl, ([], refl, refl, tt, refl))))) refl) refl tt (wrong_object 0 see refl refl refl [] [] (named (codes "v") 5 6) [] [] place_or_truck refl refl tt (not_a_place) refl refl);
  unknown_object = of_step (step (named (codes "see") 1 4) (named (codes "q") 5 6 ∷ []) ∷ []) ([]) ([]) (step (named (codes "see") 1 4) (named (codes "q") 5 6 ∷ [])) ([]) (has_steps (codes "(see q)") (opening ∷ part 115 (codes "ee") ∷ gap ∷ part 113 [] ∷ closing ∷ []) (step (named (codes "see") 1 4) (named (codes "q") 5 6 ∷ []) ∷ []) (omega arith) (codes "see q)", refl, refl, refl, (codes " q)", refl, refl, refl, (codes "q)", refl, refl, refl, (codes ")", refl, refl, refl, ([], refl, refl, tt, refl))))) refl) refl tt (wrong_object 0 see refl refl refl [] [] (named (codes "q") 5 6) [] [] place_or_truck refl refl tt (not_declared) refl refl);
  wrong_count = of_step (step (named (codes "see") 1 4) ([]) ∷ []) ([]) ([]) (step (named (codes "see") 1 4) ([])) ([]) (has_steps (codes "(see)") (opening ∷ part 115 (codes "ee") ∷ closing ∷ []) (step (named (codes "see") 1 4) ([]) ∷ []) (omega arith) (codes "see)", refl, refl, refl, (codes ")", refl, refl, refl, ([], refl, refl, tt, refl))) refl) refl tt (wrong_count 0 see refl refl (λ e. cc) refl refl);
  unknown_action = of_step (step (named (codes "go") 1 3) (named (codes "p") 4 5 ∷ []) ∷ []) ([]) ([]) (step (named (codes "go") 1 3) (named (codes "p") 4 5 ∷ [])) ([]) (has_steps (codes "(go p)") (opening ∷ part 103 (codes "o") ∷ gap ∷ part 112 [] ∷ closing ∷ []) (step (named (codes "go") 1 3) (named (codes "p") 4 5 ∷ []) ∷ []) (omega arith) (codes "go p)", refl, refl, refl, (codes " p)", refl, refl, refl, (codes "p)", refl, refl, refl, (codes ")", refl, refl, refl, ([], refl, refl, tt, refl))))) refl) refl tt (unknown_action (λ d. cc) refl refl);
  second_step = of_step (step (named (codes "see") 1 4) (named (codes "p") 5 6 ∷ []) ∷ step (named (codes "see") 8 11) ([]) ∷ step (named (codes "go") 13 15) ([]) ∷ []) (step (named (codes "see") 1 4) (named (codes "p") 5 6 ∷ []) ∷ []) (step (named (codes "go") 13 15) ([]) ∷ []) (step (named (codes "see") 8 11) ([])) (instance 0 (2 ∷ []) ∷ []) (has_steps (codes "(see p)(see)(go)") (opening ∷ part 115 (codes "ee") ∷ gap ∷ part 112 [] ∷ closing ∷ opening ∷ part 115 (codes "ee") ∷ closing ∷ opening ∷ part 103 (codes "o") ∷ closing ∷ []) (step (named (codes "see") 1 4) (named (codes "p") 5 6 ∷ []) ∷ step (named (codes "see") 8 11) ([]) ∷ step (named (codes "go") 13 15) ([]) ∷ []) (omega arith) (codes "see p)(see)(go)", refl, refl, refl, (codes " p)(see)(go)", refl, refl, refl, (codes "p)(see)(go)", refl, refl, refl, (codes ")(see)(go)", refl, refl, refl, (codes "(see)(go)", refl, refl, refl, (codes "see)(go)", refl, refl, refl, (codes ")(go)", refl, refl, refl, (codes "(go)", refl, refl, refl, (codes "go)", refl, refl, refl, (codes ")", refl, refl, refl, ([], refl, refl, tt, refl))))))))))) refl) refl (sees (named (codes "see") 1 4) (named (codes "p") 5 6) 2 refl refl refl, tt) (wrong_count 0 see refl refl (λ e. cc) refl refl);
  open_step = of_form (form_fault (codes "(go p") (opening ∷ part 103 (codes "o") ∷ gap ∷ part 112 [] ∷ []) (fault 30 5 5) (omega arith) (codes "go p", refl, refl, refl, (codes " p", refl, refl, refl, (codes "p", refl, refl, refl, ([], refl, refl, tt, refl)))) refl);
  step_in_step = of_form (form_fault (codes "(see (see p))") (opening ∷ part 115 (codes "ee") ∷ gap ∷ opening ∷ part 115 (codes "ee") ∷ gap ∷ part 112 [] ∷ closing ∷ closing ∷ []) (fault 30 5 6) (omega arith) (codes "see (see p))", refl, refl, refl, (codes " (see p))", refl, refl, refl, (codes "(see p))", refl, refl, refl, (codes "see p))", refl, refl, refl, (codes " p))", refl, refl, refl, (codes "p))", refl, refl, refl, (codes "))", refl, refl, refl, (codes ")", refl, refl, refl, ([], refl, refl, tt, refl))))))))) refl);
  time_stamp = of_form (form_fault (codes "0: (see p)") (part 48 (codes ":") ∷ gap ∷ opening ∷ part 115 (codes "ee") ∷ gap ∷ part 112 [] ∷ closing ∷ []) (fault 31 0 2) (omega arith) (codes " (see p)", refl, refl, refl, (codes "(see p)", refl, refl, refl, (codes "see p)", refl, refl, refl, (codes " p)", refl, refl, refl, (codes "p)", refl, refl, refl, (codes ")", refl, refl, refl, ([], refl, refl, tt, refl))))))) refl);
  after_a_step = of_form (form_fault (codes "(see p) [1]") (opening ∷ part 115 (codes "ee") ∷ gap ∷ part 112 [] ∷ closing ∷ gap ∷ part 91 (codes "1]") ∷ []) (fault 31 8 11) (omega arith) (codes "see p) [1]", refl, refl, refl, (codes " p) [1]", refl, refl, refl, (codes "p) [1]", refl, refl, refl, (codes ") [1]", refl, refl, refl, (codes " [1]", refl, refl, refl, (codes "[1]", refl, refl, refl, ([], refl, refl, tt, refl))))))) refl);
  from_a_dot = of_form (form_fault (codes ".5(see p)") (part 46 (codes "5") ∷ opening ∷ part 115 (codes "ee") ∷ gap ∷ part 112 [] ∷ closing ∷ []) (fault 31 0 2) (omega arith) (codes "(see p)", refl, refl, refl, (codes "see p)", refl, refl, refl, (codes " p)", refl, refl, refl, (codes "p)", refl, refl, refl, (codes ")", refl, refl, refl, ([], refl, refl, tt, refl)))))) refl);
  in_a_step = of_form (form_fault (codes "(see 0)") (opening ∷ part 115 (codes "ee") ∷ gap ∷ part 48 [] ∷ closing ∷ []) (fault 30 5 6) (omega arith) (codes "see 0)", refl, refl, refl, (codes " 0)", refl, refl, refl, (codes "0)", refl, refl, refl, (codes ")", refl, refl, refl, ([], refl, refl, tt, refl))))) refl);
  before_the_action = of_form (form_fault (codes "(0 p)") (opening ∷ part 48 [] ∷ gap ∷ part 112 [] ∷ closing ∷ []) (fault 30 1 2) (omega arith) (codes "0 p)", refl, refl, refl, (codes " p)", refl, refl, refl, (codes "p)", refl, refl, refl, (codes ")", refl, refl, refl, ([], refl, refl, tt, refl))))) refl);
  from_a_letter = of_form (form_fault (codes "t0: (see p)") (part 116 (codes "0:") ∷ gap ∷ opening ∷ part 115 (codes "ee") ∷ gap ∷ part 112 [] ∷ closing ∷ []) (fault 30 0 3) (omega arith) (codes " (see p)", refl, refl, refl, (codes "(see p)", refl, refl, refl, (codes "see p)", refl, refl, refl, (codes " p)", refl, refl, refl, (codes "p)", refl, refl, refl, (codes ")", refl, refl, refl, ([], refl, refl, tt, refl))))))) refl);
  stray_byte = of_form (form_fault (1 ∷ codes "0:") (part 1 [] ∷ part 48 (codes ":") ∷ []) (fault 30 0 1) (omega arith) (codes "0:", refl, refl, refl, ([], refl, refl, tt, refl)) refl);
}
