-- Worked examples of plan texts: what the definitions say about small texts, each chosen to expose a wrong reading.
use Rattle.std.specs.Prelude.{ℕ, [], ◌∷◌, codes}
use Rattle.model.specs.Fault.{Fault}
use Rattle.model.specs.Examples.{fleet_task, instance}
use Rattle.model.specs.PlanText.{IsPlanText, IsPlanFault}

-- a fault by its number and the offsets of its first byte and after its last
abbrev pub fault : ℕ → ℕ → ℕ → Fault
fault code start end = record { code = code; span = record { start = start; end = end } }

-- plans for the task with trucks, vehicles and places: t is a truck, v a vehicle, p a place, and the parameter of the action
-- `see` is a place or a truck
pub record ArePlans : Type 0 where
  pub no_step : IsPlanText fleet_task (codes " ;x") []
  pub two_steps : IsPlanText fleet_task (codes "(See p)(see T)") (instance 0 (2 ∷ []) ∷ instance 0 (0 ∷ []) ∷ [])
  -- an object of another type, and an undeclared one
  pub wrong_type : IsPlanFault fleet_task (codes "(see v)") (fault 34 5 6)
  pub unknown_object : IsPlanFault fleet_task (codes "(see q)") (fault 34 5 6)
  pub wrong_count : IsPlanFault fleet_task (codes "(see)") (fault 33 1 4)
  pub unknown_action : IsPlanFault fleet_task (codes "(go p)") (fault 32 1 3)
  -- the first faulty step; but the form of the whole text comes first
  pub second_step : IsPlanFault fleet_task (codes "(see p)(see)(go)") (fault 33 8 11)
  pub open_step : IsPlanFault fleet_task (codes "(go p") (fault 30 5 5)
  pub step_in_step : IsPlanFault fleet_task (codes "(see (see p))") (fault 30 5 6)
  -- time stamps before a step, after one, and without a digit before the dot
  pub time_stamp : IsPlanFault fleet_task (codes "0: (see p)") (fault 31 0 2)
  pub after_a_step : IsPlanFault fleet_task (codes "(see p) [1]") (fault 31 8 11)
  pub from_a_dot : IsPlanFault fleet_task (codes ".5(see p)") (fault 31 0 2)
  -- no time stamp is reported inside a step, for a run that does not begin with a digit, and after a stray byte
  pub in_a_step : IsPlanFault fleet_task (codes "(see 0)") (fault 30 5 6)
  pub before_the_action : IsPlanFault fleet_task (codes "(0 p)") (fault 30 1 2)
  pub from_a_letter : IsPlanFault fleet_task (codes "t0: (see p)") (fault 30 0 3)
  pub stray_byte : IsPlanFault fleet_task (1 ∷ codes "0:") (fault 30 0 1)
