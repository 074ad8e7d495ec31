-- Groundwork, as the code keeps it.
use Rattle.grounding.specs.declared.ground.Ground.{Ground}
use Rattle.potentials_improved.specs.declared.groundwork.Groundwork.{Groundwork}

-- its ground task
abbrev pub ground_under : Groundwork → Ground
ground_under g = g.ground.now
