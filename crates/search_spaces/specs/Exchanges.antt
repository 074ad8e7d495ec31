-- The exchanges modulo which a task is searched.
use Rattle.std.specs.Prelude.{ℕ, nat_le, ◌≤◌, Bool, ◌&&◌, IsTrue, List, length}
use Rattle.std.specs.List.{list_all}
use Rattle.grounding.specs.declared.ground.Ground.{Ground}
use Rattle.grounding.specs.Ground.{task_in, atoms_in}
use Rattle.model.specs.Task.{Task}
use Rattle.symmetries_definitions.specs.Exchanges.{Exchange}
use Rattle.symmetries_definitions.specs.Symmetries.{is_symmetry}
use Rattle.symmetries_definitions.specs.Orbits.{keeps_atoms}
use Rattle.certificate_definitions.specs.Certificates.{three, are_exchanges}
use Rattle.certificate_definitions.specs.CertificateNames.{is_exchange_of}

-- A line of a certificate can name its objects: they are the task's, all different, and with names of 255 bytes they fit the longest line.
abbrev pub most_pairs : ℕ
most_pairs = 32767

abbrev pub can_be_named : Task → Exchange → Bool
can_be_named task e = is_exchange_of task e && nat_le (length e) most_pairs

-- They are symmetries of the task, the image of each numbered atom is one, and a certificate can have them.
pub record AreExchangesFor (g : Ground) (exchanges : List Exchange) : Type 0 where
  pub symmetries : IsTrue (list_all (is_symmetry (task_in g)) exchanges)
  pub kept : IsTrue (list_all (keeps_atoms (atoms_in g)) exchanges)
  pub written : IsTrue (are_exchanges three exchanges)
  pub named : IsTrue (list_all (can_be_named (task_in g)) exchanges)
  pub few : length exchanges ≤ 1048576
