use Rattle.std.proofs.Common.{◌≡◌, length, take}
use Rattle.grounding.specs.Ground.{atoms_in, task_in}
use Rattle.table_rows.specs.Lists.{place_count}
use Rattle.landmarks.specs.Makers.{AreMakers}
use Rattle.landmarks.proofs.makers.Makers.new.Given as goal

-- the instances so far have been filed
abbrev pub invariant-loop-number : goal.invariant-loop-number
invariant-loop-number l = record {
  made : AreMakers (task_in l.ground) (atoms_in l.ground) (take l.number-index l.asked) l.makers;
  adding : place_count l.makers.adding ≡ length (atoms_in l.ground);
  deleting : place_count l.makers.deleting ≡ length (atoms_in l.ground);
}
