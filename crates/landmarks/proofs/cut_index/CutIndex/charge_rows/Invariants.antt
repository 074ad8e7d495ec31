use Rattle.std.proofs.Common.{take}
use Rattle.std.specs.List.{flat_map}
use Rattle.table_rows.specs.Lists.{list_at}
use Rattle.landmarks.specs.CutIndex.{charging_by, HaveBeenCharged}
use Rattle.landmarks.proofs.cut_index.CutIndex.charge_rows.Given as goal

-- the rows so far have been charged
abbrev pub invariant-loop-atom : goal.invariant-loop-atom
invariant-loop-atom l = HaveBeenCharged (charging_by l.self l.by) (flat_map (list_at l.rows) (take l.atom-index l.atoms)) l.initial.counters l.counters
