use Rattle.std.proofs.Common.{take}
use Rattle.landmarks.specs.CutIndex.{charging_by, HaveBeenCharged}
use Rattle.landmarks.proofs.cut_index.CutIndex.charge_all.Given as goal

-- the instances so far have been charged
abbrev pub invariant-loop-number : goal.invariant-loop-number
invariant-loop-number l = HaveBeenCharged (charging_by l.self l.by) (take l.number-index l.numbers) l.initial.counters l.counters
