use Rattle.std.proofs.Common.{take}
use Rattle.tables.specs.AllTables.{tables_of}
use Rattle.tables.proofs.ProjectionsLemmas.{AreFollowed}
use Rattle.tables.proofs.projections.Projections.follow.Given as goal

abbrev pub invariant-loop-index : goal.invariant-loop-index
invariant-loop-index l = AreFollowed (tables_of l.tables) l.number l.is (take l.index l.places) l.initial.self l.self
