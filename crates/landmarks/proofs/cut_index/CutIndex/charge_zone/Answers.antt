use Rattle.std.proofs.Common.{true, false}
use Rattle.std.specs.List.{flat_map}
use Rattle.table_rows.specs.Lists.{list_at}
use Rattle.landmarks.specs.CutIndex.{charging_by}
use Rattle.landmarks.proofs.ChargeLemmas.{charges-more, when-beyond, when-charged}
use Rattle.landmarks.proofs.cut_index.CutIndex.charge_zone.Goals as goal

pub charge_rows-added-requires-clause-asked : goal.charge_rows-added-requires-clause-asked
charge_rows-added-requires-clause-asked c atom number there = c.args.self.now.made.within atom true number there

pub returns-then-not-added : goal.returns-then-not-added
returns-then-not-added c =
    when-beyond (charging_by c.args.self.now c.args.by) (flat_map (list_at c.args.self.now.makers.adding) c.args.by.zone.atoms.now) c.args.counters.now c.charge_rows-added.new.counters
    c.charge_rows-added.result c.charge_rows-added.ensures c.if-not-added.true

pub charge_rows-requires-clause-counted : goal.charge_rows-requires-clause-counted
charge_rows-requires-clause-counted c =
    (when-charged (charging_by c.args.self.now c.args.by) (flat_map (list_at c.args.self.now.makers.adding) c.args.by.zone.atoms.now) c.args.counters.now c.charge_rows-added.new.counters
    c.charge_rows-added.result c.charge_rows-added.ensures c.if-not-added.false).counted

pub charge_rows-requires-clause-asked : goal.charge_rows-requires-clause-asked
charge_rows-requires-clause-asked c atom number there = c.args.self.now.made.within atom false number there

pub returns : goal.returns
returns c =
    let g = charging_by c.args.self.now c.args.by in
    let added = flat_map (list_at c.args.self.now.makers.adding) c.args.by.zone.atoms.now in
    let deleted = flat_map (list_at c.args.self.now.makers.deleting) c.args.by.zone.negated.now in
    charges-more g added deleted c.args.counters.now c.charge_rows-added.new.counters c.charge_rows.new.counters
    (when-charged g added c.args.counters.now c.charge_rows-added.new.counters c.charge_rows-added.result c.charge_rows-added.ensures c.if-not-added.false) c.charge_rows.result c.charge_rows.ensures
