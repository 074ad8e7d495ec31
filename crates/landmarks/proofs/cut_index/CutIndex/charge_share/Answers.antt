use Rattle.std.proofs.Common.{◌≡◌, ◌⊎◌, true, sym, subst, arith}
use Rattle.model.proofs.ListLemmas.{Contains-got}
use Rattle.lower_bounds.specs.TableFunctions.{is_among}
use Rattle.landmark_zones.specs.Landmarks.{landmarks_of, share_of}
use Rattle.landmarks.specs.Breaking.{zone_in}
use Rattle.landmarks.specs.CutIndex.{asked_in, atoms_of, candidates, Charging, Charges, count_in, share_charging, task_of}
use Rattle.landmarks.proofs.ChargeLemmas.{counted-on, passed, passed-by}
use Rattle.landmarks.proofs.CutLemmas.{candidate-or, share-by, share-none}
use Rattle.landmarks.proofs.cut_index.CutIndex.charge_share.Goals as goal

pub returns-then-number-zone_count : goal.returns-then-number-zone_count
returns-then-number-zone_count c =
    let index = c.args.self.now in
    let zones = (landmarks_of c.args.landmarks.now).zones in
    passed-by (share_charging index zones (share_of c.args.share) c.args.allowance) c.args.counters.now c.tick.new.self c.requires.counted c.tick.ensures.counters c.tick.ensures.start c.tick.ensures.clock
    (share-none (task_of index) (atoms_of index) zones c.args.share (omega (arith, c.if-number-zone_count.true, c.zone_count.ensures)))

pub charge_zone-requires-clause-sorted : goal.charge_zone-requires-clause-sorted
charge_zone-requires-clause-sorted c = c.requires.sorted _ (Contains-got (landmarks_of c.args.landmarks.now).zones c.args.share.zone _ c.zone.ensures)

pub charge_zone-requires-clause-counted : goal.charge_zone-requires-clause-counted
charge_zone-requires-clause-counted c =
    counted-on (count_in c.args.self.now) c.args.counters.now c.tick.new.self c.requires.counted c.tick.ensures.counters (omega (arith, c.tick.ensures.clock))

pub returns : goal.returns
returns c =
    let index = c.args.self.now in
    let zones = (landmarks_of c.args.landmarks.now).zones in
    let z = zone_in c.zone.result in
    let g = share_charging index zones (share_of c.args.share) c.args.allowance in
    let same = share-by index zones c.args.share c.args.allowance z c.zone.ensures in
    passed g c.args.counters.now c.tick.new.self c.requires.counted c.tick.ensures.counters c.tick.ensures.start c.tick.ensures.clock (candidates index.makers z) c.charge_zone.new.counters
    (λ k at. subst (λ (h : Charging). (is_among (candidates index.makers z) k ≡ true) ⊎ (h.more k ≡ 0)) (sym same)
    (candidate-or (task_of index) (atoms_of index) (asked_in index) index.makers index.made z c.args.share.weight k at))
    c.charge_zone.result
    (subst (λ (h : Charging). Charges h (candidates index.makers z) c.tick.new.self c.charge_zone.new.counters c.charge_zone.result) (sym same) c.charge_zone.ensures)
