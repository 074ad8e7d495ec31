use Rattle.std.proofs.Common.{◌≤◌, ℕ, List, take, get_or, subst, arith}
use Rattle.std.proofs.lemmas.List.{take_all}
use Rattle.landmark_zones.specs.declared.values.Share.{Share}
use Rattle.landmark_zones.specs.Landmarks.{landmarks_of, share_of}
use Rattle.landmarks.specs.CutIndex.{allowed_at, asked_in, atoms_of, count_in, share_charging, task_of, total_at}
use Rattle.landmarks.proofs.ChargeLemmas.{when-passed, when-too-much}
use Rattle.landmarks.proofs.CutLemmas.{beyond-all, standing-begins, standing-more}
use Rattle.landmarks.proofs.cut_index.CutIndex.stays_within.Goals as goal

abbrev none : Share
none = record { zone = 0; weight = 0 }

pub loop-share-init : goal.loop-share-init
loop-share-init c = record {
  counted = c.begin.ensures.counted (count_in c.args.self.now) c.requires.counted;
  early = omega (arith, c.begin.ensures.begun, c.begin.ensures.early);
  clock = omega (arith, c.begin.ensures.begun);
  standing = standing-begins (asked_in c.args.self.now) (allowed_at (task_of c.args.self.now) (atoms_of c.args.self.now) c.args.allowance) (count_in c.args.self.now) c.begin.new.self
      (c.begin.ensures.counted (count_in c.args.self.now) c.requires.counted) c.begin.ensures.begun;
}

pub charge_share-requires-clause-counted : goal.charge_share-requires-clause-counted
charge_share-requires-clause-counted c = c.loop-share.invariant.counted

pub charge_share-requires-clause-early : goal.charge_share-requires-clause-early
charge_share-requires-clause-early c = omega (arith, c.loop-share.invariant.clock, c.loop-share.invariant.early, c.loop-share-test.true, c.requires.few)

pub returns-then-not-charge_share-clause-counted : goal.returns-then-not-charge_share-clause-counted
returns-then-not-charge_share-clause-counted c =
    (when-too-much _ c.loop-share.counters c.charge_share.new.counters c.charge_share.result c.charge_share.ensures c.if-not-charge_share.true).counted

pub returns-then-not-charge_share-clause-within : goal.returns-then-not-charge_share-clause-within
returns-then-not-charge_share-clause-within c =
    let index = c.args.self.now in
    let zones = (landmarks_of c.args.landmarks.now).zones in
    let shares = c.args.shares.now in
    let i = c.loop-share.share-index in
    let most : ℕ → ℕ = allowed_at (task_of index) (atoms_of index) c.args.allowance in
    beyond-all (task_of index) (atoms_of index) zones shares (asked_in index) most i none c.loop-share-test.true
    ((when-too-much (share_charging index zones (share_of (get_or shares i none)) c.args.allowance) c.loop-share.counters c.charge_share.new.counters c.charge_share.result c.charge_share.ensures c.if-not-charge_share.true).beyond
    (total_at (task_of index) (atoms_of index) zones (take i shares)) c.loop-share.invariant.standing)

pub loop-share-preserved : goal.loop-share-preserved
loop-share-preserved c =
    let index = c.args.self.now in
    let zones = (landmarks_of c.args.landmarks.now).zones in
    let shares = c.args.shares.now in
    let i = c.loop-share.share-index in
    let most : ℕ → ℕ = allowed_at (task_of index) (atoms_of index) c.args.allowance in
    let passed = when-passed (share_charging index zones (share_of (get_or shares i none)) c.args.allowance) c.loop-share.counters c.charge_share.new.counters c.charge_share.result c.charge_share.ensures c.if-not-charge_share.false in
    record {
      counted = passed.counted;
      early = omega (arith, passed.start, c.loop-share.invariant.early);
      clock = omega (arith, passed.start, passed.clock, c.loop-share.invariant.clock);
      standing = standing-more (task_of index) (atoms_of index) zones shares (asked_in index) most i none c.loop-share-test.true c.charge_share.new.counters
          (passed.charged (total_at (task_of index) (atoms_of index) zones (take i shares)) c.loop-share.invariant.standing);
    }

pub returns-clause-counted : goal.returns-clause-counted
returns-clause-counted c = c.loop-share.invariant.counted

pub returns-clause-within : goal.returns-clause-within
returns-clause-within c =
    let index = c.args.self.now in
    let zones = (landmarks_of c.args.landmarks.now).zones in
    let most : ℕ → ℕ = allowed_at (task_of index) (atoms_of index) c.args.allowance in
    λ number at. subst (λ (l : List Share). total_at (task_of index) (atoms_of index) zones l number ≤ most number) (take_all c.loop-share.share-index c.args.shares.now c.loop-share-test.false)
    (c.loop-share.invariant.standing.within number at)
