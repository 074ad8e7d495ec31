use Rattle.std.proofs.Common.{◌≡◌, true, take, get_or, sym, subst, List, ℕ}
use Rattle.std.specs.List.{flat_map}
use Rattle.std.proofs.lemmas.List.{take_all}
use Rattle.lower_bounds.specs.TableFunctions.{is_among}
use Rattle.table_rows.specs.Lists.{list_at}
use Rattle.landmarks.specs.CutIndex.{charging_by, HaveBeenCharged}
use Rattle.landmarks.proofs.CutLemmas.{flat-more}
use Rattle.landmarks.proofs.ChargeLemmas.{beyond-later, charged-more, charged-none, when-beyond, when-charged}
use Rattle.landmarks.proofs.cut_index.CutIndex.charge_rows.Goals as goal

pub loop-atom-init : goal.loop-atom-init
loop-atom-init c = charged-none (charging_by c.args.self.now c.args.by) c.args.counters.now c.requires.counted

pub charge_all-requires-clause-counted : goal.charge_all-requires-clause-counted
charge_all-requires-clause-counted c = c.loop-atom.invariant.counted

pub charge_all-requires-clause-asked : goal.charge_all-requires-clause-asked
charge_all-requires-clause-asked c number there =
    c.requires.asked (get_or c.args.atoms.now c.loop-atom.atom-index 0) number (subst (λ (l : List ℕ). is_among l number ≡ true) c.of.ensures there)

pub returns-then-not-charge_all : goal.returns-then-not-charge_all
returns-then-not-charge_all c =
    let g = charging_by c.args.self.now c.args.by in
    let atoms = c.args.atoms.now in
    let i = c.loop-atom.atom-index in
    beyond-later g (flat_map (list_at c.args.rows.now) (take i atoms)) c.args.counters.now c.loop-atom.counters c.charge_all.new.counters c.loop-atom.invariant
    (when-beyond g c.of.result.now c.loop-atom.counters c.charge_all.new.counters c.charge_all.result c.charge_all.ensures c.if-not-charge_all.true)

pub loop-atom-preserved : goal.loop-atom-preserved
loop-atom-preserved c =
    let g = charging_by c.args.self.now c.args.by in
    let row = list_at c.args.rows.now in
    let atoms = c.args.atoms.now in
    let i = c.loop-atom.atom-index in
    let one = subst (λ (l : List ℕ). HaveBeenCharged g l c.loop-atom.counters c.charge_all.new.counters) c.of.ensures
    (when-charged g c.of.result.now c.loop-atom.counters c.charge_all.new.counters c.charge_all.result c.charge_all.ensures c.if-not-charge_all.false) in
    subst (λ (l : List ℕ). HaveBeenCharged g l c.args.counters.now c.charge_all.new.counters) (sym (flat-more row atoms i c.loop-atom-test.true))
    (charged-more g (flat_map row (take i atoms)) (row (get_or atoms i 0)) c.args.counters.now c.loop-atom.counters c.charge_all.new.counters c.loop-atom.invariant one)

pub returns : goal.returns
returns c =
    subst (λ (l : List ℕ). HaveBeenCharged (charging_by c.args.self.now c.args.by) (flat_map (list_at c.args.rows.now) l) c.args.counters.now c.loop-atom.counters)
    (take_all c.loop-atom.atom-index c.args.atoms.now c.loop-atom-test.false) c.loop-atom.invariant
