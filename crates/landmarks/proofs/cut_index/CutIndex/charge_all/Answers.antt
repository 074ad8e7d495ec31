use Rattle.std.proofs.Common.{[], ◌∷◌, take, get_or, sym, subst, List, ℕ}
use Rattle.std.proofs.lemmas.List.{take_all, take_more}
use Rattle.landmarks.specs.CutIndex.{charging_by, HaveBeenCharged}
use Rattle.landmarks.proofs.AmongLemmas.{index-among}
use Rattle.landmarks.proofs.ChargeLemmas.{beyond-later, charged-more, charged-none, when-beyond, when-charged}
use Rattle.landmarks.proofs.cut_index.CutIndex.charge_all.Goals as goal

pub loop-number-init : goal.loop-number-init
loop-number-init c = charged-none (charging_by c.args.self.now c.args.by) c.args.counters.now c.requires.counted

pub charge_one-requires-clause-counted : goal.charge_one-requires-clause-counted
charge_one-requires-clause-counted c = c.loop-number.invariant.counted

pub charge_one-requires-clause-asked : goal.charge_one-requires-clause-asked
charge_one-requires-clause-asked c =
    c.requires.asked (get_or c.args.numbers.now c.loop-number.number-index 0) (index-among c.args.numbers.now c.loop-number.number-index c.loop-number-test.true)

pub returns-then-not-charge_one : goal.returns-then-not-charge_one
returns-then-not-charge_one c =
    let g = charging_by c.args.self.now c.args.by in
    let numbers = c.args.numbers.now in
    let i = c.loop-number.number-index in
    beyond-later g (take i numbers) c.args.counters.now c.loop-number.counters c.charge_one.new.counters c.loop-number.invariant
    (when-beyond g (get_or numbers i 0 ∷ []) c.loop-number.counters c.charge_one.new.counters c.charge_one.result c.charge_one.ensures c.if-not-charge_one.true)

pub loop-number-preserved : goal.loop-number-preserved
loop-number-preserved c =
    let g = charging_by c.args.self.now c.args.by in
    let numbers = c.args.numbers.now in
    let i = c.loop-number.number-index in
    subst (λ (l : List ℕ). HaveBeenCharged g l c.args.counters.now c.charge_one.new.counters) (sym (take_more numbers i 0 c.loop-number-test.true))
    (charged-more g (take i numbers) (get_or numbers i 0 ∷ []) c.args.counters.now c.loop-number.counters c.charge_one.new.counters c.loop-number.invariant
    (when-charged g (get_or numbers i 0 ∷ []) c.loop-number.counters c.charge_one.new.counters c.charge_one.result c.charge_one.ensures c.if-not-charge_one.false))

pub returns : goal.returns
returns c =
    subst (λ (l : List ℕ). HaveBeenCharged (charging_by c.args.self.now c.args.by) l c.args.counters.now c.loop-number.counters)
    (take_all c.loop-number.number-index c.args.numbers.now c.loop-number-test.false) c.loop-number.invariant
