use Rattle.std.proofs.Common.{◌<◌, ◌∙◌, length, sym, arith}
use Rattle.std.proofs.lemmas.Bool.{eqb-true, eqb-false}
use Rattle.model.specs.StaticallyFalse.{kept_instances}
use Rattle.landmarks.specs.Counters.{counter_at}
use Rattle.landmarks.specs.CutIndex.{asked_in, charging_by, task_of}
use Rattle.landmarks.proofs.AmongLemmas.{among-all}
use Rattle.landmarks.proofs.ChargeLemmas.{charged-as, charged-before}
use Rattle.landmarks.proofs.cut_index.CutIndex.charge_one.Goals as goal

pub is_seen-requires : goal.is_seen-requires
is_seen-requires c =
    let below = among-all (λ n. n < length (kept_instances (task_of c.args.self.now))) (asked_in c.args.self.now) c.args.number c.args.self.now.kept c.requires.asked in
    omega (arith, below, c.requires.counted.long)

pub returns-then-is_seen : goal.returns-then-is_seen
returns-then-is_seen c =
    charged-before (charging_by c.args.self.now c.args.by) c.args.counters.now c.args.number c.requires.counted
    (eqb-true (counter_at c.args.counters.now c.args.number).seen c.args.counters.now.clock (sym c.is_seen.ensures ∙ c.if-is_seen.true))

pub charge-requires : goal.charge-requires
charge-requires c =
    let below = among-all (λ n. n < length (kept_instances (task_of c.args.self.now))) (asked_in c.args.self.now) c.args.number c.args.self.now.kept c.requires.asked in
    omega (arith, below, c.requires.counted.long)

pub returns : goal.returns
returns c =
    let below = among-all (λ n. n < length (kept_instances (task_of c.args.self.now))) (asked_in c.args.self.now) c.args.number c.args.self.now.kept c.requires.asked in
    let there : c.args.number < length c.args.counters.now.counters.items = omega (arith, below, c.requires.counted.long) in
    charged-as (charging_by c.args.self.now c.args.by) c.args.counters.now c.charge.new.self c.args.number c.weight_for-weight.result c.allowed-most.result c.requires.counted there c.requires.asked
    (eqb-false (counter_at c.args.counters.now c.args.number).seen c.args.counters.now.clock (sym c.is_seen.ensures ∙ c.if-is_seen.false))
    c.weight_for-weight.ensures c.allowed-most.ensures c.charge.ensures.start c.charge.ensures.clock c.charge.result c.charge.ensures.within c.charge.ensures.counters
