use Rattle.std.proofs.Common.{◌≡◌, ◌∙◌, false, sym}
use Rattle.landmarks.specs.CutIndex.{atoms_of, task_of}
use Rattle.landmarks.specs.Fairness.{is_unfair}
use Rattle.guides.proofs.TestedLemmas.{tested}
use Rattle.guides.proofs.tested.TestedValue.test.Goals as goal

pub fairness-requires-clause-one : goal.fairness-requires-clause-one
fairness-requires-clause-one c = record { one = c.requires.draft.one; limits = c.requires.draft.limits }

pub returns : goal.returns
returns c =
    let index = c.args.index.now in
    let fair : is_unfair c.in_ok-fairness.fairness ≡ false = sym c.is_unfair.ensures ∙ c.if-is_unfair.false in
    tested (task_of index) (atoms_of index) (record { landmarks = c.args.draft.landmarks; is_dead_fair = c.is_dead_fair-is_dead_fair.result; place = c.args.place }) c.in_ok-fairness.fairness c.requires.numbered
    (record { one = c.requires.draft.one; limits = c.requires.draft.limits }) c.in_ok-fairness.ensures fair c.is_dead_fair-is_dead_fair.ensures
