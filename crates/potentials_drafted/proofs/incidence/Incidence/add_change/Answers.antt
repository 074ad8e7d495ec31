use Rattle.std.proofs.Common.{◌∙◌, length, refl, sym}
use Rattle.potentials_drafted.proofs.IncidenceLemmas.{added-again, added-at, atom-below, row-pushed}
use Rattle.potentials_drafted.proofs.incidence.Incidence.add_change.Goals as goal

pub returns-then-touches : goal.returns-then-touches
returns-then-touches c = λ first so.
    added-again c.args.instance.number c.args.instance.changes.now c.args.place c.index-changes-place.result first c.args.self.now c.requires.within (sym c.touches.ensures ∙ c.if-touches.true) so

pub push-requires-2 : goal.push-requires-2
push-requires-2 c = atom-below c.args.instance.changes.now c.args.place (length c.args.self.now.rows.items) _ c.index-changes-place.result c.requires.below c.requires.within refl

pub returns : goal.returns
returns c = λ first so.
    added-at c.args.instance.number c.args.instance.changes.now c.args.place c.index-changes-place.result first c.args.self.now c.push-2.new.self c.requires.within so c.in_ok-push-2.ensures.width
    (row-pushed c.args.self.now c.push-2.new.self _ _ c.in_ok-push-2.ensures.rows)
