use Rattle.std.proofs.Common.{◌<◌, map, refl, subst, sym, arith}
use Rattle.std.specs.Prelude.{All}
use Rattle.std.proofs.lemmas.List.{take_all}
use Rattle.grounding.specs.Changes.{counting_of}
use Rattle.model.specs.NumberedLiterals.{NumberedChange}
use Rattle.potentials_drafted.specs.Incidence.{IsAdded}
use Rattle.potentials_drafted.proofs.IncidenceLemmas.{added-none, added-alike}
use Rattle.potentials_drafted.proofs.incidence.Incidence.add.Goals as goal

pub loop-place-init : goal.loop-place-init
loop-place-init c = added-none c.args.number c.args.self.now

pub add_change-requires-clause-within : goal.add_change-requires-clause-within
add_change-requires-clause-within c = c.loop-place-test.true

pub add_change-requires-clause-below : goal.add_change-requires-clause-below
add_change-requires-clause-below c =
    subst (λ n. All (λ (d : NumberedChange). d.atom < n) (map counting_of c.args.changes.now)) (sym c.loop-place.invariant.width) c.requires

pub loop-place-preserved : goal.loop-place-preserved
loop-place-preserved c = c.in_ok-add_change.ensures c.args.self.now c.loop-place.invariant

pub returns : goal.returns
returns c =
    added-alike c.args.number (map counting_of c.args.changes.now) c.args.self.now c.loop-place.self (record c.loop-place.self { ends = c.push.new.self })
    (subst (λ l. IsAdded c.args.number (map counting_of l) c.args.self.now c.loop-place.self) (take_all c.loop-place.place c.args.changes.now (omega arith)) c.loop-place.invariant) refl
