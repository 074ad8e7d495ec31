use Rattle.std.proofs.Common.{◌≡◌, ◌∙◌, rules, if◌then◌else◌, false, map, take, get_or, sym, ap, subst, arith, pos, to_z, of_z}
use Rattle.std.proofs.lemmas.Int.{ints, to_z-of_z}
use Rattle.std.proofs.lemmas.Option.{get_or_from_slice_get}
use Rattle.std.specs.Int.{w64}
use Rattle.grounding.specs.Views.{numbered_of}
use Rattle.grounding.specs.declared.changes.CountingChange.{CountingChange}
use Rattle.grounding.specs.Changes.{counting_of}
use Rattle.lower_bounds.specs.PotentialFunctions.{weight}
use Rattle.lower_bounds.specs.FairPotentials.{touches, worst}
use Rattle.potentials.proofs.LossLemmas.{worst-of}
use Rattle.potentials.proofs.losses.loses_by.Goals as goal

pub returns-clause-value : goal.returns-clause-value
returns-clause-value c = λ k at.
    let literals = map numbered_of c.args.literals.now in
    let changes = map counting_of c.args.changes.now in
    let done = map counting_of (take c.args.place c.args.changes.now) in
    let weights = c.args.weights.now in
    let it = get_or c.args.changes.now c.args.place c.index-changes-place.result in
    let same : it ≡ k = get_or_from_slice_get c.args.changes.now c.args.place k c.index-changes-place.result at in
    let new : touches done it.atom ≡ false = sym c.touches.ensures ∙ c.if-touches.false in
    let is = worst-of literals changes weights it.atom c.new.result c.weight_of.result _ c.worst.result c.new.ensures c.weight_of.ensures.value (omega (arith, ints)) c.worst.ensures.value in
    let here = to_z-of_z w64 c.worst.result (search rules) ∙ is ∙ sym (ap (λ b. if b then pos 0 else worst literals changes (weight weights it.atom) it.atom) new) in
    subst (λ (e : CountingChange). to_z w64 (of_z w64 c.worst.result) ≡ (if touches done e.atom then pos 0 else worst literals changes (weight weights e.atom) e.atom)) same here
