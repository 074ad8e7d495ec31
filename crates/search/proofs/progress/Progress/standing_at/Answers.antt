use Rattle.std.proofs.Common.{◌≡◌, ◌<◌, Bool, None, Some, length, refl, sym, ap, ◌∙◌, subst}
use Rattle.std.specs.Prelude.{slice_get, if◌then◌else◌}
use Rattle.std.proofs.lemmas.Option.{slice_get-get_or}
use Rattle.packed_state.specs.Packed.{bits_of}
use Rattle.search.specs.declared.bases.Rest.{Rest}
use Rattle.search.specs.declared.listing.Place.{Place}
use Rattle.search.specs.declared.turns.Standing.TheVariants.{Dead, Based}
use Rattle.search.specs.OnDemand.{noted_at}
use Rattle.search.specs.Standing.{IsStandingAt}
use Rattle.search.proofs.progress.Progress.standing_at.Goals as goal

pub returns-in-true-clause-standing : goal.returns-in-true-clause-standing
returns-in-true-clause-standing g c =
    let all = c.args.self.now.nodes.items in
    let place = c.in-Listed.place in
    let within : place < length all = (rw c.in-Listed.is at c.requires.place).0 in
    let node = c.index.result.now in
    let at : slice_get all place ≡ Some node = slice_get-get_or all place node within ∙ ap Some (sym c.index.ensures) in
    let kept : Rest = record { basis = None; value = noted_at c.args.self.now.bases place } in
    let marked = sym c.is_marked_dead.ensures ∙ c.in-true.is in
    subst (λ (p : Place). IsStandingAt g.V.ValuesOnDemand.answers (g.V.ValuesOnDemand.system_of c.args.values.now) all c.args.self.now.bases (bits_of c.args.to.state.now) p Dead) (sym c.in-Listed.is)
    (node, kept, at, refl, ap (λ (b : Bool). if b then Dead else Based kept) (sym marked))

pub returns-in-false-clause-standing : goal.returns-in-false-clause-standing
returns-in-false-clause-standing g c =
    let all = c.args.self.now.nodes.items in
    let place = c.in-Listed.place in
    let within : place < length all = (rw c.in-Listed.is at c.requires.place).0 in
    let node = c.index.result.now in
    let at : slice_get all place ≡ Some node = slice_get-get_or all place node within ∙ ap Some (sym c.index.ensures) in
    let kept = c.rest_at.result in
    let marked = sym c.is_marked_dead.ensures ∙ c.in-false.is in
    subst (λ (p : Place). IsStandingAt g.V.ValuesOnDemand.answers (g.V.ValuesOnDemand.system_of c.args.values.now) all c.args.self.now.bases (bits_of c.args.to.state.now) p (Based kept)) (sym c.in-Listed.is)
    (node, kept, at, c.rest_at.ensures, ap (λ (b : Bool). if b then Dead else Based kept) (sym marked))
