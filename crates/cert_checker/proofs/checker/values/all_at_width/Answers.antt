use Rattle.std.proofs.Common.{◌∙◌, ◌++◌, ◌∷◌, [], ◌≤◌, length, map, take, Some, sym, ap, subst}
use Rattle.std.proofs.lemmas.List.{map_push}
use Rattle.std.proofs.lemmas.Option.{slice_get-get_or}
use Rattle.certificate.specs.declared.evidence.WrittenPotentials.{WrittenPotentials}
use Rattle.certificate.specs.Evidence.{potential_of}
use Rattle.potentials.specs.Potentials.{potentials_of}
use Rattle.potentials.proofs.ListLemmas.{map-take-more}
use Rattle.lower_bounds.specs.PotentialFunctions.{AreInRange}
use Rattle.tables.proofs.TablesLemmas.{each-at}
use Rattle.cert_checker.specs.Weights.{AreWidened}
use Rattle.cert_checker.proofs.MadeLemmas.{widened_more}
use Rattle.cert_checker.proofs.checker.values.all_at_width.Goals as goal

pub at_width-requires-clause-range : goal.at_width-requires-clause-range
at_width-requires-clause-range c =
    let items = c.args.said.now in
    let read = slice_get-get_or items c.loop-potential.potential-index c.potential-item.result c.loop-potential-test.true ∙ ap (λ t. Some t) (sym c.potential-item.is) in
    each-at (λ (p : WrittenPotentials). AreInRange (potential_of p)) items c.loop-potential.potential-index c.potential-item.result read c.requires.range

pub at_width-requires-clause-enough : goal.at_width-requires-clause-enough
at_width-requires-clause-enough c =
    let items = c.args.said.now in
    let read = slice_get-get_or items c.loop-potential.potential-index c.potential-item.result c.loop-potential-test.true ∙ ap (λ t. Some t) (sym c.potential-item.is) in
    each-at (λ (p : WrittenPotentials). length (potential_of p).weights ≤ c.args.width) items c.loop-potential.potential-index c.potential-item.result read c.requires.enough

pub loop-potential-preserved : goal.loop-potential-preserved
loop-potential-preserved c =
    let items = c.args.said.now in
    let k = c.loop-potential.potential-index in
    let old = c.loop-potential.made.items in
    let made = c.in_ok-at_width.field-0 in
    subst (λ those. AreWidened those c.args.width (map potentials_of c.push.new.self.items)) (sym (map-take-more potential_of items k c.potential-item.result c.loop-potential-test.true c.potential-item.is))
    (subst (AreWidened (map potential_of (take k items) ++ potential_of c.potential-item.result ∷ []) c.args.width) (sym (ap (map potentials_of) c.in_ok-push.ensures.items ∙ map_push potentials_of old made))
    (widened_more (map potential_of (take k items)) c.args.width (map potentials_of old) (potential_of c.potential-item.result) (potentials_of made) c.loop-potential.invariant c.in_ok-at_width.ensures))
