use Rattle.std.proofs.Common.{◌≡◌, ◌∙◌, Bool, true, List, ap, sym, refl, map, take}
use Rattle.std.specs.List.{list_all}
use Rattle.std.proofs.lemmas.List.{take_all}
use Rattle.packed_state.specs.Packed.{bits_of}
use Rattle.grounding.specs.Changes.{conditional_of}
use Rattle.model.proofs.Tests.{passes_map}
use Rattle.explain_goals.specs.Settled.{AreMade, is_made}
use Rattle.explain_goals.proofs.GrownLemmas.{unchanged, next-of, grown-alike}
use Rattle.explain_goals.proofs.reached.add_changes.Goals as goal

pub loop-change-init : goal.loop-change-init
loop-change-init c = unchanged (λ some. list_all (λ one. is_made some (conditional_of one)) (take 0 c.args.changes.now) ≡ true) (bits_of c.args.set.now) refl

pub loop-change-preserved : goal.loop-change-preserved
loop-change-preserved c =
    next-of (λ some one. is_made some (conditional_of one)) c.args.changes.now c.loop-change.change-index c.change-item.result
    (bits_of c.args.set.now) (bits_of c.loop-change.set) (bits_of c.add_change-one.new.set) c.loop-change.grew c.add_change-one.result
    c.loop-change-test.true c.change-item.is c.loop-change.invariant c.add_change-one.ensures

pub returns : goal.returns
returns c =
    let changes = c.args.changes.now in
    let k = c.loop-change.change-index in
    let is : (some : List Bool) → list_all (is_made some) (map conditional_of changes) ≡ list_all (λ one. is_made some (conditional_of one)) (take k changes) =
    λ some. passes_map (is_made some) conditional_of changes ∙ ap (list_all (λ one. is_made some (conditional_of one))) (sym (take_all k changes c.loop-change-test.false)) in
    grown-alike (λ some. list_all (λ one. is_made some (conditional_of one)) (take k changes) ≡ true) (AreMade (map conditional_of changes))
    (bits_of c.args.set.now) (bits_of c.loop-change.set) c.loop-change.grew c.loop-change.invariant
    (λ so. is (bits_of c.args.set.now) ∙ so) (λ other wide within so. sym (is other) ∙ so)
