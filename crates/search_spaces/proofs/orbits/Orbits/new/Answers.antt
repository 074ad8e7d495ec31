use Rattle.std.proofs.Common.{◌≡◌, ◌∙◌, [], length, ap}
use Rattle.packed_state.proofs.PackedLemmas.{length-set_of}
use Rattle.symmetries.specs.Representatives.{atoms_of}
use Rattle.search_spaces.proofs.OrbitLemmas.{linked_none}
use Rattle.search_spaces.proofs.orbits.Orbits.new.Goals as goal

pub returns-clause-linked : goal.returns-clause-linked
returns-clause-linked c =
    let wide : c.width-width.result ≡ length (atoms_of c.args.representatives.now) = c.width-width.ensures ∙ ap length c.ground.ensures.atoms in
    linked_none _ (ap length c.in_ok-empty.ensures ∙ length-set_of c.width-width.result [] ∙ wide) (c.new.ensures.width ∙ wide) (c.in_ok-new.ensures.width ∙ wide) (c.in_ok-new-2.ensures.width ∙ wide)
    c.new.ensures.states c.in_ok-new.ensures.states c.new-3.ensures.items c.in_ok-new-2.ensures.states c.new-5.ensures.items
    (c.in_ok-new-3.ensures.width ∙ wide) c.in_ok-new-3.ensures.none
