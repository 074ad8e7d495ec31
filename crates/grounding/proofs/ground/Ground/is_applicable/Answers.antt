use Rattle.std.proofs.Common.{◌∙◌, ap, sym}
use Rattle.packed_state.specs.Packed.{bits_of}
use Rattle.grounding.specs.Conditions.{decided_by}
use Rattle.grounding.proofs.GroundLemmas.{got}
use Rattle.grounding.proofs.MatchLemmas.{decided}
use Rattle.grounding.proofs.ground.Ground.is_applicable.Goals as goal

pub returns-in-Some : goal.returns-in-Some
returns-in-Some c =
    let g = c.args.self.now in
    let condition = c.index.result.now in
    sym (decided g (bits_of c.args.state.now) c.requires.width c.args.number c.requires.agreed.0 condition (got g.conditions.items c.args.number condition c.requires.agreed.0 c.index.ensures) c.in-Some.decided
    (ap (decided_by condition.beyond) c.requires.agreed.1 ∙ sym c.decides_beyond.ensures ∙ c.in-Some.is))
