use Rattle.std.proofs.Common.{◌∙◌, sym, ap}
use Rattle.landmark_zones.specs.declared.zones.ZoneEnd.{ZoneEnd}
use Rattle.landmark_zones.proofs.ZoneLemmas.{zone-start-before}
use Rattle.landmark_zones.proofs.zones.Zones.start.Goals as goal

pub returns-else-number-eq0 : goal.returns-else-number-eq0
returns-else-number-eq0 c =
    ap (λ (e : ZoneEnd). e.negated) c.index.ensures ∙ sym (zone-start-before c.args.self.now.ends.items c.args.number c.index.result.now c.if-number-eq0.false c.requires)
