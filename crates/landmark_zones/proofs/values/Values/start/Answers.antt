use Rattle.std.proofs.Common.{◌∙◌, sym}
use Rattle.landmark_zones.proofs.RowLemmas.{start-before}
use Rattle.landmark_zones.proofs.values.Values.start.Goals as goal

pub returns-else-number-eq0 : goal.returns-else-number-eq0
returns-else-number-eq0 c =
    c.index.ensures ∙ sym (start-before c.args.self.now.ends.items c.args.number c.index.result.now c.if-number-eq0.false c.requires)
