use Rattle.std.proofs.Common.{◌≡◌, true, false, get_or, subst}
use Rattle.grounding.specs.MatchNodes.{IsTreeOf}
use Rattle.grounding.specs.WatchLists.{row_of}
use Rattle.grounding.proofs.MatchLemmas.{rows-more}
use Rattle.grounding.proofs.match_tree.rows.Goals as goal

pub loop-atom-preserved : goal.loop-atom-preserved
loop-atom-preserved c =
    let b = c.args.builder.now in
    let atom = c.loop-atom.atom in
    rows-more b.width b.conditions.now (row_of c.args.lists.now) atom c.loop-atom.rows.items c.push.new.self.items c.in_ok-row.row c.in_ok-push.ensures.items c.loop-atom.invariant
    (subst (λ ns. IsTreeOf b.width b.conditions.now (λ bits. get_or bits atom false ≡ true) ns c.in_ok-row.row.items) c.of.ensures c.in_ok-row.ensures)
