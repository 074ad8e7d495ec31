use Rattle.std.proofs.Common.{[], subst}
use Rattle.grounding.specs.MatchNodes.{AgreesWith, IsTreeOf}
use Rattle.grounding.proofs.MatchLemmas.{matched}
use Rattle.grounding.proofs.match_tree.MatchTree.of_lists.Goals as goal

pub returns : goal.returns
returns c =
    let b = c.args.builder.now in
    matched b.width b.conditions.now c.args.lists.now (record { rows = c.in_ok-rows.rows; unwatched = c.in_ok-unwatched.unwatched }) c.requires c.in_ok-rows.ensures
    (subst (λ ns. IsTreeOf b.width b.conditions.now (AgreesWith []) ns c.in_ok-unwatched.unwatched.items) c.deref.ensures.value c.in_ok-unwatched.ensures)
