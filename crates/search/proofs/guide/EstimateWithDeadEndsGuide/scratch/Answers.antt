use Rattle.std.proofs.Common.{[], length, ap, ◌∙◌, rules, w64}
use Rattle.std.proofs.lemmas.Int.{to_z-of_z}
use Rattle.packed_state.proofs.PackedLemmas.{length-set_of}
use Rattle.search.proofs.guide.EstimateWithDeadEndsGuide.scratch.Goals as goal

pub score-score-requires : goal.score-score-requires
score-score-requires g c = ap length c.in_ok-state.ensures ∙ length-set_of c.width.result [] ∙ c.width.ensures

pub returns : goal.returns
returns g c = (
  ap length c.in_ok-state.ensures ∙ length-set_of c.width.result [] ∙ c.width.ensures,
  to_z-of_z w64 c.score-score.result (search rules) ∙ c.score-score.ensures,
)
