use Rattle.std.proofs.Common.{◌≡◌, ◌∙◌, length, refl, pos, arith, ap, to_z, of_z, w64}
use Rattle.std.specs.Prelude.{slice_set}
use Rattle.std.proofs.lemmas.Int.{ints}
use Rattle.std.proofs.lemmas.Option.{slice_get_read, get_or_from_slice_get}
use Rattle.tables.proofs.known_state.KnownState.score_after.Goals as goal

pub score_after-requires-clause-score : goal.score_after-requires-clause-score
score_after-requires-clause-score c =
    let scores = c.args.self.now.scores.items in
    let read = get_or_from_slice_get scores c.args.place c.index-score.result.now (pos 0) (slice_get_read scores (length scores) c.args.place c.index-score.result.now refl c.requires.there c.index-score.ensures) in
    let is = c.requires.score in
    omega (arith, ints)

pub returns-clause-scores : goal.returns-clause-scores
returns-clause-scores c =
    let is = c.score_after.ensures in
    let whole : to_z w64 (of_z w64 c.score_after.result) ≡ c.score_after.result = omega (arith, ints) in
    ap (slice_set c.args.self.now.scores.items c.args.place) (whole ∙ is)
