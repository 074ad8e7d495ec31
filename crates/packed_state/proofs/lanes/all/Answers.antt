use Rattle.std.proofs.Common.{true≢false, sym, ◌∙◌, arith}
use Rattle.packed_state.proofs.LaneLemmas.{of_cut, cut_chunk, cut_rest, cut_lengths}
use Rattle.packed_state.proofs.lanes.all.Goals as goal

pub of_chunks-requires : goal.of_chunks-requires
of_chunks-requires g c =
    cut_lengths g.R.Relation.holds c.args.words.now c.args.others.now c.requires _ _ _ _
    (record { front = c.as_chunks.ensures.front; back = c.as_chunks.ensures.back }) (record { front = c.as_chunks-2.ensures.front; back = c.as_chunks-2.ensures.back })
    c.chunks.place (omega (arith, c.as_chunks.ensures.front_len))

pub returns-then-not-of_chunks : goal.returns-then-not-of_chunks
returns-then-not-of_chunks g c = (
  λ is. absurd (cc),
  λ all. absurd (true≢false (sym (c.of_chunks.ensures.1 (cut_chunk g.R.Relation.holds c.args.words.now c.args.others.now c.requires _ _ _ _
      (record { front = c.as_chunks.ensures.front; back = c.as_chunks.ensures.back }) (record { front = c.as_chunks-2.ensures.front; back = c.as_chunks-2.ensures.back })
      all c.chunks.place (omega (arith, c.as_chunks.ensures.front_len)))) ∙ c.if-not-of_chunks.true)),
)

pub returns : goal.returns
returns g c = (
  λ is. of_cut g.R.Relation.holds c.args.words.now c.args.others.now c.requires _ _ _ _
      (record { front = c.as_chunks.ensures.front; back = c.as_chunks.ensures.back }) (record { front = c.as_chunks-2.ensures.front; back = c.as_chunks-2.ensures.back })
      (λ place within. c.chunks.invariant place (omega (arith, c.as_chunks.ensures.front_len))) (c.all_one_by_one.ensures.0 is),
  λ all. c.all_one_by_one.ensures.1 (cut_rest g.R.Relation.holds c.args.words.now c.args.others.now c.requires _ _ _ _
      (record { front = c.as_chunks.ensures.front; back = c.as_chunks.ensures.back }) (record { front = c.as_chunks-2.ensures.front; back = c.as_chunks-2.ensures.back }) all),
)
