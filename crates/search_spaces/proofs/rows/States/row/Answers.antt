use Rattle.std.proofs.Common.{◌≡◌, ◌∙◌, ◌+◌, ◌-◌, ℕ, ap, drop, take, arith}
use Rattle.packed_state.specs.Pool.{row_at}
use Rattle.search_spaces.proofs.rows.States.row.Goals as goal

pub returns : goal.returns
unfolding row_at
returns c =
    let s = c.args.self.now in
    let start : ℕ = c.start-start.result in
    let wide : start + s.stride - start ≡ s.stride = omega arith in
    ap (λ n. take n (drop start c.deref.result.now)) wide ∙ ap (λ words. take s.stride (drop start words)) c.deref.ensures.value
    ∙ ap (λ n. take s.stride (drop n s.words.items)) c.start-start.ensures
