use Rattle.std.proofs.Common.{◌≡◌, ◌∙◌, ◌+◌, ◌-◌, ◌*◌, ℕ, ap, drop, take, arith}
use Rattle.packed_state.specs.Pool.{row_at}
use Rattle.packed_state.proofs.pool.Pool.row.Goals as goal

pub returns : goal.returns
unfolding row_at
returns c =
    let start : ℕ = c.args.place * c.args.self.now.stride in
    let wide : start + c.args.self.now.stride - start ≡ c.args.self.now.stride = omega arith in
    ap (λ n. take n (drop start c.deref.result.now)) wide ∙ ap (λ words. take c.args.self.now.stride (drop start words)) c.deref.ensures.value
