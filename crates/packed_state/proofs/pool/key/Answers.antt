use Rattle.std.proofs.Common.{◌≡◌, ◌∙◌, ◌/◌, ◌%◌, ◌^◌, ap, fold, arith}
use Rattle.std.proofs.lemmas.List.{take_all}
use Rattle.packed_state.specs.Pool.{mixed, key_of}
use Rattle.packed_state.proofs.pool.key.Goals as goal

pub returns : goal.returns
unfolding key_of
returns c =
    let is : c.mix.result ≡ mixed (fold mixed 0 c.args.words.now) 0 =
    c.mix.ensures ∙ ap (λ hash. mixed hash 0) (c.loop-word.invariant ∙ ap (fold mixed 0) (take_all c.loop-word.word-index c.args.words.now (omega arith))) in
    omega (arith, ap (λ hash. hash / 2 ^ 32 % 2 ^ 32) is)
