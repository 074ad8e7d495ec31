use Rattle.std.proofs.Common.{◌≡◌, ◌∙◌, ◌<◌, List, Bool, length, ℕ, ap, sym, get_or, take, slice_set, true, arith}
use Rattle.std.proofs.lemmas.List.{take_more}
use Rattle.packed_state.specs.Sets.{set_of}
use Rattle.packed_state.specs.Packed.{bits_of}
use Rattle.packed_state.proofs.PackedLemmas.{length-set_of, set_more}
use Rattle.packed_state.proofs.packed.Packed.new.Goals as goal

pub insert-requires : goal.insert-requires
insert-requires c =
    let small : get_or c.args.numbers.now c.loop-number.number-index 0 < c.args.width = c.requires c.loop-number.number-index 0 c.loop-number-test.true in
    let wide : length (bits_of c.loop-number.set) ≡ c.args.width =
    ap length c.loop-number.invariant ∙ length-set_of c.args.width (take c.loop-number.number-index c.args.numbers.now) in
    omega arith

pub loop-number-preserved : goal.loop-number-preserved
loop-number-preserved c =
    let number : ℕ = get_or c.args.numbers.now c.loop-number.number-index 0 in
    c.insert.ensures
    ∙ ap (λ (set : List Bool). slice_set set number true) c.loop-number.invariant
    ∙ set_more c.args.width (take c.loop-number.number-index c.args.numbers.now) number (c.requires c.loop-number.number-index 0 c.loop-number-test.true)
    ∙ ap (set_of c.args.width) (sym (take_more c.args.numbers.now c.loop-number.number-index 0 c.loop-number-test.true))
