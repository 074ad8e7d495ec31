use Rattle.std.proofs.Common.{length, ap, ◌∙◌, arith}
use Rattle.packed_state.specs.Packed.{bits_of}
use Rattle.packed_state.proofs.PackedLemmas.{length-bits}
use Rattle.packed_state.proofs.NumberLemmas.{numbers_listed, turned}
use Rattle.packed_state.proofs.PoolLemmas.{ok_fact}
use Rattle.packed_state.proofs.packed.Packed.list_numbers.Goals as goal

pub prove-unreachable-requires : goal.prove-unreachable-requires
unfolding bits_of
prove-unreachable-requires c =
    let p = c.args.self.now in
    c.if-prove.true
    (omega (arith, c.len.ensures, p.packed.enough, p.packed.no_more, c.words_for.ensures.enough, c.words_for.ensures.no_more, c.width.ensures, length-bits p.width p.words.items, p.words.ok.0))

pub push_numbers-requires : goal.push_numbers-requires
unfolding bits_of
push_numbers-requires c =
    let p = c.args.self.now in
    omega (arith, p.packed.no_more, c.width.type_inv, c.width.ensures, length-bits p.width p.words.items, ap length c.deref.ensures.value)

pub returns-clause-ok : goal.returns-clause-ok
unfolding bits_of
returns-clause-ok c =
    let p = c.args.self.now in
    let before = c.args.into.now in
    let added = numbers_listed p.width p.words.items c.deref.result.now before.items c.push_numbers.new.into.items p.packed c.deref.ensures.value
    (ok_fact _ c.push_numbers.result c.if-is_err.ensures.negation c.push_numbers.ensures.ok) in
    turned c.len-before.result _ before.items _ c.push_numbers.new.into.items c.rotate_left.new.self.items c.truncate-2.new.self.items
    (c.len-before.ensures ∙ before.ok.0)
    (omega (arith, c.len-2.ensures, c.rotate_left.new.self.ok.0))
    added c.rotate_left.ensures.items c.truncate-2.ensures.items
