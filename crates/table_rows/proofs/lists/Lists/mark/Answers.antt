use Rattle.std.proofs.Common.{◌≡◌, ◌∙◌, ◌<◌, true, length, get_or, sym, ap, subst, arith}
use Rattle.std.proofs.lemmas.List.{take_all}
use Rattle.packed_state.specs.Packed.{bits_of}
use Rattle.packed_state.specs.Sets.{has}
use Rattle.lower_bounds.specs.TableFunctions.{is_among}
use Rattle.table_rows.proofs.ListsLemmas.{number-within, inserted-kept, inserted-more, length-inserted}
use Rattle.table_rows.proofs.lists.Lists.mark.Goals as goal

pub insert-requires : goal.insert-requires
insert-requires c =
    let numbers = c.of-number-items.result.now in
    let i = c.loop-number.number-index in
    let within = c.requires (get_or numbers i 0) (subst (λ l. is_among l (get_or numbers i 0) ≡ true) c.of-number-items.ensures (number-within numbers i c.loop-number-test.true)) in
    omega (arith, within, c.loop-number.invariant.width)

pub loop-number-preserved : goal.loop-number-preserved
loop-number-preserved c =
    let numbers = c.of-number-items.result.now in
    let i = c.loop-number.number-index in
    let number = get_or numbers i 0 in
    let old = bits_of c.loop-number.set in
    let within : number < length old =
    let it = c.requires number (subst (λ l. is_among l number ≡ true) c.of-number-items.ensures (number-within numbers i c.loop-number-test.true)) in omega (arith, it, c.loop-number.invariant.width) in
    record {
      width = ap length c.insert.ensures ∙ length-inserted old number ∙ c.loop-number.invariant.width;
      kept = λ k at. subst (λ s. has s k ≡ true) (sym c.insert.ensures) (inserted-kept old number k within (c.loop-number.invariant.kept k at));
      marked = λ k among. subst (λ s. has s k ≡ true) (sym c.insert.ensures) (inserted-more numbers i k old c.loop-number-test.true within c.loop-number.invariant.marked among);
    }

pub returns-clause-marked : goal.returns-clause-marked
returns-clause-marked c = λ k among.
    c.loop-number.invariant.marked k (subst (λ l. is_among l k ≡ true) (sym (take_all c.loop-number.number-index c.of-number-items.result.now c.loop-number-test.false ∙ c.of-number-items.ensures)) among)
