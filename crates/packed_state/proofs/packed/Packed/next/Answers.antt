use Rattle.std.proofs.Common.{◌≡◌, ◌∙◌, ◌<◌, ◌≤◌, ◌*◌, ℕ, List, true, false, length, ap, sym, subst, arith}
use Rattle.packed_state.specs.Packed.{bits_of}
use Rattle.packed_state.specs.Sets.{IsNext}
use Rattle.packed_state.specs.Words.{word_has}
use Rattle.packed_state.proofs.PackedLemmas.{length-bits}
use Rattle.packed_state.proofs.NextLemmas.{next-within, next-past}
use Rattle.packed_state.proofs.packed.Packed.next.Goals.{After-next-number}
use Rattle.packed_state.proofs.packed.Packed.next.Goals as goal

pub next-number-requires-clause-few : goal.next-number-requires-clause-few
unfolding bits_of
next-number-requires-clause-few c =
    let p = c.args.self.now in
    omega (arith, p.packed.no_more, ap (λ (words : List ℕ). length words) c.deref.ensures.value, c.width-width.ensures, c.width-width.type_inv, length-bits p.width p.words.items)

none : (c : After-next-number) → (k : ℕ) → c.args.from ≤ k → k < c.next-number.result → word_has c.args.self.now.words.items k ≡ false
none c k above below = ap (λ (words : List ℕ). word_has words k) (sym c.deref.ensures.value) ∙ c.next-number.ensures.none_between k above below

is_in : (c : After-next-number) → c.next-number.result < 64 * length c.args.self.now.words.items → word_has c.args.self.now.words.items c.next-number.result ≡ true
is_in c below =
    ap (λ (words : List ℕ). word_has words c.next-number.result) (sym c.deref.ensures.value) ∙ c.next-number.ensures.is_in (omega (arith, below, ap (λ (words : List ℕ). length words) c.deref.ensures.value))

pub returns-then-number-width : goal.returns-then-number-width
unfolding bits_of
returns-then-number-width c =
    let p = c.args.self.now in
    let at = goal.at.returns-then-number-width c in
    next-within p.width p.words.items p.packed c.args.from c.next-number.result c.next-number.ensures.from (none at.After-next-number) (is_in at.After-next-number)
    (omega (arith, c.if-number-width.true, c.width-width.ensures, length-bits p.width p.words.items))

pub returns-else-number-width : goal.returns-else-number-width
unfolding bits_of
returns-else-number-width c =
    let p = c.args.self.now in
    let at = goal.at.returns-else-number-width c in
    let width : p.width ≡ c.width-width.result = omega (arith, c.width-width.ensures, length-bits p.width p.words.items) in
    subst (λ n. IsNext (bits_of p) c.args.from n) width
    (next-past p.width p.words.items p.packed c.args.from c.next-number.result c.next-number.ensures.from (none at.After-next-number) (is_in at.After-next-number)
    (omega (arith, c.if-number-width.false, width)) (omega (arith, c.requires, length-bits p.width p.words.items)))
