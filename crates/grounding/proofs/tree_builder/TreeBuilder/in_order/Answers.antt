use Rattle.std.proofs.Common.{◌∙◌, ℕ, ap, map, subst, sym}
use Rattle.std.specs.List.Sorted.{IsPermutation}
use Rattle.std.proofs.lemmas.List.Sorted.{IsPermutation-map}
use Rattle.grounding.proofs.tree_builder.TreeBuilder.in_order.Goals as goal

pub returns : goal.returns
returns c =
    let number : ℕ × ℕ → ℕ = λ p. p.1 in
    let before = c.in_ok-ranked.ranked.items in
    let after = c.sort_unstable.new.self.items in
    let moved : IsPermutation (map number before) (map number after) = IsPermutation-map number before after c.sort_unstable.ensures.permutation in
    subst (IsPermutation c.args.numbers.now) (sym (c.in_ok-sorted.ensures ∙ ap (map number) c.deref.ensures.value))
    (subst (λ ns. IsPermutation ns (map number after)) c.in_ok-ranked.ensures moved)
