-- Lines that are added in turn.
use Rattle.std.proofs.Common.{◌≡◌, ◌∙◌, ℕ, List, [], ◌∷◌, ◌++◌, append_assoc, append-nil, ap, map, sym}
use Rattle.explain_goals.specs.AddedLines.{AddsLines}

pub adds_none : (old : List (List ℕ)) → AddsLines old old
adds_none old = ([], sym (append-nil old))

pub adds_both : (old now new : List (List ℕ)) → AddsLines old now → AddsLines now new → AddsLines old new
adds_both old now new (first, is) (second, then) = (first ++ second, then ∙ ap (λ (l : List (List ℕ)). l ++ second) is ∙ append_assoc old first second)
