-- Costs, action by action and instance by instance.
use Rattle.std.proofs.Common.{◌≡◌, ℕ, ◌+◌, Bool, true, false, ◌||◌, List, drop, Some, sym, ap, ◌∙◌}
use Rattle.std.specs.Prelude.{slice_get}
use Rattle.std.specs.List.{list_any}
use Rattle.model.proofs.ListLemmas.{drop-here}

-- ---- one thing after another

module _ {X : Type 0} (p : X → Bool) (xs : List X) (i : ℕ) (x : X) (at : slice_get xs i ≡ Some x) (left : list_any p xs ≡ list_any p (drop i xs)) where
  pub any_here : true ≡ p x → true ≡ list_any p xs
  any_here so = sym (left ∙ ap (list_any p) (drop-here xs i x at) ∙ ap (λ b. b || list_any p (drop (i + 1) xs)) (sym so))

  pub any_later : false ≡ p x → list_any p xs ≡ list_any p (drop (i + 1) xs)
  any_later not_so = left ∙ ap (list_any p) (drop-here xs i x at) ∙ ap (λ b. b || list_any p (drop (i + 1) xs)) (sym not_so)
