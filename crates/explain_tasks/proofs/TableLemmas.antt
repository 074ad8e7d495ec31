-- The unmarked numbers of a table.
use Rattle.std.proofs.Common.{◌≡◌, ℕ, ◌+◌, Bool, not, List, [], ◌∷◌, ◌++◌, sym, ◌∙◌, ap}
use Rattle.std.specs.Prelude.{filter}
use Rattle.task.proofs.Lists.{filter_range_more}
use Rattle.explain_tasks.specs.Unused.{without}

-- the next number
pub without_more : (p : ℕ → Bool) (n : ℕ) (found next : List ℕ) → next ≡ found ++ filter (λ k. not (p k)) (n ∷ []) → found ≡ without p n → next ≡ without p (n + 1)
without_more p n found next more so =
    more ∙ ap (λ l. l ++ filter (λ k. not (p k)) (n ∷ [])) so ∙ sym (filter_range_more (λ k. not (p k)) n)
