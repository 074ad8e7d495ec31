-- The first line of a report, and what follows it.
use Rattle.std.specs.Prelude.{◌≡◌, List, ℕ, ◌++◌}
use Rattle.explain_faults.specs.Explained.{BeginsWith}

-- a text begins with its first part
pub begins : (text beginning rest : List ℕ) (form : List ℕ → Type 0) → text ≡ beginning ++ rest → form beginning → BeginsWith text form
begins text beginning rest form is has_form = (beginning, rest, is, has_form)
