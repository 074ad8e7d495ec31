-- Costs: how the grammar reads the words of the total cost and of functions.
use Rattle.std.specs.Prelude.{ℕ, Bool, true, false, Option, Some, None}
use Rattle.model.specs.Trees.{Name, Increase, Fact}
use Rattle.model.specs.GrammarWords.{Token, dash, reserved}
use Rattle.model.specs.GrammarWords as words
use Rattle.model.specs.Grammar.{Phrase, gives, ◌>>=◌, ◌>>◌, listed, total_cost, amount, increase_amount, valued, initial_fact, close, minimize_word}

-- the word `increase`
abbrev pub increase_in : Token → Option Name
increase_in (reserved words.increase n) = Some n
increase_in _ = None

-- whether the first word is `-`
abbrev pub dash_first : Option Token → Bool
dash_first (Some dash) = true
dash_first _ = false

-- after `:metric`
abbrev pub the_metric : Phrase Name
the_metric = minimize_word >> (listed total_cost >>= λ n. close >> gives n)

-- after a word `increase`
abbrev pub the_increase : Name → Phrase Increase
the_increase word = listed total_cost >>= λ _. increase_amount >>= λ v. close >> gives (record { word = word; amount = v })

-- a number, and a `)`
abbrev pub the_last_number : Phrase (ℕ × Name)
the_last_number = amount >>= λ v. close >> gives v

-- after a `=` in `:init`
abbrev pub the_initial_fact : Name → Phrase Fact
the_initial_fact word = listed valued >>= λ f. amount >>= λ v. close >> gives (initial_fact word f v)
