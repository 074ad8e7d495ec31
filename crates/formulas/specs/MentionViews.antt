-- The code's mentions, in the definitions' terms.
use Rattle.std.specs.Prelude.{◌≡◌, List, map, ◌++◌}
use Rattle.formulas.specs.declared.mentions.Mention as code
use Rattle.formulas.specs.declared.mentions.Mention.TheVariants.{Asked, Named}
use Rattle.formulas.specs.Mentions.{Mention, asked, named}

abbrev pub mention_of : code.Mention → Mention
mention_of (Asked p) = asked p.0
mention_of (Named o) = named o.0

-- these are added to those that were there
abbrev pub Come : List Mention → (old new : List code.Mention) → Type 0
Come more old new = map mention_of new ≡ map mention_of old ++ more
