use Rattle.std.proofs.Common.{rules, tests, ◌∙◌, ℕ, map, sym, ap}
use Rattle.std.specs.List.{list_any}
use Rattle.std.proofs.lemmas.Iterator.{YieldsList-from_slice}
use Rattle.std.proofs.lemmas.Iterator.Search.{any_from_yields_List}
use Rattle.grounding.specs.Changes.{counting_of}
use Rattle.lower_bounds.specs.FairPotentials.{touches}
use Rattle.table_rows.proofs.PlacingLemmas.{changes-in}
use Rattle.table_rows.proofs.losses.touches_scope.Goals as goal

pub returns : goal.returns
returns c = λ rows.
    any_from_yields_List (λ (n : ℕ). touches (map counting_of c.args.changes.now) n) _ _ _ c.any.ensures.ran (YieldsList-from_slice c.args.scope.now cc) (λ x b q k. search (rules, tests))
    ∙ ap (λ l. list_any (touches l) c.args.scope.now) (sym (changes-in c.args.changes.now))
