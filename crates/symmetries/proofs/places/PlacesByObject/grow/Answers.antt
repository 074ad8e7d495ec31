use Rattle.std.proofs.Common.{◌∙◌, [], ap}
use Rattle.std.specs.Prelude.{ℕ, slice_get}
use Rattle.std.specs.Global.{Vec}
use Rattle.std.specs.Option.{option_map_or}
use Rattle.symmetries.proofs.PlaceLemmas.{row_longer}
use Rattle.symmetries.proofs.places.PlacesByObject.grow.Goals as goal

pub rows-preserved : goal.rows-preserved
rows-preserved c = λ o.
    ap (λ l. option_map_or (λ (row : Vec ℕ). row.items) (slice_get l o) []) c.in_ok-push.ensures.items
    ∙ row_longer c.rows.self.rows.items c.new.result c.new.ensures.items o ∙ c.rows.invariant o
