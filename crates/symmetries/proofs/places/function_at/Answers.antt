use Rattle.symmetries.proofs.PlaceLemmas.{function_found}
use Rattle.symmetries.proofs.places.function_at.Goals as goal

pub returns : goal.returns
returns c = function_found c.args.values.now.entries c.args.place (c.in_ok-function.function.now, c.in_ok-function.field-0-1.now) c.in_ok-function.ensures.entry
