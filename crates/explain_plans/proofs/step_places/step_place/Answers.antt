use Rattle.explain_plans.proofs.StepPlaceLemmas.{place_is_found}
use Rattle.explain_plans.proofs.step_places.step_place.Goals as goal

pub returns : goal.returns
returns c = place_is_found c.args.text.now c.args.step c.closed_at.result c.closed_at.ensures
