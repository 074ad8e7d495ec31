use Rattle.std.proofs.Common.{◌≡◌, ◌≤◌, subst}
use Rattle.certificate.specs.Evidence.{evidence_of}
use Rattle.grounding.specs.declared.ground.Ground.{Ground}
use Rattle.grounding.specs.Ground.{task_in, atoms_in}
use Rattle.search_spaces.specs.SearchSpace.{ground_in}
use Rattle.lower_bounds.specs.FairTables.{AreFair}
use Rattle.lower_bounds.specs.Settled.{initial_value}
use Rattle.lower_bounds.specs.TableFunctions.{SeveralValues}
use Rattle.model.specs.Grounding.{ground_system}
use Rattle.potentials.specs.Potentials.{potentials_of}
use Rattle.guides.specs.FairTables as guides
use Rattle.guides.specs.FairTables.{functions_in}
use Rattle.guides.specs.declared.fair_tables.FairTables.{FairTables}
use Rattle.solver.specs.Attempts.{IfDone}
use Rattle.solver.specs.Asked.{IsTablesEnding}
use Rattle.solver.specs.Guidance.{by_tables, estimate_by}
use Rattle.solver.proofs.by_tables.search_by_tables.Given.{Over}
use Rattle.solver.proofs.by_tables.search_by_tables.Goals as goal
use Rattle.solver.proofs.by_tables.search_by_tables.Goals.{In-Done}

-- the guide is over these values, and for this ground task
same_functions : (g : Over) (c : In-Done g) → functions_in c.in-Done.guide ≡ evidence_of c.args.over.evidence.now
same_functions g c = subst (IfDone (λ (guide : FairTables). functions_in guide ≡ evidence_of c.args.over.evidence.now)) c.in-Done.is c.in_ok-attempt.ensures.functions

same_ground : (g : Over) (c : In-Done g) → guides.ground_in c.in-Done.guide ≡ ground_in c.args.setting.space
same_ground g c = subst (IfDone (λ (guide : FairTables). guides.ground_in guide ≡ ground_in c.args.setting.space)) c.in-Done.is c.in_ok-attempt.ensures.ground

pub returns-in_ok-ending-in-Done-clause-fair : goal.returns-in_ok-ending-in-Done-clause-fair
returns-in_ok-ending-in-Done-clause-fair g c =
    let at = (goal.at.returns-in_ok-ending-in-Done-clause-fair g c).In-Done in
    let known = ground_in c.args.setting.space in
    subst (AreFair (task_in known) (atoms_in known)) (same_functions g at)
    (subst (λ (k : Ground). AreFair (task_in k) (atoms_in k) (functions_in c.in-Done.guide)) (same_ground g at) c.in-Done.guide.fair)

pub returns-in_ok-ending-in-Done-clause-no_lower : goal.returns-in_ok-ending-in-Done-clause-no_lower
returns-in_ok-ending-in-Done-clause-no_lower g c =
    let known = ground_in c.args.setting.space in
    let first = potentials_of c.args.stopped.now.potentials.now in
    let start = estimate_by (by_tables (evidence_of c.args.over.evidence.now)) (ground_system (task_in known) (atoms_in known)).initial in
    subst (IfDone (λ (guide : FairTables). initial_value (task_in known) (atoms_in known) first ≤ start)) c.in-Done.is c.in_ok-attempt.ensures.no_lower

pub search_or_ask-requires-clause-ground : goal.search_or_ask-requires-clause-ground
search_or_ask-requires-clause-ground g c = same_ground g (goal.at.search_or_ask-requires-clause-ground g c).In-Done

pub returns-in_ok-ending-in-Done-clause-ending : goal.returns-in_ok-ending-in-Done-clause-ending
returns-in_ok-ending-in-Done-clause-ending g c =
    subst (λ (s : SeveralValues). IsTablesEnding c.args.setting.space s c.args.setting.limits c.in_ok-ending-in-Done.ending)
    (same_functions g (goal.at.returns-in_ok-ending-in-Done-clause-ending g c).In-Done) c.in_ok-ending-in-Done.ensures.ending
