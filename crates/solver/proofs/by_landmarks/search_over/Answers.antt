use Rattle.std.proofs.Common.{◌≡◌, ◌∙◌, ◌≤◌, length, Option, Some, None, Result, Ok, Err, ap, subst}
use Rattle.std.specs.Prelude.{IfOk, IfSome}
use Rattle.certificate.specs.Evidence.{evidence_of}
use Rattle.faults.specs.declared.refused.NoMemory.{NoMemory}
use Rattle.grounding.specs.declared.ground.Ground.{Ground}
use Rattle.grounding.specs.Ground.{task_in, atoms_in}
use Rattle.search_spaces.specs.SearchSpace.{ground_in}
use Rattle.model.specs.Grounding.{ground_system}
use Rattle.lower_bounds.specs.FairTables.{AreFair}
use Rattle.lower_bounds.specs.Settled.{initial_value}
use Rattle.lower_bounds.specs.TableFunctions.{SeveralValues}
use Rattle.potentials.specs.Potentials.{potentials_of}
use Rattle.guides.specs.FairTables as guides
use Rattle.guides.specs.FairTables.{functions_in}
use Rattle.guides.specs.declared.fair_tables.FairTables.{FairTables}
use Rattle.tables.specs.declared.several.TableFunctions.{TableFunctions}
use Rattle.tables.specs.Several.{several_of, width_of}
use Rattle.solver.specs.declared.asking.Asked.{Asked}
use Rattle.solver.specs.Asked.{IsAsked}
use Rattle.solver.specs.Attempts.{IfDone}
use Rattle.solver.specs.Guidance.{by_tables, estimate_by}
use Rattle.solver.proofs.TablesLemmas.{dead_ends_weighed}
use Rattle.solver.proofs.by_landmarks.search_over.Given.{Over}
use Rattle.solver.proofs.by_landmarks.search_over.Goals as goal
use Rattle.solver.proofs.by_landmarks.search_over.Goals.{In-Some, In-Done}

-- the values in memory are those of the evidence
in_memory : (g : Over) (c : In-Some g) → several_of c.in-Some.functions ≡ evidence_of c.args.over.evidence.now
in_memory g c = subst (λ (o : Option TableFunctions). IfSome o (λ (f : TableFunctions). several_of f ≡ evidence_of c.args.over.evidence.now)) c.in-Some.is c.in_ok-functions.ensures.functions

pub guide_if_fair-requires-clause-width : goal.guide_if_fair-requires-clause-width
guide_if_fair-requires-clause-width g c =
    ap (λ (s : SeveralValues). length s.dead_ends.weights) (in_memory g (goal.at.guide_if_fair-requires-clause-width g c).In-Some)
    ∙ dead_ends_weighed (length (atoms_in (ground_in c.args.setting.space))) (evidence_of c.args.over.evidence.now) c.requires.within_limits

-- the guide is over these values, and for this ground task
same_functions : (g : Over) (c : In-Done g) → functions_in c.in-Done.guide ≡ evidence_of c.args.over.evidence.now
same_functions g c =
    subst (IfDone (λ (guide : FairTables). functions_in guide ≡ several_of c.in-Some.functions)) c.in-Done.is c.in_ok-guide.ensures.functions
    ∙ subst (λ (o : Option TableFunctions). IfSome o (λ (f : TableFunctions). several_of f ≡ evidence_of c.args.over.evidence.now)) c.in-Some.is c.in_ok-functions.ensures.functions

same_ground : (g : Over) (c : In-Done g) → guides.ground_in c.in-Done.guide ≡ ground_in c.args.setting.space
same_ground g c = subst (IfDone (λ (guide : FairTables). guides.ground_in guide ≡ ground_in c.args.setting.space)) c.in-Done.is c.in_ok-guide.ensures.ground

pub search_asking-requires-clause-ground : goal.search_asking-requires-clause-ground
search_asking-requires-clause-ground g c = same_ground g (goal.at.search_asking-requires-clause-ground g c).In-Done

-- what is so is so of whatever it came to
whatever : {P : Type 0} (result : Result (Option Asked) NoMemory) → P → IfOk result (λ o. IfSome o (λ (asked : Asked). P))
whatever (Ok (Some asked)) is = is
whatever (Ok None) is = tt
whatever (Err e) is = tt

pub returns-in-Done-clause-fair : goal.returns-in-Done-clause-fair
returns-in-Done-clause-fair g c =
    let at = (goal.at.returns-in-Done-clause-fair g c).In-Done in
    let known = ground_in c.args.setting.space in
    whatever c.search_asking.result
    (subst (AreFair (task_in known) (atoms_in known)) (same_functions g at)
    (subst (λ (k : Ground). AreFair (task_in k) (atoms_in k) (functions_in c.in-Done.guide)) (same_ground g at) c.in-Done.guide.fair))

pub returns-in-Done-clause-no_lower : goal.returns-in-Done-clause-no_lower
returns-in-Done-clause-no_lower g c =
    let known = ground_in c.args.setting.space in
    let first = potentials_of c.args.trial.potentials.now in
    let start = estimate_by (by_tables (evidence_of c.args.over.evidence.now)) (ground_system (task_in known) (atoms_in known)).initial in
    whatever c.search_asking.result (subst (λ (o : Option TableFunctions). IfSome o (λ (f : TableFunctions). initial_value (task_in known) (atoms_in known) first ≤ start)) c.in-Some.is c.in_ok-functions.ensures.no_lower)

pub returns-in-Done-clause-asked : goal.returns-in-Done-clause-asked
returns-in-Done-clause-asked g c =
    subst (λ (s : SeveralValues). IfOk c.search_asking.result (λ o. IfSome o (IsAsked c.args.setting.space s c.args.setting.limits)))
    (same_functions g (goal.at.returns-in-Done-clause-asked g c).In-Done) c.search_asking.ensures.asked
