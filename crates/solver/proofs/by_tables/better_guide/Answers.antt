use Rattle.std.proofs.Common.{◌≡◌, ◌∙◌, ◌≤◌, length, Option, Result, Ok, Err, sym, ap, subst}
use Rattle.std.specs.Prelude.{IfOk, IfSome}
use Rattle.certificate.specs.Evidence.{evidence_of}
use Rattle.faults.specs.declared.refused.NoMemory.{NoMemory}
use Rattle.grounding.specs.Ground.{task_in, atoms_in}
use Rattle.search_spaces.specs.SearchSpace.{ground_in}
use Rattle.model.specs.Grounding.{ground_system}
use Rattle.lower_bounds.specs.Settled.{initial_value}
use Rattle.potentials.specs.Potentials.{potentials_of}
use Rattle.lower_bounds.specs.TableFunctions.{SeveralValues}
use Rattle.guides.specs.FairTables.{functions_in}
use Rattle.guides.specs.declared.fair_tables.FairTables.{FairTables}
use Rattle.tables.specs.declared.several.TableFunctions.{TableFunctions}
use Rattle.tables.specs.Several.{several_of, width_of}
use Rattle.solver.specs.declared.attempt.Attempt.{Attempt}
use Rattle.solver.specs.declared.attempt.Attempt.TheVariants.{Done, Promising, InVain}
use Rattle.solver.specs.Attempts.{IfDone}
use Rattle.solver.specs.Guidance.{by_tables, estimate_by}
use Rattle.solver.proofs.TablesLemmas.{dead_ends_weighed}
use Rattle.solver.proofs.by_tables.better_guide.Given.{Over}
use Rattle.solver.proofs.by_tables.better_guide.Goals as goal
use Rattle.solver.proofs.by_tables.better_guide.Goals.{In-Some}

-- the values in memory are those of the evidence
in_memory : (g : Over) (c : In-Some g) → several_of c.in-Some.functions ≡ evidence_of c.args.over.evidence.now
in_memory g c = subst (λ (o : Option TableFunctions). IfSome o (λ (f : TableFunctions). several_of f ≡ evidence_of c.args.over.evidence.now)) c.in-Some.is c.in_ok-functions.ensures.functions

width : (g : Over) (c : In-Some g) → width_of c.in-Some.functions ≡ length (atoms_in (ground_in c.args.setting.space))
width g c = ap (λ (s : SeveralValues). length s.dead_ends.weights) (in_memory g c) ∙ dead_ends_weighed (length (atoms_in (ground_in c.args.setting.space))) (evidence_of c.args.over.evidence.now) c.requires.within_limits

pub saving_by-requires-clause-width : goal.saving_by-requires-clause-width
saving_by-requires-clause-width g c = width g (goal.at.saving_by-requires-clause-width g c).In-Some ∙ sym c.requires.store_width

pub guide_if_fair-requires-clause-width : goal.guide_if_fair-requires-clause-width
guide_if_fair-requires-clause-width g c = width g (goal.at.guide_if_fair-requires-clause-width g c).In-Some

-- what is so is so of whatever is done
whatever : {P : Type 0} (result : Result (Attempt FairTables) NoMemory) → P → IfOk result (IfDone (λ (guide : FairTables). P))
whatever (Ok (Done guide)) is = is
whatever (Ok Promising) is = tt
whatever (Ok InVain) is = tt
whatever (Err e) is = tt

pub returns-then-is_worth-clause-no_lower : goal.returns-then-is_worth-clause-no_lower
returns-then-is_worth-clause-no_lower g c =
    let known = ground_in c.args.setting.space in
    let first = potentials_of c.args.stopped.now.potentials.now in
    let start = estimate_by (by_tables (evidence_of c.args.over.evidence.now)) (ground_system (task_in known) (atoms_in known)).initial in
    whatever c.guide_if_fair.result (subst (λ (o : Option TableFunctions). IfSome o (λ (f : TableFunctions). initial_value (task_in known) (atoms_in known) first ≤ start)) c.in-Some.is c.in_ok-functions.ensures.no_lower)

pub returns-then-is_worth-clause-functions : goal.returns-then-is_worth-clause-functions
returns-then-is_worth-clause-functions g c =
    subst (λ (s : SeveralValues). IfOk c.guide_if_fair.result (IfDone (λ (guide : FairTables). functions_in guide ≡ s)))
    (in_memory g (goal.at.returns-then-is_worth-clause-functions g c).In-Some) c.guide_if_fair.ensures.functions
