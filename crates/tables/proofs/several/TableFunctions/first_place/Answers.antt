use Rattle.std.proofs.Common.{◌∙◌, false, length, refl, sym, ap, subst}
use Rattle.grounding.specs.Ground.{task_in, atoms_in}
use Rattle.model.specs.ConditionalChanges.{conditional_of_number}
use Rattle.model.specs.NumberedLiterals.{literals_of_number}
use Rattle.tables.specs.AllTables.{tables_of, count_of}
use Rattle.tables.specs.Several.{several_of}
use Rattle.tables.specs.TotalLosses.{IsShutOut, AreLossesByAll, AreTotals, StandsAfter}
use Rattle.tables.specs.Unfair.{function_in, allowance_in}
use Rattle.tables.proofs.FairnessLemmas.{leaves-rows}
use Rattle.tables.proofs.TotalLemmas.{totals-all}
use Rattle.tables.proofs.UnfairLemmas.{shut-first, leaving-first, asked-first}
use Rattle.tables.proofs.several.TableFunctions.first_place.Goals.{In-Stays}
use Rattle.tables.proofs.several.TableFunctions.first_place.Goals as goal

-- what is known of an instance that stays
staying : (c : In-Stays) → IsShutOut (task_in c.args.ground.now) (atoms_in c.args.ground.now) (tables_of c.args.self.now.tables) c.args.losses.now.number false
    × AreTotals (count_of c.args.self.now.tables) (literals_of_number (task_in c.args.ground.now) (atoms_in c.args.ground.now) c.args.losses.now.number)
    (conditional_of_number (task_in c.args.ground.now) (atoms_in c.args.ground.now) c.args.losses.now.number) (tables_of c.args.self.now.tables) (length (tables_of c.args.self.now.tables)) c.args.losses.now.total.items
staying c =
    let tables = c.args.self.now.tables in
    let l = c.args.losses.now in
    subst (StandsAfter (task_in c.args.ground.now) (atoms_in c.args.ground.now) (tables_of tables) (count_of tables) (length (tables_of tables)) l.number l.total.items) c.in-Stays.is c.requires.known.standing

pub returns-in-ShutOut : goal.returns-in-ShutOut
returns-in-ShutOut c = λ i at.
    let task = task_in c.args.ground.now in
    let atoms = atoms_in c.args.ground.now in
    let tables = c.args.self.now.tables in
    let l = c.args.losses.now in
    shut-first task atoms (several_of c.args.self.now) i (subst (StandsAfter task atoms (tables_of tables) (count_of tables) (length (tables_of tables)) l.number l.total.items) c.in-ShutOut.is c.requires.known.standing i at)

pub returns-in-LeadsOut : goal.returns-in-LeadsOut
returns-in-LeadsOut c = λ i at.
    let task = task_in c.args.ground.now in
    let atoms = atoms_in c.args.ground.now in
    let s = several_of c.args.self.now in
    let tables = c.args.self.now.tables in
    let l = c.args.losses.now in
    let stands = subst (StandsAfter task atoms (tables_of tables) (count_of tables) (length (tables_of tables)) l.number l.total.items) c.in-LeadsOut.is c.requires.known.standing in
    leaving-first task atoms s i (stands.0 i at)
    (λ k. leaves-rows task atoms (function_in s k) l.number i at (literals_of_number task atoms l.number) (conditional_of_number task atoms l.number) refl refl (allowance_in task s k i) stands.1)

pub first_place_with-requires-clause-long : goal.first_place_with-requires-clause-long
first_place_with-requires-clause-long c = ap length c.deref.ensures.value ∙ c.requires.known.total

pub first_place_with-requires-clause-lost : goal.first_place_with-requires-clause-lost
first_place_with-requires-clause-lost c =
    let task = task_in c.args.ground.now in
    let atoms = atoms_in c.args.ground.now in
    let tables = c.args.self.now.tables in
    let l = c.args.losses.now in
    let literals = literals_of_number task atoms l.number in
    let changes = conditional_of_number task atoms l.number in
    subst (AreLossesByAll (count_of tables) literals changes (tables_of tables)) (sym c.deref.ensures.value)
    (totals-all (count_of tables) literals changes (tables_of tables) (length (tables_of tables)) l.total.items refl (staying (goal.at.first_place_with-requires-clause-lost c).In-Stays).1)

pub returns-in-Stays : goal.returns-in-Stays
returns-in-Stays c = λ i at.
    asked-first (task_in c.args.ground.now) (atoms_in c.args.ground.now) (several_of c.args.self.now) i ((staying (goal.at.returns-in-Stays c).In-Stays).0 i at) c.first_place_with.result (c.first_place_with.ensures i at)
