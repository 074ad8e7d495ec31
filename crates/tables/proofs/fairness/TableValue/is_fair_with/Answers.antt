use Rattle.std.proofs.Common.{◌∙◌, List, length, map, sym, ap, subst, arith}
use Rattle.std.specs.Prelude.{All}
use Rattle.std.proofs.lemmas.Int.{ints}
use Rattle.std.proofs.lemmas.List.{length-map}
use Rattle.grounding.specs.Ground.{task_in, atoms_in}
use Rattle.grounding.specs.Views.{numbered_of}
use Rattle.grounding.specs.Changes.{counting_of, conditional_of}
use Rattle.lower_bounds.specs.PotentialFunctions.{IsInRange}
use Rattle.lower_bounds.specs.FairPotentials.{loses_at_most}
use Rattle.model.specs.NumberedLiterals.{NumberedLiteral}
use Rattle.model.specs.ConditionalChanges.{ConditionalChange}
use Rattle.potentials.specs.Potentials.{potentials_of}
use Rattle.potentials.proofs.GroundLemmas.{few-atoms}
use Rattle.potentials.proofs.FairLemmas.{below-counting}
use Rattle.tables.specs.AllTables.{tables_of}
use Rattle.tables.specs.ByAtom.{LosesByAll}
use Rattle.potentials.specs.Fairness.{allowed_by}
use Rattle.tables.specs.Fairness.{function_of}
use Rattle.table_rows.specs.Losses.{indexed_of}
use Rattle.tables.proofs.FairnessLemmas.{atoms-range, decides-within}
use Rattle.table_rows.proofs.PlacingLemmas.{changes-in}
use Rattle.tables.proofs.fairness.TableValue.is_fair_with.Goals as goal

pub loses_at_most-by_atoms-requires-clause-below : goal.loses_at_most-by_atoms-requires-clause-below
loses_at_most-by_atoms-requires-clause-below c =
    below-counting (task_in c.args.ground.now) (atoms_in c.args.ground.now) (potentials_of c.args.self.now.potentials.now) c.weights.result.now c.weights.ensures c.requires.fits.width c.args.number _ c.counting-changes.ensures.counting

pub overflow_add-by_atoms : goal.overflow_add-by_atoms
overflow_add-by_atoms c =
    let literals = map numbered_of c.literals-literals.result.now in
    let changes = map conditional_of c.counting-changes.result.now in
    let tables = c.args.self.now.tables.now in
    let weights = c.weights.result.now in
    let atoms = atoms-range literals (map counting_of c.counting-changes.result.now) weights c.loses_at_most-by_atoms.result c.loses_at_most-by_atoms.ensures (subst (All IsInRange) (sym c.weights.ensures) c.args.self.now.potentials.now.weights_in_range) in
    let atoms_least = atoms.0 in
    let atoms_most = atoms.1 in
    let few = few-atoms c.args.ground.now in
    let long = ap length c.weights.ensures in
    let width = c.requires.fits.width in
    let all = c.requires.lost in
    let least = all.least in
    let most = all.most in
    let few_tables = tables.few in
    let many = length-map tables.tables.items indexed_of in
    omega (arith, ints)

pub returns : goal.returns
returns c = λ i named.
    let task = task_in c.args.ground.now in
    let literals = map numbered_of c.literals-literals.result.now in
    let changes = map conditional_of c.counting-changes.result.now in
    let tables = c.args.self.now.tables.now in
    let weights = c.weights.result.now in
    let atoms = atoms-range literals (map counting_of c.counting-changes.result.now) weights c.loses_at_most-by_atoms.result c.loses_at_most-by_atoms.ensures (subst (All IsInRange) (sym c.weights.ensures) c.args.self.now.potentials.now.weights_in_range) in
    let atoms_least = atoms.0 in
    let atoms_most = atoms.1 in
    let few = few-atoms c.args.ground.now in
    let long = ap length c.weights.ensures in
    let width = c.requires.fits.width in
    let says = c.literals-literals.ensures in
    let makes = c.counting-changes.ensures.conditional in
    let all : LosesByAll c.args.self.now.place literals changes (tables_of tables) c.args.by_tables =
    subst (λ (q : (ls : List NumberedLiteral) × List ConditionalChange). LosesByAll c.args.self.now.place q.0 q.1 (tables_of tables) c.args.by_tables) (sym (λ k. (says k, makes k))) c.requires.lost in
    let least = all.least in
    let most = all.most in
    let few_tables = tables.few in
    let many = length-map tables.tables.items indexed_of in
    decides-within task (atoms_in c.args.ground.now) (function_of c.args.self.now) c.args.number i named literals changes c.literals-literals.ensures c.counting-changes.ensures.conditional
    weights c.weights.ensures width c.loses_at_most-by_atoms.result c.args.by_tables _ _ (allowed_by c.args.self.now.allowance task i) c.is_at_most.result
    (c.loses_at_most-by_atoms.ensures ∙ ap (loses_at_most (length weights) weights literals) (sym (changes-in c.counting-changes.result.now))) all (c.of.ensures i named) (omega (arith, ints)) c.is_at_most.ensures
