use Rattle.std.proofs.Common.{◌∙◌, true, map, sym}
use Rattle.std.specs.FinSet.{empty}
use Rattle.std.specs.List.{list_any}
use Rattle.formulas.specs.Literals.{literal_of}
use Rattle.formulas.specs.State.{state_of}
use Rattle.formulas.proofs.Trees.{list_any_map}
use Rattle.model.specs.NumberedAtoms.{occurs_in}
use Rattle.model.proofs.NumberingLemmas.{occurs_in-flat_map_any}
use Rattle.explain_tasks.specs.Goals.{atom_asked_for, atoms_asked_for}
use Rattle.explain_tasks.proofs.AddedLemmas.{gains_all, gains_alike, gains_begun, gains_more}
use Rattle.explain_tasks.proofs.added.atoms_asked_for.Goals as goal

pub loop-literal-init : goal.loop-literal-init
loop-literal-init c = gains_begun (state_of c.new-asked.result) c.new-asked.ensures

pub loop-literal-preserved : goal.loop-literal-preserved
loop-literal-preserved c =
    gains_more (λ _. true) (λ a one. occurs_in (atom_asked_for (literal_of one)) a) c.args.literals.now c.loop-literal.literal-index empty c.literal-item.result
    (state_of c.loop-literal.asked) (state_of c.insert_asked_for.new.asked) c.loop-literal-test.true c.literal-item.is c.loop-literal.invariant c.in_ok-insert_asked_for.ensures

pub returns : goal.returns
returns c =
    let literals = c.args.literals.now in
    gains_alike (λ a. list_any (λ one. occurs_in (atom_asked_for (literal_of one)) a) literals) (occurs_in (atoms_asked_for (map literal_of literals))) empty (state_of c.loop-literal.asked)
    (λ a. sym (list_any_map (λ one. occurs_in (atom_asked_for one) a) literal_of literals) ∙ sym (occurs_in-flat_map_any atom_asked_for (map literal_of literals) a))
    (gains_all (λ _. true) (λ a one. occurs_in (atom_asked_for (literal_of one)) a) literals c.loop-literal.literal-index empty (state_of c.loop-literal.asked) c.loop-literal-test.false c.loop-literal.invariant)
