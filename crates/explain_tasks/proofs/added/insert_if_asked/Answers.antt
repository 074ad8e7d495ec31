use Rattle.std.proofs.Common.{◌∙◌, ◌&&◌, sym}
use Rattle.std.specs.Prelude.{◌∷◌, []}
use Rattle.std.specs.FinSet.{contains}
use Rattle.std.specs.Ordering.{eq_by_cmp}
use Rattle.std.proofs.lemmas.Result.{on_ok_weaker}
use Rattle.task.specs.TaskParts.{atom_of}
use Rattle.formulas.specs.State.{state_of}
use Rattle.model.specs.Meaning.{atom_cmp}
use Rattle.model.specs.NumberedAtoms.{occurs_in}
use Rattle.explain_tasks.proofs.AddedLemmas.{asked_none, asked_one, gains_alike, gains_none}
use Rattle.explain_tasks.proofs.added.insert_if_asked.Goals as goal

pub returns-then-not-contains : goal.returns-then-not-contains
returns-then-not-contains c =
    let asked = state_of c.args.asked.now in
    let b = atom_of c.args.atom.now in
    gains_none (state_of c.args.added.now) (λ a. contains asked a && eq_by_cmp atom_cmp b a) (asked_none asked b (sym c.contains.ensures ∙ c.if-not-contains.true))

pub returns : goal.returns
returns c =
    let asked = state_of c.args.asked.now in
    let b = atom_of c.args.atom.now in
    on_ok_weaker c.insert_copy.result
    (gains_alike (occurs_in (b ∷ [])) (λ a. contains asked a && eq_by_cmp atom_cmp b a) (state_of c.args.added.now) (state_of c.insert_copy.new.atoms) (asked_one asked b (sym c.contains.ensures ∙ c.if-not-contains.false)))
    c.insert_copy.ensures
