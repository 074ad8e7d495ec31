use Rattle.std.proofs.Common.{map, subst, sym}
use Rattle.task.specs.TaskParts.{atom_of}
use Rattle.formulas.specs.Literals.{literal_of}
use Rattle.formulas.specs.State.{state_of}
use Rattle.model.specs.Task.{Atom}
use Rattle.explain_goals.specs.Exclusive.{AreTwoOf}
use Rattle.explain_goals.proofs.MutexLemmas.{two-of}
use Rattle.explain_goals.proofs.relaxation.Relaxation.two_of.Goals as goal

pub returns-clause-two : goal.returns-clause-two
returns-clause-two c =
    let literals = map literal_of c.args.literals.now in
    let group = state_of c.args.group in
    let first = atom_of c.in-Some.first.now in
    let second = atom_of c.in-Some-first_other.second.now in
    let found = c.in_ok-exclusive_of in
    subst (λ (a : Atom). AreTwoOf literals group a (atom_of found.field-0.second)) (sym found.ensures.first)
    (subst (λ (b : Atom). AreTwoOf literals group first b) (sym found.ensures.second)
    (two-of literals group (state_of c.new.result) (state_of c.in_ok-alone.field-0) first second c.in_ok-alone.ensures c.in-Some.ensures c.in-Some-first_other.ensures))
