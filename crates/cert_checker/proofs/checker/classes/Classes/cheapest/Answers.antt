use Rattle.std.proofs.Common.{◌∙◌, Some, List, Bool, ap, length, sym, subst, arith}
use Rattle.std.specs.Prelude.{Contains}
use Rattle.std.proofs.lemmas.Option.{slice_get_within}
use Rattle.packed_state.specs.Packed.{bits_of}
use Rattle.symmetries.specs.Representatives.{task_of, atoms_of, exchanges_of}
use Rattle.cert_checker.specs.Classified.{keys_in}
use Rattle.cert_checker.proofs.CertCheckerLemmas.{got}
use Rattle.cert_checker.proofs.ClassLemmas.{length-representative}
use Rattle.cert_checker.proofs.checker.classes.Classes.cheapest.Goals as goal

pub find-requires : goal.find-requires
find-requires c =
    let r = c.args.self.now.representatives in
    ap length c.represent.ensures ∙ length-representative (task_of r) (atoms_of r) (exchanges_of r) (bits_of c.args.state.now) ∙ sym c.requires.width

pub index-requires : goal.index-requires
index-requires c =
    let now = c.args.self.now in
    let inside = slice_get_within (keys_in now) c.in-Some.key (bits_of c.represent.new.state) c.in-Some.ensures in
    omega (arith, inside, c.requires.as_many, now.cheapest.ok.0)

pub returns-in-Some-clause-state : goal.returns-in-Some-clause-state
returns-in-Some-clause-state c =
    let r = c.args.self.now.representatives in
    ap length c.represent.ensures ∙ length-representative (task_of r) (atoms_of r) (exchanges_of r) (bits_of c.args.state.now) ∙ sym c.requires.state

pub returns-in-None-clause-state : goal.returns-in-None-clause-state
returns-in-None-clause-state c =
    let r = c.args.self.now.representatives in
    ap length c.represent.ensures ∙ length-representative (task_of r) (atoms_of r) (exchanges_of r) (bits_of c.args.state.now) ∙ sym c.requires.state

pub returns-in-Some-clause-place : goal.returns-in-Some-clause-place
returns-in-Some-clause-place c =
    let now = c.args.self.now in
    let inside = slice_get_within (keys_in now) c.in-Some.key (bits_of c.represent.new.state) c.in-Some.ensures in
    (c.in-Some.key, c.in-Some.ensures ∙ ap Some c.represent.ensures, got now.cheapest.items c.in-Some.key c.index.result.now (omega (arith, inside, c.requires.as_many)) c.index.ensures)

pub returns-in-None-clause-place : goal.returns-in-None-clause-place
returns-in-None-clause-place c = subst (λ (k : List Bool). ¬ Contains (keys_in c.args.self.now) k) c.represent.ensures c.in-None.ensures
