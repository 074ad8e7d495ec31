use Rattle.std.proofs.Common.{◌≡◌, ◌∙◌, ◌++◌, ◌∷◌, ◌<◌, ◌&&◌, [], true, not, cond, nat_lt, ap, map, length, subst, sym, arith}
use Rattle.std.specs.Prelude.{OnOk}
use Rattle.std.proofs.lemmas.List.{length-map}
use Rattle.std.proofs.lemmas.Bool.Decides.{nat_tests}
use Rattle.task.specs.TaskParts.{atom_of}
use Rattle.explain_tasks.specs.Goals.{with_passing}
use Rattle.explain_goals.specs.Notes.{most_found}
use Rattle.explain_goals.specs.Views.{is_out}
use Rattle.explain_goals.proofs.relaxation.Relaxation.add_atom_if_missing.Goals as goal

pub returns : goal.returns
returns c =
    let test = is_out c.args.self.now in
    let held = c.args.found.now in
    let found = map atom_of held.items in
    let a = atom_of c.args.atom.now in
    let long = length-map held.items atom_of in
    let less : length found < most_found = omega (arith, c.len.ensures, held.ok.0, long, c.if-len-ge-MOST_FOUND.false) in
    let room : nat_lt (length found) most_found ≡ true = grind (arith, nat_tests) in
    let never : test a ≡ true = ap not (sym c.has.ensures ∙ c.if-has.false) in
    let shown : found ++ a ∷ [] ≡ with_passing test most_found found a = sym (ap (λ b. cond b (found ++ a ∷ []) found) (λ i. room i && never i)) in
    subst (λ l. OnOk c.push_copy.result (map atom_of c.push_copy.new.found.items ≡ l)) shown c.push_copy.ensures
