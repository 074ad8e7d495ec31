use Rattle.std.proofs.Common.{◌≡◌, ◌∙◌, ◌++◌, ◌∷◌, ◌<◌, ◌&&◌, [], true, cond, nat_lt, ap, map, length, subst, sym, arith}
use Rattle.std.specs.Prelude.{OnOk}
use Rattle.std.proofs.lemmas.List.{length-map}
use Rattle.std.proofs.lemmas.Bool.Decides.{nat_tests}
use Rattle.task.specs.TaskParts.{atom_of}
use Rattle.formulas.specs.State.{state_of}
use Rattle.grounding_instances.specs.Numbering.{task_in}
use Rattle.explain_tasks.specs.Goals.{is_neither, with_passing}
use Rattle.explain_tasks.proofs.added.GoalSearch.add_atom_if_missing.Goals as goal

pub returns : goal.returns
returns c =
    let search = c.args.self.now in
    let test = is_neither (task_in search.numbering.now) (state_of search.added.now) in
    let limit = search.limit in
    let held = c.args.found.now in
    let found = map atom_of held.items in
    let a = atom_of c.args.atom.now in
    let long = length-map held.items atom_of in
    let less : length found < limit = omega (arith, c.len.ensures, held.ok.0, long, c.if-len-self.false) in
    let room : nat_lt (length found) limit ≡ true = grind (arith, nat_tests) in
    let never : test a ≡ true = sym c.is_never_true.ensures ∙ c.if-not-is_never_true.false in
    let shown : found ++ a ∷ [] ≡ with_passing test limit found a = sym (ap (λ b. cond b (found ++ a ∷ []) found) (λ i. room i && never i)) in
    subst (λ l. OnOk c.push_copy.result (map atom_of c.push_copy.new.found.items ≡ l)) shown c.push_copy.ensures
