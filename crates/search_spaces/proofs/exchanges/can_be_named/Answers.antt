use Rattle.std.proofs.Common.{◌≡◌, ◌∙◌, ◌≤◌, ◌&&◌, ℕ, Bool, true, false, List, [], ◌∷◌, length, nat_le, nat_lt, refl, sym, ap, arith, rules, tests, le-leb}
use Rattle.std.specs.List.{list_all}
use Rattle.std.proofs.lemmas.List.{length-map}
use Rattle.std.proofs.lemmas.Iterator.{YieldsList-from_slice}
use Rattle.std.proofs.lemmas.Iterator.Search.{all_from_yields_List}
use Rattle.task.specs.declared.atoms.ObjectId.{ObjectId}
use Rattle.task.specs.Task.{task_of}
use Rattle.symmetries.specs.ObjectPairs.{pair_of, pairs_in}
use Rattle.symmetries_definitions.specs.Exchanges.{objects_in}
use Rattle.search_spaces.specs.Exchanges.{most_pairs}
use Rattle.search_spaces.proofs.exchanges.can_be_named.Goals as goal

regrouped : (a b c : Bool) → ((a && b) && c) ≡ (a && (b && c))
regrouped true b c = refl
regrouped false b c = refl

-- all objects of the pairs pass where both of each pair do
both_pass : (p : ℕ → Bool) (pairs : List (ObjectId × ObjectId)) → list_all (λ (pair : ObjectId × ObjectId). p pair.0.0 && p pair.1.0) pairs ≡ list_all p (objects_in (pairs_in pairs))
both_pass p [] = refl
both_pass p (pair ∷ rest) =
    regrouped (p pair.0.0) (p pair.1.0) (list_all (λ (pair : ObjectId × ObjectId). p pair.0.0 && p pair.1.0) rest)
    ∙ ap (λ b. p pair.0.0 && (p pair.1.0 && b)) (both_pass p rest)

-- two tests that are passed
two_passed : (a b c : Bool) → a ≡ true → b ≡ true → c ≡ ((a && b) && c)
two_passed a b c first second = sym ((λ i. (first i && second i) && c))

pub returns-then-pairs-le-MAX_PAIRS : goal.returns-then-pairs-le-MAX_PAIRS
returns-then-pairs-le-MAX_PAIRS c =
    let pairs = c.args.pairs.now in
    let count = c.object_count-count.result in
    let long = length-map pairs pair_of in
    let some : 1 ≤ length (pairs_in pairs) = search (rules, tests) in
    let few : length (pairs_in pairs) ≤ 32767 = omega (arith, c.if-pairs-le-MAX_PAIRS.true.1, long) in
    all_from_yields_List (λ (pair : ObjectId × ObjectId). nat_lt pair.0.0 count && nat_lt pair.1.0 count) _ _ _ c.all.ensures.ran (YieldsList-from_slice pairs c.iter.ensures.rest) (λ x b q k. search (rules, tests))
    ∙ both_pass (λ o. nat_lt o count) pairs
    ∙ ap (λ n. list_all (λ o. nat_lt o n) (objects_in (pairs_in pairs))) c.object_count-count.ensures
    ∙ two_passed (nat_le 1 (length (pairs_in pairs))) (nat_le (length (pairs_in pairs)) most_pairs) (list_all (λ o. nat_lt o (length (task_of c.args.task.now).objects)) (objects_in (pairs_in pairs)))
    (le-leb 1 (length (pairs_in pairs)) some) (le-leb (length (pairs_in pairs)) most_pairs few)
