-- Members with ascending keys are inserted into the library's object one after another.
use Rattle.std.proofs.Common.{◌≡◌, ℕ, zero, suc, ◌+◌, ◌<◌, ◌≤◌, true, List, [], ◌∷◌, length, take, get_or, Ordering, Less, Equal, Greater, String, Global, BTreeMap, refl, sym, ap, ◌∙◌, arith}
use Rattle.std.proofs.lemmas.Bool.{and_parts}
use Rattle.std.proofs.lemmas.Cmp.{nat_list_cmp_total}
use Rattle.std.proofs.lemmas.List.{take_all}
use Rattle.std.specs.Prelude.{false}
use Rattle.std.specs.Cmp.Lexicographic.{slice_cmp}
use Rattle.std.specs.Ordering.{nat_cmp, match_ordering, ordering_reverse}
use Rattle.serde_json.specs.Data.{object, put}
use Rattle.serde_json.specs.Data as built
use Rattle.serde_json.specs.View.{view, members_view}
use Rattle.serde_json.specs.declared.value.Value.{Value, Object}
use Rattle.serde_json.proofs.Views.{view-Object}
use Rattle.printed_answers.specs.JsonText.{comes_before, ascend}
use Rattle.printed_answers.specs.Members.{keys_of, members_of, value_of}
use Rattle.printed_answers.specs.MembersBuilt.{value_built, members_built}
use Rattle.printed_answers.specs.declared.members.Member.{Member}

less_at : (o : Ordering) → match_ordering o true false false ≡ true → o ≡ Less
less_at Less e = refl
less_at Equal e = absurd (cc)
less_at Greater e = absurd (cc)

-- the first key comes before each later one
first_below : (first : Member) (later : List Member) (i : ℕ) (d : Member) → i < length later → ascend (keys_of (first ∷ later)) ≡ true
    → slice_cmp nat_cmp first.key.now (get_or later i d).key.now ≡ Less
first_below first [] i d within ascends = absurd (omega arith)
first_below first (next ∷ later) zero d within ascends = less_at _ (and_parts _ _ ascends).0
first_below first (next ∷ later) (suc i) d within ascends =
    let parts = and_parts (comes_before first.key.now next.key.now) (ascend (keys_of (next ∷ later))) ascends in
    nat_list_cmp_total.trans first.key.now next.key.now (get_or later i d).key.now (less_at _ parts.0) (first_below next later i d (omega (arith, within)) parts.1)

rest_ascends : (first : Member) (later : List Member) → ascend (keys_of (first ∷ later)) ≡ true → ascend (keys_of later) ≡ true
rest_ascends first [] ascends = refl
rest_ascends first (next ∷ later) ascends = (and_parts (comes_before first.key.now next.key.now) _ ascends).1

put_at : (members : List Member) (i : ℕ) (d : Member) → i < length members → ascend (keys_of members) ≡ true
    → put (get_or members i d).key.now (value_built (value_of (get_or members i d).value)) (members_built (members_of (take i members))) ≡ members_built (members_of (take (suc i) members))
put_at [] i d within ascends = absurd (omega arith)
put_at (first ∷ later) zero d within ascends = refl
put_at (first ∷ later) (suc i) d within ascends =
    let next = get_or later i d in
    let above : slice_cmp nat_cmp next.key.now first.key.now ≡ Greater =
    nat_list_cmp_total.antisymm next.key.now first.key.now ∙ ap ordering_reverse (first_below first later i d (omega (arith, within)) ascends) in
    rw above (ap (built.member first.key.now (value_built (value_of first.value))) (put_at later i d (omega (arith, within)) (rest_ascends first later ascends)))

-- the next member is inserted after those before it
pub put_next : (members : List Member) (i : ℕ) (next : Member) → i < length members → get_or members i next ≡ next → ascend (keys_of members) ≡ true
    → put next.key.now (value_built (value_of next.value)) (members_built (members_of (take i members))) ≡ members_built (members_of (take (i + 1) members))
put_next members i next within is ascends =
    let more : suc i ≡ i + 1 = omega arith in
    ap (λ (m : Member). put m.key.now (value_built (value_of m.value)) (members_built (members_of (take i members)))) (sym is)
    ∙ put_at members i next within ascends
    ∙ ap (λ n. members_built (members_of (take n members))) more

-- after all members are inserted, the object consists of them
pub all_put : (members : List Member) (i : ℕ) (m : BTreeMap (String Global) Value) → length members ≤ i → members_view m.entries ≡ members_built (members_of (take i members))
    → view (Object m) ≡ object (members_built (members_of members))
all_put members i m end put_so_far = view-Object m ∙ ap object (put_so_far ∙ ap (λ (ms : List Member). members_built (members_of ms)) (take_all i members end))
