-- The value of an `:effect`: nothing, one item, or an `and` of several.
use Rattle.pddl_tree.proofs.Names.{◌≡◌, ℕ, ◌+◌, true, List, [], ◌∷◌, ◌++◌, map, Option, Some, None, refl, sym, ◌∙◌, ap, subst, option_and_then, Word, from, first, Reading, made, stops, bind, part, phrase, one_of, closes_first, Name, effects, Token, closes, reserved, gives, item, effect_list, listed, many}
use Rattle.std.proofs.lemmas.List.{append-nil, map-append}
use Rattle.pddl_tree.specs.Costs.{increase_in, the_increase}
use Rattle.pddl_tree.specs.Phrases.{the_items}
use Rattle.pddl_tree.proofs.Read.{taken, phrase_then}
use Rattle.pddl_tree.proofs.Looks.{IsReadOn, one_more, as_other, other_of, end_here, item_here, not_open, open_here}
use Rattle.model.specs.Trees.{Effect, Increase}
use Rattle.model.specs.Trees as tree
use Rattle.model.specs.GrammarWords as words
use Rattle.model.specs.Grammar.{effect_value, Item, EffectValue, change, increase, value_of, changes_in, increases_in, value_of_all}

-- ---- the value

-- by its first word
abbrev pub by_value : Option Token → List Token → List Token → Reading EffectValue
by_value (Some closes) w here = made (value_of_all []) w
by_value (Some (reserved words.and n)) w here = phrase the_items w
by_value (Some (reserved words.increase n)) w here = bind (phrase (the_increase n) w) (λ i v. made (value_of (increase i)) v)
by_value o w here = bind (part effect_list here) (λ e v. made (value_of (change e)) v)

pub value_here : (list : List Word) (at : ℕ) → part effect_value (from list at) ≡ by_value (first (from list at)) (from list (at + 1)) (from list at)
value_here list at = by_word (first (from list at)) refl
  where
    by_word : (o : Option Token) → first (from list at) ≡ o → part effect_value (from list at) ≡ by_value o (from list (at + 1)) (from list at)
    by_word (Some closes) is = taken effect_value list at closes is refl
    by_word (Some (reserved words.and n)) is = taken effect_value list at (reserved words.and n) is refl
    by_word (Some (reserved words.increase n)) is = taken effect_value list at (reserved words.increase n) is refl ∙ phrase_then (the_increase n) (λ i. gives (value_of (increase i))) (from list (at + 1))
    by_word None is = other_of effect_value effect_list (λ e. value_of (change e)) (from list at) (subst (as_other effect_value effect_list (λ e. value_of (change e))) (sym is) tt)
    by_word (Some t) is = other_of effect_value effect_list (λ e. value_of (change e)) (from list at) (subst (as_other effect_value effect_list (λ e. value_of (change e))) (sym is) (refl, refl))

-- ---- one item

-- by the word `increase`, where it is there
abbrev pub by_increase : Option Name → List Token → List Token → Reading Item
by_increase (Some n) w here = bind (phrase (the_increase n) w) (λ i v. made (increase i) v)
by_increase None w here = bind (part effect_list here) (λ e v. made (change e) v)

pub one_here : (list : List Word) (at : ℕ) → part item (from list at) ≡ by_increase (option_and_then increase_in (first (from list at))) (from list (at + 1)) (from list at)
one_here list at = by_word (first (from list at)) refl
  where
    by_word : (o : Option Token) → first (from list at) ≡ o → part item (from list at) ≡ by_increase (option_and_then increase_in o) (from list (at + 1)) (from list at)
    by_word (Some (reserved words.increase n)) is = taken item list at (reserved words.increase n) is refl ∙ phrase_then (the_increase n) (λ i. gives (increase i)) (from list (at + 1))
    by_word None is = other_of item effect_list change (from list at) (subst (as_other item effect_list change) (sym is) tt)
    by_word (Some t) is = other_of item effect_list change (from list at) (subst (as_other item effect_list change) (sym is) (refl, refl))

pub increase_here : (list : List Word) (at end : ℕ) (n : Name) (i : Increase) → Some n ≡ option_and_then increase_in (first (from list at)) → phrase (the_increase n) (from list (at + 1)) ≡ made i (from list end) → part item (from list at) ≡ made (increase i) (from list end)
increase_here list at end n i is read = one_here list at ∙ ap (λ o. by_increase o (from list (at + 1)) (from list at)) (sym is) ∙ ap (λ r. bind r (λ i v. made (increase i) v)) read

pub effect_here : (list : List Word) (at end : ℕ) (e : Effect) → None ≡ option_and_then increase_in (first (from list at)) → part effect_list (from list at) ≡ made e (from list end) → part item (from list at) ≡ made (change e) (from list end)
effect_here list at end e is read = one_here list at ∙ ap (λ o. by_increase o (from list (at + 1)) (from list at)) (sym is) ∙ ap (λ r. bind r (λ e v. made (change e) v)) read

-- ---- items, by what was read of them

changes-append : (xs ys : List Item) → changes_in (xs ++ ys) ≡ changes_in xs ++ changes_in ys
changes-append [] ys = refl
changes-append (change e ∷ xs) ys = ap (λ es. e ∷ es) (changes-append xs ys)
changes-append (increase i ∷ xs) ys = changes-append xs ys

increases-append : (xs ys : List Item) → increases_in (xs ++ ys) ≡ increases_in xs ++ increases_in ys
increases-append [] ys = refl
increases-append (change e ∷ xs) ys = increases-append xs ys
increases-append (increase i ∷ xs) ys = ap (λ is. i ∷ is) (increases-append xs ys)

-- items were read, of which these are the effects and these the increases
pub record AreItemsOn (list : List Word) (at : ℕ) (changes : List Effect) (increases : List Increase) (next : ℕ) : Type 0 where
  pub done : List Item
  pub read : IsReadOn (part (many (listed item))) list at done next
  pub changed : changes ≡ changes_in done
  pub increased : increases ≡ increases_in done

pub items_start : {list : List Word} {at : ℕ} {cs : List Effect} {is : List Increase} → cs ≡ [] → is ≡ [] → AreItemsOn list at cs is at
items_start {list} {at} c i = record { done = []; read = record { goes = same (part (many (listed item)) (from list at)) }; changed = c; increased = i }
  where
    same : (r : Reading (List Item)) → r ≡ bind r (λ xs w. made xs w)
    same (made xs w) = refl
    same (stops n w) = refl

pub changes_more : {V : Type 0} (view : V → Effect) {list : List Word} {at next end : ℕ} (old new : List V) {is : List Increase} (x : V) → AreItemsOn list at (map view old) is next → part (many (listed item)) (from list next) ≡ one_of (part (many (listed item))) (change (view x)) (from list end) → new ≡ old ++ x ∷ [] → AreItemsOn list at (map view new) is end
changes_more view old new x h one same =
    let e = view x in
    record { done = h.done ++ change e ∷ []; read = one_more (change e) h.read one; changed = ap (map view) same ∙ map-append view old (x ∷ []) ∙ ap (λ es. es ++ e ∷ []) h.changed ∙ sym (changes-append h.done (change e ∷ [])); increased = h.increased ∙ sym (increases-append h.done (change e ∷ []) ∙ append-nil (increases_in h.done)) }

pub increases_more : {V : Type 0} (view : V → Increase) {list : List Word} {at next end : ℕ} {cs : List Effect} (old new : List V) (x : V) → AreItemsOn list at cs (map view old) next → part (many (listed item)) (from list next) ≡ one_of (part (many (listed item))) (increase (view x)) (from list end) → new ≡ old ++ x ∷ [] → AreItemsOn list at cs (map view new) end
increases_more view old new x h one same =
    let n = view x in
    record { done = h.done ++ increase n ∷ []; read = one_more (increase n) h.read one; changed = h.changed ∙ sym (changes-append h.done (increase n ∷ []) ∙ append-nil (changes_in h.done)); increased = ap (map view) same ∙ map-append view old (x ∷ []) ∙ ap (λ is. is ++ n ∷ []) h.increased ∙ sym (increases-append h.done (increase n ∷ [])) }

pub items_end : {list : List Word} {at next : ℕ} {cs : List Effect} {is : List Increase} → AreItemsOn list at cs is next → closes_first (first (from list next)) ≡ true → phrase the_items (from list at) ≡ made (record { effect = tree.both (effects cs); increases = is }) (from list (next + 1))
items_end {list} {at} {next} h e =
    ap (λ r. bind r (λ xs w. made (value_of_all xs) w)) (h.read.goes ∙ ap (λ r. bind r (λ xs w. made (h.done ++ xs) w)) (end_here (listed item) list next e))
    ∙ (λ i. made (value_of_all (append-nil h.done i)) (from list (next + 1))) ∙ (λ i. made (record { effect = tree.both (effects (sym h.changed i)); increases = sym h.increased i }) (from list (next + 1)))

pub ruleset of_items = (item_here, not_open, open_here, one_here)
