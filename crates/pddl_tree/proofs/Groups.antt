-- A group of a typed list, name by name.
use Rattle.pddl_tree.proofs.Names.{◌≡◌, ℕ, ◌+◌, true, false, List, [], ◌∷◌, ◌++◌, map, Option, Some, None, refl, sym, ◌∙◌, ap, option_map, option_and_then, Word, from, first, Reading, made, stops, bind, part, phrase, number_seen, one_of, closes_first, the_either, Name, Token, opens, closes, dash, free, reserved, after, close}
use Rattle.std.proofs.lemmas.List.{map-append, append-nil}
use Rattle.pddl_tree.specs.Typed.{ends_group_first}
use Rattle.pddl_tree.proofs.Read.{by_first, part_here, taken, bind_bind}
use Rattle.pddl_tree.proofs.Looks.{is_closes, refused_here}
use Rattle.model.specs.Trees.{Group}
use Rattle.model.specs.Grammar.{ListElement, names, variables, listed_in, typed, group, group_after, type, with_name, ends_group}

-- some names at the head of a typed list's first group
abbrev with_names : List Name → List Group → List Group
with_names [] gs = gs
with_names (n ∷ ns) gs = with_name n (with_names ns gs)

names_more : (ns : List Name) (n : Name) (gs : List Group) → with_names ns (with_name n gs) ≡ with_names (ns ++ n ∷ []) gs
names_more [] n gs = refl
names_more (m ∷ ns) n gs = ap (with_name m) (names_more ns n gs)

names_end : (ns ts : List Name) (gs : List Group) → with_names ns (ends_group ts ∷ gs) ≡ record { names = ns; types = ts } ∷ gs
names_end [] ts gs = refl
names_end (m ∷ ns) ts gs = ap (with_name m) (names_end ns ts gs)

-- ---- a name of the list, at the head of a group or within one

named_here : (l : ListElement) (list : List Word) (at : ℕ) (n : Name) → option_and_then (listed_in l) (first (from list at)) ≡ Some n → part (typed l) (from list at) ≡ bind (part (group l) (from list (at + 1))) (λ gs w. made (with_name n gs) w)
named_here l list at n e = by_word l (first (from list at)) refl e
  where
    by_rule : (l : ListElement) (t : Token) → listed_in l t ≡ Some n → after (typed l) t ≡ Some (group_after l n)
    by_rule names closes e = absurd (cc)
    by_rule variables closes e = absurd (cc)
    by_rule l t e = ap (option_map (group_after l)) e

    by_word : (l : ListElement) (o : Option Token) → first (from list at) ≡ o → option_and_then (listed_in l) o ≡ Some n → part (typed l) (from list at) ≡ bind (part (group l) (from list (at + 1))) (λ gs w. made (with_name n gs) w)
    by_word l None is e = absurd (cc)
    by_word l (Some t) is e = taken (typed l) list at t is (by_rule l t e)

named_inside : (l : ListElement) (list : List Word) (at : ℕ) (n : Name) → option_and_then (listed_in l) (first (from list at)) ≡ Some n → part (group l) (from list at) ≡ bind (part (group l) (from list (at + 1))) (λ gs w. made (with_name n gs) w)
named_inside l list at n e = by_word l (first (from list at)) refl e
  where
    by_rule : (l : ListElement) (t : Token) → listed_in l t ≡ Some n → after (group l) t ≡ Some (group_after l n)
    by_rule names closes e = absurd (cc)
    by_rule variables closes e = absurd (cc)
    by_rule names dash e = absurd (cc)
    by_rule variables dash e = absurd (cc)
    by_rule l t e = ap (option_map (group_after l)) e

    by_word : (l : ListElement) (o : Option Token) → first (from list at) ≡ o → option_and_then (listed_in l) o ≡ Some n → part (group l) (from list at) ≡ bind (part (group l) (from list (at + 1))) (λ gs w. made (with_name n gs) w)
    by_word l None is e = absurd (cc)
    by_word l (Some t) is e = taken (group l) list at t is (by_rule l t e)

-- ---- a word that is not a name of the list

pub unnamed_here : (l : ListElement) (list : List Word) (at : ℕ) → option_and_then (listed_in l) (first (from list at)) ≡ None → closes_first (first (from list at)) ≡ false → part (typed l) (from list at) ≡ stops (number_seen close (first (from list at))) (from list at)
unnamed_here l list at none e = let h = by_word (first (from list at)) none e in refused_here (typed l) close list at h.0 h.1
  where
    by_word : (o : Option Token) → option_and_then (listed_in l) o ≡ None → closes_first o ≡ false → (option_and_then (after (typed l)) o ≡ None) × (number_seen close o ≡ number_seen (typed l) o)
    by_word None none e = (refl, refl)
    by_word (Some closes) none e = absurd (cc)
    by_word (Some t) none e = (ap (option_map (group_after l)) none, refl)

pub unnamed_inside : (l : ListElement) (list : List Word) (at : ℕ) → option_and_then (listed_in l) (first (from list at)) ≡ None → ends_group_first (first (from list at)) ≡ false → part (group l) (from list at) ≡ stops (number_seen close (first (from list at))) (from list at)
unnamed_inside l list at none e = let h = by_word (first (from list at)) none e in refused_here (group l) close list at h.0 h.1
  where
    by_word : (o : Option Token) → option_and_then (listed_in l) o ≡ None → ends_group_first o ≡ false → (option_and_then (after (group l)) o ≡ None) × (number_seen close o ≡ number_seen (group l) o)
    by_word None none e = (refl, refl)
    by_word (Some closes) none e = absurd (cc)
    by_word (Some dash) none e = absurd (cc)
    by_word (Some t) none e = (ap (option_map (group_after l)) none, refl)

-- ---- these names of a group were read, and the rest of the group follows

pub record IsGroupOn (l : ListElement) (list : List Word) (at : ℕ) (ns : List Name) (next : ℕ) : Type 0 where
  pub goes : part (typed l) (from list at) ≡ bind (part (group l) (from list next)) (λ gs w. made (with_names ns gs) w)

pub group_start : (l : ListElement) {list : List Word} {at next : ℕ} {n : Name} → option_and_then (listed_in l) (first (from list at)) ≡ Some n → next ≡ at + 1 → IsGroupOn l list at (n ∷ []) next
group_start l {list} {at} {next} {n} e is = record { goes = named_here l list at n e ∙ ap (λ i. bind (part (group l) (from list i)) (λ gs w. made (with_name n gs) w)) (sym is) }

pub group_more : {V : Type 0} (l : ListElement) (view : V → Name) {list : List Word} {at next end : ℕ} (done done' : List V) {x : V}
    → IsGroupOn l list at (map view done) next → option_and_then (listed_in l) (first (from list next)) ≡ Some (view x) → end ≡ next + 1 → done' ≡ done ++ x ∷ [] → IsGroupOn l list at (map view done') end
group_more l view {list} {at} {next} {end} done done' {x} h n is e =
    let ns = map view done in
    let same : ns ++ view x ∷ [] ≡ map view done' = sym (ap (map view) e ∙ map-append view done (x ∷ [])) in
    record {
      goes = h.goes ∙ ap (λ r. bind r (λ gs w. made (with_names ns gs) w)) (named_inside l list next (view x) n ∙ ap (λ i. bind (part (group l) (from list i)) (λ gs w. made (with_name (view x) gs) w)) (sym is))
          ∙ bind_bind (part (group l) (from list end)) (λ gs w. made (with_name (view x) gs) w) (λ gs w. made (with_names ns gs) w)
          ∙ (λ i. bind (part (group l) (from list end)) (λ gs w. made (names_more ns (view x) gs i) w)) ∙ (λ i. bind (part (group l) (from list end)) (λ gs w. made (with_names (same i) gs) w));
    }

-- `-` ends a group where `)` does not
pub is_dash : (o : Option Token) → ends_group_first o ≡ true → closes_first o ≡ false → o ≡ Some dash
is_dash (Some dash) e n = refl
is_dash (Some closes) e n = absurd (cc)
is_dash o e n = absurd (cc)

-- the types after the `-`
pub group_typed : (l : ListElement) {list : List Word} {at next : ℕ} (end : ℕ) {ns ts : List Name} → IsGroupOn l list at ns next → first (from list next) ≡ Some dash → part (type l) (from list (next + 1)) ≡ made ts (from list end) → part (typed l) (from list at) ≡ one_of (part (typed l)) (record { names = ns; types = ts }) (from list end)
group_typed l {list} {next = next} end {ns} {ts} h e r =
    h.goes ∙ ap (λ r. bind r (λ gs w. made (with_names ns gs) w)) (taken (group l) list next dash e refl ∙ ap (λ r. bind r (λ us w. bind (part (typed l) w) (λ gs v. made (ends_group us ∷ gs) v))) r)
    ∙ bind_bind (part (typed l) (from list end)) (λ gs v. made (ends_group ts ∷ gs) v) (λ gs w. made (with_names ns gs) w) ∙ (λ i. bind (part (typed l) (from list end)) (λ gs w. made (names_end ns ts gs i) w))

pub dash_reported : (l : ListElement) (list : List Word) (at : ℕ) → ends_group_first (first (from list at)) ≡ true → closes_first (first (from list at)) ≡ false → part (group l) (from list at) ≡ bind (part (type l) (from list (at + 1))) (λ us w. bind (part (typed l) w) (λ gs v. made (ends_group us ∷ gs) v))
dash_reported l list at e n = taken (group l) list at dash (is_dash (first (from list at)) e n) refl

-- or none before the `)` of the list
pub group_untyped : (l : ListElement) {list : List Word} {at next : ℕ} {ns : List Name} → IsGroupOn l list at ns next → closes_first (first (from list next)) ≡ true → part (typed l) (from list at) ≡ one_of (part (typed l)) (record { names = ns; types = [] }) (from list next)
group_untyped l {list} {next = next} {ns} h e =
    let word = is_closes (first (from list next)) e in
    h.goes ∙ ap (λ r. bind r (λ gs w. made (with_names ns gs) w)) (taken (group l) list next closes word refl) ∙ (λ i. made (names_end ns [] [] i) (from list (next + 1))) ∙ sym (ap (λ r. bind r (λ gs w. made (record { names = ns; types = [] } ∷ gs) w)) (taken (typed l) list next closes word refl))

pub ruleset of_groups = (unnamed_here, unnamed_inside, dash_reported)

-- ---- a typed list ended by `)`

pub typed_end : (l : ListElement) (list : List Word) (at : ℕ) → closes_first (first (from list at)) ≡ true → part (typed l) (from list at) ≡ made [] (from list (at + 1))
typed_end l list at e = taken (typed l) list at closes (is_closes (first (from list at)) e) refl

pub ruleset of_typed = (typed_end, append-nil)

-- ---- a type, by its first word

abbrev pub by_type : Option Token → ListElement → List Token → List Token → Reading (List Name)
by_type (Some (free f n)) l w here = made (n ∷ []) w
by_type (Some (reserved r n)) l w here = made (n ∷ []) w
by_type (Some opens) variables w here = phrase the_either w
by_type o l w here = stops (number_seen (type l) o) here

pub type_here : (l : ListElement) (list : List Word) (at : ℕ) → part (type l) (from list at) ≡ by_type (first (from list at)) l (from list (at + 1)) (from list at)
type_here l list at = part_here (type l) list at ∙ by_word l (first (from list at))
  where
    by_word : (l : ListElement) (o : Option Token) → by_first (type l) o (from list (at + 1)) (from list at) ≡ by_type o l (from list (at + 1)) (from list at)
    by_word names None = refl
    by_word variables None = refl
    by_word names (Some (free f n)) = refl
    by_word names (Some t) = refl
    by_word variables (Some (free f n)) = refl
    by_word variables (Some t) = refl
