-- An instance's changes by places, as they are listed.
use Rattle.std.proofs.Common.{◌≡◌, ◌∙◌, ℕ, ◌+◌, ◌<◌, Bool, true, false, not, ◌&&◌, ◌||◌, List, [], ◌∷◌, ◌++◌, length, take, map, None, Some, refl, sym, ap}
use Rattle.std.specs.Prelude.{All, slice_get, filter, cond, if◌then◌else◌}
use Rattle.std.specs.Bool.{beq}
use Rattle.std.specs.List.{list_all, filter_map, cons_option}
use Rattle.std.specs.Option.{option_map}
use Rattle.std.proofs.lemmas.List.Elements.{filter_map-append, filter-append, All-cons, All-nil, All-head, All-tail}
use Rattle.packed_state.specs.Sets.{has, set_of}
use Rattle.packed_state.proofs.PackedLemmas.{length-set_of, has-set_of}
use Rattle.grounding.specs.declared.changes.CountingChange.{CountingChange}
use Rattle.grounding.specs.Changes.{counting_of, conditional_of}
use Rattle.model.specs.NumberedLiterals.{NumberedChange}
use Rattle.lower_bounds.specs.TableFunctions.{is_among}
use Rattle.lower_bounds.specs.FairTables.{ConditionalChange, changes_in}
use Rattle.table_rows.specs.Placed.{place_in, placed_in}
use Rattle.table_rows.specs.Afters.{When, certain_place, certain_set, when_in, whens_in, placed_changes, is_plain}
use Rattle.table_rows.specs.PlacedChanges.{FitsWhen, FitsWidth}
use Rattle.table_rows.proofs.PlacedLemmas.{place-within, all-within}
use Rattle.table_rows.proofs.FateLemmas.{taken-more}

-- ---- one change after another

module _ {X Y Z : Type 0} (g : List Y → List Z) (append : (xs ys : List Y) → g (xs ++ ys) ≡ g xs ++ g ys) (f : X → Y) where
  pub more-at : (xs : List X) (i : ℕ) (x : X) (before after : List Z) → slice_get xs i ≡ Some x → before ≡ g (map f (take i xs)) → after ≡ before ++ g (f x ∷ []) → after ≡ g (map f (take (i + 1) xs))
  more-at xs i x before after at so_far here =
      here ∙ ap (λ l. l ++ g (f x ∷ [])) so_far ∙ sym (append (map f (take i xs)) (f x ∷ [])) ∙ sym (ap g (taken-more f xs i x at))

pub certain-append : (scope : List ℕ) (value : Bool) (xs ys : List NumberedChange) → filter_map (certain_place scope value) (xs ++ ys) ≡ filter_map (certain_place scope value) xs ++ filter_map (certain_place scope value) ys
certain-append scope value xs ys = filter_map-append (certain_place scope value) xs ys

-- the changes under a `when`, of places that are not among these
abbrev pub other_whens : List ℕ → List ℕ → List ConditionalChange → List When
other_whens scope added changes = filter (λ (w : When). not (is_among added w.place)) (filter_map (when_in scope) changes)

pub whens-append : (scope added : List ℕ) (xs ys : List ConditionalChange) → other_whens scope added (xs ++ ys) ≡ other_whens scope added xs ++ other_whens scope added ys
whens-append scope added xs ys =
    let kept = λ (w : When). not (is_among added w.place) in
    ap (filter kept) (filter_map-append (when_in scope) xs ys) ∙ filter-append kept (filter_map (when_in scope) xs) (filter_map (when_in scope) ys)

-- ---- places

pub certain-below : (scope : List ℕ) (value : Bool) (changes : List NumberedChange) → All (λ n. n < length scope) (filter_map (certain_place scope value) changes)
certain-below scope value [] = All-nil (λ n. n < length scope)
certain-below scope value (c ∷ changes) =
    let P = λ (n : ℕ). n < length scope in
    let rest = certain-below scope value changes in
    elim (c.is_unconditional && beq c.value value) as (λ b. All P (cons_option (if b then place_in scope c.atom else None) (filter_map (certain_place scope value) changes))) [
      | true ↦ elim (place_in scope c.atom) as (λ o. place_in scope c.atom ≡ o → All P (cons_option o (filter_map (certain_place scope value) changes))) [
        | None ↦ λ _. rest
        | Some k ↦ λ is. All-cons P k (filter_map (certain_place scope value) changes) (place-within scope c.atom k is).0 rest
      ] refl
      | false ↦ rest
    ]

when-fits : (scope : List ℕ) (changes : List ConditionalChange) → All (FitsWhen (length scope)) (filter_map (when_in scope) changes)
when-fits scope [] = All-nil (FitsWhen (length scope))
when-fits scope (c ∷ changes) =
    let P = FitsWhen (length scope) in
    let rest = when-fits scope changes in
    elim (c.change.is_unconditional || c.requires_unnumbered) as (λ b. All P (cons_option (if b then None else option_map (λ (k : ℕ). record { place = k; value = c.change.value; condition = filter_map (placed_in scope) c.condition }) (place_in scope c.change.atom)) (filter_map (when_in scope) changes))) [
      | true ↦ rest
      | false ↦ elim (place_in scope c.change.atom) as (λ o. place_in scope c.change.atom ≡ o → All P (cons_option (option_map (λ (k : ℕ). record { place = k; value = c.change.value; condition = filter_map (placed_in scope) c.condition }) o) (filter_map (when_in scope) changes))) [
        | None ↦ λ _. rest
        | Some k ↦ λ is. All-cons P (record { place = k; value = c.change.value; condition = filter_map (placed_in scope) c.condition }) (filter_map (when_in scope) changes)
            (record { place = (place-within scope c.change.atom k is).0; condition = all-within scope c.condition }) rest
      ] refl
    ]

all-filtered : {X : Type 0} (P : X → Type 0) (p : X → Bool) (xs : List X) → All P xs → All P (filter p xs)
all-filtered P p [] all = all
all-filtered P p (x ∷ xs) all =
    let rest = all-filtered P p xs (All-tail P x xs all) in
    elim (p x) as (λ b. All P (cond b (x ∷ filter p xs) (filter p xs))) [
      | true ↦ All-cons P x (filter p xs) (All-head P x xs all) rest
      | false ↦ rest
    ]

pub changes-fit : (scope : List ℕ) (changes : List ConditionalChange) → FitsWidth (length scope) (placed_changes scope changes)
changes-fit scope changes = record {
  deletes = sym (length-set_of (length scope) (filter_map (certain_place scope false) (changes_in changes)));
  adds = sym (length-set_of (length scope) (filter_map (certain_place scope true) (changes_in changes)));
  whens = all-filtered (FitsWhen (length scope)) (λ (w : When). not (has (certain_set scope true changes) w.place)) (filter_map (when_in scope) changes) (when-fits scope changes);
}

-- ---- all changes

pub changes-in : (changes : List CountingChange) → changes_in (map conditional_of changes) ≡ map counting_of changes
changes-in [] = refl
changes-in (c ∷ changes) = ap (λ l. counting_of c ∷ l) (changes-in changes)

whens-same : (width : ℕ) (added : List ℕ) (ws : List When) → All (FitsWhen width) ws → filter (λ (w : When). not (is_among added w.place)) ws ≡ filter (λ (w : When). not (has (set_of width added) w.place)) ws
whens-same width added [] fits = refl
whens-same width added (w ∷ ws) fits =
    let rest = whens-same width added ws (All-tail (FitsWhen width) w ws fits) in
    let same = sym (has-set_of width added w.place (All-head (FitsWhen width) w ws fits).place) in
    (λ i. cond (not (same i)) (w ∷ rest i) (rest i))

pub placed-is : (scope : List ℕ) (changes : List CountingChange) (deleted added : List ℕ) (deletes adds : List Bool) (whens : List When)
    → deleted ≡ filter_map (certain_place scope false) (map counting_of changes) → added ≡ filter_map (certain_place scope true) (map counting_of changes)
    → deletes ≡ set_of (length scope) deleted → adds ≡ set_of (length scope) added → whens ≡ other_whens scope added (map conditional_of changes)
    → record { deletes = deletes; adds = adds; whens = whens } ≡ placed_changes scope (map conditional_of changes)
placed-is scope changes deleted added deletes adds whens deleted_is added_is deletes_is adds_is whens_is =
    let all = map conditional_of changes in
    let first : deletes ≡ certain_set scope false all = deletes_is ∙ ap (set_of (length scope)) (deleted_is ∙ ap (filter_map (certain_place scope false)) (sym (changes-in changes))) in
    let added_all : set_of (length scope) added ≡ certain_set scope true all = ap (set_of (length scope)) (added_is ∙ ap (filter_map (certain_place scope true)) (sym (changes-in changes))) in
    let rest : whens ≡ whens_in scope all =
    whens_is ∙ whens-same (length scope) added (filter_map (when_in scope) all) (when-fits scope all) ∙ ap (λ s. filter (λ (w : When). not (has s w.place)) (filter_map (when_in scope) all)) added_all in
    (λ i. record { deletes = first i; adds = (adds_is ∙ added_all) i; whens = rest i })

pub all-plain : (changes : List CountingChange) → list_all is_plain (map conditional_of changes) ≡ true
all-plain [] = refl
all-plain (c ∷ changes) =
    let rest = all-plain changes in
    elim c.condition as (λ o. (is_plain (conditional_of (record c { condition = o })) && list_all is_plain (map conditional_of changes)) ≡ true) [
      | None ↦ rest
      | Some under ↦ rest
    ]
