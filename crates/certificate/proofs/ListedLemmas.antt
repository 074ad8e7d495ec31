-- Lines, and the marks and sets stored for them.
use Rattle.std.proofs.Common.{◌≡◌, ℕ, ◌+◌, ◌<◌, ◌≤◌, Bool, true, false, List, [], ◌∷◌, ◌++◌, get_or, map, take, length, Some, refl, sym, ap, ◌∙◌, subst, arith}
use Rattle.std.specs.Prelude.{IsTrue, All, Contains, slice_get}
use Rattle.std.specs.Option.{option_map}
use Rattle.std.proofs.lemmas.List.{get_or-take, length-take-le, map-append, take_all, take_more}
use Rattle.std.proofs.lemmas.List.Elements.{All-contains, All-tail, All-take}
use Rattle.std.proofs.lemmas.Option.{get_or_from_slice_get, slice_get-get_or, slice_get-map}
use Rattle.packed_state.specs.Sets.{set_of}
use Rattle.packed_state.specs.Store.{AreDistinct, IsPlaced}
use Rattle.certificate_definitions.specs.Certificates.{StateLine, rise}
use Rattle.model.proofs.ListLemmas.{Contains-got, Contains-here, map-Contains}
use Rattle.certificate.specs.ListedSets.{lines_with, marked}
use Rattle.certificate.specs.Listing.{ListOnce}
use Rattle.certificate.proofs.SetsLemmas.{numbers_back, one_set}

-- what was put into a store of the old sets, or found there
pub not_there : {X : Type 0} (old new : List X) (x y : X) (place : ℕ) → x ≡ y → IsPlaced old new x place true → (Contains old y → ⊥) × (new ≡ old ++ y ∷ [])
not_there old new x y place same (absent, pushed, at) = (λ among. absent (subst (Contains old) (sym same) among), pushed ∙ ap (λ z. old ++ z ∷ []) same)

pub found_there : {X : Type 0} (old new : List X) (x y : X) (place : ℕ) → x ≡ y → IsPlaced old new x place false → Contains old y
found_there old new x y place same (there, kept) = subst (Contains old) same (Contains-got old place x there)

module _ (width : ℕ) where
  abbrev pub set_at : StateLine → List Bool
  set_at line = set_of width line.atoms

  abbrev pub IsRising : StateLine → Type 0
  IsRising line = IsTrue (rise width 0 line.atoms)

  -- the lines are those of their marks and their sets
  pub lines_back : (lines : List StateLine) → All IsRising lines → lines_with (map marked lines) (map set_at lines) ≡ lines
  lines_back [] rising = refl
  lines_back (line ∷ lines) rising =
      let here = numbers_back width line.atoms (All-contains IsRising (line ∷ lines) line rising (Contains-here line lines)) in
      λ i. record { cost = line.cost; mark = line.mark; atoms = here i } ∷ lines_back lines (All-tail IsRising line lines rising) i

  -- if no two of their sets are equal, no state is listed twice
  pub once_by_sets : (lines : List StateLine) → AreDistinct (map set_at lines) → ListOnce lines
  once_by_sets lines distinct j k d earlier within same =
      let there : slice_get (map set_at lines) j ≡ Some (set_at (get_or lines j d)) = slice_get-map set_at lines j ∙ ap (option_map set_at) (slice_get-get_or lines j d (omega (arith, earlier, within))) in
      let again : slice_get (map set_at lines) k ≡ Some (set_at (get_or lines j d)) =
      slice_get-map set_at lines k ∙ ap (option_map set_at) (slice_get-get_or lines k d within) ∙ ap (λ atoms. Some (set_of width atoms)) (sym same) in
      omega (arith, earlier, distinct j k (set_at (get_or lines j d)) there again)

  module _ (lines : List StateLine) (i : ℕ) (line : StateLine) (within : i < length lines) (is : get_or lines i line ≡ line) where
    -- a line whose set is among those of earlier lines lists one of their states
    pub listed_twice : All IsRising lines → Contains (map set_at (take i lines)) (set_at line) → ListOnce lines → ⊥
    listed_twice rising there once =
        let (m, occurs, same) = map-Contains set_at (take i lines) (set_at line) there in
        let j = occurs.0 in
        let few : length (take i lines) ≡ i = length-take-le i lines (omega (arith, within)) in
        let earlier : j < i = omega (arith, occurs.1, few) in
        let first : get_or lines j m ≡ m = sym (get_or-take i lines j m earlier) ∙ occurs.2 in
        let at : slice_get lines i ≡ Some line = slice_get-get_or lines i line within ∙ ap (λ l. Some l) is in
        let second : get_or lines i m ≡ line = get_or_from_slice_get lines i line m at in
        let one = one_set width m.atoms line.atoms (All-contains IsRising (take i lines) m (All-take IsRising i lines rising) occurs) (All-contains IsRising lines line rising (Contains-got lines i line at)) same in
        once j i m earlier within (ap (λ (l : StateLine). l.atoms) first ∙ one ∙ ap (λ (l : StateLine). l.atoms) (sym second))

    -- one more line
    pub taken_more : {Y : Type 0} (f : StateLine → Y) (old new : List Y) → old ≡ map f (take i lines) → new ≡ old ++ f line ∷ [] → new ≡ map f (take (i + 1) lines)
    taken_more f old new so_far more =
        more ∙ ap (λ ys. ys ++ f line ∷ []) so_far ∙ sym (map-append f (take i lines) (line ∷ []))
        ∙ ap (map f) (ap (λ l. take i lines ++ l ∷ []) (sym is) ∙ sym (take_more lines i line within))

  -- all of them
  pub taken_all : {Y : Type 0} (f : StateLine → Y) (ys : List Y) (lines : List StateLine) (i : ℕ) → length lines ≤ i → ys ≡ map f (take i lines) → ys ≡ map f lines
  taken_all f ys lines i past are = are ∙ ap (map f) (take_all i lines past)
