-- The classes that are noted for states, as a key is added and as one state more is noted.
use Rattle.std.proofs.Common.{◌≡◌, ◌∙◌, ◌⊎◌, inl, inr, ℕ, Bool, List, [], ◌∷◌, ◌++◌, Some, sym, ap, subst, arith}
use Rattle.std.specs.Prelude.{slice_get}
use Rattle.std.proofs.lemmas.Option.{slice_get_within}
use Rattle.search.proofs.Lists.{get-push_other}
use Rattle.search_spaces.specs.declared.recent.RecentStates.{RecentStates}
use Rattle.search_spaces.specs.RecentStates.{IsNoted, AreNotedByKeys}

-- what is noted is what was noted, or this class for this state
abbrev pub IsOneMore : RecentStates → RecentStates → List Bool → ℕ → Type 0
IsOneMore old new s class = (other : List Bool) (k : ℕ) → IsNoted new other k → IsNoted old other k ⊎ ((other ≡ s) × (k ≡ class))

module _ (key_of : List Bool → List Bool) (keys : List (List Bool)) (old new : RecentStates) (s : List Bool) (class : ℕ) (known : AreNotedByKeys key_of keys old) (before : IsOneMore old new s class) where
  pub noted_more : slice_get keys class ≡ Some (key_of s) → AreNotedByKeys key_of keys new
  noted_more at = λ other k noted.
      elim (before other k noted) [
        | inl was ↦ known other k was
        | inr is ↦ ap (slice_get keys) is.1 ∙ at ∙ ap (λ x. Some (key_of x)) (sym is.0)
      ]

-- a key that is added comes after those that are noted
noted_still : (key_of : List Bool → List Bool) (keys : List (List Bool)) (recent : RecentStates) (key : List Bool) → AreNotedByKeys key_of keys recent → AreNotedByKeys key_of (keys ++ key ∷ []) recent
noted_still key_of keys recent key known = λ s class noted.
    let at = known s class noted in
    let within = slice_get_within keys class (key_of s) at in
    get-push_other keys key class (λ e. absurd (omega (arith, within, e))) ∙ at

pub noted_begun : (key_of : List Bool → List Bool) (keys keys' : List (List Bool)) (old new : RecentStates) (s : List Bool) (class : ℕ) → AreNotedByKeys key_of keys old → IsOneMore old new s class
    → keys' ≡ keys ++ key_of s ∷ [] → slice_get keys' class ≡ Some (key_of s) → AreNotedByKeys key_of keys' new
noted_begun key_of keys keys' old new s class known before added at =
    noted_more key_of keys' old new s class (subst (λ (xs : List (List Bool)). AreNotedByKeys key_of xs old) (sym added) (noted_still key_of keys old (key_of s) known)) before at
