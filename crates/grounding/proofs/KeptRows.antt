-- The kept changes of one instance after another, cut off from all.
use Rattle.std.proofs.Common.{◌≡◌, ◌∙◌, ℕ, ◌<◌, ◌≤◌, ◌+◌, List, [], ◌++◌, length, length-append, map, take, drop, get_or, Some, sym, ap, arith}
use Rattle.std.specs.Prelude.{slice_get}
use Rattle.std.specs.List.{flat_map}
use Rattle.std.proofs.Math.Seq.{take-append_seam, drop-append_seam}
use Rattle.std.proofs.lemmas.List.{length-map, get_or-map, take-map, drop-map}
use Rattle.std.proofs.lemmas.Option.{slice_get-get_or}
use Rattle.model.specs.Task.{Task, Atom, Instance}
use Rattle.model.proofs.ListLemmas.{drop-here}
use Rattle.grounding_instances.specs.declared.changes.NumberedChange.{NumberedChange}
use Rattle.grounding_instances.specs.KeptChanges.{effect_of}
use Rattle.grounding.specs.NumberedEffects.{NumberedEffect, effects_of_instance}

-- a list in two parts, cut after the first `n` items: the first part, and the rest
cut-first : {X : Type 0} (n : ℕ) (first rest : List X) → n ≡ length first → take n (first ++ rest) ≡ first
cut-first n first rest is = ap (λ k. take k (first ++ rest)) is ∙ take-append_seam first rest

cut-rest : {X : Type 0} (n : ℕ) (first rest : List X) → n ≡ length first → drop n (first ++ rest) ≡ rest
cut-rest n first rest is = ap (λ k. drop k (first ++ rest)) is ∙ drop-append_seam first rest

module _ (t : Task) (atoms : List Atom) (instances : List Instance) (counts : List ℕ) (are : counts ≡ map (λ (i : Instance). length (effects_of_instance t atoms i)) instances)
    (k : ℕ) (below : k < length counts) (left : List NumberedChange) (is : map effect_of left ≡ flat_map (effects_of_instance t atoms) (drop k instances)) where
  abbrev anything : Instance
  anything = record { schema = 0; objects = [] }

  abbrev pub one : Instance
  one = get_or instances k anything

  within : k < length instances
  within = omega (arith, below, ap length are, length-map instances (λ (i : Instance). length (effects_of_instance t atoms i)))

  pub one-at : slice_get instances k ≡ Some one
  one-at = slice_get-get_or instances k anything within

  abbrev pub effects : List NumberedEffect
  effects = effects_of_instance t atoms one

  abbrev pub rest : List NumberedEffect
  rest = flat_map (effects_of_instance t atoms) (drop (k + 1) instances)

  split : map effect_of left ≡ effects ++ rest
  split = is ∙ ap (flat_map (effects_of_instance t atoms)) (drop-here instances k one one-at)

  counted : get_or counts k 0 ≡ length effects
  counted = ap (λ (l : List ℕ). get_or l k 0) are ∙ get_or-map (λ (i : Instance). length (effects_of_instance t atoms i)) instances k anything 0 within

  pub enough : get_or counts k 0 ≤ length left
  enough = omega (arith, counted, ap length split, length-append effects rest, length-map left effect_of)

  pub first-is : map effect_of (take (get_or counts k 0) left) ≡ effects
  first-is = sym (take-map effect_of (get_or counts k 0) left) ∙ ap (take (get_or counts k 0)) split ∙ cut-first (get_or counts k 0) effects rest counted

  pub rest-is : map effect_of (drop (get_or counts k 0) left) ≡ rest
  rest-is = sym (drop-map effect_of (get_or counts k 0) left) ∙ ap (drop (get_or counts k 0)) split ∙ cut-rest (get_or counts k 0) effects rest counted
