-- The parts of effects as lists: what they resolve to, and the faults found in them.
use Rattle.std.proofs.Common.{◌≡◌, List, [], ◌∷◌, ◌++◌, map, refl, sym, ap, ◌∙◌}
use Rattle.std.specs.Global.{Vec}
use Rattle.std.specs.List.{flat_map}
use mathlib.Core.Former.{Count}
use Rattle.task.specs.declared.schemas.Effect.{Effect, Row_of-Effect, end_of-Effect, more_of-Effect, items-the_row-Effect, items_hidden-the_row-Effect-0}
use Rattle.task.specs.declared.schemas.Effect as effect
use Rattle.pddl_tree.specs.declared.tree.Effect as read_effect
use Rattle.pddl_tree.specs.Tree as read
use Rattle.pddl_tree.proofs.Rows as rows
use Rattle.task.specs.TaskParts.{effect_of, effects_of}
use Rattle.model.specs.Task as task
use Rattle.model.specs.Trees.{TaskFile, effects}
use Rattle.model.specs.Typing.{Known, effect_in, effects_in, effect_faults, effects_faults, each_of}
use Rattle.typing.specs.Walk.{Findings, found}

abbrev pub joined_effects : List task.Effect → task.Effects
joined_effects [] = task.no_effect
joined_effects (part ∷ rest) = task.more_effects part (joined_effects rest)

effects_row : (n : _) (row : Row_of-Effect n) → effects_of row ≡ joined_effects (map effect_of (items-the_row-Effect n row))
effects_row n end_of-Effect = refl
effects_row n (more_of-Effect part rest) = ap (task.more_effects (effect_of part)) (effects_row _ rest)

abbrev effect_row : Effect → (n : Count) × Row_of-Effect n
effect_row (effect.And' _ row) = (_, row)
effect_row _ = (_, end_of-Effect)

effect_of-And : (parts : Vec Effect) → effect_of (effect.And parts) ≡ task.both (joined_effects (map effect_of parts.items))
effect_of-And parts =
    let row = effect_row (effect.And parts) in
    ap task.both (effects_row row.0 row.1 ∙ ap (λ items. joined_effects (map effect_of items)) (items_hidden-the_row-Effect-0 parts))

effects_in-joined : (file : TaskFile) (known : Known) (parts : List read_effect.Effect)
    → effects_in file known (effects (map read.effect_of parts)) ≡ joined_effects (map (λ x. effect_in file known (read.effect_of x)) parts)
effects_in-joined file known [] = refl
effects_in-joined file known (part ∷ rest) = ap (task.more_effects (effect_in file known (read.effect_of part))) (effects_in-joined file known rest)

effects_faults-joined : (file : TaskFile) (known : Known) (parts : List read_effect.Effect) → effects_faults file known (effects (map read.effect_of parts)) ≡ flat_map (λ x. effect_faults file known (read.effect_of x)) parts
effects_faults-joined file known [] = refl
effects_faults-joined file known (part ∷ rest) = ap (λ faults. effect_faults file known (read.effect_of part) ++ faults) (effects_faults-joined file known rest)

-- several effects resolve to the list of the resolved parts, and have the faults of each
module _ (file : TaskFile) (known : Known) (whole : read_effect.Effect) (parts : Vec read_effect.Effect) (items : List read_effect.Effect) (same : items ≡ parts.items) (is : whole ≡ read_effect.And parts) where
  pub both_by_parts : (resolved : Vec Effect) → map effect_of resolved.items ≡ map (λ x. effect_in file known (read.effect_of x)) items
      → effect_of (effect.And resolved) ≡ effect_in file known (read.effect_of whole)
  both_by_parts resolved are =
      effect_of-And resolved
      ∙ ap task.both (ap joined_effects (are ∙ ap (map (λ x. effect_in file known (read.effect_of x))) same) ∙ sym (effects_in-joined file known parts.items))
      ∙ ap (effect_in file known) (sym (ap read.effect_of is ∙ rows.effect_of-And parts))

  pub both_faults_by_parts : (least before : Findings) → least ≡ found before (flat_map (λ x. effect_faults file known (read.effect_of x)) items)
      → least ≡ found before (effect_faults file known (read.effect_of whole))
  both_faults_by_parts least before finds =
      finds ∙ ap (λ ys. found before (flat_map (λ x. effect_faults file known (read.effect_of x)) ys)) same
      ∙ ap (found before) (sym (effects_faults-joined file known parts.items))
      ∙ ap (λ e. found before (effect_faults file known e)) (sym (ap read.effect_of is ∙ rows.effect_of-And parts))

-- one more `forall`, inside the others
pub each_of-push : (us : List task.Union) (u : task.Union) (part : task.Effect) → each_of (us ++ u ∷ []) part ≡ each_of us (task.each u part)
each_of-push [] u part = refl
each_of-push (v ∷ us) u part = ap (task.each v) (each_of-push us u part)
