-- An exchange permutes the objects of each type, so a test of all, or of some, may be applied to the images.
use Rattle.std.proofs.Common.{◌≡◌, ◌∙◌, ℕ, Bool, true, false, not, length, Option, None, Some, refl, sym, ap, arith}
use Rattle.std.specs.Prelude.{slice_get}
use Rattle.std.specs.List.{list_all, list_any, range_with_len}
use Rattle.std.specs.Option.{option_map, option_map_or}
use Rattle.model.specs.Task.{Object, Union, Task}
use Rattle.model.specs.Meaning.{is_below, is_of, objects_of}
use Rattle.model.proofs.ListLemmas.{Contains-filter, filter-Contains, Contains-range}
use Rattle.model.proofs.InstancesLemmas.{is_of-within}
use Rattle.symmetries_definitions.specs.Symmetries.{IsSymmetry}
use Rattle.symmetries_definitions.proofs.Lists.{tests_alike, any-at, any-found, all-none_fails}

of_type : (task : Task) (types : Union) (found : Option Object)
    → option_map_or (λ (o : Object). is_below task types o.type) found false ≡ option_map_or (is_below task types) (option_map (λ (o : Object). o.type) found) false
of_type task types None = refl
of_type task types (Some o) = refl

module _ (task : Task) (to : ℕ → ℕ) (symmetry : IsSymmetry task to) where
  pub is_of-image : (types : Union) (o : ℕ) → is_of task types (to o) ≡ is_of task types o
  is_of-image types o =
      of_type task types (slice_get task.objects (to o))
      ∙ ap (λ t. option_map_or (is_below task types) t false) (symmetry.types o)
      ∙ sym (of_type task types (slice_get task.objects o))

  some_goes : (types : Union) (p q : ℕ → Bool) → ((o : ℕ) → q (to o) ≡ p o) → list_any p (objects_of task types) ≡ true → list_any q (objects_of task types) ≡ true
  some_goes types p q same is =
      let one = any-found p (objects_of task types) is in
      let of : is_of task types (to one.0) ≡ true =
      is_of-image types one.0 ∙ (filter-Contains (is_of task types) (range_with_len 0 (length task.objects)) one.0 one.1).1 in
      any-at q (objects_of task types) (to one.0)
      (Contains-filter (is_of task types) (range_with_len 0 (length task.objects)) (to one.0)
      (Contains-range 0 (length task.objects) (to one.0) (omega arith) (omega (arith, is_of-within task types (to one.0) of))) of)
      (same one.0 ∙ one.2)

  pub some_object : (types : Union) (p q : ℕ → Bool) → ((o : ℕ) → q (to o) ≡ p o) → list_any q (objects_of task types) ≡ list_any p (objects_of task types)
  some_object types p q same =
      tests_alike (list_any q (objects_of task types)) (list_any p (objects_of task types))
      (some_goes types q p (λ o. sym (same (to o)) ∙ ap q (symmetry.both_ways o)))
      (some_goes types p q same)

  pub each_object : (types : Union) (p q : ℕ → Bool) → ((o : ℕ) → q (to o) ≡ p o) → list_all q (objects_of task types) ≡ list_all p (objects_of task types)
  each_object types p q same =
      all-none_fails q (objects_of task types)
      ∙ ap not (some_object types (λ o. not (p o)) (λ o. not (q o)) (λ o. ap not (same o)))
      ∙ sym (all-none_fails p (objects_of task types))
