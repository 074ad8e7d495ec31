-- The plan of the numbers of kept instances: the instances, one by one, and what it does.
use Rattle.std.proofs.Common.{◌≡◌, ◌∙◌, ℕ, ◌+◌, ◌<◌, List, [], ◌∷◌, ◌++◌, length, map, take, get_or, Some, sym, ap, subst, arith}
use Rattle.std.specs.Prelude.{All, IsTrue, slice_get}
use Rattle.std.specs.List.{AllZip}
use Rattle.std.specs.Option.{option_map}
use Rattle.std.proofs.lemmas.List.{length-map, take_more, map-append}
use Rattle.std.proofs.lemmas.Option.{slice_get-map}
use Rattle.std.proofs.lemmas.Slice.Zip.{AllZip-long}
use Rattle.task.specs.TaskParts.{object_of}
use Rattle.formulas.specs.declared.instance.Instance as code
use Rattle.formulas.specs.State.{instance_of}
use Rattle.search_spaces.specs.Plans.{IsCarriedOut}
use Rattle.model.specs.Task.{Task, Instance, Atom}
use Rattle.model.specs.Runs.{Solves}
use Rattle.model.specs.Meaning.{system_of}
use Rattle.model.specs.Fluents.{is_fluent}
use Rattle.model.specs.StaticallyFalse.{kept_instances}
use Rattle.model.specs.NumberedAtoms.{numbered_atoms}
use Rattle.model.specs.Bisimulation.{IsBisimulation}
use Rattle.model.specs.Grounding.{ground_system, StandsFor, NamesKept}
use Rattle.model.proofs.BisimulationLemmas.{same_cost, solves_forth}
use Rattle.model.proofs.GroundTaskLemmas.{ground_task_is_bisimilar}
use Rattle.search_spaces.proofs.GroundLemmas.{numbers_named, one_named}

-- ---- the instances

zip_push : {A B : Type 0} (R : A → B → Type 0) (xs : List A) (ys : List B) (x : A) (y : B) → AllZip R xs ys → R x y → AllZip R (xs ++ x ∷ []) (ys ++ y ∷ [])
zip_push R [] [] x y all here = (here, tt)
zip_push R [] (z ∷ ys) x y all here = absurd (all)
zip_push R (z ∷ xs) [] x y all here = absurd (all)
zip_push R (a ∷ xs) (b ∷ ys) x y all here = (all.0, zip_push R xs ys x y all.1 here)

pub named_next : (steps new : List code.Instance) (one : code.Instance) (task : Task) (numbers : List ℕ) (i d : ℕ) → i < length numbers → AllZip (NamesKept task) (take i numbers) (map instance_of steps)
    → new ≡ steps ++ one ∷ [] → NamesKept task (get_or numbers i d) (instance_of one) → AllZip (NamesKept task) (take (i + 1) numbers) (map instance_of new)
named_next steps new one task numbers i d below so_far pushed here =
    let first = take_more numbers i d below in
    let second = ap (map instance_of) pushed ∙ map-append instance_of steps (one ∷ []) in
    subst (λ (ns : List ℕ). AllZip (NamesKept task) ns (map instance_of new)) (sym first)
    (subst (λ (l : List Instance). AllZip (NamesKept task) (take i numbers ++ get_or numbers i d ∷ []) l) (sym second)
    (zip_push (NamesKept task) (take i numbers) (map instance_of steps) (get_or numbers i d) (instance_of one) so_far here))

-- the instance that has the number
pub names_kept : (task : Task) (instances : List code.Instance) (n : ℕ) (there one : code.Instance) → map instance_of instances ≡ kept_instances task → slice_get instances n ≡ Some there
    → one.schema ≡ there.schema → one.objects.items ≡ there.objects.items → NamesKept task n (instance_of one)
names_kept task instances n there one kept at schema objects =
    ap (λ (l : List Instance). slice_get l n) (sym kept)
    ∙ slice_get-map instance_of instances n
    ∙ ap (option_map instance_of) at
    ∙ (λ i. Some (record { schema = (sym schema i).0; objects = map object_of (sym objects i) }))

-- ---- a plan of the ground task

module _ (task : Task) (atoms : List Atom) (numbered : atoms ≡ numbered_atoms task []) where
  abbrev none_more : All (λ (a : Atom). IsTrue (is_fluent task a.predicate)) []
  none_more = λ k d below. absurd (omega (arith, below))

  abbrev both : (l : List Atom) → l ≡ numbered_atoms task [] → IsBisimulation (ground_system task l) (system_of task) (StandsFor task l) (NamesKept task)
  both l is = subst (λ (m : List Atom). IsBisimulation (ground_system task m) (system_of task) (StandsFor task m) (NamesKept task)) (sym is) (ground_task_is_bisimilar task [] none_more)

  -- the numbers of a list that solves are those of kept instances
  pub plan_named : (numbers : List ℕ) → Solves (ground_system task atoms) numbers → All (λ (n : ℕ). n < length (kept_instances task)) numbers
  plan_named numbers solves =
      let other = solves_forth (ground_system task atoms) (system_of task) (StandsFor task atoms) (NamesKept task) (both atoms numbered) numbers solves in
      numbers_named task numbers other.0 other.1

  -- and these are carried out as they are
  pub plan_carried_out : (numbers : List ℕ) (plan : List Instance) → AllZip (NamesKept task) numbers plan → IsCarriedOut (ground_system task atoms) (system_of task) numbers plan
  plan_carried_out numbers plan named = record {
    solves = λ solves.
        let other = solves_forth (ground_system task atoms) (system_of task) (StandsFor task atoms) (NamesKept task) (both atoms numbered) numbers solves in
        subst (λ (p : List Instance). Solves (system_of task) p) (one_named task numbers other.0 plan other.1 named) other.2;
    cost = sym (same_cost (ground_system task atoms) (system_of task) (StandsFor task atoms) (NamesKept task) (both atoms numbered) numbers plan named);
  }

-- as many instances as numbers
pub plan_length : (task : Task) (numbers : List ℕ) (plan : List code.Instance) → AllZip (NamesKept task) numbers (map instance_of plan) → length plan ≡ length numbers
plan_length task numbers plan named = sym (length-map plan instance_of) ∙ AllZip-long (NamesKept task) numbers (map instance_of plan) named
