-- The listed faults are faults of the pair.
use Rattle.std.proofs.Common.{◌≡◌, ◌∙◌, ℕ, Some, List, [], ◌∷◌, ◌++◌, drop, map, take, Contains, ◌⊎◌, inl, inr, refl, sym, ap, subst}
use Rattle.std.specs.Prelude.{slice_get}
use Rattle.std.proofs.lemmas.List.{take-append-drop}
use Rattle.std.proofs.lemmas.List.Elements.{All-contains_itself, Contains-append_cases, Contains-append_left}
use Rattle.std.proofs.lemmas.List.Sorted.{All-permutation}
use Rattle.typing.specs.Refusals.{TaskRefusal, refusal_of}
use Rattle.typing.specs.Declarations.{declared_faults, type_faults_of}
use Rattle.typing.specs.DeclaredObjects.{AreObjects, AreObjectsOf}
use Rattle.typing.specs.Listed.{AreFaultsOf, AreListed, faults_listed, use_faults}
use Rattle.typing.specs.declared.names.DeclaredObjects.{DeclaredObjects}
use Rattle.typing.proofs.Tasks.{first_filled-append}
use Rattle.model.specs.Task.{Name}
use Rattle.model.specs.Trees.{Domain, Problem, problem_file}
use Rattle.model.specs.Typing.{IsFaultOf, TypingFault, action_faults, cycle_faults, declaration_faults, declared_constants, declared_objects, domain_name_faults, first_filled, function_faults, init_faults, known_in_domain, known_in_problem, object_faults, object_in, objects_faults, phases, type_declaration_faults, type_names}
use Rattle.model.proofs.ListLemmas.{Contains-got, Contains-map, Contains-none}

-- ---- the objects

pub no_object : {ns : List Name} {d : Domain} {p : Problem} {o : DeclaredObjects} → AreObjects ns d p o → ns ≡ type_names d → object_faults d p ≡ []
no_object {d = d} {p = p} are same = sym (ap (λ ns. objects_faults ns (declared_objects d p)) same) ∙ are.right

pub objects_named : {ns : List Name} {d : Domain} {p : Problem} {o : DeclaredObjects} → AreObjects ns d p o → ns ≡ type_names d → AreObjectsOf d p o
objects_named {d = d} {p = p} are same = record {
  constants = are.constants ∙ ap (λ ns. map (object_in ns) (declared_constants d)) same;
  all = are.all ∙ ap (λ ns. map (object_in ns) (declared_objects d p)) same;
}

-- ---- the phases

-- the listed faults: those of the declarations, and of what uses them
pub listed_by_parts : (d : Domain) (p : Problem) → faults_listed d p ≡ first_filled (declared_faults d p ∷ use_faults d p ∷ [])
listed_by_parts d p = first_filled-append (type_faults_of d p ∷ object_faults d p ∷ declaration_faults (type_names d) d.predicates ∷ function_faults d p ∷ []) (use_faults d p ∷ [])

module _ (d : Domain) (p : Problem) where
  -- a fault of the phase at this place
  fault_at : (place : ℕ) (faults : List TypingFault) → slice_get (phases d p) place ≡ Some faults → (f : TypingFault) → Contains faults f → IsFaultOf d p f
  fault_at place faults at f here = (faults, Contains-got (phases d p) place faults at, here)

  -- or of one of the three phases of uses
  use_fault : (f : TypingFault) → Contains (use_faults d p) f → IsFaultOf d p f
  use_fault f at =
      elim (Contains-append_cases (action_faults (known_in_domain d) d.actions) _ f at) [
        | inl here ↦ fault_at 5 _ refl f here
        | inr later ↦
            elim (Contains-append_cases (init_faults problem_file (known_in_problem d p) p.init) _ f later) [
              | inl here ↦ fault_at 6 _ refl f here
              | inr here ↦ fault_at 7 _ refl f here
            ]
      ]

  -- a fault of the first list that has any
  in_filled : (faults : List TypingFault) (later : List (List TypingFault)) (f : TypingFault) → Contains (first_filled (faults ∷ later)) f → Contains faults f ⊎ Contains (first_filled later) f
  in_filled [] later f at = inr at
  in_filled (g ∷ faults) later f at = inl at

  either : (faults : List TypingFault) (later : List (List TypingFault)) → ((f : TypingFault) → Contains faults f → IsFaultOf d p f) → ((f : TypingFault) → Contains (first_filled later) f → IsFaultOf d p f)
      → (f : TypingFault) → Contains (first_filled (faults ∷ later)) f → IsFaultOf d p f
  either faults later here there f at = elim (in_filled faults later f at) [ inl first ↦ here f first | inr second ↦ there f second ]

  nowhere : (f : TypingFault) → Contains (first_filled []) f → IsFaultOf d p f
  nowhere f at = absurd (Contains-none f at)

  type_fault : (f : TypingFault) → Contains (type_faults_of d p) f → IsFaultOf d p f
  type_fault = either (domain_name_faults d p ++ type_declaration_faults d) (cycle_faults d ∷ []) (fault_at 0 _ refl) (either (cycle_faults d) [] (fault_at 1 _ refl) nowhere)

  each_fault : (f : TypingFault) → Contains (faults_listed d p) f → IsFaultOf d p f
  each_fault =
      either (type_faults_of d p) _ type_fault
      (either (object_faults d p) _ (fault_at 2 _ refl)
      (either (declaration_faults (type_names d) d.predicates) _ (fault_at 3 _ refl)
      (either (function_faults d p) _ (fault_at 4 _ refl)
      (either (use_faults d p) [] use_fault nowhere))))

  pub are_faults : (listed : List TaskRefusal) → AreListed (faults_listed d p) listed → AreFaultsOf d p listed
  are_faults listed are =
      All-permutation (λ r. IsFaultOf d p (refusal_of r)) are.found listed are.ordered
      (λ k r below. each _ (All-contains_itself are.found k r below))
    where
      each : (r : TaskRefusal) → Contains are.found r → IsFaultOf d p (refusal_of r)
      each r at =
          let taken : Contains (take 1000 (faults_listed d p)) (refusal_of r) = subst (λ l. Contains l (refusal_of r)) are.are (Contains-map refusal_of are.found r at) in
          each_fault (refusal_of r)
          (subst (λ l. Contains l (refusal_of r)) (take-append-drop 1000 (faults_listed d p)) (Contains-append_left (take 1000 (faults_listed d p)) (drop 1000 (faults_listed d p)) (refusal_of r) taken))
