-- What each instance needs that adds one of some atoms.
use Rattle.std.proofs.Common.{arith, ◌≡◌, ◌∙◌, ℕ, ◌+◌, ◌<◌, ◌≤◌, Bool, true, false, true≢false, inl, inr, List, [], Some, refl, sym, ap, subst, length}
use Rattle.faults.specs.declared.refused.NoMemory.{NoMemory}
use Rattle.explain_goals.specs.declared.needs.Needs.{Needs}
use Rattle.explain_goals.specs.declared.needs.Needs.TheVariants.{Added, Unreported}
use Rattle.std.specs.Prelude.{◌==◌, ◌⊎◌, IfOk, Result, Ok, Err, Contains, slice_get}
use Rattle.std.specs.List.{list_any}
use Rattle.std.specs.Option.{option_map_or}
use Rattle.std.specs.Ordering.{eq_by_cmp}
use Rattle.std.specs.FinSet.{contains, insert, empty, contains-insert, contains-empty}
use Rattle.std.proofs.lemmas.Bool.{or_cases, or_left, or_right, eqb-true, eq-eqb}
use Rattle.std.proofs.lemmas.List.Elements.{Contains-append_left}
use Rattle.std.proofs.lemmas.Option.{slice_get_within}
use Rattle.grounding.specs.Ground.{atoms_in, task_in}
use Rattle.model.specs.Task.{Atom, Task, Instance}
use Rattle.model.specs.Meaning.{State, atom_cmp}
use Rattle.model.specs.SureLiterals.{is_true, sure}
use Rattle.model.specs.NumberedAtoms.{numbered_atoms}
use Rattle.model.specs.StaticallyFalse.{kept_instances}
use Rattle.model.specs.ConditionalChanges.{conditional_of_instance, conditional_of_number}
use Rattle.model.proofs.Atoms.{atoms_total}
use Rattle.model.proofs.ListLemmas.{Contains-place}
use Rattle.model.proofs.NumberingLemmas.{got-number_of, same_itself}
use Rattle.model.proofs.StaticLemmas.{none_of_all, same_atom}
use Rattle.explain_goals.specs.declared.relaxation.Relaxation.{Relaxation}
use Rattle.explain_goals.specs.Chains.{InstanceNeedsOneOf, NeedOneOf}
use Rattle.explain_goals.specs.Needed.{AreOut, IsNeedAdded, IsAnswered, AreAnsweredBelow, WhenAdded, is_adding}
use Rattle.explain_goals.specs.Relaxation.{sure_of_instance}
use Rattle.explain_goals.specs.Views.{is_out}
use Rattle.explain_goals.proofs.SettledLemmas.{added-number, added-conditional, added-among}

-- an atom of a set to which one is added
pub in-inserted : (s : State) (b a : Atom) → contains s a ≡ true → contains (insert s b) a ≡ true
in-inserted s b a there = contains-insert atoms_total s b a ∙ or_right (eq_by_cmp atom_cmp a b) (contains s a) there

pub in-inserted_itself : (s : State) (b : Atom) → contains (insert s b) b ≡ true
in-inserted_itself s b = contains-insert atoms_total s b b ∙ or_left (eq_by_cmp atom_cmp b b) (contains s b) (same_itself b)

pub inserted-cases : (s : State) (b a : Atom) → contains (insert s b) a ≡ true → (a ≡ b) ⊎ (contains s a ≡ true)
inserted-cases s b a there =
    elim (or_cases (eq_by_cmp atom_cmp a b) (contains s a) (sym (contains-insert atoms_total s b a) ∙ there)) [
      | inl same ↦ inl (same_atom a b same)
      | inr before ↦ inr before
    ]

pub none-out : (r : Relaxation) → AreOut r empty
none-out r a there = absurd (true≢false (sym there ∙ contains-empty atom_cmp a))

module _ (r : Relaxation) (added : State) (number : ℕ) where
  abbrev task : Task
  task = task_in r.ground.now

  abbrev atoms : List Atom
  atoms = atoms_in r.ground.now

  -- an instance that adds none of the atoms
  pub answered-unasked : (s : State) → atoms ≡ numbered_atoms task [] → list_any (is_adding atoms added) (conditional_of_number task atoms number) ≡ false → IsAnswered r added number s s
  answered-unasked s numbered none = record {
    keeps = λ a there. there;
    out = λ out. out;
    needs = λ i named c a there by.
        let cc = added-conditional task i c a by in
        let at = Contains-place (conditional_of_instance task (numbered_atoms task []) i) cc (added-among task i c a by) in
        let listed : list_any (is_adding (numbered_atoms task []) added) (conditional_of_instance task (numbered_atoms task []) i) ≡ false =
        ap (λ o. list_any (is_adding (numbered_atoms task []) added) (option_map_or (conditional_of_instance task (numbered_atoms task [])) o [])) (sym named)
        ∙ ap (λ l. list_any (is_adding l added) (conditional_of_number task l number)) (sym numbered) ∙ none in
        let not_so = none_of_all (is_adding (numbered_atoms task []) added) (conditional_of_instance task (numbered_atoms task []) i) at.0 cc listed at.1 in
        let so : is_adding (numbered_atoms task []) added cc ≡ true =
        ap (λ o. option_map_or (contains added) o false) (got-number_of (numbered_atoms task []) a (added-number task i c a by).0 (added-number task i c a by).1) ∙ there in
        absurd (true≢false (sym so ∙ not_so));
  }

  -- one whose precondition needs the atom that was added
  pub answered-needed : (i : Instance) (old new : State) → slice_get (kept_instances task) number ≡ Some i → IsNeedAdded r (sure_of_instance task i) old new → IsAnswered r added number old new
  answered-needed i old new named need = record {
    keeps = λ a there. ap (λ (s : State). contains s a) need.is ∙ in-inserted old need.atom a there;
    out = λ out a there.
        elim (inserted-cases old need.atom a (ap (λ (s : State). contains s a) (sym need.is) ∙ there)) [
          | inl same ↦ ap (is_out r) same ∙ need.need.1
          | inr before ↦ out a before
        ];
    needs = λ j named_too c a there by.
        let same : i ≡ j = let both : Some i ≡ Some j = sym named ∙ named_too in cc in (
          need.atom,
          ap (λ (s : State). contains s need.atom) need.is ∙ in-inserted_itself old need.atom,
          Contains-append_left (sure_of_instance task j) (sure task c.condition c.binding) (is_true need.atom) (subst (λ k. Contains (sure_of_instance task k) (is_true need.atom)) same need.need.0),
        );
  }

  -- one instance after another
  pub answered-next : (old new : State) → AreAnsweredBelow r added number old → IsAnswered r added number old new → AreAnsweredBelow r added (number + 1) new
  answered-next old new before here = record {
    out = here.out before.out;
    needs = λ k i below named. by_case k i below named (k == number) refl;
  }
    where
      kept_on : (i : Instance) → InstanceNeedsOneOf task added old i → InstanceNeedsOneOf task added new i
      kept_on i needs c a there by = let one = needs c a there by in (one.0, here.keeps one.0 one.1, one.2)

      by_case : (k : ℕ) (i : Instance) → k < number + 1 → slice_get (kept_instances task) k ≡ Some i → (b : Bool) → (k == number) ≡ b → InstanceNeedsOneOf task added new i
      by_case k i below named true same = here.needs i (ap (slice_get (kept_instances task)) (sym (eqb-true k number same)) ∙ named)
      by_case k i below named false other =
          let apart : k ≡ number → ⊥ = λ is. true≢false (sym (eq-eqb k number is) ∙ other) in
          kept_on i (before.needs k i (omega (arith, below, apart)) named)

pub answered-begun : (r : Relaxation) (added s : State) → s ≡ empty → AreAnsweredBelow r added 0 s
answered-begun r added s is = record {
  out = subst (AreOut r) (sym is) (none-out r);
  needs = λ k i below named. absurd (omega (arith, below));
}

pub answered-all : (r : Relaxation) (added needed : State) (count : ℕ) → length (kept_instances (task_in r.ground.now)) ≤ count → AreAnsweredBelow r added count needed → NeedOneOf (task_in r.ground.now) added needed
answered-all r added needed count past all i c a there by =
    let at = Contains-place (kept_instances (task_in r.ground.now)) i by.kept in
    let within = slice_get_within (kept_instances (task_in r.ground.now)) at.0 i at.1 in
    all.needs at.0 i (omega (arith, within, past)) at.1 c a there by

-- what is known of a result
pub when-added : (P Q : Type 0) → (P → Q) → (result : Result Needs NoMemory) → IfOk result (λ n. WhenAdded n P) → IfOk result (λ n. WhenAdded n Q)
when-added P Q step (Ok Added) so = step so
when-added P Q step (Ok Unreported) so = tt
when-added P Q step (Err e) so = so
