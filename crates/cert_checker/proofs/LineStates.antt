-- The states of a certificate's lines have the initial static atoms.
use Rattle.std.proofs.Common.{◌≡◌, ◌∙◌, true, false, ◌||◌, List, [], ◌++◌, refl, sym, ap, true≢false}
use Rattle.std.specs.Prelude.{All, IsTrue, Contains, slice_get}
use Rattle.std.specs.List.{filter_map}
use Rattle.std.specs.FinSet.{contains, contains-from_list}
use Rattle.std.proofs.lemmas.List.Elements.{All-contains}
use Rattle.model.specs.Task.{Atom, Task}
use Rattle.model.specs.Meaning.{initial_state}
use Rattle.model.specs.Fluents.{is_fluent, static_atoms, HasInitialStatics}
use Rattle.model.specs.NumberedAtoms.{occurs_in}
use Rattle.model.proofs.Atoms.{atoms_total, occurs_in-append}
use Rattle.model.proofs.PackedStates.{contains-static}
use Rattle.model.proofs.ListLemmas.{Contains-got, filter_map-Contains}
use Rattle.model.proofs.NumberingLemmas.{occurs_in-Contains}
use Rattle.certificate_definitions.specs.Certificates.{Certificate, StateLine, state_of_line}

module _ (task : Task) where
  -- the static atoms of the task are the static ones that are true at the start
  statics_true : (q : Atom) → is_fluent task q.predicate ≡ false → occurs_in (static_atoms task) q ≡ contains (initial_state task) q
  statics_true q static =
      sym (contains-from_list atoms_total (static_atoms task) q) ∙ contains-static (is_fluent task) task.init [] (λ a at. absurd (true≢false (sym at))) [] q static
      ∙ sym (contains-from_list atoms_total task.init q)

  -- a static atom is not among fluent ones
  not_among : (atoms : List Atom) → ((a : Atom) → Contains atoms a → is_fluent task a.predicate ≡ true) → (q : Atom) → is_fluent task q.predicate ≡ false → occurs_in atoms q ≡ false
  not_among atoms fluent q static =
      elim (occurs_in atoms q) as (λ b. occurs_in atoms q ≡ b → b ≡ false) [
        | true ↦ λ among. absurd (true≢false (sym (fluent q (occurs_in-Contains atoms q among)) ∙ static))
        | false ↦ λ _. refl
      ] refl

  module _ (c : Certificate) (all : All (λ (a : Atom). IsTrue (is_fluent task a.predicate)) c.atoms) (l : StateLine) where
    abbrev own_atoms : List Atom
    own_atoms = filter_map (slice_get c.atoms) l.atoms

    own_fluent : (a : Atom) → Contains own_atoms a → is_fluent task a.predicate ≡ true
    own_fluent a among =
        let (number, _, at) = filter_map-Contains (slice_get c.atoms) l.atoms a among in
        All-contains (λ (a : Atom). IsTrue (is_fluent task a.predicate)) c.atoms a all (Contains-got c.atoms number a at)

    pub state_statics : HasInitialStatics task (state_of_line task c l)
    state_statics q static =
        contains-from_list atoms_total (own_atoms ++ static_atoms task) q ∙ occurs_in-append own_atoms (static_atoms task) q
        ∙ ap (λ b. b || occurs_in (static_atoms task) q) (not_among own_atoms own_fluent q static) ∙ statics_true q static
