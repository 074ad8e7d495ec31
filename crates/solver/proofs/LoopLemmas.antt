-- The steps of the loops: one state or one atom more.
use Rattle.std.proofs.Common.{◌≡◌, ◌∙◌, ℕ, zero, suc, ◌+◌, ◌<◌, Bool, true, false, not, inl, inr, List, [], ◌∷◌, ◌++◌, length, map, take, get_or, Some, refl, sym, ap, subst, arith}
use Rattle.std.specs.Prelude.{All, Contains, slice_get, if◌then◌else◌}
use Rattle.std.specs.List.{list_any, take-map}
use Rattle.std.proofs.lemmas.List.{get_or-take, length-take-le, take_more, map-append}
use Rattle.packed_state.specs.Store.{AreDistinct, IsPlaced}
use Rattle.std.proofs.lemmas.List.Elements.{All-contains}
use Rattle.task.specs.declared.atoms.Atom as code_atom
use Rattle.std.specs.Option.{option_map}
use Rattle.std.proofs.lemmas.Option.{get_or_from_slice_get, slice_get-map, slice_get-get_or, slice_get_within}
use Rattle.std.proofs.lemmas.Bool.{and_parts, not-true, true≢false}
use Rattle.std.proofs.lemmas.Map.Views.{Contains-from_any}
use Rattle.task.specs.TaskParts.{atom_of}
use Rattle.model.specs.Task.{Atom}
use Rattle.model.specs.NumberedAtoms.{occurs_in, are_distinct}
use Rattle.model.proofs.NumberingLemmas.{occurs_in-got}
use Rattle.formulas.proofs.Equality.{atom_eq, equal_atoms, one_atom}
use Rattle.indexmap.specs.IndexSet.{insert_key}
use Rattle.model.proofs.ListLemmas.{Contains-got, Contains-cases, Contains-map, Contains-none}

-- each state is of this width
pub width_at : (width : ℕ) (states : List (List Bool)) → All (λ (bits : List Bool). length bits ≡ width) states → (k : ℕ) (bits : List Bool) → slice_get states k ≡ Some bits → length bits ≡ width
width_at width states all k bits at = All-contains (λ (b : List Bool). length b ≡ width) states bits all (Contains-got states k bits at)

-- ---- the states

-- a state that comes after those before it in a list without repeats is new to them
module _ (states : List (List Bool)) (distinct : AreDistinct states) (k : ℕ) (bits : List Bool) (at : slice_get states k ≡ Some bits) where
  inside : k < length states
  inside = slice_get_within states k bits at

  new_there : Contains (take k states) bits → ⊥
  new_there (j, there, is) =
      let few : length (take k states) ≡ k = length-take-le k states (omega (arith, inside)) in
      let earlier : j < k = omega (arith, there, few) in
      let same : slice_get states j ≡ Some bits = slice_get-get_or states j bits (omega (arith, earlier, inside)) ∙ ap (λ b. Some b) (sym (get_or-take k states j bits earlier) ∙ is) in
      omega (arith, earlier, distinct j k bits same at)

  -- so one more is copied
  pub one_more_copied : (new : List (List Bool)) (place : ℕ) (is_new : Bool) → IsPlaced (take k states) new bits place is_new → new ≡ take (k + 1) states
  one_more_copied new place true (absent, pushed, there) =
      pushed ∙ sym (take_more states k bits inside ∙ ap (λ b. take k states ++ b ∷ []) (get_or_from_slice_get states k bits bits at))
  one_more_copied new place false (there, kept) = absurd (new_there (Contains-got (take k states) place bits there))

-- ---- the atoms

-- where no atom is twice, the one at a place does not occur before it
none_before : (atoms : List Atom) (i : ℕ) (a : Atom) → are_distinct atoms ≡ true → slice_get atoms i ≡ Some a → Contains (take i atoms) a → ⊥
none_before [] i a distinct at among = absurd (cc)
none_before (b ∷ atoms) zero a distinct at among = Contains-none a among
none_before (b ∷ atoms) (suc i) a distinct at among =
    let parts = and_parts (not (occurs_in atoms b)) (are_distinct atoms) distinct in
    elim (Contains-cases b (take i atoms) a among) [
      | inl is ↦ true≢false (sym (ap (occurs_in atoms) is ∙ occurs_in-got atoms i a at) ∙ not-true (occurs_in atoms b) parts.0)
      | inr later ↦ none_before atoms i a parts.1 at later
    ]

pub atoms_next : (keys new : List code_atom.Atom) (one : code_atom.Atom) (atoms : List code_atom.Atom) (i : ℕ) (d : code_atom.Atom) → are_distinct (map atom_of atoms) ≡ true → i < length atoms
    → map atom_of keys ≡ map atom_of (take i atoms) → new ≡ insert_key atom_eq keys one → atom_of one ≡ atom_of (get_or atoms i d) → map atom_of new ≡ map atom_of (take (i + 1) atoms)
atoms_next keys new one atoms i d distinct below so_far inserted is =
    ap (map atom_of) (inserted ∙ ap (λ b. if b then keys else keys ++ one ∷ []) (absent (list_any (atom_eq one) keys) refl)) ∙ map-append atom_of keys (one ∷ [])
    ∙ (λ j. so_far j ++ is j ∷ [])
    ∙ sym (ap (map atom_of) (take_more atoms i d below) ∙ map-append atom_of (take i atoms) (get_or atoms i d ∷ []))
  where
    occurs : slice_get (map atom_of atoms) i ≡ Some (atom_of one)
    occurs = slice_get-map atom_of atoms i ∙ ap (option_map atom_of) (slice_get-get_or atoms i d below) ∙ ap Some (sym is)

    absent : (there : Bool) → list_any (atom_eq one) keys ≡ there → there ≡ false
    absent false found = refl
    absent true found =
        absurd (none_before (map atom_of atoms) i (atom_of one) distinct occurs
        (subst (λ (front : List Atom). Contains front (atom_of one)) (so_far ∙ sym (take-map atom_of i atoms))
        (Contains-map atom_of keys one (Contains-from_any (λ a b alike. one_atom a b (equal_atoms a b alike)) one keys found))))
