-- The code's test of equality is equality of states in the model.
use Rattle.std.proofs.Common.{◌≡◌, ◌∙◌, Bool, true, List, [], ◌∷◌, map, refl, sym, ap, subst}
use Rattle.std.proofs.lemmas.Bool.{and_parts}
use Rattle.std.proofs.lemmas.Map.Lookups.{btree_set_from_contains, CmpEqualImpliesEq}
use Rattle.std.specs.Bool.{Decides}
use Rattle.std.specs.Cmp.{IsTotalOrder, on_total}
use Rattle.std.specs.Cmp.Lexicographic.{pointwise}
use Rattle.std.specs.FinSet.{contains, from_list}
pub use Rattle.task.proofs.AtomEquality.{atom_eq, equal_atoms, one_atom, same_atoms}
use Rattle.task.proofs.AtomEquality.{each_itself, atom_itself}
use Rattle.formulas.specs.declared.state.State as code_state
use Rattle.task.specs.declared.atoms.Atom.{Atom}
use Rattle.task.specs.TaskParts.{atom_of}
use Rattle.formulas.specs.State.{state_of}
use Rattle.formulas.specs.Equality.{are_equal}
use Rattle.formulas.proofs.States.{model_cmp, contains_in_model}
use Rattle.model.proofs.Atoms.{atoms_total, atoms_apart}

-- `==` of the code's states
abbrev pub state_eq : code_state.State → code_state.State → Bool
state_eq = are_equal

-- ---- states that pass the code's test are equal in the model

equal_lists : (xs ys : List Atom) → pointwise atom_eq xs ys ≡ true → map atom_of xs ≡ map atom_of ys
equal_lists [] [] is = refl
equal_lists [] (y ∷ ys) is = absurd (cc)
equal_lists (x ∷ xs) [] is = absurd (cc)
equal_lists (x ∷ xs) (y ∷ ys) is =
    let parts = and_parts (atom_eq x y) (pointwise atom_eq xs ys) is in
    λ i. equal_atoms x y parts.0 i ∷ equal_lists xs ys parts.1 i

pub equal_states : (s t : code_state.State) → state_eq s t ≡ true → state_of s ≡ state_of t
equal_states s t is = ap from_list (equal_lists s.atoms.keys t.atoms.keys is)

-- ---- states that are equal in the model pass the code's test

model_total : IsTotalOrder model_cmp
model_total = on_total atom_of atoms_total

model_apart : CmpEqualImpliesEq model_cmp
model_apart a b tie = one_atom a b (atoms_apart (atom_of a) (atom_of b) tie)

-- the atoms of a state are in order, so a state has one list of them
pub one_list : (s t : code_state.State) → state_of s ≡ state_of t → s.atoms.keys ≡ t.atoms.keys
one_list s t same =
    btree_set_from_contains model_total s.atoms t.atoms s.in_order t.in_order
    (λ q. contains_in_model s.atoms.keys q ∙ ap (λ z. contains z (atom_of q)) same ∙ sym (contains_in_model t.atoms.keys q)) model_apart

pub same_states : (s t : code_state.State) → state_of s ≡ state_of t → state_eq s t ≡ true
same_states s t same =
    subst (λ keys. pointwise atom_eq s.atoms.keys keys ≡ true) (one_list s t same) (each_itself atom_eq atom_itself s.atoms.keys)

-- ---- both directions

pub Decides-state_eq : (s t : code_state.State) → Decides (state_eq s t) (state_of s ≡ state_of t)
Decides-state_eq s t = (equal_states s t, same_states s t)
