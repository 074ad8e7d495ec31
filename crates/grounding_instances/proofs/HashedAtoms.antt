-- Hashed sets of atoms and their elements.
use Rattle.std.proofs.Common.{◌≡◌, ◌∙◌, ℕ, ◌+◌, ◌<◌, ◌≤◌, true, false, ◌||◌, List, [], ◌∷◌, ◌++◌, length, map, take, get_or, refl, sym, ap}
use Rattle.std.specs.Prelude.{if◌then◌else◌}
use Rattle.std.specs.List.{list_any}
use Rattle.std.specs.FinSet.{contains, from_list, contains-from_list}
use Rattle.std.specs.Ordering.{eq_by_cmp}
use Rattle.std.proofs.lemmas.List.{take_all, take_more, map-append}
use Rattle.indexmap.specs.IndexSet.{insert_key}
use Rattle.task.specs.declared.atoms.Atom.{Atom}
use Rattle.task.specs.TaskParts.{atom_of}
use Rattle.formulas.proofs.Equality.{atom_eq}
use Rattle.model.specs.Task as task
use Rattle.model.specs.Meaning.{atom_cmp}
use Rattle.model.specs.NumberedAtoms.{occurs_in, with_atom}
use Rattle.model.proofs.Atoms.{atoms_total}
use Rattle.model.proofs.StaticLemmas.{or_false}
use Rattle.model.proofs.Atoms.{occurs_in-append}
use Rattle.model.proofs.NumberingLemmas.{occurs_in-with_atom}
use Rattle.grounding_instances.proofs.NumberLists.{among-alike, numbered-there, numbered-new}

pub has-hashed : (keys : List Atom) (a : Atom) → list_any (atom_eq a) keys ≡ contains {R = atom_cmp} (from_list (map atom_of keys)) (atom_of a)
has-hashed keys a = among-alike a keys ∙ sym (contains-from_list atoms_total (map atom_of keys) (atom_of a))

inserted-key : (keys after : List Atom) (a : Atom) → after ≡ insert_key atom_eq keys a → map atom_of after ≡ with_atom (map atom_of keys) (atom_of a)
inserted-key keys after a is =
    elim (list_any (atom_eq a) keys) as (λ b. list_any (atom_eq a) keys ≡ b → map atom_of after ≡ with_atom (map atom_of keys) (atom_of a)) [
      | true ↦ λ there. ap (map atom_of) (is ∙ ap (λ b. if b then keys else keys ++ a ∷ []) there) ∙ numbered-there a keys there
      | false ↦ λ new. numbered-new a keys a after new refl is
    ] refl

-- a copy of one more atom of a list is inserted
pub hashed-more : (atoms : List Atom) (i : ℕ) (listed copy : Atom) → i < length atoms → listed ≡ get_or atoms i listed → atom_of copy ≡ atom_of listed
    → (keys after : List Atom) → after ≡ insert_key atom_eq keys copy → ((q : task.Atom) → occurs_in (map atom_of keys) q ≡ occurs_in (map atom_of (take i atoms)) q)
    → (q : task.Atom) → occurs_in (map atom_of after) q ≡ occurs_in (map atom_of (take (i + 1) atoms)) q
hashed-more atoms i listed copy within at same keys after is so q =
    ap (λ l. occurs_in l q) (inserted-key keys after copy is) ∙ occurs_in-with_atom (map atom_of keys) (atom_of copy) q
    ∙ (λ j. so q j || eq_by_cmp atom_cmp q (same j))
    ∙ sym (ap (λ l. occurs_in l q)
    (ap (map atom_of) (take_more atoms i listed within ∙ ap (λ y. take i atoms ++ y ∷ []) (sym at)) ∙ map-append atom_of (take i atoms) (listed ∷ []))
    ∙ occurs_in-append (map atom_of (take i atoms)) (atom_of listed ∷ []) q ∙ ap (λ b. occurs_in (map atom_of (take i atoms)) q || b) (or_false (eq_by_cmp atom_cmp q (atom_of listed))))

-- all are inserted
pub hashed-all : (atoms : List Atom) (i : ℕ) (keys : List Atom) (init : List task.Atom) → length atoms ≤ i → map atom_of atoms ≡ init
    → ((q : task.Atom) → occurs_in (map atom_of keys) q ≡ occurs_in (map atom_of (take i atoms)) q)
    → (q : task.Atom) → contains {R = atom_cmp} (from_list (map atom_of keys)) q ≡ contains {R = atom_cmp} (from_list init) q
hashed-all atoms i keys init past is so q =
    contains-from_list atoms_total (map atom_of keys) q ∙ so q ∙ ap (λ l. occurs_in (map atom_of l) q) (take_all i atoms past) ∙ ap (λ l. occurs_in l q) is
    ∙ sym (contains-from_list atoms_total init q)
