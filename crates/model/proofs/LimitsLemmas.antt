-- Numbering a task's atoms with its numbered atoms placed first numbers no others, so the limits are reported alike.
use Rattle.std.proofs.Common.{◌≡◌, ◌∙◌, ℕ, true, List, [], ◌∷◌, ◌++◌, length, None, refl, ap}
use Rattle.std.specs.Prelude.{nat_lt, Some, if◌then◌else◌}
use Rattle.std.specs.List.{flat_map}
use Rattle.std.specs.Ordering.{eq_by_cmp}
use Rattle.std.proofs.lemmas.Bool.{or_left, or_right}
use Rattle.std.proofs.lemmas.List.{append_assoc}
use Rattle.model.specs.Task.{Atom, Task}
use Rattle.model.specs.Meaning.{atom_cmp}
use Rattle.model.specs.StaticallyFalse.{kept_instances}
use Rattle.model.specs.NumberedAtoms.{occurs_in, with_atom, with_atoms, touched_by, initial_fluent_atoms, numbered_atoms}
use Rattle.model.specs.Grounding.{of_instances, of_atoms, exceeded_limit}
use Rattle.model.proofs.NumberingLemmas.{same_itself, occurs_in-with_atoms, with_atoms-append, with_atoms-distinct}
use Rattle.model.proofs.GroundTaskLemmas.{numbered-distinct}

-- adding atoms that are in the list already does not change it
with_atoms-known : (xs ys : List Atom) → ((q : Atom) → occurs_in ys q ≡ true → occurs_in xs q ≡ true) → with_atoms xs ys ≡ xs
with_atoms-known xs [] known = refl
with_atoms-known xs (a ∷ ys) known =
    let here : with_atom xs a ≡ xs = ap (λ b. if b then xs else xs ++ a ∷ []) (known a (or_left (eq_by_cmp atom_cmp a a) (occurs_in ys a) (same_itself a))) in
    ap (λ l. with_atoms l ys) here ∙ with_atoms-known xs ys (λ q at. known q (or_right (eq_by_cmp atom_cmp q a) (occurs_in ys q) at))

-- the numbered atoms keep their numbers, and there are no others
pub numbered_again : (task : Task) → numbered_atoms task (numbered_atoms task []) ≡ numbered_atoms task []
numbered_again task =
    let atoms = numbered_atoms task [] in
    let others = initial_fluent_atoms task ++ flat_map (touched_by task) (kept_instances task) in
    ap (with_atoms []) (append_assoc atoms (initial_fluent_atoms task) (flat_map (touched_by task) (kept_instances task)))
    ∙ with_atoms-append [] atoms others
    ∙ ap (λ l. with_atoms l others) (with_atoms-distinct [] atoms (numbered-distinct task []))
    ∙ with_atoms-known atoms others (λ q at. occurs_in-with_atoms [] others q ∙ at)

-- so they are within the limit if the task's are
pub limits_alike : (most most_atoms : ℕ) (task : Task) → exceeded_limit most most_atoms task [] ≡ None → exceeded_limit most most_atoms task (numbered_atoms task []) ≡ None
limits_alike most most_atoms task none =
    ap (λ (atoms : List Atom). if nat_lt most (length (kept_instances task)) then Some of_instances else if nat_lt most_atoms (length atoms) then Some of_atoms else None) (numbered_again task)
    ∙ none
