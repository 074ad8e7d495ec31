-- Chains, link by link, and what is told of a goal.
use Rattle.std.proofs.Common.{arith, ◌≡◌, ◌∙◌, ℕ, zero, suc, ◌+◌, true, true≢false, not, inl, inr, List, [], ◌∷◌, ◌++◌, Some, refl, sym, ap, subst, length, take}
use Rattle.std.specs.Prelude.{◌⊎◌, All, Contains, filter, slice_get}
use Rattle.std.specs.List.{fold}
use Rattle.std.specs.FinSet.{contains, contains-empty, insert, empty}
use Rattle.std.proofs.lemmas.Bool.{false_from_ne_true}
use Rattle.std.proofs.lemmas.Option.{slice_get_within}
use Rattle.task.specs.TaskParts.{atom_of}
use Rattle.packed_state.specs.Packed.{bits_of}
use Rattle.grounding.specs.Ground.{atoms_in, task_in}
use Rattle.model.specs.Task.{Atom, Task}
use Rattle.model.specs.Meaning.{State, atom_cmp}
use Rattle.model.specs.SureLiterals.{Literal, is_true, is_false, are_same, are_different, sure}
use Rattle.model.specs.NumberedAtoms.{numbered_atoms}
use Rattle.model.proofs.ListLemmas.{Contains-here, Contains-there, Contains-cases, Contains-none, filter-Contains, flat_map-Contains}
use Rattle.explain_tasks.specs.Goals.{atom_asked_for, atoms_asked_for, with_passing}
use Rattle.explain_tasks.proofs.FoldLemmas.{gathered}
use Rattle.explain_goals.specs.declared.goal_notes.Unreachable.{Unreachable}
use Rattle.explain_goals.specs.declared.relaxation.Relaxation.{Relaxation}
use Rattle.explain_goals.specs.Contradictions.{IsBoth, IsOneRequired}
use Rattle.explain_goals.specs.Chains.{NeedOneOf}
use Rattle.explain_goals.specs.Needed.{AreOut, IsNeed, IsOutChain, IsUnreachable, AreUnreachable}
use Rattle.explain_goals.specs.Notes.{IsNoteOf, most_found}
use Rattle.explain_goals.specs.Relaxation.{IsClosed, IsNeverTrue}
use Rattle.explain_goals.specs.Settled.{IsLeastSettled, is_in}
use Rattle.explain_goals.specs.Views.{is_out}
use Rattle.explain_goals.proofs.Invariants.{closed_sets_are_invariants}
use Rattle.explain_goals.proofs.NeedLemmas.{inserted-cases, none-out}
use Rattle.explain_goals.proofs.SettledLemmas.{settled-closed}

-- ---- a list with one more element

got-before : {X : Type 0} (xs : List X) (z : X) (k : ℕ) (x : X) → slice_get xs k ≡ Some x → slice_get (xs ++ z ∷ []) k ≡ Some x
got-before [] z k x at = absurd (cc)
got-before (y ∷ xs) z zero x at = at
got-before (y ∷ xs) z (suc k) x at = got-before xs z k x at

got-cases : {X : Type 0} (xs : List X) (z : X) (k : ℕ) (x : X) → slice_get (xs ++ z ∷ []) k ≡ Some x → (slice_get xs k ≡ Some x) ⊎ ((k ≡ length xs) × (z ≡ x))
got-cases [] z zero x at = inr (refl, cc)
got-cases [] z (suc k) x at = absurd (cc)
got-cases (y ∷ xs) z zero x at = inl at
got-cases (y ∷ xs) z (suc k) x at =
    elim (got-cases xs z k x at) [
      | inl before ↦ inl before
      | inr last ↦ inr (ap suc last.0, last.1)
    ]

-- ---- chains

pub chain-begun : (r : Relaxation) (a : Atom) (first : State) → first ≡ insert empty a → is_out r a ≡ true → IsOutChain r a (first ∷ [])
chain-begun r a first is out = record {
  begins = ap Some is;
  linked = λ k added needed here next. absurd (let below = slice_get_within (first ∷ []) (k + 1) needed next in omega (arith, below));
  out = λ k link at. only k link at;
}
  where
    alone : AreOut r first
    alone b there =
        elim (inserted-cases empty a b (ap (λ (s : State). contains s b) (sym is) ∙ there)) [
          | inl same ↦ ap (is_out r) same ∙ out
          | inr none ↦ none-out r b none
        ]

    only : (k : ℕ) (link : State) → slice_get (first ∷ []) k ≡ Some link → AreOut r link
    only zero link at = let same : first ≡ link = cc in subst (AreOut r) same alone
    only (suc k) link at = absurd (cc)

pub chain-longer : (r : Relaxation) (a : Atom) (links : List State) (k : ℕ) (last needed : State) → length links ≡ k + 1 → slice_get links k ≡ Some last
    → NeedOneOf (task_in r.ground.now) last needed → AreOut r needed → IsOutChain r a links → IsOutChain r a (links ++ needed ∷ [])
chain-longer r a links k last needed long at need out chain = record {
  begins = got-before links needed 0 (insert empty a) chain.begins;
  linked = λ j added after here next.
      elim (got-cases links needed (j + 1) after next) [
        | inl before ↦ elim (got-cases links needed j added here) [
          | inl so ↦ chain.linked j added after so before
          | inr end ↦ let below = slice_get_within links (j + 1) after before in let is = end.0 in absurd (omega (arith, below, is))
        ]
        | inr end ↦ elim (got-cases links needed j added here) [
          | inl so ↦
              let place : j ≡ k = let is = end.0 in omega (arith, is, long) in
              let same : last ≡ added = let both : Some last ≡ Some added = sym at ∙ ap (slice_get links) (sym place) ∙ so in cc in
              subst (λ s. NeedOneOf (task_in r.ground.now) added s) end.1 (subst (λ s. NeedOneOf (task_in r.ground.now) s needed) same need)
          | inr other ↦ let is = end.0 in let also = other.0 in absurd (omega (arith, is, also))
        ]
      ];
  out = λ j link here.
      elim (got-cases links needed j link here) [
        | inl before ↦ chain.out j link before
        | inr end ↦ subst (AreOut r) end.1 out
      ];
}

-- ---- atoms of the goal

Contains-take : {X : Type 0} (n : ℕ) (xs : List X) (x : X) → Contains (take n xs) x → Contains xs x
Contains-take zero xs x at = absurd (Contains-none x at)
Contains-take (suc n) [] x at = absurd (Contains-none x at)
Contains-take (suc n) (y ∷ xs) x at =
    elim (Contains-cases y (take n xs) x at) [
      | inl same ↦ subst (λ z. Contains (y ∷ xs) z) same (Contains-here y xs)
      | inr later ↦ Contains-there y xs x (Contains-take n xs x later)
    ]

asked-literal : (literals : List Literal) (a : Atom) → Contains (atoms_asked_for literals) a → Contains literals (is_true a)
asked-literal literals a at =
    let one = flat_map-Contains atom_asked_for literals a at in
    subst (λ l. Contains literals l) (by_case one.0 one.2) one.1
  where
    by_case : (l : Literal) → Contains (atom_asked_for l) a → l ≡ is_true a
    by_case (is_true b) at = elim (Contains-cases b [] a at) [
      | inl same ↦ ap is_true same
      | inr none ↦ absurd (Contains-none a none)
    ]
    by_case (is_false b) at = absurd (Contains-none a at)
    by_case (are_same b c) at = absurd (Contains-none a at)
    by_case (are_different b c) at = absurd (Contains-none a at)

pub missing-need : (r : Relaxation) (literals : List Literal) (found : List Atom) (a : Atom) → found ≡ fold (with_passing (is_out r) most_found) [] (atoms_asked_for literals) → Contains found a → IsNeed r literals a
missing-need r literals found a is at =
    let all : found ≡ take most_found (filter (is_out r) (atoms_asked_for literals)) = is ∙ gathered (is_out r) most_found [] (omega arith) (atoms_asked_for literals) in
    let both = filter-Contains (is_out r) (atoms_asked_for literals) a (Contains-take most_found (filter (is_out r) (atoms_asked_for literals)) a (subst (λ l. Contains l a) all at)) in
    (asked-literal literals a both.0, both.1)

-- ---- what is never true

module _ (r : Relaxation) (numbered : atoms_in r.ground.now ≡ numbered_atoms (task_in r.ground.now) []) (least : IsLeastSettled (task_in r.ground.now) (atoms_in r.ground.now) (bits_of r.set.now)) where
  abbrev task : Task
  task = task_in r.ground.now

  set-closed : IsClosed task (is_in task (atoms_in r.ground.now) (bits_of r.set.now))
  set-closed =
      subst (λ atoms. IsClosed task (is_in task atoms (bits_of r.set.now))) (sym numbered)
      (settled-closed task (bits_of r.set.now) (subst (λ atoms. IsLeastSettled task atoms (bits_of r.set.now)) numbered least).settled)

  never : (a : Atom) → is_out r a ≡ true → IsNeverTrue task a
  never a out s reached =
      false_from_ne_true (contains s a) (λ there.
      true≢false (sym out ∙ ap not (closed_sets_are_invariants task (is_in task (atoms_in r.ground.now) (bits_of r.set.now)) set-closed s reached a there)))

  pub note-of : (u : Unreachable) → IsUnreachable r (sure task task.goal []) u → IsNoteOf task u
  note-of u so = record {
    required = so.0.0;
    never_true = never (atom_of u.atom) so.0.1;
    chain = record {
      begins = so.1.begins;
      linked = so.1.linked;
      never_true = λ k link b at there. never b (so.1.out k link at b there);
    };
  }

  pub notes-of : (found : List Unreachable) → AreUnreachable r (sure task task.goal []) found → All (IsNoteOf task) found
  notes-of found all k d below = note-of _ (all k d below)

-- ---- contradictions

pub both-of : (literals : List Literal) (b copy : Atom) (set : State) → set ≡ insert empty b → IsOneRequired literals set → Contains literals (is_false b) → copy ≡ b → IsBoth literals copy
both-of literals b copy set is one at same =
    let alone : one.atom ≡ b =
    elim (inserted-cases empty b one.atom (ap (λ (s : State). contains s one.atom) (sym is) ∙ one.there)) [
      | inl here ↦ here
      | inr none ↦ absurd (true≢false (sym none ∙ contains-empty atom_cmp one.atom))
    ] in
    record {
      as_true = subst (λ a. Contains literals (is_true a)) (alone ∙ sym same) one.required;
      as_false = subst (λ a. Contains literals (is_false a)) (sym same) at;
    }
