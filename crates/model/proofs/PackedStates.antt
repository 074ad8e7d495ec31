-- The atoms that are true in the state that a packed state represents. Stated for any choice of fluent predicates and any initial
-- atoms, of which those of a task are an instance.
use Rattle.std.proofs.Common.{◌≡◌, ◌∙◌, ℕ, zero, suc, ◌<◌, Bool, true, false, not, ◌&&◌, ◌||◌, inl, inr, List, [], ◌∷◌, ◌++◌, length, get_or, Some, refl, sym, ap, arith, true≢false}
use Rattle.std.specs.Prelude.{slice_get, filter, if◌then◌else◌}
use Rattle.std.specs.Ordering.{eq_by_cmp}
use Rattle.std.specs.FinSet.{contains, from_list, contains-from_list}
use Rattle.std.proofs.lemmas.Bool.{or_cases, or_left, or_right, and_parts, not-true, false_from_ne_true}
use Rattle.std.proofs.lemmas.List.{length-map, same_lists, get_or-map, get_or_default}
use Rattle.std.proofs.lemmas.Option.{slice_get-get_or}
use Rattle.model.specs.Task.{Atom}
use Rattle.model.specs.Meaning.{State, atom_cmp}
use Rattle.model.specs.NumberedAtoms.{occurs_in, are_distinct}
use Rattle.model.specs.Grounding.{chosen, bits_of_state}
use Rattle.model.proofs.Atoms.{atoms_total, occurs_in-append, same_state}
use Rattle.model.proofs.StaticLemmas.{same_atom, occurs_in-filter, and_false, or_false}
use Rattle.model.proofs.NumberingLemmas.{occurs_in-got, same_itself}

-- ---- the chosen atoms

-- they are among the atoms
pub chosen-occurs_in : (atoms : List Atom) (bits : List Bool) (q : Atom) → occurs_in (chosen atoms bits) q ≡ true → occurs_in atoms q ≡ true
chosen-occurs_in [] bits q at = absurd (true≢false (sym at))
chosen-occurs_in (a ∷ atoms) [] q at = absurd (true≢false (sym at))
chosen-occurs_in (a ∷ atoms) (true ∷ bits) q at =
    elim (or_cases (eq_by_cmp atom_cmp q a) (occurs_in (chosen atoms bits) q) at) [
      | inl here ↦ or_left (eq_by_cmp atom_cmp q a) (occurs_in atoms q) here
      | inr later ↦ or_right (eq_by_cmp atom_cmp q a) (occurs_in atoms q) (chosen-occurs_in atoms bits q later)
    ]
chosen-occurs_in (a ∷ atoms) (false ∷ bits) q at = or_right (eq_by_cmp atom_cmp q a) (occurs_in atoms q) (chosen-occurs_in atoms bits q at)

-- the atoms that a state chooses are those of the list that are true in it
pub chosen-state : (atoms : List Atom) (s : State) (q : Atom) → occurs_in (chosen atoms (bits_of_state atoms s)) q ≡ (occurs_in atoms q && contains s q)
chosen-state [] s q = refl
chosen-state (a ∷ atoms) s q =
    elim (contains s a) as (λ b. contains s a ≡ b → occurs_in (if b then a ∷ chosen atoms (bits_of_state atoms s) else chosen atoms (bits_of_state atoms s)) q ≡ ((eq_by_cmp atom_cmp q a || occurs_in atoms q) && contains s q)) [
      | true ↦ λ has. ap (λ b. eq_by_cmp atom_cmp q a || b) (chosen-state atoms s q)
          ∙ there (eq_by_cmp atom_cmp q a) (occurs_in atoms q) (contains s q) (λ same. ap (contains s) (same_atom q a same) ∙ has)
      | false ↦ λ misses. chosen-state atoms s q
          ∙ absent (eq_by_cmp atom_cmp q a) (occurs_in atoms q) (contains s q) (λ same. ap (contains s) (same_atom q a same) ∙ misses)
    ] refl
  where
    there : (e r h : Bool) → (e ≡ true → h ≡ true) → (e || (r && h)) ≡ ((e || r) && h)
    there true r h known = sym (known refl)
    there false r h known = refl

    absent : (e r h : Bool) → (e ≡ true → h ≡ false) → (r && h) ≡ ((e || r) && h)
    absent true r h known = ap (λ b. r && b) (known refl) ∙ and_false r ∙ sym (known refl)
    absent false r h known = refl

-- if no atom is repeated, the atom with a number is chosen exactly if its bit is set
pub chosen-number : (atoms : List Atom) (bits : List Bool) (n : ℕ) (a : Atom) → are_distinct atoms ≡ true → slice_get atoms n ≡ Some a → occurs_in (chosen atoms bits) a ≡ get_or bits n false
chosen-number [] bits n a distinct at = absurd (cc)
chosen-number (x ∷ atoms) [] n a distinct at = nothing n
  where
    nothing : (n : ℕ) → false ≡ get_or [] n false
    nothing zero = refl
    nothing (suc n) = refl
chosen-number (x ∷ atoms) (b ∷ bits) zero a distinct at =
    let same : x ≡ a = cc in
    let parts = and_parts (not (occurs_in atoms x)) (are_distinct atoms) distinct in
    elim b as (λ b. occurs_in (if b then x ∷ chosen atoms bits else chosen atoms bits) a ≡ b) [
      | true ↦ or_left (eq_by_cmp atom_cmp a x) (occurs_in (chosen atoms bits) a) (ap (eq_by_cmp atom_cmp a) same ∙ same_itself a)
      | false ↦ false_from_ne_true (occurs_in (chosen atoms bits) a) (λ among.
          true≢false (sym (chosen-occurs_in atoms bits a among) ∙ ap (occurs_in atoms) (sym same) ∙ not-true (occurs_in atoms x) parts.0))
    ]
chosen-number (x ∷ atoms) (b ∷ bits) (suc n) a distinct at =
    let parts = and_parts (not (occurs_in atoms x)) (are_distinct atoms) distinct in
    let other : eq_by_cmp atom_cmp a x ≡ false = false_from_ne_true (eq_by_cmp atom_cmp a x) (λ same.
    true≢false (sym (occurs_in-got atoms n a at) ∙ ap (occurs_in atoms) (same_atom a x same) ∙ not-true (occurs_in atoms x) parts.0)) in
    elim b as (λ b. occurs_in (if b then x ∷ chosen atoms bits else chosen atoms bits) a ≡ get_or bits n false) [
      | true ↦ ap (λ v. v || occurs_in (chosen atoms bits) a) other ∙ chosen-number atoms bits n a parts.1 at
      | false ↦ chosen-number atoms bits n a parts.1 at
    ]

-- ---- the state

module _ (fluent : ℕ → Bool) (init : List Atom) (atoms : List Atom) where
  abbrev statics : List Atom
  statics = filter (λ (a : Atom). not (fluent a.predicate)) init

  -- the atoms whose bits are set, together with the static ones
  abbrev pub packed_state : List Bool → State
  packed_state bits = from_list (chosen atoms bits ++ statics)

  pub contains-packed : (bits : List Bool) (q : Atom) → contains (packed_state bits) q ≡ (occurs_in (chosen atoms bits) q || (not (fluent q.predicate) && occurs_in init q))
  contains-packed bits q =
      contains-from_list atoms_total (chosen atoms bits ++ statics) q
      ∙ occurs_in-append (chosen atoms bits) statics q
      ∙ ap (λ b. occurs_in (chosen atoms bits) q || b) (occurs_in-filter (λ (a : Atom). not (fluent a.predicate)) init q)

  -- a fluent atom is true if it is chosen
  pub contains-fluent : (bits : List Bool) (q : Atom) → fluent q.predicate ≡ true → contains (packed_state bits) q ≡ occurs_in (chosen atoms bits) q
  contains-fluent bits q is =
      contains-packed bits q ∙ (λ i. occurs_in (chosen atoms bits) q || (not (is i) && occurs_in init q)) ∙ or_false (occurs_in (chosen atoms bits) q)

  -- so it is if its bit is set
  pub contains-numbered : are_distinct atoms ≡ true → (bits : List Bool) (n : ℕ) (a : Atom) → fluent a.predicate ≡ true → slice_get atoms n ≡ Some a
      → contains (packed_state bits) a ≡ get_or bits n false
  contains-numbered distinct bits n a is at = contains-fluent bits a is ∙ chosen-number atoms bits n a distinct at

  -- and it is false without a number
  pub contains-unnumbered : (bits : List Bool) (a : Atom) → fluent a.predicate ≡ true → occurs_in atoms a ≡ false → contains (packed_state bits) a ≡ false
  contains-unnumbered bits a is none =
      contains-fluent bits a is ∙ false_from_ne_true (occurs_in (chosen atoms bits) a) (λ among. true≢false (sym (chosen-occurs_in atoms bits a among) ∙ none))

  module _ (numbered_are_fluent : (q : Atom) → occurs_in atoms q ≡ true → fluent q.predicate ≡ true) where
    -- a static atom is true if it is initially true
    pub contains-static : (bits : List Bool) (q : Atom) → fluent q.predicate ≡ false → contains (packed_state bits) q ≡ occurs_in init q
    contains-static bits q is =
        contains-packed bits q ∙ (λ i. unchosen i || (not (is i) && occurs_in init q))
      where
        unchosen : occurs_in (chosen atoms bits) q ≡ false
        unchosen = false_from_ne_true (occurs_in (chosen atoms bits) q) (λ at. true≢false (sym (numbered_are_fluent q (chosen-occurs_in atoms bits q at)) ∙ is))

    -- a state with the initial static atoms, all of whose fluent atoms are numbered, is the state of its bits
    pub packed-bits_of_state : (s : State) → ((q : Atom) → fluent q.predicate ≡ false → contains s q ≡ occurs_in init q)
        → ((q : Atom) → fluent q.predicate ≡ true → contains s q ≡ true → occurs_in atoms q ≡ true) → packed_state (bits_of_state atoms s) ≡ s
    packed-bits_of_state s static numbered =
        same_state _ s (λ q.
        elim (fluent q.predicate) as (λ f. fluent q.predicate ≡ f → contains (packed_state (bits_of_state atoms s)) q ≡ contains s q) [
          | true ↦ λ is. contains-fluent (bits_of_state atoms s) q is ∙ chosen-state atoms s q ∙ among (occurs_in atoms q) (contains s q) (numbered q is)
          | false ↦ λ is. contains-static (bits_of_state atoms s) q is ∙ sym (static q is)
        ] refl)
      where
        among : (b c : Bool) → (c ≡ true → b ≡ true) → (b && c) ≡ c
        among true c known = refl
        among false true known = known refl
        among false false known = refl

    -- a packed state of the right length is the one of its state
    pub bits_of-packed_state : are_distinct atoms ≡ true → (bits : List Bool) → length bits ≡ length atoms → bits_of_state atoms (packed_state bits) ≡ bits
    bits_of-packed_state distinct bits long =
        same_lists (bits_of_state atoms (packed_state bits)) bits (omega (arith, long, length-map atoms (contains (packed_state bits)))) (λ k d below. each k d (omega (arith, below, length-map atoms (contains (packed_state bits)))))
      where
        anything : Atom
        anything = record { predicate = 0; objects = [] }

        each : (k : ℕ) (d : Bool) → k < length atoms → get_or (bits_of_state atoms (packed_state bits)) k d ≡ get_or bits k d
        each k d below =
            let a = get_or atoms k anything in
            let at : slice_get atoms k ≡ Some a = slice_get-get_or atoms k anything below in
            get_or-map (contains (packed_state bits)) atoms k anything d below
            ∙ contains-numbered distinct bits k a (numbered_are_fluent a (occurs_in-got atoms k a at)) at
            ∙ get_or_default bits k false d (omega (arith, below, long))
