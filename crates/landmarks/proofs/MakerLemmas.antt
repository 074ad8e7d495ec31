-- Instances filed by the literals that they make true.
use Rattle.std.proofs.Common.{◌≡◌, ◌∙◌, ℕ, ◌⊎◌, inl, inr, Bool, true, false, true≢false, List, [], ◌∷◌, ◌++◌, length, map, get_or, refl, sym, ap, subst, arith}
use Rattle.std.specs.Prelude.{All, Contains, ◌==◌, ◌<◌, if◌then◌else◌}
use Rattle.std.proofs.lemmas.Bool.{eq-eqb}
use Rattle.std.proofs.lemmas.List.Elements.{Contains-append_cases}
use Rattle.std.proofs.lemmas.List.{length-map, get_or-map}
use Rattle.std.proofs.lemmas.Option.{slice_get-get_or}
use Rattle.grounding.specs.Changes.{counting_of}
use Rattle.grounding.specs.declared.changes.CountingChange.{CountingChange}
use Rattle.model.specs.NumberedLiterals.{NumberedChange, counting_of_number}
use Rattle.model.specs.Task.{Atom, Task}
use Rattle.model.specs.ConditionalChanges.{ConditionalChange, conditional_of_number}
use Rattle.model.proofs.ListLemmas.{Contains-cases, Contains-got, Contains-none}
use Rattle.lower_bounds.specs.TableFunctions.{is_among}
use Rattle.lower_bounds.proofs.Numbers.{counting-below}
use Rattle.lower_bounds.proofs.TableLists.{among-here}
use Rattle.landmarks.specs.declared.makers.Makers.{Makers}
use Rattle.table_rows.specs.declared.lists.Lists.{Lists}
use Rattle.table_rows.specs.Lists.{list_at, place_count}
use Rattle.landmarks.specs.Makers.{row_for, AreFiled, AreMakers}
use Rattle.landmarks.proofs.AmongLemmas.{among-left, among-right, among-cases, among-one}

-- ---- one row more

abbrev IsPushed : ℕ → ℕ → Lists → Lists → Type 0
IsPushed atom number old new = (k : ℕ) → list_at new k ≡ (if k == atom then list_at old k ++ number ∷ [] else list_at old k)

pushed-kept : (atom number : ℕ) (old new : Lists) → IsPushed atom number old new → (a k : ℕ) → is_among (list_at old a) k ≡ true → is_among (list_at new a) k ≡ true
pushed-kept atom number old new rows a k there = subst (λ row. is_among row k ≡ true) (sym (rows a)) (of (a == atom))
  where
    of : (b : Bool) → is_among (if b then list_at old a ++ number ∷ [] else list_at old a) k ≡ true
    of true = among-left (list_at old a) (number ∷ []) k there
    of false = there

pushed-here : (atom number : ℕ) (old new : Lists) → IsPushed atom number old new → is_among (list_at new atom) number ≡ true
pushed-here atom number old new rows =
    subst (λ row. is_among row number ≡ true) (sym (rows atom ∙ ap (λ b. if b then list_at old atom ++ number ∷ [] else list_at old atom) (eq-eqb atom atom refl)))
    (among-right (list_at old atom) (number ∷ []) number (among-here number []))

pushed-only : (atom number : ℕ) (old new : Lists) → IsPushed atom number old new → (a k : ℕ) → is_among (list_at new a) k ≡ true → (is_among (list_at old a) k ≡ true) ⊎ (k ≡ number)
pushed-only atom number old new rows a k there = of (a == atom) (subst (λ row. is_among row k ≡ true) (rows a) there)
  where
    of : (b : Bool) → is_among (if b then list_at old a ++ number ∷ [] else list_at old a) k ≡ true → (is_among (list_at old a) k ≡ true) ⊎ (k ≡ number)
    of true at = elim (among-cases (list_at old a) (number ∷ []) k at) [
      | inl first ↦ inl first
      | inr last ↦ inr (sym (among-one number k last))
    ]
    of false at = inl at

only-one : (c d : ConditionalChange) → Contains (c ∷ []) d → c ≡ d
only-one c d at = elim (Contains-cases c [] d at) [
  | inl is ↦ is
  | inr later ↦ absurd (Contains-none d later)
]

module _ (number : ℕ) (c : ConditionalChange) (old new : Makers) where
  pub filed-adding : c.change.value ≡ true → new.deleting ≡ old.deleting → place_count new.adding ≡ place_count old.adding → IsPushed c.change.atom number old.adding new.adding
      → AreFiled number (c ∷ []) old new
  filed-adding adds others width rows = record {
    adding = width;
    deleting = ap (λ (r : Lists). place_count r) others;
    kept = kept;
    filed = λ d at. subst (λ (e : ConditionalChange). is_among (row_for new e.change.atom e.change.value) number ≡ true) (only-one c d at)
        (subst (λ v. is_among (row_for new c.change.atom v) number ≡ true) (sym adds) (pushed-here c.change.atom number old.adding new.adding rows));
    only = only;
  }
    where
      kept : (atom : ℕ) (value : Bool) (k : ℕ) → is_among (row_for old atom value) k ≡ true → is_among (row_for new atom value) k ≡ true
      kept atom true k there = pushed-kept c.change.atom number old.adding new.adding rows atom k there
      kept atom false k there = subst (λ (r : Lists). is_among (list_at r atom) k ≡ true) (sym others) there

      only : (atom : ℕ) (value : Bool) (k : ℕ) → is_among (row_for new atom value) k ≡ true → (is_among (row_for old atom value) k ≡ true) ⊎ (k ≡ number)
      only atom true k there = pushed-only c.change.atom number old.adding new.adding rows atom k there
      only atom false k there = inl (subst (λ (r : Lists). is_among (list_at r atom) k ≡ true) others there)

  pub filed-deleting : c.change.value ≡ false → new.adding ≡ old.adding → place_count new.deleting ≡ place_count old.deleting → IsPushed c.change.atom number old.deleting new.deleting
      → AreFiled number (c ∷ []) old new
  filed-deleting deletes others width rows = record {
    adding = ap (λ (r : Lists). place_count r) others;
    deleting = width;
    kept = kept;
    filed = λ d at. subst (λ (e : ConditionalChange). is_among (row_for new e.change.atom e.change.value) number ≡ true) (only-one c d at)
        (subst (λ v. is_among (row_for new c.change.atom v) number ≡ true) (sym deletes) (pushed-here c.change.atom number old.deleting new.deleting rows));
    only = only;
  }
    where
      kept : (atom : ℕ) (value : Bool) (k : ℕ) → is_among (row_for old atom value) k ≡ true → is_among (row_for new atom value) k ≡ true
      kept atom true k there = subst (λ (r : Lists). is_among (list_at r atom) k ≡ true) (sym others) there
      kept atom false k there = pushed-kept c.change.atom number old.deleting new.deleting rows atom k there

      only : (atom : ℕ) (value : Bool) (k : ℕ) → is_among (row_for new atom value) k ≡ true → (is_among (row_for old atom value) k ≡ true) ⊎ (k ≡ number)
      only atom true k there = inl (subst (λ (r : Lists). is_among (list_at r atom) k ≡ true) others there)
      only atom false k there = pushed-only c.change.atom number old.deleting new.deleting rows atom k there

-- ---- the changes of an instance

pub filed-none : (number : ℕ) (m : Makers) → AreFiled number [] m m
filed-none number m = record {
  adding = refl;
  deleting = refl;
  kept = λ atom value k there. there;
  filed = λ c at. absurd (Contains-none c at);
  only = λ atom value k there. inl there;
}

pub filed-more : (number : ℕ) (changes more : List ConditionalChange) (old mid new : Makers) → AreFiled number changes old mid → AreFiled number more mid new → AreFiled number (changes ++ more) old new
filed-more number changes more old mid new so next = record {
  adding = next.adding ∙ so.adding;
  deleting = next.deleting ∙ so.deleting;
  kept = λ atom value k there. next.kept atom value k (so.kept atom value k there);
  filed = λ c at. elim (Contains-append_cases changes more c at) [
    | inl first ↦ next.kept c.change.atom c.change.value number (so.filed c first)
    | inr later ↦ next.filed c later
  ];
  only = λ atom value k there. elim (next.only atom value k there) [
    | inl before ↦ so.only atom value k before
    | inr is ↦ inr is
  ];
}

-- ---- all instances

module _ (task : Task) (atoms : List Atom) where
  pub makers-none : (m : Makers) → ((atom : ℕ) (value : Bool) → row_for m atom value ≡ []) → AreMakers task atoms [] m
  makers-none m none = record {
    covers = λ number at. absurd (true≢false (sym at));
    within = λ atom value number there. absurd (true≢false (sym (subst (λ row. is_among row number ≡ true) (none atom value) there)));
  }

  pub makers-more : (asked : List ℕ) (number : ℕ) (old new : Makers) → AreMakers task atoms asked old → AreFiled number (conditional_of_number task atoms number) old new
      → AreMakers task atoms (asked ++ number ∷ []) new
  makers-more asked number old new so next = record {
    covers = λ k at c among. elim (among-cases asked (number ∷ []) k at) [
      | inl before ↦ next.kept c.change.atom c.change.value k (so.covers k before c among)
      | inr last ↦
          let same = among-one number k last in
          subst (λ j. is_among (row_for new c.change.atom c.change.value) j ≡ true) same
          (next.filed c (subst (λ j. Contains (conditional_of_number task atoms j) c) (sym same) among))
    ];
    within = λ atom value k there. elim (next.only atom value k there) [
      | inl before ↦ among-left asked (number ∷ []) k (so.within atom value k before)
      | inr is ↦ among-right asked (number ∷ []) k (subst (λ j. is_among (number ∷ []) j ≡ true) (sym is) (among-here number []))
    ];
  }

-- ---- numbers of atoms

-- changes of numbered atoms
pub counting-within : (task : Task) (atoms : List Atom) (number width : ℕ) (changes : List NumberedChange) → changes ≡ counting_of_number task atoms number → width ≡ length atoms
    → All (λ (c : NumberedChange). c.atom < width) changes
counting-within task atoms number width changes same wide = λ k d below.
    let c = get_or changes k d in
    let at = Contains-got changes k c (slice_get-get_or changes k d below) in
    let within = counting-below atoms task number c (subst (λ (l : List NumberedChange). Contains l c) same at) in
    omega (arith, within, wide)

pub change-within : (width : ℕ) (changes : List CountingChange) (i : ℕ) (x : CountingChange) → i < length changes → x ≡ get_or changes i x
    → All (λ (c : NumberedChange). c.atom < width) (map counting_of changes) → x.atom < width
change-within width changes i x below is all =
    let one = all i (counting_of x) (omega (arith, below, length-map changes counting_of)) in
    let same : get_or (map counting_of changes) i (counting_of x) ≡ counting_of x = get_or-map counting_of changes i x (counting_of x) below ∙ ap counting_of (sym is) in
    subst (λ (c : NumberedChange). c.atom < width) same one
