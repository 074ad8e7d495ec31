-- Filling the rows of instances that touch an atom.
use Rattle.std.proofs.Common.{◌≡◌, ◌∙◌, ℕ, zero, suc, ◌+◌, ◌<◌, inl, inr, Bool, true, false, true≢false, ◌||◌, ◌==◌, List, [], ◌∷◌, ◌++◌, map, take, get_or, length, refl, sym, ap, subst, arith}
use Rattle.std.specs.Prelude.{if◌then◌else◌, ◌⊎◌, All, Contains}
use Rattle.std.proofs.lemmas.Bool.{cases_eq, eq-eqb, eqb-true}
use Rattle.std.proofs.lemmas.List.Elements.{All-contains, All-contains_itself}
use Rattle.std.proofs.lemmas.List.{map-append}
use Rattle.model.proofs.ListLemmas.{Contains-here, Contains-there, Contains-cases, Contains-none, Contains-map}
use Rattle.grounding.specs.declared.changes.CountingChange.{CountingChange}
use Rattle.grounding.specs.Changes.{counting_of}
use Rattle.potentials.proofs.ListLemmas.{map-take-more}
use Rattle.model.specs.Task.{Atom, Task}
use Rattle.model.specs.NumberedLiterals.{NumberedChange, counting_of_number}
use Rattle.lower_bounds.specs.FairPotentials.{touches}
use Rattle.lower_bounds.proofs.Numbers.{counting-below}
use Rattle.potentials_drafted.specs.declared.incidence.IncidenceEntry.{IncidenceEntry}
use Rattle.potentials_drafted.specs.declared.incidence.Incidence.{Incidence}
use Rattle.potentials_drafted.specs.Incidence.{number_of, touches_at, row_of, IsIncidence, IsAdded}
use Rattle.potentials.proofs.LossLemmas.{touches-append}

-- an element read from a list is in it
pub got-again : {X : Type 0} (xs : List X) (n : ℕ) (d : X) → n < length xs → get_or xs n d ≡ get_or xs n (get_or xs n d)
got-again [] n d within = absurd (omega arith)
got-again (x ∷ xs) zero d within = refl
got-again (x ∷ xs) (suc n) d within = got-again xs n d (omega arith)

-- ---- rows

Contains-before : {X : Type 0} (xs : List X) (x y : X) → Contains xs y → Contains (xs ++ x ∷ []) y
Contains-before [] x y among = absurd (Contains-none y among)
Contains-before (z ∷ xs) x y among = elim (Contains-cases z xs y among) [
  | inl is ↦ subst (Contains (z ∷ (xs ++ x ∷ []))) is (Contains-here z (xs ++ x ∷ []))
  | inr later ↦ Contains-there z (xs ++ x ∷ []) y (Contains-before xs x y later)
]

Contains-last : {X : Type 0} (xs : List X) (x : X) → Contains (xs ++ x ∷ []) x
Contains-last [] x = Contains-here x []
Contains-last (z ∷ xs) x = Contains-there z (xs ++ x ∷ []) x (Contains-last xs x)

pub Contains-appended : {X : Type 0} (xs : List X) (x y : X) → Contains (xs ++ x ∷ []) y → Contains xs y ⊎ (y ≡ x)
Contains-appended [] x y among = elim (Contains-cases x [] y among) [
  | inl is ↦ inr (sym is)
  | inr none ↦ absurd (Contains-none y none)
]
Contains-appended (z ∷ xs) x y among = elim (Contains-cases z (xs ++ x ∷ []) y among) [
  | inl is ↦ inl (subst (Contains (z ∷ xs)) is (Contains-here z xs))
  | inr later ↦ elim (Contains-appended xs x y later) [
    | inl within ↦ inl (Contains-there z xs y within)
    | inr is ↦ inr is
  ]
]

pub added-none : (number : ℕ) (t : Incidence) → IsAdded number [] t t
added-none number t = record { width = refl; kept = λ a n among. among; only = λ a n among. inl among; added = λ a touched. absurd (true≢false (sym touched)) }

-- one more change
pub added-more : (number : ℕ) (done : List NumberedChange) (c : NumberedChange) (old mid new : Incidence) → IsAdded number done old mid → length new.rows.items ≡ length mid.rows.items
    → ((a : ℕ) → row_of new a ≡ (if a == c.atom then row_of mid a ++ number ∷ [] else row_of mid a)) → IsAdded number (done ++ c ∷ []) old new
added-more number done c old mid new so width rows = record {
  width = width ∙ so.width;
  kept = λ a n among. into a n (so.kept a n among);
  only = λ a n among. out a n among;
  added = λ a touched. made a (sym (touches-append done c a) ∙ touched);
}
  where
    into : (a n : ℕ) → Contains (row_of mid a) n → Contains (row_of new a) n
    into a n among = subst (λ r. Contains r n) (sym (rows a)) (of_bit (a == c.atom))
      where
        of_bit : (b : Bool) → Contains (if b then row_of mid a ++ number ∷ [] else row_of mid a) n
        of_bit true = Contains-before (row_of mid a) number n among
        of_bit false = among

    out : (a n : ℕ) → Contains (row_of new a) n → Contains (row_of old a) n ⊎ (n ≡ number)
    out a n among = of_bit (a == c.atom) (subst (λ r. Contains r n) (rows a) among)
      where
        of_bit : (b : Bool) → Contains (if b then row_of mid a ++ number ∷ [] else row_of mid a) n → Contains (row_of old a) n ⊎ (n ≡ number)
        of_bit true last = elim (Contains-appended (row_of mid a) number n last) [
          | inl earlier ↦ so.only a n earlier
          | inr is ↦ inr is
        ]
        of_bit false earlier = so.only a n earlier

    made : (a : ℕ) → (touches done a || c.atom == a) ≡ true → Contains (row_of new a) number
    made a touched = of_bit (touches done a) refl touched
      where
        of_bit : (b : Bool) → touches done a ≡ b → (b || c.atom == a) ≡ true → Contains (row_of new a) number
        of_bit true before e = into a number (so.added a before)
        of_bit false before e =
            let here : a == c.atom ≡ true = eq-eqb a c.atom (sym (eqb-true c.atom a e)) in
            subst (λ r. Contains r number) (sym (rows a ∙ ap (λ b. if b then row_of mid a ++ number ∷ [] else row_of mid a) here)) (Contains-last (row_of mid a) number)

module _ (task : Task) (atoms : List Atom) where
  pub incidence-none : (t : Incidence) → length t.rows.items ≡ length atoms → ((a : ℕ) → row_of t a ≡ []) → IsIncidence task atoms 0 t
  incidence-none t width empty = record {
    width = width;
    within = λ a n among. absurd (Contains-none n (subst (λ r. Contains r n) (empty a) among));
    covers = λ a n below. absurd (omega arith);
  }

  -- one more instance
  pub incidence-more : (number : ℕ) (old new : Incidence) (changes : List NumberedChange) → IsIncidence task atoms number old → changes ≡ counting_of_number task atoms number → IsAdded number changes old new
      → IsIncidence task atoms (number + 1) new
  incidence-more number old new changes so are more = record {
    width = more.width ∙ so.width;
    within = λ a n among. elim (more.only a n among) [
      | inl earlier ↦ let below = so.within a n earlier in omega arith
      | inr is ↦ omega arith
    ];
    covers = λ a n below touched. elim (cases_eq n number) [
      | inl is ↦ subst (Contains (row_of new a)) (sym is) (more.added a (ap (λ l. touches l a) are ∙ subst (λ k. touches (counting_of_number task atoms k) a ≡ true) is touched))
      | inr other ↦ more.kept a n (so.covers a n (omega arith) touched)
    ];
  }

-- ---- what the code reads from a list

pub atom-below : (xs : List CountingChange) (place m k : ℕ) (d : CountingChange) → All (λ (c : NumberedChange). c.atom < m) (map counting_of xs) → place < length xs → k ≡ m → (get_or xs place d).atom < k
atom-below xs place m k d all within is =
    subst (λ l. (get_or xs place d).atom < l) (sym is)
    (All-contains (λ (c : NumberedChange). c.atom < m) (map counting_of xs) (counting_of (get_or xs place d)) all (Contains-map counting_of xs (get_or xs place d) (All-contains_itself xs place d within)))

pub atoms-below : (task : Task) (atoms : List Atom) (n number : ℕ) (t : Incidence) (changes : List NumberedChange) → IsIncidence task atoms n t → changes ≡ counting_of_number task atoms number
    → All (λ (c : NumberedChange). c.atom < length t.rows.items) changes
atoms-below task atoms n number t changes so are =
    subst (All (λ (c : NumberedChange). c.atom < length t.rows.items)) (sym are)
    (λ k d below. subst (λ l. (get_or (counting_of_number task atoms number) k d).atom < l) (sym so.width)
    (counting-below atoms task number (get_or (counting_of_number task atoms number) k d) (All-contains_itself (counting_of_number task atoms number) k d below)))

-- a row to which an instance is added
pub row-pushed : (mid new : Incidence) (x : IncidenceEntry) (atom : ℕ) → ((a : ℕ) → touches_at new a ≡ (if a == atom then touches_at mid a ++ x ∷ [] else touches_at mid a))
    → (a : ℕ) → row_of new a ≡ (if a == atom then row_of mid a ++ x.number ∷ [] else row_of mid a)
row-pushed mid new x atom rows a = ap (map number_of) (rows a) ∙ of_bit (a == atom)
  where
    of_bit : (b : Bool) → map number_of (if b then touches_at mid a ++ x ∷ [] else touches_at mid a) ≡ (if b then row_of mid a ++ x.number ∷ [] else row_of mid a)
    of_bit true = map-append number_of (touches_at mid a) (x ∷ [])
    of_bit false = refl

-- what is outside the rows does not matter
pub added-alike : (number : ℕ) (changes : List NumberedChange) (old new other : Incidence) → IsAdded number changes old new → other.rows ≡ new.rows → IsAdded number changes old other
added-alike number changes old new other so is = subst (λ rows. IsAdded number changes old (record new { rows = rows; atoms = other.atoms; ends = other.ends })) (sym is)
    (record { width = so.width; kept = so.kept; only = so.only; added = so.added })

-- one more change of the code's list, of an atom that an earlier one also changes
pub added-again : (number : ℕ) (xs : List CountingChange) (place : ℕ) (d : CountingChange) (old new : Incidence) → place < length xs
    → touches (map counting_of (take place xs)) (get_or xs place d).atom ≡ true → IsAdded number (map counting_of (take place xs)) old new
    → IsAdded number (map counting_of (take (place + 1) xs)) old new
added-again number xs place d old new within known so =
    subst (λ l. IsAdded number l old new) (sym (map-take-more counting_of xs place (get_or xs place d) within (got-again xs place d within)))
    (record { width = so.width; kept = so.kept; only = so.only; added = λ a touched. made a (touches done a) refl (sym (touches-append done c a) ∙ touched) })
  where
    done : List NumberedChange
    done = map counting_of (take place xs)

    c : NumberedChange
    c = counting_of (get_or xs place d)

    made : (a : ℕ) (b : Bool) → touches done a ≡ b → (b || c.atom == a) ≡ true → Contains (row_of new a) number
    made a true before e = so.added a before
    made a false before e = so.added a (subst (λ k. touches done k ≡ true) (eqb-true c.atom a e) known)

-- one more change of the code's list
pub added-at : (number : ℕ) (xs : List CountingChange) (place : ℕ) (d : CountingChange) (old mid new : Incidence) → place < length xs → IsAdded number (map counting_of (take place xs)) old mid
    → length new.rows.items ≡ length mid.rows.items → ((a : ℕ) → row_of new a ≡ (if a == (get_or xs place d).atom then row_of mid a ++ number ∷ [] else row_of mid a))
    → IsAdded number (map counting_of (take (place + 1) xs)) old new
added-at number xs place d old mid new within so width rows =
    subst (λ l. IsAdded number l old new) (sym (map-take-more counting_of xs place (get_or xs place d) within (got-again xs place d within)))
    (added-more number (map counting_of (take place xs)) (counting_of (get_or xs place d)) old mid new so width rows)
