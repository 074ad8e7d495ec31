-- The numbers in literals and changes are those of numbered atoms.
use Rattle.std.proofs.Common.{◌≡◌, ℕ, ◌<◌, Bool, true, false, List, [], length, None, Some, refl, ap, subst}
use Rattle.std.specs.Prelude.{Contains, slice_get}
use Rattle.std.specs.Option.{option_map, option_map_or}
use Rattle.std.proofs.lemmas.Option.{slice_get_within}
use Rattle.model.specs.Task.{Atom, Formula, Task, Instance}
use Rattle.model.specs.Meaning.{GroundLiteral, adds, deletes, Change}
use Rattle.model.specs.SureLiterals.{Literal, is_true, is_false, are_same, are_different, sure}
use Rattle.model.specs.StaticallyFalse.{kept_instances, is_unconditional, counting_changes}
use Rattle.model.specs.NumberedAtoms.{number_of}
use Rattle.model.specs.NumberedLiterals.{NumberedLiteral, NumberedChange, numbered_literal, numbered_literals, numbered_ground_literal, numbered_change, literals_of_instance, literals_of_number, counting_of_instance, counting_of_number}
use Rattle.model.proofs.ListLemmas.{Contains-none, filter_map-Contains}
use Rattle.model.proofs.NumberingLemmas.{got-number_of}

module _ (atoms : List Atom) where
  number-below : (a : Atom) (n : ℕ) → number_of atoms a ≡ Some n → n < length atoms
  number-below a n is = slice_get_within atoms n a (got-number_of atoms a n is)

  of-number : (a : Atom) (value : Bool) (l : NumberedLiteral) → option_map (λ (number : ℕ). record { atom = number; value = value }) (number_of atoms a) ≡ Some l → l.atom < length atoms
  of-number a value l is =
      elim (number_of atoms a) as (λ o. number_of atoms a ≡ o → option_map (λ (number : ℕ). record { atom = number; value = value }) o ≡ Some l → l.atom < length atoms) [
        | None ↦ λ _ none. absurd (cc)
        | Some k ↦ λ at some.
            let same : record { atom = k; value = value } ≡ l = cc in
            subst (λ (m : NumberedLiteral). m.atom < length atoms) same (number-below a k at)
      ] refl is

  numbered-below : (l : Literal) (k : NumberedLiteral) → numbered_literal atoms l ≡ Some k → k.atom < length atoms
  numbered-below (is_true a) k is = of-number a true k is
  numbered-below (is_false a) k is = of-number a false k is
  numbered-below (are_same a b) k none = absurd (cc)
  numbered-below (are_different a b) k none = absurd (cc)

  changed-below : (l : GroundLiteral) (k : NumberedLiteral) → numbered_ground_literal atoms l ≡ Some k → k.atom < length atoms
  changed-below (adds a) k is = numbered-below (is_true a) k is
  changed-below (deletes a) k is = numbered-below (is_false a) k is

  change-below : (c : Change) (k : NumberedChange) → numbered_change atoms c ≡ Some k → k.atom < length atoms
  change-below c k is =
      elim (numbered_ground_literal atoms c.literal) as (λ o. numbered_ground_literal atoms c.literal ≡ o
      → option_map (λ (l : NumberedLiteral). record { atom = l.atom; value = l.value; is_unconditional = is_unconditional c }) o ≡ Some k → k.atom < length atoms) [
        | None ↦ λ _ none. absurd (cc)
        | Some l ↦ λ at some.
            let same : record { atom = l.atom; value = l.value; is_unconditional = is_unconditional c } ≡ k = cc in
            subst (λ (m : NumberedChange). m.atom < length atoms) same (changed-below c.literal l at)
      ] refl is

  pub literals-below : (task : Task) (f : Formula) (binding : List ℕ) (l : NumberedLiteral) → Contains (numbered_literals task atoms f binding) l → l.atom < length atoms
  literals-below task f binding l at =
      let it = filter_map-Contains (numbered_literal atoms) (sure task f binding) l at in
      numbered-below it.0 l it.2

  pub counting-below : (task : Task) (number : ℕ) (c : NumberedChange) → Contains (counting_of_number task atoms number) c → c.atom < length atoms
  counting-below task number c at =
      elim (slice_get (kept_instances task) number) as (λ o. Contains (option_map_or (counting_of_instance task atoms) o []) c → c.atom < length atoms) [
        | None ↦ λ none. absurd (Contains-none c none)
        | Some i ↦ λ among.
            let it = filter_map-Contains (numbered_change atoms) (counting_changes task i) c among in
            change-below it.0 c it.2
      ] at

  -- the lists for a number are those of its instance
  pub literals-named : (task : Task) (number : ℕ) (i : Instance) → slice_get (kept_instances task) number ≡ Some i → literals_of_number task atoms number ≡ literals_of_instance task atoms i
  literals-named task number i named = ap (λ o. option_map_or (literals_of_instance task atoms) o []) named

  pub counting-named : (task : Task) (number : ℕ) (i : Instance) → slice_get (kept_instances task) number ≡ Some i → counting_of_number task atoms number ≡ counting_of_instance task atoms i
  counting-named task number i named = ap (λ o. option_map_or (counting_of_instance task atoms) o []) named
