-- Properties of the false parts of a formula.
use Rattle.std.specs.Prelude.{◌≡◌, ℕ, Bool, true, false, ◌&&◌, ◌||◌, not, if◌then◌else◌, List, [], ◌∷◌, ◌++◌, drop, All, refl}
use Rattle.std.proofs.Common.{ap, subst}
use Rattle.std.specs.Cmp.{first_so, second_so}
use Rattle.std.specs.List.{flat_map, list_all}
use Rattle.std.proofs.lemmas.List.Elements.{All-nil, All-cons, All-append, All-get_or}
use Rattle.std.proofs.lemmas.Option.{slice_get_within, get_or_from_slice_get}
use Rattle.task.proofs.Lists.{nil_left, nil_right}
use Rattle.explain_plans.specs.FalseParts.{Part, part_holds, false_parts, false_parts_of_all, itself_if_false, FalsePartsReport}
use Rattle.explain_plans.specs.NamesLeft.{names_left}
use Rattle.model.specs.Task.{Task, Name, Formula, Formulas, atom, equal, and, or, imply, exists, forall, no_formula, more_formulas}
use Rattle.model.specs.Task as task
use Rattle.model.specs.Meaning.{State, holds, all_hold, objects_of}

-- ---- lists

module _ {X Y : Type 0} (p : X → Bool) (f : X → List Y) where
  nothing_from_all : ((x : X) → p x ≡ true → f x ≡ []) → (xs : List X) → list_all p xs ≡ true → flat_map f xs ≡ []
  nothing_from_all each [] all = refl
  nothing_from_all each (x ∷ xs) all =
      λ i. each x (first_so (p x) (list_all p xs) all) i ++ nothing_from_all each xs (second_so (p x) (list_all p xs) all) i

  all_from_nothing : ((x : X) → f x ≡ [] → p x ≡ true) → (xs : List X) → flat_map f xs ≡ [] → list_all p xs ≡ true
  all_from_nothing each [] none = refl
  all_from_nothing each (x ∷ xs) none =
      λ i. each x (nil_left (f x) (flat_map f xs) none) i && all_from_nothing each xs (nil_right (f x) (flat_map f xs) none) i

All-flat_map : {X Y : Type 0} (P : Y → Type 0) (f : X → List Y) → ((x : X) → All P (f x)) → (xs : List X) → All P (flat_map f xs)
All-flat_map P f each [] = All-nil P
All-flat_map P f each (x ∷ xs) = All-append P (f x) (flat_map f xs) (each x) (All-flat_map P f each xs)

-- ---- a formula that is its own minimal part

module _ (t : Task) (s : State) (f : Formula) (objects : List ℕ) (names : List Name) where
  abbrev itself : Part
  itself = record { formula = f; objects = objects; names = names }

  none_if : holds t f objects s ≡ true → itself_if_false t f objects names s ≡ []
  none_if so = ap (λ b. if b then [] else itself ∷ []) so

  if_none : itself_if_false t f objects names s ≡ [] → holds t f objects s ≡ true
  if_none none =
      elim (holds t f objects s) as (λ b. (if b then [] else itself ∷ []) ≡ [] → b ≡ true) [
        | true ↦ λ e. refl
        | false ↦ λ e. absurd (cc)
      ] none

  itself_is_false : All (λ p. part_holds t s p ≡ false) (itself_if_false t f objects names s)
  itself_is_false =
      elim (holds t f objects s) as (λ b. holds t f objects s ≡ b → All (λ p. part_holds t s p ≡ false) (if b then [] else itself ∷ [])) [
        | true ↦ λ e. All-nil (λ p. part_holds t s p ≡ false)
        | false ↦ λ e. All-cons (λ p. part_holds t s p ≡ false) itself [] e (All-nil (λ p. part_holds t s p ≡ false))
      ] refl

-- ---- all formulas

module _ (t : Task) (s : State) where
  mutual
    none_where_holds : (f : Formula) (b : List ℕ) (ns : List Name) → holds t f b s ≡ true → false_parts t f b ns s ≡ []
    none_where_holds (atom a) b ns so = none_if t s (atom a) b ns so
    none_where_holds (equal u v) b ns so = none_if t s (equal u v) b ns so
    none_where_holds (and parts) b ns so = none_where_all_hold parts b ns so
    none_where_holds (or parts) b ns so = none_if t s (or parts) b ns so
    none_where_holds (task.not part) b ns so = none_if t s (task.not part) b ns so
    none_where_holds (imply premise conclusion) b ns so =
        elim (holds t premise b s) as (λ v. (not v || holds t conclusion b s) ≡ true → (if v then false_parts t conclusion b (names_left premise ns) s else []) ≡ []) [
          | true ↦ λ e. none_where_holds conclusion b (names_left premise ns) e
          | false ↦ λ e. refl
        ] so
    none_where_holds (exists types part) b ns so = none_if t s (exists types part) b ns so
    none_where_holds (forall types part) b ns so =
        nothing_from_all (λ one. holds t part (b ++ one ∷ []) s) (λ one. false_parts t part (b ++ one ∷ []) (drop 1 ns) s)
        (λ one e. none_where_holds part (b ++ one ∷ []) (drop 1 ns) e) (objects_of t types) so

    none_where_all_hold : (parts : Formulas) (b : List ℕ) (ns : List Name) → all_hold t parts b s ≡ true → false_parts_of_all t parts b ns s ≡ []
    none_where_all_hold no_formula b ns so = refl
    none_where_all_hold (more_formulas first rest) b ns so =
        λ i. none_where_holds first b ns (first_so (holds t first b s) (all_hold t rest b s) so) i
        ++ none_where_all_hold rest b (names_left first ns) (second_so (holds t first b s) (all_hold t rest b s) so) i

  mutual
    holds_where_none : (f : Formula) (b : List ℕ) (ns : List Name) → false_parts t f b ns s ≡ [] → holds t f b s ≡ true
    holds_where_none (atom a) b ns none = if_none t s (atom a) b ns none
    holds_where_none (equal u v) b ns none = if_none t s (equal u v) b ns none
    holds_where_none (and parts) b ns none = all_hold_where_none parts b ns none
    holds_where_none (or parts) b ns none = if_none t s (or parts) b ns none
    holds_where_none (task.not part) b ns none = if_none t s (task.not part) b ns none
    holds_where_none (imply premise conclusion) b ns none =
        elim (holds t premise b s) as (λ v. (if v then false_parts t conclusion b (names_left premise ns) s else []) ≡ [] → (not v || holds t conclusion b s) ≡ true) [
          | true ↦ λ e. holds_where_none conclusion b (names_left premise ns) e
          | false ↦ λ e. refl
        ] none
    holds_where_none (exists types part) b ns none = if_none t s (exists types part) b ns none
    holds_where_none (forall types part) b ns none =
        all_from_nothing (λ one. holds t part (b ++ one ∷ []) s) (λ one. false_parts t part (b ++ one ∷ []) (drop 1 ns) s)
        (λ one e. holds_where_none part (b ++ one ∷ []) (drop 1 ns) e) (objects_of t types) none

    all_hold_where_none : (parts : Formulas) (b : List ℕ) (ns : List Name) → false_parts_of_all t parts b ns s ≡ [] → all_hold t parts b s ≡ true
    all_hold_where_none no_formula b ns none = refl
    all_hold_where_none (more_formulas first rest) b ns none =
        λ i. holds_where_none first b ns (nil_left (false_parts t first b ns s) (false_parts_of_all t rest b (names_left first ns) s) none) i
        && all_hold_where_none rest b (names_left first ns) (nil_right (false_parts t first b ns s) (false_parts_of_all t rest b (names_left first ns) s) none) i

  abbrev IsFalse : Part → Type 0
  IsFalse p = part_holds t s p ≡ false

  mutual
    each_is_false : (f : Formula) (b : List ℕ) (ns : List Name) → All IsFalse (false_parts t f b ns s)
    each_is_false (atom a) b ns = itself_is_false t s (atom a) b ns
    each_is_false (equal u v) b ns = itself_is_false t s (equal u v) b ns
    each_is_false (and parts) b ns = each_of_all_is_false parts b ns
    each_is_false (or parts) b ns = itself_is_false t s (or parts) b ns
    each_is_false (task.not part) b ns = itself_is_false t s (task.not part) b ns
    each_is_false (imply premise conclusion) b ns =
        elim (holds t premise b s) as (λ v. All IsFalse (if v then false_parts t conclusion b (names_left premise ns) s else [])) [
          | true ↦ each_is_false conclusion b (names_left premise ns)
          | false ↦ All-nil IsFalse
        ]
    each_is_false (exists types part) b ns = itself_is_false t s (exists types part) b ns
    each_is_false (forall types part) b ns =
        All-flat_map IsFalse (λ one. false_parts t part (b ++ one ∷ []) (drop 1 ns) s) (λ one. each_is_false part (b ++ one ∷ []) (drop 1 ns)) (objects_of t types)

    each_of_all_is_false : (parts : Formulas) (b : List ℕ) (ns : List Name) → All IsFalse (false_parts_of_all t parts b ns s)
    each_of_all_is_false no_formula b ns = All-nil IsFalse
    each_of_all_is_false (more_formulas first rest) b ns =
        All-append IsFalse (false_parts t first b ns s) (false_parts_of_all t rest b (names_left first ns) s) (each_is_false first b ns) (each_of_all_is_false rest b (names_left first ns))

pub they_report : FalsePartsReport
they_report = record {
  none = λ t f b ns s. (none_where_holds t s f b ns, holds_where_none t s f b ns);
  are_false = λ t f b ns s n p got.
      let within = slice_get_within (false_parts t f b ns s) n p got in
      subst (λ q. part_holds t s q ≡ false) (get_or_from_slice_get (false_parts t f b ns s) n p p got)
      (All-get_or (λ q. part_holds t s q ≡ false) (false_parts t f b ns s) n p within (each_is_false t s f b ns));
}
