-- The lists of instances by an atom that they want: how they are filled.
use Rattle.std.proofs.Common.{◌≡◌, ◌∙◌, ◌<◌, ℕ, zero, suc, ◌+◌, ◌==◌, inl, inr, Bool, true, false, not, List, [], ◌∷◌, ◌++◌, None, Some, Option, map, length, length-append, get_or, refl, sym, ap, subst, arith}
use Rattle.std.specs.Prelude.{filter, if◌then◌else◌, slice_get, IfSome, cond}
use Rattle.std.specs.List.{All, range_with_len}
use Rattle.std.proofs.lemmas.Bool.{eqb-true}
use Rattle.std.proofs.lemmas.List.Elements.{All-nil, All-push}
use Rattle.std.proofs.lemmas.Option.{slice_get_within}
use Rattle.grounding_instances.specs.declared.numbering.Numbering.{Numbering}
use Rattle.grounding_instances.specs.Numbering as numbering
use Rattle.grounding_instances.specs.Numbering.{instances_in}
use Rattle.grounding_instances.specs.declared.numbers.NumberedLiteral.{NumberedLiteral}
use Rattle.grounding_instances.specs.Numbers.{numbered_of}
use Rattle.grounding.specs.declared.condition.Condition.{Condition}
use Rattle.grounding.specs.declared.watch_lists.WatchLists.{WatchLists}
use Rattle.grounding.specs.Conditions.{literals_in, can_hold_at}
use Rattle.grounding.specs.InPlace.{AreInPlace}
use Rattle.grounding.specs.Preconditions.{IsPrecondition}
use Rattle.grounding.specs.Watched.{IsRequired, IsWatchable, IsEither}
use Rattle.grounding.specs.WatchLists.{times, filed_below, row_of, filed, is_in_row, with_unwatched, IsFiled, IsRequiredBy, AreWatched}
use Rattle.grounding.proofs.Conditions.{literals-within}
use Rattle.grounding.proofs.FiledNumbers.{times-append, filed-more, filed-alike, filter-append, range-more}
use Rattle.grounding.proofs.GroundLemmas.{schema-of}
use Rattle.grounding.proofs.StepLemmas.{kept-is_instance}
use Rattle.model.specs.NumberedLiterals as model
use Rattle.model.specs.NumberedLiterals.{agrees}
use Rattle.model.proofs.Tests.{passes_not_index, passes_map}

-- ---- the atom that is watched

required-at : (literals : List NumberedLiteral) (i : ℕ) (d : NumberedLiteral) → i < length literals → (get_or literals i d).value ≡ true
    → IsRequired (map numbered_of literals) (get_or literals i d).atom
required-at literals i d within value bits off =
    let test = agrees bits in
    let here : test (numbered_of (get_or literals i d)) ≡ false =
    ap (λ b. if b then get_or bits (get_or literals i d).atom false else not (get_or bits (get_or literals i d).atom false)) value ∙ off in
    passes_map test numbered_of literals ∙ sym (passes_not_index (λ l. test (numbered_of l)) literals i d within here)

-- one literal more
pub watchable-next : (width : ℕ) (literals : List NumberedLiteral) (i : ℕ) (d : NumberedLiteral) (other answer : Option ℕ) → i < length literals → (get_or literals i d).atom < width
    → IfSome other (IsWatchable width (map numbered_of literals)) → IsEither other (numbered_of (get_or literals i d)) answer → IfSome answer (IsWatchable width (map numbered_of literals))
watchable-next width literals i d other answer within below before either = elim either [
  | inl same ↦ subst (λ o. IfSome o (IsWatchable width (map numbered_of literals))) (sym same) before
  | inr (value, is) ↦ subst (λ o. IfSome o (IsWatchable width (map numbered_of literals))) (sym is) (below, required-at literals i d within value)
]

pub watchable-below : (width : ℕ) (literals : List model.NumberedLiteral) (watched : Option ℕ) → IfSome watched (IsWatchable width literals) → IfSome watched (λ a. a < width)
watchable-below width literals None is = tt
watchable-below width literals (Some a) is = is.0

-- ---- filling the lists

filed-empty : (row : ℕ → List ℕ) → ((a : ℕ) → row a ≡ []) → (n : ℕ) → filed_below row n ≡ []
filed-empty row none zero = refl
filed-empty row none (suc n) = (λ j. filed-empty row none n j ++ none n j)

-- one number more, by any measure that adds up
sized : (size : List ℕ → ℕ) (none : size [] ≡ 0) (adds : (xs ys : List ℕ) → size (xs ++ ys) ≡ size xs + size ys) (number : ℕ) (watched : Option ℕ) (old new : WatchLists)
    → IsFiled number watched old new → IfSome watched (λ a. a < length old.rows.items) → size (filed new) ≡ size (filed old) + size (number ∷ [])
sized size none adds number None old new is below =
    let w = length old.rows.items in
    let width = ap (λ n. size (filed_below (row_of new) n)) is.width in
    let rows = ap size (filed-alike (row_of new) (row_of old) is.rows w) in
    omega (arith, adds (filed_below (row_of new) (length new.rows.items)) new.unwatched.items, adds (filed_below (row_of old) w) old.unwatched.items, width, rows, ap size is.unwatched, adds old.unwatched.items (number ∷ []))
sized size none adds number (Some a) old new is below =
    let w = length old.rows.items in
    let width = ap (λ n. size (filed_below (row_of new) n)) is.width in
    let rows = filed-more size none adds (row_of old) (row_of new) a number is.rows w below in
    omega (arith, adds (filed_below (row_of new) (length new.rows.items)) new.unwatched.items, adds (filed_below (row_of old) w) old.unwatched.items, width, rows, ap size is.unwatched)

module _ (width : ℕ) (conditions : List Condition) where
  pub watched-none : (w : WatchLists) → length w.rows.items ≡ width → ((a : ℕ) → row_of w a ≡ []) → w.unwatched.items ≡ [] → AreWatched width conditions 0 w
  watched-none w wide rows unwatched = record {
    wide = wide;
    few = omega (arith, ap length none);
    each = λ n. ap (times n) none;
    rows = λ a. subst (All (IsRequiredBy conditions a)) (sym (rows a)) (All-nil (IsRequiredBy conditions a));
    unwatched = subst (All (λ n. n < length conditions)) (sym unwatched) (All-nil (λ n. n < length conditions));
  }
    where
      none : filed w ≡ []
      none = (λ j. filed-empty (row_of w) rows (length w.rows.items) j ++ unwatched j)

  abbrev may : ℕ → Bool
  may = can_hold_at conditions

  -- how often a number is among those that may hold, of one condition more
  may-more : (number n : ℕ) → times n (filter may (range_with_len 0 (number + 1))) ≡ times n (filter may (range_with_len 0 number)) + times n (filter may (number ∷ []))
  may-more number n =
      ap (λ l. times n (filter may l)) (range-more number) ∙ ap (times n) (filter-append may (range_with_len 0 number) (number ∷ []))
      ∙ times-append n (filter may (range_with_len 0 number)) (filter may (number ∷ []))

  -- a condition more that may hold nowhere, which is not filed
  pub watched-same : (number : ℕ) (w : WatchLists) → AreWatched width conditions number w → can_hold_at conditions number ≡ false → AreWatched width conditions (number + 1) w
  watched-same number w so never = record {
    wide = so.wide;
    few = omega (arith, so.few);
    each = λ n. let none : times n (filter may (number ∷ [])) ≡ 0 = ap (λ b. times n (cond b (number ∷ []) [])) never in omega (arith, so.each n, may-more number n, none);
    rows = so.rows;
    unwatched = so.unwatched;
  }

  -- one condition more that may hold
  pub watched-more : (number : ℕ) (watched : Option ℕ) (old new : WatchLists) (c : Condition) → AreWatched width conditions number old → IsFiled number watched old new
      → number < length conditions → slice_get conditions number ≡ Some c → IfSome watched (IsWatchable width (literals_in c)) → can_hold_at conditions number ≡ true
      → AreWatched width conditions (number + 1) new
  watched-more number watched old new c so is within at watchable may_hold = record {
    wide = is.width ∙ so.wide;
    few = omega (arith, sized length refl length-append number watched old new is below, so.few);
    each = λ n.
        let one : times n (filter may (number ∷ [])) ≡ times n (number ∷ []) = ap (λ b. times n (cond b (number ∷ []) [])) may_hold in
        omega (arith, sized (times n) refl (times-append n) number watched old new is below, so.each n, may-more number n, one);
    rows = λ a. subst (All (IsRequiredBy conditions a)) (sym (is.rows a)) (row a watched watchable);
    unwatched = subst (All (λ n. n < length conditions)) (sym is.unwatched) (others watched);
  }
    where
      below : IfSome watched (λ a. a < length old.rows.items)
      below = subst (λ w. IfSome watched (λ a. a < w)) (sym so.wide) (watchable-below width (literals_in c) watched watchable)

      needs : (a : ℕ) → IsRequired (literals_in c) a → IsRequiredBy conditions a number
      needs a required = (within, λ d there. let same : c ≡ d = cc in subst (λ e. IsRequired (literals_in e) a) same required)

      row : (a : ℕ) (watched : Option ℕ) → IfSome watched (IsWatchable width (literals_in c)) → All (IsRequiredBy conditions a) (if is_in_row watched a then row_of old a ++ number ∷ [] else row_of old a)
      row a None is = so.rows a
      row a (Some b) is = elim (a == b) as (λ t. a == b ≡ t → All (IsRequiredBy conditions a) (if t then row_of old a ++ number ∷ [] else row_of old a)) [
        | true ↦ λ same. All-push (IsRequiredBy conditions a) (row_of old a) number (so.rows a) (needs a (subst (IsRequired (literals_in c)) (sym (eqb-true a b same)) is.1))
        | false ↦ λ _. so.rows a
      ] refl

      others : (watched : Option ℕ) → All (λ n. n < length conditions) (with_unwatched watched number old.unwatched.items)
      others None = All-push (λ n. n < length conditions) old.unwatched.items number so.unwatched within
      others (Some a) = so.unwatched

-- ---- conditions in place

pub item-at : {X : Type 0} (xs : List X) (n : ℕ) → n < length xs → (x : X) × (slice_get xs n ≡ Some x)
item-at [] n within = absurd (omega (arith, within))
item-at (x ∷ xs) zero within = (x, refl)
item-at (x ∷ xs) (suc n) within = item-at xs n (omega (arith, within))

-- the literals of each condition are of numbered atoms
pub conditions-within : (n : Numbering) (conditions : List Condition) → AreInPlace (IsPrecondition (numbering.task_in n) (numbering.atoms_in n)) (instances_in n) conditions
    → (k : ℕ) (c : Condition) → slice_get conditions k ≡ Some c → All (λ (l : model.NumberedLiteral). l.atom < length (numbering.atoms_in n)) (literals_in c)
conditions-within n conditions are k c at =
    let t = numbering.task_in n in
    let i = item-at (instances_in n) k (omega (arith, are.as_long, slice_get_within conditions k c at)) in
    let s = schema-of t i.0 (kept-is_instance t k i.0 (ap (λ l. slice_get l k) (sym n.kept) ∙ i.1)) in
    literals-within t (numbering.atoms_in n) s.0.precondition i.0.objects c (are.each k i.0 c i.1 at s.0 s.1)
