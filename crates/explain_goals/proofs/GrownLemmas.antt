-- Sets that grow, call by call.
use Rattle.std.proofs.Common.{arith, ◌≡◌, ◌∙◌, ℕ, ◌+◌, ◌<◌, Bool, true, false, true≢false, not, ◌&&◌, ◌||◌, inl, inr, List, get_or, length, take, set, refl, sym, ap, subst}
use Rattle.std.specs.Prelude.{◌==◌, ◌⊎◌, ◌≢◌, nat_lt, cond}
use Rattle.std.specs.List.{list_all}
use Rattle.std.proofs.lemmas.Bool.{or_cases, or_left, or_right, lt-ltb, and_parts, and_from, eqb-true, eq-eqb}
use Rattle.std.proofs.lemmas.List.{length-set, length-map, get_or-set_same, get_or-set_other}
use Rattle.std.proofs.lemmas.List.Folds.{list_all_more}
use Rattle.std.proofs.lemmas.List.Sums.{sum_by-set}
use Rattle.model.specs.Task.{Atom, Task}
use Rattle.model.specs.Meaning.{initial_state}
use Rattle.model.specs.StaticallyFalse.{kept_instances}
use Rattle.model.specs.Grounding.{bits_of_state}
use Rattle.model.specs.NumberedLiterals.{NumberedLiteral, literals_of_number}
use Rattle.model.specs.ConditionalChanges.{ConditionalChange, conditional_of_number, number_requires_unnumbered}
use Rattle.model.proofs.Tests.{passes_weaker}
use Rattle.explain_goals.specs.Settled.{has, IsWithin, allows, allows_all, may_hold, may_add, may_apply, is_there, is_made, AreMade, AreSettledBelow, is_settled, IsLeastSettled, lacking, IsGrown, IsGrownTo}

-- ---- one number

apart : (k n : ℕ) → (k == n) ≡ false → k ≢ n
apart k n other same = true≢false (sym (eq-eqb k n same) ∙ other)

below_other : (k n : ℕ) → k < n + 1 → k ≢ n → k < n
below_other k n below other = omega (arith, below, other)

pub there-has : (s : List Bool) (number : ℕ) → number < length s → is_there s number ≡ true → has s number ≡ true
there-has s number below there =
    elim (or_cases (has s number) (not (nat_lt number (length s))) there) [
      | inl so ↦ so
      | inr past ↦ absurd (true≢false (sym past ∙ ap not (lt-ltb number (length s) below)))
    ]

pub unchanged : (P : List Bool → Type 0) (s : List Bool) → P s → IsGrown P s s false
unchanged P s so = record {
  width = refl;
  keeps = λ n at. at;
  no_more = omega arith;
  grows = λ is. absurd (true≢false (sym is));
  stays = λ _. (refl, so);
  least = λ other wide within passes. within;
}

set-keeps : (s : List Bool) (n k : ℕ) → n < length s → has s k ≡ true → has (set s n true) k ≡ true
set-keeps s n k below at = by_case (k == n) refl
  where
    by_case : (b : Bool) → (k == n) ≡ b → has (set s n true) k ≡ true
    by_case true same = let is : k ≡ n = eqb-true k n same in ap (has (set s n true)) is ∙ get_or-set_same s n true false below
    by_case false other = get_or-set_other s n k true false (apart k n other) ∙ at

set-cases : (s : List Bool) (n k : ℕ) → has (set s n true) k ≡ true → (k ≡ n) ⊎ (has s k ≡ true)
set-cases s n k at = by_case (k == n) refl
  where
    by_case : (b : Bool) → (k == n) ≡ b → (k ≡ n) ⊎ (has s k ≡ true)
    by_case true same = inl (eqb-true k n same)
    by_case false other = inr (sym (get_or-set_other s n k true false (apart k n other)) ∙ at)

fewer : (s : List Bool) (n : ℕ) → n < length s → has s n ≡ false → lacking (set s n true) < lacking s
fewer s n below out =
    let it = sum_by-set (λ b. cond (not b) 1 0) s n true false below in
    let one : ◌≡◌ {A = ℕ} (cond (not (get_or s n false)) 1 0) 1 = ap (λ b. cond (not b) 1 0) out in
    omega (arith, it, one)

pub inserted : (s new : List Bool) (n : ℕ) → n < length s → has s n ≡ false → new ≡ set s n true → IsGrown (λ some. is_there some n ≡ true) s new true
inserted s new n below out is =
    subst (λ l. IsGrown (λ some. is_there some n ≡ true) s l true) (sym is) (record {
      width = length-set s n true;
      keeps = λ k at. set-keeps s n k below at;
      no_more = let less = fewer s n below out in omega (arith, less);
      grows = λ _. fewer s n below out;
      stays = λ not_so. absurd (true≢false not_so);
      least = λ other wide within there k at.
          elim (set-cases s n k at) [
            | inl same ↦ ap (has other) same ∙ there-has other n (omega (arith, below, wide)) there
            | inr before ↦ within k before
          ];
    })

-- ---- one call after another

module _ (P Q R : List Bool → Type 0) (old now new : List Bool) (before here : Bool) where
  or_false_parts : (a b : Bool) → (a || b) ≡ false → (a ≡ false) × (b ≡ false)
  or_false_parts true b is = absurd (true≢false is)
  or_false_parts false b is = (refl, is)

  pub followed : IsGrown P old now before → IsGrown Q now new here → ((s : List Bool) → P s → Q s → R s) → ((s : List Bool) → R s → P s × Q s) → IsGrown R old new (here || before)
  followed first second both parts = record {
    width = second.width ∙ first.width;
    keeps = λ n at. second.keeps n (first.keeps n at);
    no_more = let a = first.no_more in let b = second.no_more in omega (arith, a, b);
    grows = λ is. elim (or_cases here before is) [
      | inl so ↦ let a = first.no_more in let b = second.grows so in omega (arith, a, b)
      | inr so ↦ let a = first.grows so in let b = second.no_more in omega (arith, a, b)
    ];
    stays = λ is.
        let neither = or_false_parts here before is in
        let same = first.stays neither.1 in
        let same_again = second.stays neither.0 in
        (same_again.0 ∙ same.0, both old same.1 (subst Q same.0 same_again.1));
    least = λ other wide within passes.
        let each = parts other passes in
        second.least other (wide ∙ sym first.width) (first.least other wide within each.0) each.1;
  }

-- the same by another property
pub grown-alike : (P Q : List Bool → Type 0) (old new : List Bool) (added : Bool) → IsGrown P old new added → (P old → Q old)
    → ((other : List Bool) → length other ≡ length old → IsWithin old other → Q other → P other) → IsGrown Q old new added
grown-alike P Q old new added grown to from = record {
  width = grown.width;
  keeps = grown.keeps;
  no_more = grown.no_more;
  grows = grown.grows;
  stays = λ is. let same = grown.stays is in (same.0, to same.1);
  least = λ other wide within passes. grown.least other wide within (from other wide within passes);
}

-- ---- what a smaller set allows, a greater one allows

module _ (s other : List Bool) (within : IsWithin s other) where
  allowed-within : (l : NumberedLiteral) → allows s l ≡ true → allows other l ≡ true
  allowed-within l so =
      elim (or_cases (not l.value) (has s l.atom) so) [
        | inl negative ↦ or_left (not l.value) (has other l.atom) negative
        | inr there ↦ or_right (not l.value) (has other l.atom) (within l.atom there)
      ]

  held-within : (demands : Bool) (literals : List NumberedLiteral) → may_hold s demands literals ≡ true → may_hold other demands literals ≡ true
  held-within demands literals so =
      let parts = and_parts (not demands) (allows_all s literals) so in
      and_from (not demands) (allows_all other literals) parts.0 (passes_weaker (allows s) (allows other) allowed-within literals parts.1)

  added-within : (c : ConditionalChange) → may_add s c ≡ true → may_add other c ≡ true
  added-within c so =
      let parts = and_parts c.change.value (may_hold s c.requires_unnumbered c.condition) so in
      and_from c.change.value (may_hold other c.requires_unnumbered c.condition) parts.0 (held-within c.requires_unnumbered c.condition parts.1)

-- a change whose condition needs only atoms of the set, and an instance
pub change-grown : (c : ConditionalChange) (s new : List Bool) (added : Bool) → may_add s c ≡ true → IsGrown (λ some. is_there some c.change.atom ≡ true) s new added
    → IsGrown (λ some. is_made some c ≡ true) s new added
change-grown c s new added may grown =
    grown-alike (λ some. is_there some c.change.atom ≡ true) (λ some. is_made some c ≡ true) s new added grown
    (λ there. or_right (not (may_add s c)) (is_there s c.change.atom) there)
    (λ other wide within made. sym (ap (λ b. not b || is_there other c.change.atom) (added-within s other within c may)) ∙ made)

pub instance-grown : (t : Task) (atoms : List Atom) (number : ℕ) (changes : List ConditionalChange) (s new : List Bool) (added : Bool) → changes ≡ conditional_of_number t atoms number
    → may_apply t atoms s number ≡ true → IsGrown (AreMade changes) s new added → IsGrown (λ some. is_settled t atoms some number ≡ true) s new added
instance-grown t atoms number changes s new added are may grown =
    grown-alike (AreMade changes) (λ some. is_settled t atoms some number ≡ true) s new added grown
    (λ made. or_right (not (may_apply t atoms s number)) (list_all (is_made s) (conditional_of_number t atoms number)) (ap (list_all (is_made s)) (sym are) ∙ made))
    (λ other wide within settled.
    ap (list_all (is_made other)) are
    ∙ sym (ap (λ b. not b || list_all (is_made other) (conditional_of_number t atoms number))
    (held-within s other within (number_requires_unnumbered t atoms number) (literals_of_number t atoms number) may)) ∙ settled)

-- ---- the first of several

module _ {X : Type 0} (test : List Bool → X → Bool) (xs : List X) (i : ℕ) where
  abbrev pub Passes : List Bool → Type 0
  Passes s = list_all (test s) (take i xs) ≡ true

  pub next-of : (x : X) (old now new : List Bool) (before here : Bool) → i < length xs → x ≡ get_or xs i x → IsGrown Passes old now before → IsGrown (λ s. test s x ≡ true) now new here
      → IsGrown (λ s. list_all (test s) (take (i + 1) xs) ≡ true) old new (here || before)
  next-of x old now new before here below at first second =
      followed Passes (λ s. test s x ≡ true) (λ s. list_all (test s) (take (i + 1) xs) ≡ true) old now new before here first second
      (λ s so one. is s ∙ and_from (list_all (test s) (take i xs)) (test s x) so one)
      (λ s all. and_parts (list_all (test s) (take i xs)) (test s x) (sym (is s) ∙ all))
    where
      is : (s : List Bool) → list_all (test s) (take (i + 1) xs) ≡ (list_all (test s) (take i xs) && test s x)
      is s = list_all_more (test s) xs i x below ∙ ap (λ y. list_all (test s) (take i xs) && test s y) (sym at)

module _ (t : Task) (atoms : List Atom) (number : ℕ) where
  pub next-settled : (old now new : List Bool) (before here : Bool) → IsGrown (AreSettledBelow t atoms number) old now before → IsGrown (λ s. is_settled t atoms s number ≡ true) now new here
      → IsGrown (AreSettledBelow t atoms (number + 1)) old new (here || before)
  next-settled old now new before here first second =
      followed (AreSettledBelow t atoms number) (λ s. is_settled t atoms s number ≡ true) (AreSettledBelow t atoms (number + 1)) old now new before here first second
      (λ s earlier one k below. by_case s earlier one k below (k == number) refl)
      (λ s all. ((λ k below. all k (omega (arith, below))), all number (omega arith)))
    where
      by_case : (s : List Bool) → AreSettledBelow t atoms number s → is_settled t atoms s number ≡ true → (k : ℕ) → k < number + 1 → (b : Bool) → (k == number) ≡ b → is_settled t atoms s k ≡ true
      by_case s earlier one k below true same = ap (is_settled t atoms s) (eqb-true k number same) ∙ one
      by_case s earlier one k below false other = let apart_from = apart k number other in earlier k (below_other k number below apart_from)

-- ---- until nothing is added

-- on the way to the least set with the property
pub record IsTowards (P : List Bool → Type 0) (old now : List Bool) : Type 0 where
  pub width : length now ≡ length old
  pub keeps : IsWithin old now
  pub least : (other : List Bool) → length other ≡ length old → IsWithin old other → P other → IsWithin now other

pub towards-begun : (P : List Bool → Type 0) (s : List Bool) → IsTowards P s s
towards-begun P s = record { width = refl; keeps = λ n at. at; least = λ other wide within passes. within }

pub towards-next : (P : List Bool → Type 0) (old now new : List Bool) (added : Bool) → IsTowards P old now → IsGrown P now new added → IsTowards P old new
towards-next P old now new added way grown = record {
  width = grown.width ∙ way.width;
  keeps = λ n at. grown.keeps n (way.keeps n at);
  least = λ other wide within passes. grown.least other (wide ∙ sym way.width) (way.least other wide within passes) passes;
}

pub towards-done : (P : List Bool → Type 0) (old now new : List Bool) → IsTowards P old now → IsGrown P now new false → IsGrownTo P old new
towards-done P old now new way grown =
    let there = towards-next P old now new false way grown in
    let same = grown.stays refl in
    record { width = there.width; keeps = there.keeps; passes = subst P (sym same.0) same.1; least = there.least }

pub least-settled : (t : Task) (atoms : List Atom) (first set : List Bool) → first ≡ bits_of_state atoms (initial_state t)
    → IsGrownTo (AreSettledBelow t atoms (length (kept_instances t))) first set → IsLeastSettled t atoms set
least-settled t atoms first set is grown =
    let wide : length first ≡ length atoms = ap length is ∙ length-map atoms _ in
    record {
      settled = record {
        width = grown.width ∙ wide;
        initial = λ n at. grown.keeps n (ap (λ l. has l n) is ∙ at);
        instances = grown.passes;
      };
      least = λ other so. grown.least other (so.width ∙ sym wide) (λ n at. so.initial n (ap (λ l. has l n) (sym is) ∙ at)) so.instances;
    }
