-- A zone that is whole stays whole across an instance that may not break it. Stated for numbered literals and changes of any task:
-- the zone's atoms are a scope, within which the step is known as for a table.
use Rattle.std.proofs.Common.{◌≡◌, ◌∙◌, ℕ, ◌+◌, ◌≤◌, inl, inr, Bool, true, false, true≢false, not, ◌&&◌, ◌||◌, List, [], ◌∷◌, ◌++◌, map, sum_by, refl, sym, ap, arith}
use Rattle.std.specs.Prelude.{Contains, ◌==◌, if◌then◌else◌, cond, filter, get_or}
use Rattle.std.specs.Bool.{beq}
use Rattle.std.specs.List.{list_any, list_all}
use Rattle.std.proofs.lemmas.Bool.{and_parts, and_from, or_cases, or_left, or_right, eqb-true, false_from_ne_true, not-true}
use Rattle.std.proofs.lemmas.List.Folds.{list_any-append}
use Rattle.std.proofs.lemmas.List.Sums.{sum_by-cons}
use Rattle.model.specs.NumberedLiterals.{NumberedLiteral, NumberedChange}
use Rattle.model.specs.ConditionalChanges.{ConditionalChange, changes_in}
use Rattle.model.proofs.ListLemmas.{Contains-here, Contains-there}
use Rattle.lower_bounds.specs.FairPotentials.{makes, may_become}
use Rattle.lower_bounds.proofs.PotentialFalls.{bit}
use Rattle.lower_bounds.proofs.Passing.{any-weaker}
use Rattle.lower_bounds.specs.TableFunctions.{is_among, projection}
use Rattle.lower_bounds.specs.FairTables.{agrees, is_open, open_changes}
use Rattle.lower_bounds.proofs.TableLists.{all-at, none-passes, all-among, among-here, among-there}
use Rattle.lower_bounds.proofs.TableRows.{HoldWithin, projection-bit}
use Rattle.lower_bounds.proofs.TableFalls.{IsStepWithin}
use Rattle.lower_bounds.specs.LandmarkFunctions.{Zone, is_in, has_any, is_whole, Landmark, gives}
use Rattle.lower_bounds.specs.FairLandmarks.{makes_one, may_take_effect, may_break, charge}

-- ---- literals of a zone

abbrev pub scope_of : Zone → List ℕ
scope_of z = z.atoms ++ z.negated

abbrev literal : ℕ → Bool → NumberedLiteral
literal n v = record { atom = n; value = v }

beq-same : (b value : Bool) → beq b value ≡ true → b ≡ value
beq-same true true is = refl
beq-same true false is = absurd (true≢false (sym is))
beq-same false true is = absurd (true≢false (sym is))
beq-same false false is = refl

never-other : (b : Bool) → b ≡ not b → ⊥
never-other true e = absurd (cc)
never-other false e = absurd (cc)

-- what each number among these passes, all of them pass
all-numbers : (p : ℕ → Bool) (xs : List ℕ) → ((k : ℕ) → is_among xs k ≡ true → p k ≡ true) → list_all p xs ≡ true
all-numbers p [] each = refl
all-numbers p (x ∷ xs) each = and_from (p x) (list_all p xs) (each x (among-here x xs)) (all-numbers p xs (λ k there. each k (among-there x xs k there)))

in-scope : (z : Zone) (l : NumberedLiteral) → is_in z l ≡ true → is_among (scope_of z) l.atom ≡ true
in-scope z l is =
    list_any-append (λ k. k == l.atom) z.atoms z.negated
    ∙ elim (l.value) as (λ v. (if v then is_among z.atoms l.atom else is_among z.negated l.atom) ≡ true → (is_among z.atoms l.atom || is_among z.negated l.atom) ≡ true) [
      | true ↦ λ here. or_left (is_among z.atoms l.atom) (is_among z.negated l.atom) here
      | false ↦ λ there. or_right (is_among z.atoms l.atom) (is_among z.negated l.atom) there
    ] is

-- none of its literals holds where it is whole
whole-says : (bits : List Bool) (z : Zone) → is_whole bits z ≡ true → (l : NumberedLiteral) → is_in z l ≡ true → bit bits l.atom ≡ not l.value
whole-says bits z whole l is =
    let parts = and_parts (list_all (λ n. not (get_or bits n false)) z.atoms) (list_all (λ n. get_or bits n false) z.negated) whole in
    elim (l.value) as (λ v. (if v then is_among z.atoms l.atom else is_among z.negated l.atom) ≡ true → bit bits l.atom ≡ not v) [
      | true ↦ λ here. not-true (bit bits l.atom) (all-among (λ n. not (get_or bits n false)) z.atoms l.atom parts.0 here)
      | false ↦ λ there. all-among (λ n. get_or bits n false) z.negated l.atom parts.1 there
    ] is

-- and if none holds, it is whole
whole-from : (bits : List Bool) (z : Zone) → ((n : ℕ) (v : Bool) → is_in z (record { atom = n; value = v }) ≡ true → bit bits n ≡ not v) → is_whole bits z ≡ true
whole-from bits z says =
    and_from (list_all (λ n. not (get_or bits n false)) z.atoms) (list_all (λ n. get_or bits n false) z.negated)
    (all-numbers (λ n. not (get_or bits n false)) z.atoms (λ n there. ap not (says n true there)))
    (all-numbers (λ n. get_or bits n false) z.negated (λ n there. says n false there))

-- so literals that hold are none of them
pub has-none : (bits : List Bool) (z : Zone) (literals : List NumberedLiteral) → is_whole bits z ≡ true → HoldWithin literals bits (scope_of z) → has_any z literals ≡ false
has-none bits z literals whole holding =
    none-passes (is_in z) literals (λ l at. false_from_ne_true (is_in z l) (λ is. never-other l.value (sym (holding l at (in-scope z l is)) ∙ whole-says bits z whole l is)))

-- literals that agree with the projection hold
agreeing-holds : (bits : List Bool) (scope : List ℕ) (literals : List NumberedLiteral) → agrees literals scope (projection bits scope) ≡ true → HoldWithin literals bits scope
agreeing-holds bits scope literals agreeing l at there =
    let is = all-at (λ (k : NumberedLiteral). not (is_among scope k.atom) || beq (is_among (projection bits scope) k.atom) k.value) literals l agreeing at in
    let same : beq (is_among (projection bits scope) l.atom) l.value ≡ true = ap (λ b. not b || beq (is_among (projection bits scope) l.atom) l.value) (sym there) ∙ is in
    sym (projection-bit bits scope l.atom there) ∙ beq-same (is_among (projection bits scope) l.atom) l.value same

-- ---- changes that take effect

any-filter : {X Y : Type 0} (p : Y → Bool) (f : X → Y) (q : X → Bool) (xs : List X) → list_any p (map f (filter q xs)) ≡ true → list_any (λ x. q x && p (f x)) xs ≡ true
any-filter p f q [] some = some
any-filter p f q (x ∷ xs) some =
    elim (q x) as (λ b. list_any p (map f (cond b (x ∷ filter q xs) (filter q xs))) ≡ true → ((b && p (f x)) || list_any (λ y. q y && p (f y)) xs) ≡ true) [
      | true ↦ λ is. elim (or_cases (p (f x)) (list_any p (map f (filter q xs))) is) [
        | inl here ↦ or_left (p (f x)) (list_any (λ y. q y && p (f y)) xs) here
        | inr later ↦ or_right (p (f x)) (list_any (λ y. q y && p (f y)) xs) (any-filter p f q xs later)
      ]
      | false ↦ λ is. any-filter p f q xs is
    ] some

-- what became of an atom that was false, or true
rises : (sure may deleted : Bool) → (if sure then true else beq true (false && not deleted) || may) ≡ true → (sure || may) ≡ true
rises true may deleted is = refl
rises false may deleted is = is

sinks : (sure may deleted : Bool) → (if sure then false else beq false (true && not deleted) || may) ≡ true → (deleted || may) ≡ true
sinks true may deleted is = absurd (true≢false (sym is))
sinks false may true is = refl
sinks false may false is = is

sinks-unless : (sure may deleted : Bool) → (if sure then false else beq false (true && not deleted) || may) ≡ true → sure ≡ false
sinks-unless true may deleted is = absurd (true≢false (sym is))
sinks-unless false may deleted is = refl

module _ (literals : List NumberedLiteral) (changes : List ConditionalChange) (bits next : List Bool) (z : Zone) (steps : IsStepWithin literals changes bits next (scope_of z))
    (all : (n : ℕ) → is_among (scope_of z) n ≡ true → may_become (changes_in changes) n (bit bits n) (bit next n) ≡ true) (whole : is_whole bits z ≡ true) where
  abbrev trues : List ℕ
  trues = projection bits (scope_of z)

  abbrev open_ones : List NumberedChange
  open_ones = open_changes changes (scope_of z) trues

  abbrev breaks : ConditionalChange → Bool
  breaks c = makes_one changes z c.change && may_take_effect z c

  -- an open change that makes a literal of the zone true may break it
  found : (n : ℕ) (v unconditional : Bool) → is_in z (record { atom = n; value = v }) ≡ true → (v || not (makes (changes_in changes) true true n)) ≡ true
      → makes open_ones unconditional v n ≡ true → list_any breaks changes ≡ true
  found n v unconditional is counts made =
      any-weaker (λ (c : ConditionalChange). is_open (scope_of z) trues c && (c.change.atom == n && beq c.change.is_unconditional unconditional && beq c.change.value v)) breaks
      (λ c both.
      let parts = and_parts (is_open (scope_of z) trues c) (c.change.atom == n && beq c.change.is_unconditional unconditional && beq c.change.value v) both in
      let opens = and_parts (not c.requires_unnumbered) (agrees c.condition (scope_of z) trues) parts.0 in
      let makes_it = and_parts (c.change.atom == n && beq c.change.is_unconditional unconditional) (beq c.change.value v) parts.1 in
      let atom_is = eqb-true c.change.atom n (and_parts (c.change.atom == n) (beq c.change.is_unconditional unconditional) makes_it.0).0 in
      let value_is = beq-same c.change.value v makes_it.1 in
      and_from (makes_one changes z c.change) (may_take_effect z c)
      (and_from (is_in z (record { atom = c.change.atom; value = c.change.value })) (c.change.value || not (makes (changes_in changes) true true c.change.atom))
      ((λ i. is_in z (record { atom = atom_is i; value = value_is i })) ∙ is)
      ((λ i. value_is i || not (makes (changes_in changes) true true (atom_is i))) ∙ counts))
      (and_from (not (has_any z c.condition)) (not c.requires_unnumbered)
      (ap not (has-none bits z c.condition whole (agreeing-holds bits (scope_of z) c.condition opens.1))) opens.0)) changes
      (any-filter (λ (k : NumberedChange). k.atom == n && beq k.is_unconditional unconditional && beq k.value v) (λ (c : ConditionalChange). c.change) (is_open (scope_of z) trues) changes made)

  either : (n : ℕ) (v one other : Bool) → is_in z (record { atom = n; value = v }) ≡ true → (v || not (makes (changes_in changes) true true n)) ≡ true
      → (makes open_ones one v n || makes open_ones other v n) ≡ true → list_any breaks changes ≡ true
  either n v one other is counts made = elim (or_cases (makes open_ones one v n) (makes open_ones other v n) made) [
    | inl made_so ↦ found n v one is counts made_so
    | inr made_so ↦ found n v other is counts made_so
  ]

  -- if one of its literals becomes true, a change may break it
  broken-by : (n : ℕ) (v : Bool) → is_in z (record { atom = n; value = v }) ≡ true → bit next n ≡ v → list_any breaks changes ≡ true
  broken-by n true is after =
      let there = in-scope z (literal n true) is in
      let before : bit bits n ≡ false = whole-says bits z whole (literal n true) is in
      either n true true false is refl
      (rises (makes open_ones true true n) (makes open_ones false true n) (makes open_ones true false n) (sym (λ i. may_become open_ones n (before i) (after i)) ∙ steps.may n there))
  broken-by n false is after =
      let there = in-scope z (literal n false) is in
      let before : bit bits n ≡ true = whole-says bits z whole (literal n false) is in
      let now = sym (λ i. may_become (changes_in changes) n (before i) (after i)) ∙ all n there in
      let unless = sinks-unless (makes (changes_in changes) true true n) (makes (changes_in changes) false false n) (makes (changes_in changes) true false n) now in
      either n false true false is (ap not unless)
      (sinks (makes open_ones true true n) (makes open_ones false false n) (makes open_ones true false n) (sym (λ i. may_become open_ones n (before i) (after i)) ∙ steps.may n there))

  pub stays-whole : may_break literals changes z ≡ false → is_whole next z ≡ true
  stays-whole unbroken =
      whole-from next z (λ n v is. turned (bit next n) v (λ after.
      true≢false (sym (and_from (not (has_any z literals)) (list_any breaks changes) (ap not (has-none bits z literals whole steps.literals_hold)) (broken-by n v is after)) ∙ unbroken)))
    where
      turned : (b v : Bool) → (b ≡ v → ⊥) → b ≡ not v
      turned true true = λ no. absurd (no refl)
      turned true false = λ _. refl
      turned false true = λ _. refl
      turned false false = λ no. absurd (no refl)

-- ---- sums of weights

module _ (literals : List NumberedLiteral) (changes : List ConditionalChange) (bits next : List Bool) where
  one-falls : (m : Landmark) → (is_whole bits m.zone ≡ true → may_break literals changes m.zone ≡ false → is_whole next m.zone ≡ true)
      → gives bits m ≤ gives next m + charge literals changes m
  one-falls m stays = by_bits (is_whole bits m.zone) (is_whole next m.zone) (may_break literals changes m.zone) m.weight stays
    where
      by_bits : (now later may : Bool) (w : ℕ) → (now ≡ true → may ≡ false → later ≡ true) → (if now then w else 0) ≤ (if later then w else 0) + (if may then w else 0)
      by_bits false later may w keeps = omega arith
      by_bits true later true w keeps = omega arith
      by_bits true true false w keeps = omega arith
      by_bits true false false w keeps = absurd (true≢false (sym (keeps refl refl)))

  pub sum-falls : (landmarks : List Landmark) → ((m : Landmark) → Contains landmarks m → is_whole bits m.zone ≡ true → may_break literals changes m.zone ≡ false → is_whole next m.zone ≡ true)
      → sum_by (gives bits) landmarks ≤ sum_by (gives next) landmarks + sum_by (charge literals changes) landmarks
  sum-falls [] stays = omega arith
  sum-falls (m ∷ landmarks) stays =
      let first = one-falls m (stays m (Contains-here m landmarks)) in
      let rest = sum-falls landmarks (λ k at. stays k (Contains-there m landmarks k at)) in
      omega (arith, sum_by-cons (gives bits) m landmarks, sum_by-cons (gives next) m landmarks, sum_by-cons (charge literals changes) m landmarks)

pub sum-ends : (bits : List Bool) (landmarks : List Landmark) → ((m : Landmark) → Contains landmarks m → is_whole bits m.zone ≡ false) → sum_by (gives bits) landmarks ≡ 0
sum-ends bits [] none = refl
sum-ends bits (m ∷ landmarks) none =
    let first : gives bits m ≡ 0 = ap (λ b. if b then m.weight else 0) (none m (Contains-here m landmarks)) in
    let rest = sum-ends bits landmarks (λ k at. none k (Contains-there m landmarks k at)) in
    omega (arith, sum_by-cons (gives bits) m landmarks)

pub sum-alike : (landmarks : List Landmark) (f g : Landmark → ℕ) → ((m : Landmark) → Contains landmarks m → f m ≡ g m) → sum_by f landmarks ≡ sum_by g landmarks
sum-alike [] f g each = refl
sum-alike (m ∷ landmarks) f g each =
    let first = each m (Contains-here m landmarks) in
    let rest = sum-alike landmarks f g (λ k at. each k (Contains-there m landmarks k at)) in
    omega (arith, sum_by-cons f m landmarks, sum_by-cons g m landmarks)
