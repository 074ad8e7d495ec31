-- Taking the lesser of two faults, one after another, gives the least of all, and the first ones are listed.
use Rattle.std.proofs.Common.{◌≡◌, ◌<◌, ◌≤◌, Bool, true, false, List, [], ◌∷◌, ◌++◌, fold, length, map, take, Option, None, Some, All, Contains, ◌⊎◌, inl, inr, refl, sym, ap, subst, ◌∙◌, append_assoc, append-nil, arith, true≢false, if◌then◌else◌, suc, zero}
use Rattle.std.specs.Prelude.{nat_lt}
use Rattle.std.proofs.lemmas.Bool.Decides.{nat_tests}
use Rattle.std.proofs.lemmas.List.{length-append, length-map, map_push, take_all, take-append-le}
use Rattle.typing.specs.Refusals.{TaskRefusal, refusal_of}
use Rattle.std.specs.Cmp.Lexicographic.{slice_cmp}
use Rattle.std.specs.Ordering.{nat_cmp, is_lt, is_gt, ordering_reverse}
use Rattle.std.specs.declared.cmp.Ordering.{Ordering}
use Rattle.std.specs.declared.cmp.Ordering.TheVariants.{Less, Equal, Greater}
use Rattle.std.proofs.lemmas.Cmp.{nat_list_cmp_total, upto}
use Rattle.model.specs.Typing.{TypingFault, is_before, key_of, IsLeastOf}
use Rattle.typing.specs.Walk.{Findings, earlier, found, nothing, with_fault, with_listed}

is_lt-reverse : (o : Ordering) → is_lt (ordering_reverse o) ≡ is_gt o
is_lt-reverse Less = refl
is_lt-reverse Equal = refl
is_lt-reverse Greater = refl

is_gt-lt : (o : Ordering) → is_lt o ≡ true → is_gt o ≡ false
is_gt-lt Less h = refl
is_gt-lt Equal h = refl
is_gt-lt Greater h = absurd (true≢false (sym h))

-- the result of a fold by the lesser of two, for any order
module _ {X : Type 0} (before : X → X → Bool)
    (asym : (x y : X) → before x y ≡ true → before y x ≡ false)
    (trans : (x y z : X) → before y x ≡ false → before z y ≡ false → before z x ≡ false) where
  abbrev pub earlier_by : Option X → X → Option X
  earlier_by None f = Some f
  earlier_by (Some least) f = if before f least then Some f else Some least

  pub record IsLeastAfter (g : X) (xs : List X) (f : X) : Type 0 where
    pub among : (f ≡ g) ⊎ Contains xs f
    pub upto_first : before g f ≡ false
    pub upto_all : All (λ x. before x f ≡ false) xs

  pub all_cons : (P : X → Type 0) (x : X) (xs : List X) → P x → All P xs → All P (x ∷ xs)
  all_cons P x xs h hs zero d l = h
  all_cons P x xs h hs (suc k) d l = hs k d (omega (arith, l))

  pub contains_head : (x : X) (xs : List X) → Contains (x ∷ xs) x
  contains_head x xs = (0, omega arith, refl)

  pub contains_tail : (x y : X) (xs : List X) → Contains xs y → Contains (x ∷ xs) y
  contains_tail x y xs h = (suc h.0, omega (arith, h.1), h.2)

  irreflexive : (x : X) → before x x ≡ false
  irreflexive x = by (before x x) refl
    where
      by : (b : Bool) → before x x ≡ b → before x x ≡ false
      by true e = asym x x e
      by false e = e

  pub least_after : (g : X) (xs : List X) (f : X) → fold earlier_by (Some g) xs ≡ Some f → IsLeastAfter g xs f
  least_after g [] f e =
      let same : g ≡ f = cc in
      record {
        among = inl (sym same);
        upto_first = subst (λ y. before g y ≡ false) same (irreflexive g);
        upto_all = λ k d l. absurd (omega (arith, l));
      }
  least_after g (x ∷ xs) f e = by (before x g) refl e (least_after x xs f) (least_after g xs f)
    where
      by : (b : Bool) → before x g ≡ b → fold earlier_by (if b then Some x else Some g) xs ≡ Some f
          → (fold earlier_by (Some x) xs ≡ Some f → IsLeastAfter x xs f)
          → (fold earlier_by (Some g) xs ≡ Some f → IsLeastAfter g xs f) → IsLeastAfter g (x ∷ xs) f
      by true is h taken kept =
          let rest = taken h in
          record {
            among = elim rest.among [ inl s ↦ inr (subst (Contains (x ∷ xs)) (sym s) (contains_head x xs)) | inr c ↦ inr (contains_tail x f xs c) ];
            upto_first = trans f x g rest.upto_first (asym x g is);
            upto_all = all_cons (λ y. before y f ≡ false) x xs rest.upto_first rest.upto_all;
          }
      by false is h taken kept =
          let rest = kept h in
          record {
            among = elim rest.among [ inl s ↦ inl s | inr c ↦ inr (contains_tail x f xs c) ];
            upto_first = rest.upto_first;
            upto_all = all_cons (λ y. before y f ≡ false) x xs (trans f g x rest.upto_first is) rest.upto_all;
          }

  -- once something is found, something stays found
  pub stays_found : (g : X) (xs : List X) → fold earlier_by (Some g) xs ≡ None → ⊥
  stays_found g [] e = cc
  stays_found g (x ∷ xs) e = by (before x g) e (stays_found x xs) (stays_found g xs)
    where
      by : (b : Bool) → fold earlier_by (if b then Some x else Some g) xs ≡ None
          → (fold earlier_by (Some x) xs ≡ None → ⊥) → (fold earlier_by (Some g) xs ≡ None → ⊥) → ⊥
      by true h taken kept = taken h
      by false h taken kept = kept h

is_before-asym : (f g : TypingFault) → is_before f g ≡ true → is_before g f ≡ false
is_before-asym f g h =
    ap is_lt (nat_list_cmp_total.antisymm (key_of g) (key_of f)) ∙ is_lt-reverse (slice_cmp nat_cmp (key_of f) (key_of g))
    ∙ is_gt-lt (slice_cmp nat_cmp (key_of f) (key_of g)) h

not_before : (f g : TypingFault) → is_before g f ≡ is_gt (slice_cmp nat_cmp (key_of f) (key_of g))
not_before f g =
    ap is_lt (nat_list_cmp_total.antisymm (key_of g) (key_of f)) ∙ is_lt-reverse (slice_cmp nat_cmp (key_of f) (key_of g))

is_before-trans : (f g h : TypingFault) → is_before g f ≡ false → is_before h g ≡ false → is_before h f ≡ false
is_before-trans f g h p q =
    not_before f h ∙ upto nat_list_cmp_total (key_of f) (key_of g) (key_of h) (sym (not_before f g) ∙ p) (sym (not_before g h) ∙ q)

-- ---- what is found

-- the least fault, and the listed ones
found_least : (before : Findings) (faults : List TypingFault) → (found before faults).least ≡ fold earlier before.least faults
found_least before [] = refl
found_least before (f ∷ more) = found_least (with_fault before f) more

full_listed : (listed : List TypingFault) → 1000 ≤ length listed → (faults : List TypingFault) → fold with_listed listed faults ≡ listed
full_listed listed full [] = refl
full_listed listed full (f ∷ more) =
    let no : nat_lt (length listed) 1000 ≡ false = grind (arith, nat_tests) in
    ap (λ b. fold with_listed (if b then listed ++ f ∷ [] else listed) more) no ∙ full_listed listed full more

take_full : (listed more : List TypingFault) → length listed ≡ 1000 → take 1000 (listed ++ more) ≡ listed
take_full listed more full =
    let within : 1000 ≤ length listed = omega (arith, full) in
    let past : length listed ≤ 1000 = omega (arith, full) in
    take-append-le 1000 listed more within ∙ take_all 1000 listed past

listed_first : (listed : List TypingFault) → length listed ≤ 1000 → (faults : List TypingFault) → fold with_listed listed faults ≡ take 1000 (listed ++ faults)
listed_first listed few [] = sym (ap (take 1000) (append-nil listed) ∙ take_all 1000 listed few)
listed_first listed few (f ∷ more) =
    elim (nat_lt (length listed) 1000) as (λ b. nat_lt (length listed) 1000 ≡ b → fold with_listed (if b then listed ++ f ∷ [] else listed) more ≡ take 1000 (listed ++ f ∷ more)) [
      | true ↦ λ less.
          let below : length listed < 1000 = grind (arith, nat_tests) in
          let room : length (listed ++ f ∷ []) ≤ 1000 = omega (arith, length-append listed (f ∷ []), below) in
          listed_first (listed ++ f ∷ []) room more ∙ ap (take 1000) (append_assoc listed (f ∷ []) more)
      | false ↦ λ no.
          let above : 1000 ≤ length listed = grind (arith, nat_tests) in
          let full : length listed ≡ 1000 = omega (arith, few, above) in
          full_listed listed above more ∙ sym (take_full listed (f ∷ more) full)
    ] refl

found_listed : (before : Findings) (faults : List TypingFault) → (found before faults).listed ≡ fold with_listed before.listed faults
found_listed before [] = refl
found_listed before (f ∷ more) = found_listed (with_fault before f) more

-- the first faults are listed
pub found-listed : (faults : List TypingFault) → (found nothing faults).listed ≡ take 1000 faults
found-listed faults = found_listed nothing faults ∙ listed_first [] (omega arith) faults

-- nothing is found exactly if there is nothing
pub found-None : (faults : List TypingFault) → (found nothing faults).least ≡ None → faults ≡ []
found-None [] e = refl
found-None (f ∷ more) e = absurd (stays_found is_before is_before-asym is_before-trans f more (sym (found_least nothing (f ∷ more)) ∙ e))

-- what is found first is the least
pub found-Some : (faults : List TypingFault) (f : TypingFault) → (found nothing faults).least ≡ Some f → IsLeastOf faults f
found-Some [] f e = absurd (cc)
found-Some (g ∷ more) f e =
    let h = least_after is_before is_before-asym is_before-trans g more f (sym (found_least nothing (g ∷ more)) ∙ e) in
    record {
      is_fault = elim h.among [ inl s ↦ subst (Contains (g ∷ more)) (sym s) (contains_head is_before is_before-asym is_before-trans g more) | inr c ↦ contains_tail is_before is_before-asym is_before-trans g f more c ];
      is_least = all_cons is_before is_before-asym is_before-trans (λ y. is_before y f ≡ false) g more h.upto_first h.upto_all;
    }

-- ---- one fault

-- it is listed if there is room
pub listed_one : (items new : List TaskRefusal) (fault : TaskRefusal) → length items < 1000 → new ≡ items ++ fault ∷ [] → map refusal_of new ≡ with_listed (map refusal_of items) (refusal_of fault)
listed_one items new fault few is =
    let long = length-map items refusal_of in
    let less : length (map refusal_of items) < 1000 = omega (arith, long, few) in
    let room : nat_lt (length (map refusal_of items)) 1000 ≡ true = grind (arith, nat_tests) in
    ap (map refusal_of) is ∙ map_push refusal_of items fault
    ∙ sym (ap (λ b. if b then map refusal_of items ++ refusal_of fault ∷ [] else map refusal_of items) room)

pub listed_none : (items : List TaskRefusal) (fault : TaskRefusal) → 1000 ≤ length items → map refusal_of items ≡ with_listed (map refusal_of items) (refusal_of fault)
listed_none items fault many =
    let long = length-map items refusal_of in
    let above : 1000 ≤ length (map refusal_of items) = omega (arith, long, many) in
    let full : nat_lt (length (map refusal_of items)) 1000 ≡ false = grind (arith, nat_tests) in
    sym (ap (λ b. if b then map refusal_of items ++ refusal_of fault ∷ [] else map refusal_of items) full)
