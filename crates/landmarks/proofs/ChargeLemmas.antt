-- Instances that are charged for a zone, one after another, and values zone by zone.
use Rattle.std.proofs.Common.{◌≡◌, ◌∙◌, ℕ, zero, suc, ◌+◌, ◌<◌, ◌≤◌, ◌⊎◌, inl, inr, Bool, true, false, true≢false, List, [], ◌∷◌, ◌++◌, length, get_or, refl, sym, ap, subst, arith}
use Rattle.std.specs.Prelude.{◌==◌, nat_le, if◌then◌else◌, slice_set, replicate}
use Rattle.std.proofs.lemmas.Bool.{cases_eq, cases_lt, eq-eqb, eqb-true, lt-ltb, leb-true, leb-false, false_from_ne_true}
use Rattle.std.proofs.lemmas.List.{get_or_past, get_or-set_same, get_or-set_other, length-set, length-replicate}
use Rattle.lower_bounds.specs.TableFunctions.{is_among}
use Rattle.landmarks.specs.declared.counters.Counter.{Counter}
use Rattle.landmarks.specs.declared.counters.Counters.{Counters}
use Rattle.landmarks.specs.Counters.{counter_at, charged_by, charged_at, AreCounters}
use Rattle.landmarks.specs.CutIndex.{Charging, IsCharged, AreCharged, HaveBeenCharged, IsTooMuch, Charges, AreStanding, HasPassed, IsTooMuchNext, ChargesShare}
use Rattle.landmarks.proofs.AmongLemmas.{among-cases, among-one}

-- ---- counters

abbrev none : Counter
none = record { seen = 0; charged = 0 }

replicated : (count k : ℕ) → get_or (replicate count none) k none ≡ none
replicated zero k = refl
replicated (suc count) zero = refl
replicated (suc count) (suc k) = replicated count k

pub counters-made : (c : Counters) (count : ℕ) → c.counters.items ≡ replicate count none → AreCounters count c
counters-made c count made = record {
  long = ap length made ∙ length-replicate count none;
  seen = λ k. let e : (counter_at c k).seen ≡ 0 = ap (λ (items : List Counter). (get_or items k none).seen) made ∙ ap (λ (n : Counter). n.seen) (replicated count k) in omega (arith, e);
}

-- one counter more is cleared
pub cleared-more : (items : List Counter) (place : ℕ) → place < length items → ((k : ℕ) → k < place → (get_or items k none).seen ≡ 0)
    → (k : ℕ) → k < place + 1 → (get_or (slice_set items place none) k none).seen ≡ 0
cleared-more items place there before k below = elim (cases_eq k place) [
  | inl is ↦ subst (λ j. (get_or (slice_set items place none) j none).seen ≡ 0) (sym is) (ap (λ (n : Counter). n.seen) (get_or-set_same items place none none there))
  | inr other ↦ ap (λ (n : Counter). n.seen) (get_or-set_other items place k none none other) ∙ before k (omega (arith, below, other))
]

pub cleared-all : (items : List Counter) (place : ℕ) → length items ≤ place → ((k : ℕ) → k < place → (get_or items k none).seen ≡ 0) → (k : ℕ) → (get_or items k none).seen ≡ 0
cleared-all items place past before k = elim (cases_lt k place) [
  | inl below ↦ before k below
  | inr beyond ↦ ap (λ (n : Counter). n.seen) (get_or_past items k none (omega (arith, past, beyond)))
]

-- a counter that says what it said is as late as it was
pub same-counters : (old new : Counters) → new.counters.items ≡ old.counters.items → (number : ℕ) → counter_at new number ≡ counter_at old number
same-counters old new same number = ap (λ (items : List Counter). get_or items number (record { seen = 0; charged = 0 })) same

-- nothing was done
pub charged-none : (g : Charging) (c : Counters) → AreCounters g.count c → HaveBeenCharged g [] c c
charged-none g c counted = record {
  counted = counted;
  start = refl;
  clock = refl;
  kept = λ number at. at;
  seen = λ number at. absurd (true≢false (sym at));
  charged = λ before are. are;
}

-- the instance had been looked at
pub charged-before : (g : Charging) (c : Counters) (number : ℕ) → AreCounters g.count c → (counter_at c number).seen ≡ c.clock → HaveBeenCharged g (number ∷ []) c c
charged-before g c number counted is = record {
  counted = counted;
  start = refl;
  clock = refl;
  kept = λ k at. at;
  seen = λ k at. subst (λ j. (counter_at c j).seen ≡ c.clock) (among-one number k at) is;
  charged = λ before are. are;
}

-- ---- one instance

module _ (g : Charging) (old new : Counters) (number weight most : ℕ) (counted : AreCounters g.count old) (there : number < length old.counters.items) (asked : is_among g.asked number ≡ true)
    (unseen : (counter_at old number).seen ≡ old.clock → ⊥) (weighs : weight ≡ g.more number) (allowed : most ≡ g.most number) (start : new.start ≡ old.start) (clock : new.clock ≡ old.clock) where
  abbrev entry : Counter
  entry = record { seen = old.clock; charged = charged_at old number + weight }

  -- what it is charged before the zone
  before-it : (before : ℕ → ℕ) → AreCharged g before old → charged_at old number ≡ before number
  before-it before are =
      let it = are.each number asked in
      it.charged ∙ ap (λ b. before number + (if b then g.more number else 0)) (false_from_ne_true ((counter_at old number).seen == old.clock) (λ e. unseen (eqb-true (counter_at old number).seen old.clock e)))
      ∙ (omega arith)

  module _ (items : new.counters.items ≡ slice_set old.counters.items number entry) (within : charged_at old number + weight ≤ most) where
    here : counter_at new number ≡ entry
    here = ap (λ (l : List Counter). get_or l number (record { seen = 0; charged = 0 })) items ∙ get_or-set_same old.counters.items number entry (record { seen = 0; charged = 0 }) there

    others : (k : ℕ) → (k ≡ number → ⊥) → counter_at new k ≡ counter_at old k
    others k other = ap (λ (l : List Counter). get_or l k (record { seen = 0; charged = 0 })) items ∙ get_or-set_other old.counters.items number k entry (record { seen = 0; charged = 0 }) other

    pub charged-one : HaveBeenCharged g (number ∷ []) old new
    charged-one = record {
      counted = record {
        long = ap length items ∙ length-set old.counters.items number entry ∙ counted.long;
        seen = λ k. elim (cases_eq k number) [
          | inl is ↦ let e : (counter_at new k).seen ≡ old.clock = ap (λ j. (counter_at new j).seen) is ∙ ap (λ (c : Counter). c.seen) here in omega (arith, clock)
          | inr other ↦ let e : (counter_at new k).seen ≡ (counter_at old k).seen = ap (λ (c : Counter). c.seen) (others k other) in omega (arith, clock, counted.seen k)
        ];
      };
      start = start;
      clock = clock;
      kept = λ k at. elim (cases_eq k number) [
        | inl is ↦ ap (λ j. (counter_at new j).seen) is ∙ ap (λ (c : Counter). c.seen) here ∙ sym clock
        | inr other ↦ ap (λ (c : Counter). c.seen) (others k other) ∙ at ∙ sym clock
      ];
      seen = λ k at. subst (λ j. (counter_at new j).seen ≡ new.clock) (among-one number k at) (ap (λ (c : Counter). c.seen) here ∙ sym clock);
      charged = charged;
    }
      where
        it : (before : ℕ → ℕ) → AreCharged g before old → IsCharged old.clock (before number) (g.more number) (g.most number) (charged_by old.start entry) old.clock
        it before are =
            let begun = are.begun in
            let now : charged_by old.start entry ≡ charged_at old number + weight = ap (λ b. if b then charged_at old number + weight else 0) (lt-ltb old.start old.clock begun) in
            record {
              charged = now ∙ omega (arith, before-it before are, weighs)
                  ∙ sym (ap (λ b. before number + (if b then g.more number else 0)) (eq-eqb old.clock old.clock refl));
              within = omega (arith, now, within, allowed);
            }

        charged : (before : ℕ → ℕ) → AreCharged g before old → AreCharged g before new
        charged before are = record {
          begun = let b = are.begun in omega (arith, start, clock);
          each = λ k at.
              subst (λ s. IsCharged new.clock (before k) (g.more k) (g.most k) (charged_by s (counter_at new k)) (counter_at new k).seen) (sym start)
              (subst (λ t. IsCharged t (before k) (g.more k) (g.most k) (charged_by old.start (counter_at new k)) (counter_at new k).seen) (sym clock)
              (elim (cases_eq k number) [
                | inl is ↦ subst (λ j. IsCharged old.clock (before j) (g.more j) (g.most j) (charged_by old.start (counter_at new j)) (counter_at new j).seen) (sym is)
                    (subst (λ (c : Counter). IsCharged old.clock (before number) (g.more number) (g.most number) (charged_by old.start c) c.seen) (sym here) (it before are))
                | inr other ↦ subst (λ (c : Counter). IsCharged old.clock (before k) (g.more k) (g.most k) (charged_by old.start c) c.seen) (sym (others k other)) (are.each k at)
              ]));
        }

  pub charged-beyond : new.counters.items ≡ old.counters.items → most < charged_at old number + weight → IsTooMuch g old new
  charged-beyond items beyond = record {
    counted = record {
      long = ap length items ∙ counted.long;
      seen = λ k. let e : (counter_at new k).seen ≡ (counter_at old k).seen = ap (λ (c : Counter). c.seen) (same-counters old new items k) in omega (arith, clock, counted.seen k);
    };
    beyond = λ before are. (number, asked, omega (arith, beyond, before-it before are, weighs, allowed));
  }

-- as the charge of one says
pub charged-as : (g : Charging) (old new : Counters) (number weight most : ℕ) → AreCounters g.count old → number < length old.counters.items → is_among g.asked number ≡ true
    → ((counter_at old number).seen ≡ old.clock → ⊥) → weight ≡ g.more number → most ≡ g.most number → new.start ≡ old.start → new.clock ≡ old.clock
    → (result : Bool) → result ≡ nat_le (charged_at old number + weight) most
    → new.counters.items ≡ (if result then slice_set old.counters.items number (record { seen = old.clock; charged = charged_at old number + weight }) else old.counters.items)
    → Charges g (number ∷ []) old new result
charged-as g old new number weight most counted there asked unseen weighs allowed start clock true is items =
    charged-one g old new number weight most counted there asked unseen weighs allowed start clock items (leb-true (charged_at old number + weight) most (sym is))
charged-as g old new number weight most counted there asked unseen weighs allowed start clock false is items =
    charged-beyond g old new number weight most counted there asked unseen weighs allowed start clock items (omega (arith, leb-false (charged_at old number + weight) most (sym is)))

-- ---- one after another

pub charged-more : (g : Charging) (numbers more : List ℕ) (old mid new : Counters) → HaveBeenCharged g numbers old mid → HaveBeenCharged g more mid new → HaveBeenCharged g (numbers ++ more) old new
charged-more g numbers more old mid new so next = record {
  counted = next.counted;
  start = next.start ∙ so.start;
  clock = next.clock ∙ so.clock;
  kept = λ k at. next.kept k (so.kept k at);
  seen = λ k at. elim (among-cases numbers more k at) [
    | inl first ↦ next.kept k (so.seen k first)
    | inr later ↦ next.seen k later
  ];
  charged = λ before are. next.charged before (so.charged before are);
}

pub beyond-later : (g : Charging) (numbers : List ℕ) (old mid new : Counters) → HaveBeenCharged g numbers old mid → IsTooMuch g mid new → IsTooMuch g old new
beyond-later g numbers old mid new so next = record {
  counted = next.counted;
  beyond = λ before are. next.beyond before (so.charged before are);
}

pub charges-more : (g : Charging) (numbers more : List ℕ) (old mid new : Counters) → HaveBeenCharged g numbers old mid → (result : Bool) → Charges g more mid new result → Charges g (numbers ++ more) old new result
charges-more g numbers more old mid new so true next = charged-more g numbers more old mid new so next
charges-more g numbers more old mid new so false next = beyond-later g numbers old mid new so next

-- what an answer says
pub when-charged : (g : Charging) (numbers : List ℕ) (old new : Counters) (result : Bool) → Charges g numbers old new result → result ≡ true → HaveBeenCharged g numbers old new
when-charged g numbers old new true so is = so
when-charged g numbers old new false so is = absurd (true≢false (sym is))

pub when-beyond : (g : Charging) (numbers : List ℕ) (old new : Counters) (result : Bool) → Charges g numbers old new result → result ≡ false → IsTooMuch g old new
when-beyond g numbers old new true so is = absurd (true≢false is)
when-beyond g numbers old new false so is = so

-- ---- a zone

-- before a zone nothing is charged for it
zone-begins : (g : Charging) (old new : Counters) (total : ℕ → ℕ) → AreCounters g.count old → new.counters.items ≡ old.counters.items → new.start ≡ old.start → new.clock ≡ old.clock + 1
    → AreStanding g.asked g.most total old → AreCharged g total new
zone-begins g old new total counted items start clock so = record {
  begun = let b = so.begun in omega (arith, start, clock);
  each = λ k at.
      let same = same-counters old new items k in
      let seen : (counter_at new k).seen ≡ (counter_at old k).seen = ap (λ (c : Counter). c.seen) same in
      let now : charged_by new.start (counter_at new k) ≡ total k = (λ i. charged_by (start i) (same i)) ∙ so.charged k at in
      let isnt : ((counter_at new k).seen == new.clock) ≡ false = false_from_ne_true ((counter_at new k).seen == new.clock) (λ e.
      let same_time = eqb-true (counter_at new k).seen new.clock e in absurd (omega (arith, same_time, seen, clock, counted.seen k))) in
      record {
        charged = now ∙ (omega arith) ∙ sym (ap (λ b. total k + (if b then g.more k else 0)) isnt);
        within = omega (arith, now, so.within k at);
      };
}

pub counted-on : (count : ℕ) (old new : Counters) → AreCounters count old → new.counters.items ≡ old.counters.items → old.clock ≤ new.clock → AreCounters count new
counted-on count old new counted items later = record {
  long = ap length items ∙ counted.long;
  seen = λ k. let e : (counter_at new k).seen ≡ (counter_at old k).seen = ap (λ (c : Counter). c.seen) (same-counters old new items k) in omega (arith, later, counted.seen k);
}

-- after it, if all that are charged for it have been looked at
zone-ends : (g : Charging) (c : Counters) (total : ℕ → ℕ) → AreCharged g total c → ((k : ℕ) → is_among g.asked k ≡ true → ((counter_at c k).seen ≡ c.clock) ⊎ (g.more k ≡ 0))
    → AreStanding g.asked g.most (λ k. total k + g.more k) c
zone-ends g c total are all = record {
  begun = let b = are.begun in omega arith;
  charged = λ k at. now k at;
  within = λ k at. let it = are.each k at in let w = it.within in omega (arith, now k at);
}
  where
    now : (k : ℕ) → is_among g.asked k ≡ true → charged_by c.start (counter_at c k) ≡ total k + g.more k
    now k at = elim (all k at) [
      | inl seen ↦ (are.each k at).charged ∙ ap (λ b. total k + (if b then g.more k else 0)) (eq-eqb (counter_at c k).seen c.clock seen)
      | inr nothing ↦ (are.each k at).charged ∙ ap (λ m. total k + (if (counter_at c k).seen == c.clock then m else 0)) nothing ∙ of ((counter_at c k).seen == c.clock) ∙ omega (arith, nothing)
    ]
      where
        of : (b : Bool) → total k + (if b then 0 else 0) ≡ total k
        of true = omega arith
        of false = omega arith

module _ (g : Charging) (old mid : Counters) (counted : AreCounters g.count old) (items : mid.counters.items ≡ old.counters.items) (start : mid.start ≡ old.start) (clock : mid.clock ≡ old.clock + 1) where
  -- a zone that no instance is charged for
  pub passed-by : ((k : ℕ) → g.more k ≡ 0) → HasPassed g old mid
  passed-by nothing = record {
    counted = counted-on g.count old mid counted items (omega (arith, clock));
    start = start;
    clock = clock;
    charged = λ total so. zone-ends g mid total (zone-begins g old mid total counted items start clock so) (λ k at. inr (nothing k));
  }

  -- one whose candidates have been charged
  pub passed : (numbers : List ℕ) (new : Counters) → ((k : ℕ) → is_among g.asked k ≡ true → (is_among numbers k ≡ true) ⊎ (g.more k ≡ 0)) → (result : Bool) → Charges g numbers mid new result → ChargesShare g old new result
  passed numbers new all true so = record {
    counted = so.counted;
    start = so.start ∙ start;
    clock = so.clock ∙ clock;
    charged = λ total standing. zone-ends g new total (so.charged total (zone-begins g old mid total counted items start clock standing)) (λ k at. elim (all k at) [
      | inl among ↦ inl (so.seen k among)
      | inr nothing ↦ inr nothing
    ]);
  }
  passed numbers new all false so = record {
    counted = so.counted;
    beyond = λ total standing. so.beyond total (zone-begins g old mid total counted items start clock standing);
  }

-- what an answer says
pub when-passed : (g : Charging) (old new : Counters) (result : Bool) → ChargesShare g old new result → result ≡ true → HasPassed g old new
when-passed g old new true so is = so
when-passed g old new false so is = absurd (true≢false (sym is))

pub when-too-much : (g : Charging) (old new : Counters) (result : Bool) → ChargesShare g old new result → result ≡ false → IsTooMuchNext g old new
when-too-much g old new true so is = absurd (true≢false is)
when-too-much g old new false so is = so
