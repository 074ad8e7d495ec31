-- Constants and weights, by their words.
use Rattle.std.proofs.Common.{◌≡◌, ℕ, ◌+◌, ◌<◌, ◌≤◌, true, List, [], ◌∷◌, ◌++◌, map, length, length-append, Option, None, Some, refl, sym, ap, ◌∙◌, arith}
use Rattle.std.specs.Prelude.{◌&&◌, ℤ, IsTrue}
use Rattle.std.specs.Fmt.{signed_decimal}
use Rattle.std.specs.List.{list_all}
use Rattle.std.proofs.lemmas.Bool.{and_parts}
use Rattle.std.proofs.lemmas.List.{map-append}
use Rattle.certificate_definitions.specs.Certificates.{is_weight}
use Rattle.certificate_reader.specs.Words.{IsFirstWord, IsLeading, then_weights, then_words, with_rest}
use Rattle.certificate_reader.proofs.WordLemmas.{one_first}
use Rattle.certificate_reader.proofs.NumberLemmas.{same_weight}
use Rattle.certificate_reader.proofs.LineLemmas.{then_words_more, weight_is_word}

some_same : (a b : List ℕ) → ◌≡◌ {A = Option (List ℕ)} (Some a) (Some b) → a ≡ b
some_same a b same = cc

never : {A : Type 0} (a : List ℕ) → ◌≡◌ {A = Option (List ℕ)} None (Some a) → A
never a same = absurd (cc same)

-- bytes begin with a unique weight
one_weight : (a b : ℤ) (r s : Option (List ℕ)) → IsTrue (is_weight a) → IsTrue (is_weight b) → with_rest (signed_decimal a) r ≡ with_rest (signed_decimal b) s → (a ≡ b) × (r ≡ s)
one_weight a b r s a_is b_is same =
    let both = one_first (signed_decimal a) (signed_decimal b) r s (weight_is_word a a_is) (weight_is_word b b_is) same in
    (same_weight a b a_is b_is both.0, both.1)

-- ---- the weights at the beginning of words are unique

-- this many weights came before these
one_choice : (before most : ℕ) (a b : List ℤ) (r s : Option (List ℕ)) → IsTrue (list_all is_weight a) → IsTrue (list_all is_weight b)
    → before + length a ≤ most → before + length b ≤ most → (before + length a < most → r ≡ None) → (before + length b < most → s ≡ None)
    → then_weights a r ≡ then_weights b s → (a ≡ b) × (r ≡ s)
one_choice before most [] [] r s a_are b_are a_few b_few a_stops b_stops same = (refl, same)
one_choice before most [] (y ∷ b) r s a_are b_are a_few b_few a_stops b_stops same =
    let long : length (y ∷ b) ≡ 1 + length b = omega arith in
    let none_yet : length {A = ℤ} [] ≡ 0 = refl in
    never (with_rest (signed_decimal y) (then_weights b s)) (sym (a_stops (omega (arith, b_few, long, none_yet))) ∙ same)
one_choice before most (x ∷ a) [] r s a_are b_are a_few b_few a_stops b_stops same =
    let long : length (x ∷ a) ≡ 1 + length a = omega arith in
    let none_yet : length {A = ℤ} [] ≡ 0 = refl in
    never (with_rest (signed_decimal x) (then_weights a r)) (sym (b_stops (omega (arith, a_few, long, none_yet))) ∙ sym same)
one_choice before most (x ∷ a) (y ∷ b) r s a_are b_are a_few b_few a_stops b_stops same =
    let (x_is, a_more) = and_parts (is_weight x) (list_all is_weight a) a_are in
    let (y_is, b_more) = and_parts (is_weight y) (list_all is_weight b) b_are in
    let a_long : length (x ∷ a) ≡ 1 + length a = omega arith in
    let b_long : length (y ∷ b) ≡ 1 + length b = omega arith in
    let first = one_weight x y (then_weights a r) (then_weights b s) x_is y_is
    (some_same (with_rest (signed_decimal x) (then_weights a r)) (with_rest (signed_decimal y) (then_weights b s)) same) in
    let (rest, others) = one_choice (before + 1) most a b r s a_more b_more (omega (arith, a_few, a_long)) (omega (arith, b_few, b_long))
    (λ below. a_stops (omega (arith, below, a_long))) (λ below. b_stops (omega (arith, below, b_long))) first.1 in
    ((λ i. first.0 i ∷ rest i), others)

pub one_leading : (words : Option (List ℕ)) (most : ℕ) (a b : List ℤ) (r s : Option (List ℕ)) → IsLeading words most a r → IsLeading words most b s → (a ≡ b) × (r ≡ s)
one_leading words most a b r s h g =
    one_choice 0 most a b r s h.are g.are (omega (arith, h.few)) (omega (arith, g.few)) (λ below. h.stops (omega (arith, below))) (λ below. g.stops (omega (arith, below))) (h.splits ∙ sym g.splits)

-- as many weights as allowed, followed by anything
pub leading : (words : Option (List ℕ)) (count : ℕ) (weights : List ℤ) (others : Option (List ℕ)) → IsTrue (list_all is_weight weights) → length weights ≡ count
    → then_weights weights others ≡ words → IsLeading words count weights others
leading words count weights others are long splits = record {
  are = are;
  few = omega (arith, long);
  stops = λ below. absurd (omega (arith, long, below));
  splits = splits;
}

-- fewer weights, followed by nothing
pub leading_alone : (words : Option (List ℕ)) (most : ℕ) (weights : List ℤ) → IsTrue (list_all is_weight weights) → length weights ≤ most
    → then_weights weights None ≡ words → IsLeading words most weights None
leading_alone words most weights are few splits = record { are = are; few = few; stops = λ below. refl; splits = splits }

-- ---- weights already read

-- the weight after those already read
record NextWeight (done weights : List ℤ) (others : Option (List ℕ)) (bytes : List ℕ) : Type 0 where
  next : ℤ
  more : List ℤ
  is : IsTrue (is_weight next)
  splits : bytes ≡ with_rest (signed_decimal next) (then_weights more others)

weight_after : (done weights : List ℤ) (others : Option (List ℕ)) (bytes : List ℕ) → IsTrue (list_all is_weight done) → IsTrue (list_all is_weight weights)
    → (length weights ≤ length done → others ≡ None) → then_weights done (Some bytes) ≡ then_weights weights others → NextWeight done weights others bytes
weight_after [] [] others bytes d w stops same = never bytes (sym (stops (omega arith)) ∙ sym same)
weight_after [] (n ∷ more) others bytes d w stops same = record {
  next = n;
  more = more;
  is = (and_parts (is_weight n) (list_all is_weight more) w).0;
  splits = some_same bytes (with_rest (signed_decimal n) (then_weights more others)) same;
}
weight_after (first ∷ done) [] others bytes d w stops same =
    let none_yet : length {A = ℤ} [] ≡ 0 = refl in
    never (with_rest (signed_decimal first) (then_weights done (Some bytes))) (sym (stops (omega (arith, none_yet))) ∙ sym same)
weight_after (first ∷ done) (n ∷ weights) others bytes d w stops same =
    let (d_here, d_more) = and_parts (is_weight first) (list_all is_weight done) d in
    let (w_here, w_more) = and_parts (is_weight n) (list_all is_weight weights) w in
    let d_long : length (first ∷ done) ≡ 1 + length done = omega arith in
    let w_long : length (n ∷ weights) ≡ 1 + length weights = omega arith in
    let left : Option (List ℕ) = then_weights done (Some bytes) in
    let right : Option (List ℕ) = then_weights weights others in
    let both = one_weight first n left right d_here w_here (some_same (with_rest (signed_decimal first) left) (with_rest (signed_decimal n) right) same) in
    let more = weight_after done weights others bytes d_more w_more (λ fewer. stops (omega (arith, fewer, d_long, w_long))) both.1 in
    record { next = more.next; more = more.more; is = more.is; splits = more.splits }

module _ (start : Option (List ℕ)) (most : ℕ) (done : List ℤ) (are : IsTrue (list_all is_weight done)) (few : length done < most)
    (bytes word : List ℕ) (following : Option (List ℕ)) (first : IsFirstWord bytes word following) (read : then_weights done (Some bytes) ≡ start) where
  pub no_weights : ((n : ℤ) → IsTrue (is_weight n) → signed_decimal n ≡ word → ⊥) → (weights : List ℤ) (others : Option (List ℕ)) → IsLeading start most weights others → ⊥
  no_weights other weights others is =
      let next = weight_after done weights others bytes are is.are (λ fewer. is.stops (omega (arith, fewer, few))) (read ∙ sym is.splits) in
      let both = one_first word (signed_decimal next.next) following (then_weights next.more others) first.is_word (weight_is_word next.next next.is) (sym first.splits ∙ next.splits) in
      other next.next next.is (sym both.0)

  pub one_weight_more : (n : ℤ) → signed_decimal n ≡ word → then_weights (done ++ n ∷ []) following ≡ start
  one_weight_more n is =
      ap (λ words. then_words words following) (map-append signed_decimal done (n ∷ []))
      ∙ sym (then_words_more (map signed_decimal done) (signed_decimal n) following)
      ∙ ap (λ word. then_weights done (Some (with_rest word following))) is
      ∙ ap (λ bytes. then_weights done (Some bytes)) (sym first.splits)
      ∙ read

pub more_weights : (done : List ℤ) (n : ℤ) → IsTrue (list_all is_weight done) → IsTrue (is_weight n) → IsTrue (list_all is_weight (done ++ n ∷ []))
more_weights [] n all is = ap (λ b. b && true) is
more_weights (w ∷ done) n all is =
    let (here, more) = and_parts (is_weight w) (list_all is_weight done) all in
    ap (λ b. b && list_all is_weight (done ++ n ∷ [])) here ∙ more_weights done n more is

pub one_longer : (done : List ℤ) (n : ℤ) (most : ℕ) → length done < most → length (done ++ n ∷ []) ≤ most
one_longer done n most few = omega (arith, few, length-append done (n ∷ []))
