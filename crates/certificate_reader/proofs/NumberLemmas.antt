-- The word of a number is read as that number.
use Rattle.std.proofs.Common.{◌≡◌, ℕ, zero, suc, ◌+◌, ◌-◌, ◌*◌, ◌<◌, ◌≤◌, ◌^◌, List, [], ◌∷◌, length, get_or, drop, inl, inr, true, false, refl, sym, ap, ◌∙◌, subst, arith}
use Rattle.std.specs.Prelude.{◌==◌, not, ◌||◌, ◌&&◌, nat_le, ℤ, pos, negsuc, FitsSigned, IsTrue, Result, Ok}
use Rattle.std.specs.Char.{digit_value, is_ascii_digit}
use Rattle.std.specs.Fmt.{decimal, signed_decimal}
use Rattle.std.specs.Str.{IsUtf8, bytes_eq}
use Rattle.std.proofs.lemmas.Slice.Eq.{bytes_eq-Decides}
use Rattle.std.specs.Str.Parse.{AllDigits, ParsesSigned, digits_value, digits_value_after}
use Rattle.std.specs.Int.{w64}
use lib.Signed.{mag}
use Rattle.itoa.proofs.Decimal.{IsAscii-signed_decimal}
use Rattle.std.proofs.lemmas.Bool.{and_parts, eqb-true, le-leb, leb-true, ltb-true, or_cases}
use Rattle.std.proofs.lemmas.Fmt.{decimal_digit, decimal_is_IsNumeral, decimal-digits_value, first_decimal, parse-signed_decimal, signed_decimal_injective}
use Rattle.std.proofs.lemmas.List.{at_drop_more, drop_all, drop_more}
use Rattle.std.proofs.lemmas.Str.{IsUtf8-from_ascii, digit_value_digit}
use Rattle.std.proofs.lemmas.Str.Parse.{IsNumeralModel, digit_from_value, numerals_by_value, tells_digits}
use Rattle.certificate_definitions.specs.Certificates.{is_number, is_weight}
use Rattle.certificate_reader.specs.Words.{is_spelled}

own : IsNumeralModel (AllDigits 10) (digits_value 10)
own = numerals_by_value (AllDigits 10) tells_digits

-- further digits never make a number smaller
pub no_less : (number : ℕ) (digits : List ℕ) → number ≤ digits_value_after 10 number digits
no_less number [] = omega arith
no_less number (digit ∷ digits) = let more = no_less (number * 10 + digit_value digit) digits in omega (arith, more)

-- the remaining digits never make a number smaller than the next one does
pub next_is_no_more : (digits : List ℕ) (i number : ℕ) → i < length digits → is_ascii_digit (get_or digits i 0) ≡ true
    → number * 10 + (get_or digits i 0 - 48) ≤ digits_value_after 10 number (drop i digits)
next_is_no_more digits i number within is =
    let next = at_drop_more (digits_value_after 10 number) digits i 0 within in
    let more = no_less (number * 10 + digit_value (get_or digits i 0)) (drop (i + 1) digits) in
    let (least, most) = and_parts (nat_le 48 (get_or digits i 0)) (nat_le (get_or digits i 0) 57) is in
    let value = digit_value_digit (get_or digits i 0) (leb-true 48 (get_or digits i 0) least, leb-true (get_or digits i 0) 57 most) in
    omega (arith, next, more, value)

pub none_left : (digits : List ℕ) (i number : ℕ) → length digits ≤ i → digits_value_after 10 number (drop i digits) ≡ digits_value 10 digits
    → (AllDigits 10 (drop i digits) → AllDigits 10 digits) → (digits_value 10 digits ≡ number) × AllDigits 10 digits
none_left digits i number past value all =
    let end = drop_all i digits past in
    (sym value ∙ ap (digits_value_after 10 number) end, all (subst (AllDigits 10) (sym end) tt))

zero_is_all : (digits : List ℕ) → is_spelled digits ≡ true → get_or digits 0 0 ≡ 48 → length digits ≡ 1
zero_is_all [] spelled is = absurd (cc spelled)
zero_is_all (first ∷ rest) spelled is =
    elim (or_cases (not (first == 48)) (length rest == 0) spelled) [
      | inl unlike ↦ absurd (cc (ap (λ digit. not (digit == 48)) (sym is) ∙ unlike))
      | inr none ↦ let empty = eqb-true (length rest) 0 none in omega (arith, empty)
    ]

some_are_spelled : (digits : List ℕ) → is_spelled digits ≡ true → 0 < length digits
some_are_spelled [] spelled = absurd (cc spelled)
some_are_spelled (first ∷ rest) spelled = omega arith

above_zero : (digits : List ℕ) → 48 < get_or digits 0 0 → is_spelled digits ≡ true
above_zero [] above = absurd (omega (arith, above))
above_zero (first ∷ rest) above =
    elim (first == 48) as (λ is. (first == 48) ≡ is → (not is || (length rest == 0)) ≡ true) [
      | true ↦ λ same. let is_48 = eqb-true first 48 same in absurd (omega (arith, above, is_48))
      | false ↦ λ _. refl
    ] refl

pub digits_are_spelled : (digits : List ℕ) (number : ℕ) → is_spelled digits ≡ true → AllDigits 10 digits → digits_value 10 digits ≡ number
    → number < 1152921504606846976 → decimal number ≡ digits
digits_are_spelled digits number spelled all value below =
    ap decimal (sym value) ∙ decimal-digits_value own digits all (some_are_spelled digits spelled) (zero_is_all digits spelled) (omega (arith, below, value))

-- a digit comes first in the rest
pub digit_left : (digits : List ℕ) (i : ℕ) → i < length digits → AllDigits 10 (drop i digits) → is_ascii_digit (get_or digits i 0) ≡ false → ⊥
digit_left digits i within left unlike =
    let here = subst (AllDigits 10) (drop_more digits i 0 within) left in
    let (least, most) = digit_from_value (get_or digits i 0) here.0 in
    absurd (cc (sym unlike ∙ ap (λ above. above && nat_le (get_or digits i 0) 57) (le-leb 48 (get_or digits i 0) least) ∙ le-leb (get_or digits i 0) 57 most))

pub decimals_are_spelled : (n : ℕ) → n < 2 ^ 64 → is_spelled (decimal n) ≡ true
decimals_are_spelled zero fits = ap is_spelled (decimal_digit 0 (omega arith))
decimals_are_spelled (suc n) fits = above_zero (decimal (suc n)) (first_decimal (suc n) (omega arith) fits)

module _ (n : ℕ) (is : IsTrue (is_number n)) where
  fits : n < 2 ^ 64
  fits = let below : n < 1152921504606846976 = ltb-true n 1152921504606846976 is in omega (arith, below)

  pub is_below : n < 1152921504606846976
  is_below = ltb-true n 1152921504606846976 is

  pub numbers_are_spelled : (word : List ℕ) → decimal n ≡ word → is_spelled word ≡ true
  numbers_are_spelled word same = ap is_spelled (sym same) ∙ decimals_are_spelled n fits

  pub numbers_are_digits : (word : List ℕ) → decimal n ≡ word → AllDigits 10 word
  numbers_are_digits word same = subst (AllDigits 10) same (decimal_is_IsNumeral n fits).0.1

  pub numbers_have_values : (word : List ℕ) → decimal n ≡ word → digits_value 10 word ≡ n
  numbers_have_values word same = ap (digits_value 10) (sym same) ∙ (decimal_is_IsNumeral n fits).1

-- ---- constants and weights

weight_is_small : (w : ℤ) → IsTrue (is_weight w) → mag w < 2 ^ 63
weight_is_small (pos n) is = let most = leb-true n 2147483647 is in omega (arith, most)
weight_is_small (negsuc n) is = let most = ltb-true n 2147483647 is in omega (arith, most)

weight_fits : (w : ℤ) → IsTrue (is_weight w) → FitsSigned w64 w
weight_fits (pos n) is = let most = leb-true n 2147483647 is in record { sfits = omega (arith, most) }
weight_fits (negsuc n) is = let most = ltb-true n 2147483647 is in record { sfits = omega (arith, most) }

module _ (w : ℤ) (is : IsTrue (is_weight w)) where
  pub weight_is_text : (bytes : List ℕ) → signed_decimal w ≡ bytes → IsUtf8 bytes
  weight_is_text bytes same = subst IsUtf8 same (IsUtf8-from_ascii (signed_decimal w) (IsAscii-signed_decimal w (weight_fits w is)))

  pub weight_is_read : {E : Type 0} (bytes : List ℕ) (r : Result ℤ E) → signed_decimal w ≡ bytes → ParsesSigned w64 10 bytes r → r ≡ Ok w
  weight_is_read bytes r same parses = parse-signed_decimal w64 w bytes r (weight_fits w is) (weight_is_small w is) (sym same) parses

  pub weight_is_spelled_so : (bytes : List ℕ) (weight : ℤ) → weight ≡ w → bytes_eq (signed_decimal weight) bytes ≡ false → signed_decimal w ≡ bytes → ⊥
  weight_is_spelled_so bytes weight same unlike spelled =
      absurd (cc (sym unlike ∙ (bytes_eq-Decides (signed_decimal weight) bytes).1 (ap signed_decimal same ∙ spelled)))

pub same_weight : (v w : ℤ) → IsTrue (is_weight v) → IsTrue (is_weight w) → signed_decimal v ≡ signed_decimal w → v ≡ w
same_weight v w v_is w_is same = signed_decimal_injective v w (weight_is_small v v_is) (weight_is_small w w_is) same
