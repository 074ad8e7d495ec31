-- Names, word by word.
use Rattle.std.proofs.Common.{◌≡◌, ℕ, Bool, true, false, List, [], ◌∷◌, ◌++◌, map, length, Option, None, Some, refl, sym, ap, ◌∙◌, subst, arith}
use Rattle.std.specs.Prelude.{◌&&◌, ◌==◌, IsTrue, nat_le}
use Rattle.std.specs.Char.{to_ascii_lowercase}
use Rattle.std.specs.List.{list_all}
use Rattle.std.proofs.lemmas.Bool.{and_parts}
use Rattle.std.proofs.lemmas.Bool.Decides.{nat_tests}
use Rattle.model.specs.Words.{is_name}
use Rattle.model.specs.Resolution.{is_same}
use Rattle.model.specs.PlanWriting.{is_lower_name}
use Rattle.certificate_reader.specs.Words.{IsFirstWord, is_no_capital, is_word, then_words}
use Rattle.certificate_reader.proofs.WordLemmas.{one_first}
use Rattle.certificate_reader.proofs.LineLemmas.{lower_name_is_word, next_word, then_words_more}

-- ---- names in lower case

capital : (byte : ℕ) → is_no_capital byte ≡ (to_ascii_lowercase byte == byte)
capital byte = grind (arith, nat_tests)

no_capitals : (name : List ℕ) → list_all is_no_capital name ≡ is_same (map to_ascii_lowercase name) name
no_capitals [] = refl
no_capitals (byte ∷ name) = λ i. capital byte i && no_capitals name i

and_false : (b : Bool) → b && false ≡ false
and_false true = refl
and_false false = refl

and_true : (b : Bool) → b && true ≡ b
and_true true = refl
and_true false = refl

module _ (name : List ℕ) where
  pub too_long : nat_le (length name) 255 ≡ false → false ≡ is_lower_name name
  too_long long = sym (ap (λ b. is_name name && is_same (map to_ascii_lowercase name) name && b) long ∙ and_false (is_name name && is_same (map to_ascii_lowercase name) name))

  pub has_capital : list_all is_no_capital name ≡ false → false ≡ is_lower_name name
  has_capital found =
      sym (ap (λ b. is_name name && b && nat_le (length name) 255) (sym (no_capitals name) ∙ found) ∙ ap (λ b. b && nat_le (length name) 255) (and_false (is_name name)))

  pub is_all_lower : nat_le (length name) 255 ≡ true → list_all is_no_capital name ≡ true → is_name name ≡ is_lower_name name
  is_all_lower short lower =
      sym ((λ i. is_name name && (sym (no_capitals name) ∙ lower) i && short i) ∙ and_true (is_name name && true) ∙ and_true (is_name name))

-- ---- names one after another

pub names_are_words : (names : List (List ℕ)) → IsTrue (list_all is_lower_name names) → IsTrue (list_all is_word names)
names_are_words [] all = refl
names_are_words (name ∷ names) all =
    let (here, more) = and_parts (is_lower_name name) (list_all is_lower_name names) all in
    ap (λ b. b && list_all is_word names) (lower_name_is_word name here) ∙ names_are_words names more

last_lower : (done : List (List ℕ)) (word : List ℕ) (more : List (List ℕ)) → IsTrue (list_all is_lower_name (done ++ word ∷ more)) → IsTrue (is_lower_name word)
last_lower [] word more all = (and_parts (is_lower_name word) (list_all is_lower_name more) all).0
last_lower (name ∷ done) word more all = last_lower done word more (and_parts (is_lower_name name) (list_all is_lower_name (done ++ word ∷ more)) all).1

pub more_lower : (done : List (List ℕ)) (word : List ℕ) → IsTrue (list_all is_lower_name done) → IsTrue (is_lower_name word) → IsTrue (list_all is_lower_name (done ++ word ∷ []))
more_lower [] word all is = ap (λ b. b && true) is
more_lower (name ∷ done) word all is =
    let (here, more) = and_parts (is_lower_name name) (list_all is_lower_name done) all in
    ap (λ b. b && list_all is_lower_name (done ++ word ∷ [])) here ∙ more_lower done word more is

module _ (start : Option (List ℕ)) (done : List (List ℕ)) (bytes word : List ℕ) (following : Option (List ℕ)) (first : IsFirstWord bytes word following)
    (read : then_words done (Some bytes) ≡ start) where
  pub no_names : IsTrue (list_all is_lower_name done) → is_lower_name word ≡ false
      → (names : List (List ℕ)) → IsTrue (list_all is_lower_name names) → then_words names None ≡ start → ⊥
  no_names all other names lower same =
      let next = next_word done names bytes (names_are_words done all) (names_are_words names lower) (read ∙ sym same) in
      let is : IsTrue (is_lower_name next.word) = last_lower done next.word next.more (subst (λ names. IsTrue (list_all is_lower_name names)) next.are lower) in
      let both = one_first word next.word following (then_words next.more None) first.is_word (lower_name_is_word next.word is) (sym first.splits ∙ next.splits) in
      absurd (cc (sym other ∙ ap is_lower_name both.0 ∙ is))

  pub one_name_more : then_words (done ++ word ∷ []) following ≡ start
  one_name_more = sym (then_words_more done word following) ∙ ap (λ bytes. then_words done (Some bytes)) (sym first.splits) ∙ read
