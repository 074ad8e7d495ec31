-- Names of exchanged objects, in pairs and all different.
use Rattle.std.proofs.Common.{◌≡◌, ◌∙◌, ℕ, suc, ◌+◌, ◌<◌, ◌%◌, Bool, true, false, not, ◌&&◌, ◌||◌, List, [], ◌∷◌, ◌++◌, length, map, take, drop, get_or, None, Some, Vec, refl, sym, ap, arith}
use Rattle.std.specs.Prelude.{◌==◌, IsTrue, nat_le, if◌then◌else◌}
use Rattle.std.specs.declared.alloc.Global.{Global}
use Rattle.std.specs.List.{list_all, list_any}
use Rattle.std.specs.Cmp.{unsigned_Decides}
use Rattle.std.specs.Cmp.Lexicographic.{pointwise, pointwise_decides}
use Rattle.std.proofs.lemmas.Bool.{and_parts, le-leb, true≢false}
use Rattle.std.proofs.lemmas.List.{take_more, take-append-drop, map-append}
use Rattle.std.proofs.lemmas.List.Folds.{list_any-append}
use Rattle.model.specs.Resolution.{is_same}
use Rattle.model.specs.PlanWriting.{is_lower_name}
use Rattle.certificate_definitions.specs.CertificateText.{are_exchanged, are_paired, differ}
use Rattle.certificate_reader.specs.Lines.{name_of}
use Rattle.certificate_reader.specs.Words.{then_words}
use Rattle.certificate_reader.proofs.LineLemmas.{all_words}
use Rattle.certificate_reader.proofs.NamesRead.{names_are_words}

-- ---- two by two

two_more : (n : ℕ) → n % 2 ≡ suc (suc n) % 2
two_more n = omega arith

pub paired-even : {X : Type 0} (xs : List X) → are_paired xs ≡ (length xs % 2 == 0)
paired-even [] = refl
paired-even (x ∷ []) = refl
paired-even (x ∷ y ∷ rest) = paired-even rest ∙ ap (λ n. n == 0) (two_more (length rest))

two_names : (names : List (List ℕ)) (rest : List ℕ) → are_paired names ≡ true → then_words names None ≡ Some rest → nat_le 2 (length names) ≡ true
two_names [] rest paired splits = absurd (cc splits)
two_names (name ∷ []) rest paired splits = absurd (cc paired)
two_names (name ∷ other ∷ names) rest paired splits = le-leb 2 (length (name ∷ other ∷ names)) (omega arith)

-- ---- what is there

pub exchanged_from : (names : List (List ℕ)) (rest : List ℕ) → are_paired names ≡ true → differ names ≡ true → IsTrue (list_all is_lower_name names) → then_words names None ≡ Some rest
    → IsTrue (are_exchanged names)
exchanged_from names rest paired different lower splits = λ i. two_names names rest paired splits i && paired i && different i && lower i

-- the tests that they pass
pub record ArePassed (names : List (List ℕ)) : Type 0 where
  pub paired : are_paired names ≡ true
  pub different : differ names ≡ true
  pub lower : IsTrue (list_all is_lower_name names)

pub passed_by : (names : List (List ℕ)) → IsTrue (are_exchanged names) → ArePassed names
passed_by names are =
    let outer = and_parts (nat_le 2 (length names) && are_paired names && differ names) (list_all is_lower_name names) are in
    let inner = and_parts (nat_le 2 (length names) && are_paired names) (differ names) outer.0 in
    record { paired = (and_parts (nat_le 2 (length names)) (are_paired names) inner.0).1; different = inner.1; lower = outer.1 }

module _ (found : List (List ℕ)) (rest : List ℕ) (lower : IsTrue (list_all is_lower_name found)) (read : then_words found None ≡ Some rest) where
  only_these : (names : List (List ℕ)) → IsTrue (are_exchanged names) → then_words names None ≡ Some rest → found ≡ names
  only_these names are splits =
      all_words found names (names_are_words found lower) (names_are_words names (passed_by names are).lower) (read ∙ sym splits)

  pub not_paired : are_paired found ≡ false → (names : List (List ℕ)) → IsTrue (are_exchanged names) → then_words names None ≡ Some rest → ⊥
  not_paired left names are splits = true≢false (sym (ap are_paired (only_these names are splits) ∙ (passed_by names are).paired) ∙ left)

  pub not_different : differ found ≡ false → (names : List (List ℕ)) → IsTrue (are_exchanged names) → then_words names None ≡ Some rest → ⊥
  not_different twice names are splits = true≢false (sym (ap differ (only_these names are splits) ∙ (passed_by names are).different) ∙ twice)

-- ---- no repeated name

same-flip : (a b : List ℕ) → is_same a b ≡ is_same b a
same-flip a b = by_tests (is_same a b) refl (is_same b a) refl
  where
    by_tests : (p : Bool) → is_same a b ≡ p → (q : Bool) → is_same b a ≡ q → is_same a b ≡ is_same b a
    by_tests true is true also = is ∙ sym also
    by_tests true is false other = is ∙ sym ((pointwise_decides unsigned_Decides b a).1 (sym ((pointwise_decides unsigned_Decides a b).0 is)))
    by_tests false other true is = (pointwise_decides unsigned_Decides a b).1 (sym ((pointwise_decides unsigned_Decides b a).0 is)) ∙ sym is
    by_tests false other false also = other ∙ sym also

or_none : (b : Bool) → (b || false) ≡ b
or_none true = refl
or_none false = refl

and_none : (b : Bool) → (b && false) ≡ false
and_none true = refl
and_none false = refl

differ_more : (xs : List (List ℕ)) (x : List ℕ) → differ (xs ++ x ∷ []) ≡ (differ xs && not (list_any (is_same x) xs))
differ_more [] x = refl
differ_more (y ∷ xs) x =
    (λ i. not ((list_any-append (is_same y) xs (x ∷ []) ∙ ap (λ b. list_any (is_same y) xs || b) (or_none (is_same y x) ∙ same-flip y x)) i) && differ_more xs x i)
    ∙ regrouped (list_any (is_same y) xs) (is_same x y) (differ xs) (list_any (is_same x) xs)
  where
    regrouped : (a b c d : Bool) → (not (a || b) && (c && not d)) ≡ ((not a && c) && not (b || d))
    regrouped true b c d = refl
    regrouped false true true d = refl
    regrouped false true false d = refl
    regrouped false false c d = refl

repeats_go_on : (xs ys : List (List ℕ)) → differ xs ≡ false → differ (xs ++ ys) ≡ false
repeats_go_on [] ys twice = absurd (cc twice)
repeats_go_on (x ∷ xs) ys twice = by_here (repeats_go_on xs ys) (list_any (is_same x) xs) refl twice
  where
    by_here : (differ xs ≡ false → differ (xs ++ ys) ≡ false) → (here : Bool) → list_any (is_same x) xs ≡ here → (not here && differ xs) ≡ false → differ (x ∷ (xs ++ ys)) ≡ false
    by_here rest true is _ = ap (λ b. not b && differ (xs ++ ys)) (list_any-append (is_same x) xs ys ∙ ap (λ b. b || list_any (is_same x) ys) is)
    by_here rest false is later = ap (λ b. not (list_any (is_same x) (xs ++ ys)) && b) (rest later) ∙ and_none (not (list_any (is_same x) (xs ++ ys)))

-- the elements of the set of the names so far
abbrev pub has_name : List ℕ → Vec ℕ Global → Bool
has_name name key = pointwise ◌==◌ name key.items

among : (name : List ℕ) (keys : List (Vec ℕ Global)) → list_any (has_name name) keys ≡ list_any (is_same name) (map name_of keys)
among name [] = refl
among name (key ∷ keys) = ap (λ b. is_same name key.items || b) (among name keys)

module _ (names : List (Vec ℕ Global)) (i : ℕ) (here : Vec ℕ Global) (within : i < length names) (at : here ≡ get_or names i here) (keys : List (Vec ℕ Global))
    (so : map name_of keys ≡ map name_of (take i names)) (key : Vec ℕ Global) (copied : key.items ≡ here.items) where
  one_more : map name_of (take (i + 1) names) ≡ map name_of (take i names) ++ here.items ∷ []
  one_more = ap (map name_of) (take_more names i here within ∙ ap (λ x. take i names ++ x ∷ []) (sym at)) ∙ map-append name_of (take i names) (here ∷ [])

  known : list_any (has_name key.items) keys ≡ list_any (is_same here.items) (map name_of (take i names))
  known = among key.items keys ∙ (λ j. list_any (is_same (copied j)) (so j))

  not_any : (b : Bool) → not b ≡ true → b ≡ false
  not_any true is = absurd (cc)
  not_any false is = refl

  any : (b : Bool) → not b ≡ false → b ≡ true
  any true is = refl
  any false is = absurd (cc)

  -- a name that is new
  pub new_name : (after : List (Vec ℕ Global)) → after ≡ (if list_any (has_name key.items) keys then keys else keys ++ key ∷ []) → not (list_any (has_name key.items) keys) ≡ true
      → differ (map name_of (take i names)) ≡ true → (map name_of after ≡ map name_of (take (i + 1) names)) × (differ (map name_of (take (i + 1) names)) ≡ true)
  new_name after is new before =
      let none : list_any (has_name key.items) keys ≡ false = not_any (list_any (has_name key.items) keys) new in (
        ap (map name_of) (is ∙ ap (λ b. if b then keys else keys ++ key ∷ []) none) ∙ map-append name_of keys (key ∷ []) ∙ (λ j. so j ++ copied j ∷ []) ∙ sym one_more,
        ap differ one_more ∙ differ_more (map name_of (take i names)) here.items ∙ (λ j. before j && not ((sym known ∙ none) j)),
      )

  -- and one that is already there
  pub known_name : not (list_any (has_name key.items) keys) ≡ false → false ≡ differ (map name_of names)
  known_name there =
      let twice : differ (map name_of (take (i + 1) names)) ≡ false =
      ap differ one_more ∙ differ_more (map name_of (take i names)) here.items
      ∙ ap (λ b. differ (map name_of (take i names)) && not b) (sym known ∙ any (list_any (has_name key.items) keys) there) ∙ and_none (differ (map name_of (take i names))) in
      sym (ap differ (ap (map name_of) (sym (take-append-drop (i + 1) names)) ∙ map-append name_of (take (i + 1) names) (drop (i + 1) names))
      ∙ repeats_go_on (map name_of (take (i + 1) names)) (map name_of (drop (i + 1) names)) twice)
