-- False parts found one after another.
use Rattle.std.specs.Prelude.{◌≡◌, ℕ, ◌+◌, ◌<◌, ◌≤◌, Bool, true, false, nat_lt, if◌then◌else◌, List, [], ◌∷◌, ◌++◌, drop, length, map, get_or, All}
use Rattle.std.proofs.Common.{sym, ◌∙◌, ap, subst, inl, inr, arith}
use Rattle.std.specs.Global.{Vec}
use Rattle.std.specs.List.{flat_map}
use Rattle.std.proofs.lemmas.Bool.{cases_lt}
use Rattle.std.proofs.lemmas.Bool.Decides.{nat_tests}
use Rattle.std.proofs.lemmas.List.{append-nil, append_assoc, length-append, length-map, length-take-le, length_push, map_push, take_all, take-append-le, at_drop_all}
use Rattle.std.proofs.lemmas.List.Elements.{All-nil, All-push}
use Rattle.task.specs.declared.schemas.Formula.{Formula}
use Rattle.task.specs.declared.schemas.Formula as formula
use Rattle.explain_plans.specs.declared.false_parts.Part as part
use Rattle.explain_plans.specs.declared.false_parts.Found.{Found}
use Rattle.explain_plans.specs.FalseParts.{Part, false_parts, false_parts_of_all, itself_if_false}
use Rattle.explain_plans.specs.NamesLeft.{names_left, formulas}
use Rattle.explain_plans.specs.Parts.{AreFirst, AreFound, Finds, FitsPart, IsFalseIn, most_reported, part_of}
use Rattle.task.specs.TaskParts.{formula_of}
use Rattle.explain_plans.proofs.FormulaLists.{conjunction, next_left}
use Rattle.model.specs.Task as task
use Rattle.model.specs.Meaning.{State, holds}

abbrev pub as_part : task.Formula → List ℕ → List task.Name → Part
as_part f objects names = record { formula = f; objects = objects; names = names }

-- ---- the first few parts, and one more

below : (count : ℕ) → nat_lt most_reported count ≡ true → most_reported < count
below count lt = grind (arith, nat_tests)

is_below : (count : ℕ) → most_reported < count → nat_lt most_reported count ≡ true
is_below count lt = grind (arith, nat_tests)

is_not_below : (count : ℕ) → count ≤ most_reported → nat_lt most_reported count ≡ false
is_not_below count le = grind (arith, nat_tests)

module _ (before : List Part) (reported : List part.Part) (more : Bool) (is : AreFirst before reported more) where
  -- if there are already more, further ones change nothing
  pub first_of_more : (xs : List Part) → more ≡ true → AreFirst (before ++ xs) reported more
  first_of_more xs full =
      let over = below (length before) (sym is.others ∙ full) in
      let counts = length-append before xs in
      record {
        first = is.first ∙ sym (take-append-le most_reported before xs (omega (arith, over)));
        others = full ∙ sym (is_below (length (before ++ xs)) (omega (arith, over, counts)));
      }

  -- if there is no room
  pub first_without : (x : Part) → length reported ≡ most_reported → AreFirst (before ++ x ∷ []) reported true
  first_without x full =
      elim (cases_lt (length before) most_reported) [
        | inl short ↦
            let counts = sym (length-map reported part_of) ∙ ap length (is.first ∙ take_all most_reported before (omega (arith, short))) in
            absurd (omega (arith, short, counts, full))
        | inr enough ↦
            let counts = length_push before x in
            record {
              first = is.first ∙ sym (take-append-le most_reported before (x ∷ []) enough);
              others = sym (is_below (length (before ++ x ∷ [])) (omega (arith, enough, counts)));
            }
      ]

  -- if there is room
  pub first_with : (p : part.Part) (new : List part.Part) → new ≡ reported ++ p ∷ [] → (length reported ≡ most_reported → ⊥) → AreFirst (before ++ part_of p ∷ []) new more
  first_with p new here room =
      elim (cases_lt (length before) most_reported) [
        | inl short ↦
            let counts = length_push before (part_of p) in
            let all = is.first ∙ take_all most_reported before (omega (arith, short)) in
            record {
              first = ap (map part_of) here ∙ map_push part_of reported p ∙ ap (λ l. l ++ part_of p ∷ []) all
                  ∙ sym (take_all most_reported (before ++ part_of p ∷ []) (omega (arith, short, counts)));
              others = is.others ∙ is_not_below (length before) (omega (arith, short))
                  ∙ sym (is_not_below (length (before ++ part_of p ∷ [])) (omega (arith, short, counts)));
            }
        | inr enough ↦
            absurd (room (sym (length-map reported part_of) ∙ ap length is.first ∙ length-take-le most_reported before enough))
      ]

-- ---- what is found

module _ (t : task.Task) (s : State) where
  pub found_none : (found : Found) → found.parts.items ≡ [] → found.more ≡ false → AreFound t s [] found
  found_none found empty whole = record {
    reported = record { first = ap (map part_of) empty; others = whole };
    fit = subst (All (FitsPart t)) (sym empty) (All-nil (FitsPart t));
    are_false = subst (All (IsFalseIn t s)) (sym empty) (All-nil (IsFalseIn t s));
  }

  pub finds_none : (found : Found) → Finds t s [] found found
  finds_none found before is = subst (λ l. AreFound t s l found) (sym (append-nil before)) is

  pub finds_more : (xs ys : List Part) (a b c : Found) → Finds t s xs a b → Finds t s ys b c → Finds t s (xs ++ ys) a c
  finds_more xs ys a b c first second before is =
      subst (λ l. AreFound t s l c) (append_assoc before xs ys) (second (before ++ xs) (first before is))

  pub finds_when_full : (xs : List Part) (found : Found) → found.more ≡ true → Finds t s xs found found
  finds_when_full xs found full before is = record {
    reported = first_of_more before found.parts.items found.more is.reported xs full;
    fit = is.fit;
    are_false = is.are_false;
  }

  -- one more part, for which there is no room
  finds_without : (p : Part) (old new : Found) → new.parts ≡ old.parts → new.more ≡ true → length old.parts.items ≡ most_reported → Finds t s (p ∷ []) old new
  finds_without p old new kept full no_room before is =
      let same = ap (λ (v : Vec part.Part). v.items) kept in
      record {
        reported = subst (λ l. AreFirst (before ++ p ∷ []) l new.more) (sym same)
            (subst (AreFirst (before ++ p ∷ []) old.parts.items) (sym full) (first_without before old.parts.items old.more is.reported p no_room));
        fit = subst (All (FitsPart t)) (sym same) is.fit;
        are_false = subst (All (IsFalseIn t s)) (sym same) is.are_false;
      }

  -- and one for which there is room
  finds_with : (p : part.Part) (old new : Found) → new.parts.items ≡ old.parts.items ++ p ∷ [] → new.more ≡ old.more → (length old.parts.items ≡ most_reported → ⊥)
      → FitsPart t p → IsFalseIn t s p → Finds t s (part_of p ∷ []) old new
  finds_with p old new here kept room fits is_false before is = record {
    reported = subst (AreFirst (before ++ part_of p ∷ []) new.parts.items) (sym kept) (first_with before old.parts.items old.more is.reported p new.parts.items here room);
    fit = subst (All (FitsPart t)) (sym here) (All-push (FitsPart t) old.parts.items p is.fit fits);
    are_false = subst (All (IsFalseIn t s)) (sym here) (All-push (IsFalseIn t s) old.parts.items p is.are_false is_false);
  }

  -- ---- the formula itself

  module _ (f : task.Formula) (objects : List ℕ) (names : List task.Name) where
    alone : (b : Bool) → holds t f objects s ≡ b → itself_if_false t f objects names s ≡ (if b then [] else as_part f objects names ∷ [])
    alone b is = ap (λ x. if x then [] else as_part f objects names ∷ []) is

    pub finds_nothing : (found : Found) → holds t f objects s ≡ true → Finds t s (itself_if_false t f objects names s) found found
    finds_nothing found so = subst (λ l. Finds t s l found found) (sym (alone true so)) (finds_none found)

    pub finds_no_room : (old new : Found) → holds t f objects s ≡ false → new.parts ≡ old.parts → new.more ≡ true → length old.parts.items ≡ most_reported
        → Finds t s (itself_if_false t f objects names s) old new
    finds_no_room old new not_so kept full no_room =
        subst (λ l. Finds t s l old new) (sym (alone false not_so)) (finds_without (as_part f objects names) old new kept full no_room)

    pub finds_itself : (p : part.Part) (old new : Found) → holds t f objects s ≡ false → part_of p ≡ as_part f objects names
        → new.parts.items ≡ old.parts.items ++ p ∷ [] → new.more ≡ old.more → (length old.parts.items ≡ most_reported → ⊥) → FitsPart t p
        → Finds t s (itself_if_false t f objects names s) old new
    finds_itself p old new not_so same here kept room fits =
        subst (λ l. Finds t s l old new) (ap (λ x. x ∷ []) same ∙ sym (alone false not_so))
        (finds_with p old new here kept room fits (ap (λ (q : Part). holds t q.formula q.objects s) same ∙ not_so))

  -- ---- objects

  -- what is found for the next object, and for the remaining ones
  pub finds_next : (f : ℕ → List Part) (left rest : List ℕ) (x : ℕ) → left ≡ x ∷ rest → (a b c : Found) → Finds t s (f x) a b → Finds t s (flat_map f rest) b c → Finds t s (flat_map f left) a c
  finds_next f left rest x steps a b c here later = subst (λ l. Finds t s (flat_map f l) a c) (sym steps) (finds_more (f x) (flat_map f rest) a b c here later)

  -- at the end
  pub finds_end : (f : ℕ → List Part) (left : List ℕ) → left ≡ [] → (found : Found) → Finds t s (flat_map f left) found found
  finds_end f left none found = subst (λ l. Finds t s (flat_map f l) found found) (sym none) (finds_none found)

-- ---- conjunctions

module _ (t : task.Task) (s : State) (objects : List ℕ) (names : List task.Name) (parts : List Formula) (i : ℕ) where
  -- what is found for the next part, and for the remaining ones
  pub finds_next_part : (part : Formula) → i < length parts → part ≡ get_or parts i part → (left : List task.Name) → left ≡ names_left (formula_of part) names
      → (a b c : Found) → Finds t s (false_parts t (formula_of part) objects names s) a b
      → Finds t s (false_parts_of_all t (formulas (map formula_of (drop (i + 1) parts))) objects left s) b c
      → Finds t s (false_parts_of_all t (formulas (map formula_of (drop i parts))) objects names s) a c
  finds_next_part part lt at left is a b c here later =
      let others : List task.Name → List Part = λ ns. false_parts_of_all t (formulas (map formula_of (drop (i + 1) parts))) objects ns s in
      subst (λ l. Finds t s l a c) (sym (next_left (λ l. false_parts_of_all t (formulas (map formula_of l)) objects names s) parts i part lt at))
      (finds_more t s (false_parts t (formula_of part) objects names s) (others (names_left (formula_of part) names)) a b c here
      (subst (λ ns. Finds t s (others ns) b c) is later))

  -- at the end
  pub finds_last_part : length parts ≤ i → (found : Found) → Finds t s (false_parts_of_all t (formulas (map formula_of (drop i parts))) objects names s) found found
  finds_last_part past found =
      subst (λ l. Finds t s l found found) (sym (at_drop_all (λ l. false_parts_of_all t (formulas (map formula_of l)) objects names s) parts i past)) (finds_none t s found)

-- the parts of the formulas, by the list of them
pub parts_by_all : (f : Formula) (parts : Vec Formula) (items : List Formula) → f ≡ formula.And parts → items ≡ parts.items
    → (t : task.Task) (objects : List ℕ) (names : List task.Name) (s : State) → false_parts t (formula_of f) objects names s ≡ false_parts_of_all t (formulas (map formula_of items)) objects names s
parts_by_all f parts items is same t objects names s =
    ap (λ g. false_parts t g objects names s) (conjunction f parts items is same)
