-- Trees of instances: what is found by one, and how one is put together.
use Rattle.std.proofs.Common.{◌≡◌, ◌∙◌, ◌<◌, ◌^◌, inl, inr, ℕ, zero, suc, ◌+◌, Bool, true, false, ◌&&◌, List, [], ◌∷◌, ◌++◌, append_assoc, Some, length, map, drop, take, get_or, cond, refl, sym, ap, subst, true≢false}
use Rattle.std.specs.Prelude.{filter, if◌then◌else◌, slice_get}
use Rattle.std.specs.List.{All, list_all}
use Rattle.std.specs.List.Sorted.{IsPermutation}
use Rattle.std.proofs.lemmas.List.Sorted.{All-permutation, IsPermutation-append, IsPermutation-refl, IsPermutation-trans}
use Rattle.std.proofs.lemmas.Bool.{and_from}
use Rattle.std.specs.Option.{option_map, option_map_or}
use Rattle.std.proofs.lemmas.Option.{slice_get-get_or, slice_get-map}
use Rattle.std.proofs.Math.Seq.{take-add}
use Rattle.std.proofs.lemmas.List.{map-append, take_more}
use Rattle.std.proofs.lemmas.List.Folds.{list_all-append}
use Rattle.std.proofs.lemmas.List.Elements.{All-nil, All-cons, All-push, All-append}
use Rattle.grounding_instances.specs.declared.numbers.NumberedLiteral.{NumberedLiteral}
use Rattle.grounding_instances.specs.Numbers.{numbered_of}
use Rattle.grounding.specs.declared.condition.Condition.{Condition}
use Rattle.grounding.specs.declared.match_tree.Node.{Node}
use Rattle.grounding.specs.declared.match_tree.Node.TheVariants.{Test, Instance}
use Rattle.grounding.specs.Conditions.{literals_in}
use Rattle.grounding.specs.MatchNodes.{met, found, numbers_in, above, literals_at, agrees_at, AgreesWith, AreWithin, Implies, Requires, IsWithin, IsTree, IsTreeOf, IsGroup, IsTested}
use Rattle.grounding.proofs.FiledNumbers.{filter-append, filter-none}
use Rattle.grounding.proofs.GroundLemmas.{got}
use Rattle.grounding.proofs.LiteralLists.{below-at}
use Rattle.model.specs.NumberedLiterals as model
use Rattle.model.specs.NumberedLiterals.{agrees}
use Rattle.model.proofs.ListLemmas.{drop-here}
use Rattle.model.proofs.Tests.{passes_index, passes_map}

-- ---- going through nodes

-- to leave nodes out is to begin after them
pub found-later : (bits : List Bool) (k : ℕ) (nodes : List Node) → found bits k nodes ≡ found bits 0 (drop k nodes)
found-later bits zero [] = refl
found-later bits (suc k) [] = refl
found-later bits zero (node ∷ rest) = refl
found-later bits (suc k) (node ∷ rest) = found-later bits k rest

found-past : (bits : List Bool) (nodes rest : List Node) → found bits (length nodes) (nodes ++ rest) ≡ found bits 0 rest
found-past bits [] rest = refl
found-past bits (node ∷ nodes) rest = found-past bits nodes rest

found-none : (bits : List Bool) (nodes : List Node) → found bits (length nodes) nodes ≡ []
found-none bits [] = refl
found-none bits (node ∷ nodes) = found-none bits nodes

numbers-append : (xs ys : List Node) → numbers_in (xs ++ ys) ≡ numbers_in xs ++ numbers_in ys
numbers-append [] ys = refl
numbers-append (x ∷ xs) ys = ap (λ l. met x ++ l) (numbers-append xs ys) ∙ sym (append_assoc (met x) (numbers_in xs) (numbers_in ys))

-- ---- putting trees together

module _ (width : ℕ) (conditions : List Condition) where
  pub tree-none : (given : List Bool → Type 0) → IsTree width conditions given [] []
  tree-none given = record {
    within = All-nil (IsWithin width);
    all = refl;
    closed = λ bits rest. refl;
    right = λ bits is. refl;
  }

  pub tree-append : (given : List Bool → Type 0) (ms ns : List ℕ) (xs ys : List Node) → IsTree width conditions given ms xs → IsTree width conditions given ns ys
      → IsTree width conditions given (ms ++ ns) (xs ++ ys)
  tree-append given ms ns xs ys first second = record {
    within = All-append (IsWithin width) xs ys first.within second.within;
    all = numbers-append xs ys ∙ (λ i. first.all i ++ second.all i);
    closed = λ bits rest.
        ap (found bits 0) (append_assoc xs ys rest) ∙ first.closed bits (ys ++ rest) ∙ ap (λ l. found bits 0 xs ++ l) (second.closed bits rest)
        ∙ sym (append_assoc (found bits 0 xs) (found bits 0 ys) (found bits 0 rest)) ∙ ap (λ l. l ++ found bits 0 rest) (sym (first.closed bits ys));
    right = λ bits is. first.closed bits ys ∙ (λ i. first.right bits is i ++ second.right bits is i) ∙ sym (filter-append (agrees_at conditions bits) ms ns);
  }

  pub tree-given : (given more : List Bool → Type 0) (ns : List ℕ) (nodes : List Node) → ((bits : List Bool) → more bits → given bits) → IsTree width conditions given ns nodes
      → IsTree width conditions more ns nodes
  tree-given given more ns nodes implies tree = record {
    within = tree.within;
    all = tree.all;
    closed = tree.closed;
    right = λ bits is. tree.right bits (implies bits is);
  }

  pub tree-instance : (n : ℕ) → IsTree width conditions (AgreesWith (literals_at conditions n)) (n ∷ []) (Instance n ∷ [])
  tree-instance n = record {
    within = All-cons (IsWithin width) (Instance n) [] (λ l below is. absurd (cc)) (All-nil (IsWithin width));
    all = refl;
    closed = λ bits rest. refl;
    right = λ bits is. sym (ap (λ b. cond b (n ∷ []) []) is);
  }

  not-agreed : (l : model.NumberedLiteral) (n : ℕ) (bits : List Bool) → Requires conditions l n → agrees bits l ≡ false → agrees_at conditions bits n ≡ false
  not-agreed l n bits needs off = elim (agrees_at conditions bits n) as (λ b. agrees_at conditions bits n ≡ b → b ≡ false) [
    | true ↦ λ is. absurd (true≢false (sym (needs bits is) ∙ off))
    | false ↦ λ _. refl
  ] refl

  -- a test above a tree
  module _ (given more : List Bool → Type 0) (l : NumberedLiteral) (ns : List ℕ) (nodes : List Node) (atom : l.atom < width) (few : length nodes < 2 ^ 63)
      (required : All (Requires conditions (numbered_of l)) ns) (implies : (bits : List Bool) → more bits → agrees bits (numbered_of l) ≡ true → given bits)
      (tree : IsTree width conditions given ns nodes) where
    passed : (bits : List Bool) (rest : List Node) (b : Bool) → found bits (if b then 0 else length nodes) (nodes ++ rest) ≡ found bits (if b then 0 else length nodes) nodes ++ found bits 0 rest
    passed bits rest true = tree.closed bits rest
    passed bits rest false = found-past bits nodes rest ∙ sym (ap (λ l. l ++ found bits 0 rest) (found-none bits nodes))

    here : (bits : List Bool) → more bits → (b : Bool) → agrees bits (numbered_of l) ≡ b → found bits (if b then 0 else length nodes) nodes ≡ filter (agrees_at conditions bits) ns
    here bits is true on = tree.right bits (implies bits is on)
    here bits is false off =
        found-none bits nodes ∙ sym (filter-none (agrees_at conditions bits) ns (λ k d lt. not-agreed (numbered_of l) (get_or ns k d) bits (required k d lt) off))

    pub tree-above : IsTree width conditions more ns (above l nodes)
    tree-above = record {
      within = All-cons (IsWithin width) (Test l (length nodes)) nodes
          (λ m below is. let same : l ≡ m = cc in let long : length nodes ≡ below = cc in (subst (λ o. o.atom < width) same atom, subst (λ k. k < 2 ^ 63) long few)) tree.within;
      all = tree.all;
      closed = λ bits rest. passed bits rest (agrees bits (numbered_of l));
      right = λ bits is. here bits is (agrees bits (numbered_of l)) refl;
    }

  -- a literal of one instance that is tested above it, or is on the path
  pub tree-tested : (path rest : List model.NumberedLiteral) (l : NumberedLiteral) (n : ℕ) (old new : List Node) → l.atom < width → length old < 2 ^ 63 → Requires conditions (numbered_of l) n
      → IsTested path l old new → IsTree width conditions (λ bits. AgreesWith path bits × AgreesWith (numbered_of l ∷ rest) bits) (n ∷ []) old
      → IsTree width conditions (λ bits. AgreesWith path bits × AgreesWith rest bits) (n ∷ []) new
  tree-tested path rest l n old new atom few needs tested tree = elim tested [
    | inl same ↦
        subst (IsTree width conditions (λ bits. AgreesWith path bits × AgreesWith rest bits) (n ∷ [])) (sym same.1)
        (tree-given (λ bits. AgreesWith path bits × AgreesWith (numbered_of l ∷ rest) bits) (λ bits. AgreesWith path bits × AgreesWith rest bits) (n ∷ []) old
        (λ bits is. (is.0, and_from (agrees bits (numbered_of l)) (list_all (agrees bits) rest) (same.0 bits is.0) is.1)) tree)
    | inr put ↦
        subst (IsTree width conditions (λ bits. AgreesWith path bits × AgreesWith rest bits) (n ∷ [])) (sym put)
        (tree-above (λ bits. AgreesWith path bits × AgreesWith (numbered_of l ∷ rest) bits) (λ bits. AgreesWith path bits × AgreesWith rest bits) l (n ∷ []) old atom few
        (All-cons (Requires conditions (numbered_of l)) n [] needs (All-nil (Requires conditions (numbered_of l))))
        (λ bits is on. (is.0, and_from (agrees bits (numbered_of l)) (list_all (agrees bits) rest) on is.1)) tree)
  ]

-- ---- literals of conditions

-- one of them is true where they are
pub among : (literals : List NumberedLiteral) (i : ℕ) (d l : NumberedLiteral) → i < length literals → (get_or literals i d).atom ≡ l.atom → (get_or literals i d).value ≡ l.value
    → Implies (map numbered_of literals) (numbered_of l)
among literals i d l within atom value bits is =
    let same : numbered_of (get_or literals i d) ≡ numbered_of l = λ j. record { atom = atom j; value = value j } in
    sym (ap (agrees bits) same) ∙ passes_index (λ m. agrees bits (numbered_of m)) literals i d within (sym (passes_map (agrees bits) numbered_of literals) ∙ is)

pub itself : (literals : List NumberedLiteral) (i : ℕ) (d : NumberedLiteral) → i < length literals → Implies (map numbered_of literals) (numbered_of (get_or literals i d))
itself literals i d within = among literals i d (get_or literals i d) within refl refl

pub literals-at : (conditions : List Condition) (n : ℕ) (c : Condition) → n < length conditions → c ≡ get_or conditions n c → literals_at conditions n ≡ literals_in c
literals-at conditions n c within at = ap (λ o. option_map_or literals_in o []) (got conditions n c within at)

-- a literal of a condition's is of an atom below the width
pub atom-within : (width : ℕ) (conditions : List Condition) (n : ℕ) (c : Condition) (literals : List NumberedLiteral) (i : ℕ) (d : NumberedLiteral) → AreWithin width conditions → n < length conditions
    → c ≡ get_or conditions n c → map numbered_of literals ≡ literals_in c → i < length literals → (get_or literals i d).atom < width
atom-within width conditions n c literals i d are within at same below =
    below-at width literals i d below (subst (All (λ (l : model.NumberedLiteral). l.atom < width)) (sym same) (are n c (got conditions n c within at)))

-- one instance more that wants a literal
pub required-more : (conditions : List Condition) (l : model.NumberedLiteral) (numbers : List ℕ) (i d : ℕ) (c : Condition) (literals : List NumberedLiteral) → i < length numbers → get_or numbers i d < length conditions
    → c ≡ get_or conditions (get_or numbers i d) c → map numbered_of literals ≡ literals_in c → Implies (map numbered_of literals) l → All (Requires conditions l) (take i numbers)
    → All (Requires conditions l) (take (i + 1) numbers)
required-more conditions l numbers i d c literals below within at same implies before =
    subst (All (Requires conditions l)) (sym (take_more numbers i d below))
    (All-push (Requires conditions l) (take i numbers) (get_or numbers i d) before
    (subst (λ ls. Implies ls l) (same ∙ sym (literals-at conditions (get_or numbers i d) c within at)) implies))

-- one literal more of an instance's condition, which is tested or on the path
pub tree-step : (width : ℕ) (conditions : List Condition) (path : List model.NumberedLiteral) (literals : List NumberedLiteral) (i : ℕ) (d : NumberedLiteral) (n : ℕ) (c : Condition) (old new : List Node)
    → i < length literals → n < length conditions → c ≡ get_or conditions n c → map numbered_of literals ≡ literals_in c → AreWithin width conditions → length old < 2 ^ 63
    → IsTested path (get_or literals i d) old new → IsTree width conditions (λ bits. AgreesWith path bits × AgreesWith (drop i (map numbered_of literals)) bits) (n ∷ []) old
    → IsTree width conditions (λ bits. AgreesWith path bits × AgreesWith (drop (i + 1) (map numbered_of literals)) bits) (n ∷ []) new
tree-step width conditions path literals i d n c old new below within at same are few tested tree =
    let l = get_or literals i d in
    let here : slice_get (map numbered_of literals) i ≡ Some (numbered_of l) = slice_get-map numbered_of literals i ∙ ap (option_map numbered_of) (slice_get-get_or literals i d below) in
    let needs : Requires conditions (numbered_of l) n = subst (λ ls. Implies ls (numbered_of l)) (same ∙ sym (literals-at conditions n c within at)) (itself literals i d below) in
    tree-tested width conditions path (drop (i + 1) (map numbered_of literals)) l n old new (atom-within width conditions n c literals i d are within at same below) few needs tested
    (subst (λ rest. IsTree width conditions (λ bits. AgreesWith path bits × AgreesWith rest bits) (n ∷ []) old) (drop-here (map numbered_of literals) i (numbered_of l) here) tree)

-- ---- groups

pub tree-groups : (width : ℕ) (conditions : List Condition) (given : List Bool → Type 0) (numbers : List ℕ) (seen count : ℕ) (old more new : List Node) → IsTreeOf width conditions given (take seen numbers) old
    → IsGroup width conditions given (drop seen numbers) count more → new ≡ old ++ more → IsTreeOf width conditions given (take (seen + count) numbers) new
tree-groups width conditions given numbers seen count old more new tree group is =
    subst (λ ns. IsTreeOf width conditions given ns new) (sym (take-add seen count numbers))
    (subst (IsTreeOf width conditions given (take seen numbers ++ take count (drop seen numbers))) (sym is)
    record {
      same = subst (IsPermutation (take seen numbers ++ take count (drop seen numbers))) (sym (numbers-append old more))
          (IsPermutation-append (take seen numbers) (numbers_in old) (take count (drop seen numbers)) (numbers_in more) tree.same group.tree.same);
      tree = subst (λ ns. IsTree width conditions given ns (old ++ more)) (sym (numbers-append old more))
          (tree-append width conditions given (numbers_in old) (numbers_in more) old more tree.tree group.tree.tree);
    })

-- a tree of some instances in their order
pub tree-own : (width : ℕ) (conditions : List Condition) (given : List Bool → Type 0) (numbers : List ℕ) (nodes : List Node) → IsTree width conditions given numbers nodes
    → IsTreeOf width conditions given numbers nodes
tree-own width conditions given numbers nodes tree = record {
  same = subst (IsPermutation numbers) (sym tree.all) (IsPermutation-refl numbers);
  tree = subst (λ ns. IsTree width conditions given ns nodes) (sym tree.all) tree;
}

-- the same in another order
pub tree-moved : (width : ℕ) (conditions : List Condition) (given : List Bool → Type 0) (old new : List ℕ) (nodes : List Node) → IsPermutation old new
    → IsTreeOf width conditions given new nodes → IsTreeOf width conditions given old nodes
tree-moved width conditions given old new nodes moved tree = record {
  same = IsPermutation-trans old new (numbers_in nodes) moved tree.same;
  tree = tree.tree;
}

-- a test above a tree of instances that all want its literal
pub tree-branch : (width : ℕ) (conditions : List Condition) (given more : List Bool → Type 0) (l : NumberedLiteral) (numbers : List ℕ) (nodes : List Node) → l.atom < width → length nodes < 2 ^ 63
    → All (Requires conditions (numbered_of l)) numbers → ((bits : List Bool) → more bits → agrees bits (numbered_of l) ≡ true → given bits)
    → IsTreeOf width conditions given numbers nodes → IsTreeOf width conditions more numbers (above l nodes)
tree-branch width conditions given more l numbers nodes atom few required implies tree = record {
  same = tree.same;
  tree = tree-above width conditions given more l (numbers_in nodes) nodes atom few (All-permutation (Requires conditions (numbered_of l)) numbers (numbers_in nodes) tree.same required) implies tree.tree;
}

-- one literal more on a path
pub longer-agrees : (bits : List Bool) (path longer : List NumberedLiteral) (l : NumberedLiteral) → longer ≡ path ++ l ∷ [] → AgreesWith (map numbered_of path) bits → agrees bits (numbered_of l) ≡ true
    → AgreesWith (map numbered_of longer) bits
longer-agrees bits path longer l is before on =
    ap (λ ls. list_all (agrees bits) (map numbered_of ls)) is ∙ ap (list_all (agrees bits)) (map-append numbered_of path (l ∷ []))
    ∙ list_all-append (agrees bits) (map numbered_of path) (numbered_of l ∷ [])
    ∙ and_from (list_all (agrees bits) (map numbered_of path)) (agrees bits (numbered_of l) && true) before (and_from (agrees bits (numbered_of l)) true on refl)
