-- Match trees: that they have each number that is filed, and that what is found by them is all that is applicable.
use Rattle.std.proofs.Common.{◌≡◌, ◌∙◌, ◌≤◌, ◌<◌, ◌⊎◌, inl, inr, ℕ, zero, suc, ◌+◌, ◌-◌, Bool, true, false, List, [], ◌∷◌, ◌++◌, Some, length, length-append, get_or, drop, is_some, refl, sym, ap, subst, arith, true≢false}
use Rattle.std.specs.Prelude.{filter, if◌then◌else◌, slice_get, cond}
use Rattle.std.specs.Global.{Vec}
use Rattle.std.specs.List.{All, list_all, range_with_len}
use Rattle.std.specs.List.Sorted.{IsPermutation, IsSorted}
use Rattle.std.specs.Option.{option_map_or}
use Rattle.std.specs.Ordering.{nat_cmp}
use Rattle.std.proofs.lemmas.List.{append-nil, append_assoc}
use Rattle.std.proofs.lemmas.List.Elements.{All-nil, All-cons, All-filter, filter_passes}
use Rattle.std.proofs.lemmas.List.Sorted.{All-permutation, IsPermutation-append, IsPermutation-refl, length_permutation}
use Rattle.std.proofs.lemmas.Option.{get_or_from_slice_get, slice_get_within}
use Rattle.packed_state.specs.Sets.{IsNext}
use Rattle.grounding.specs.declared.condition.Condition.{Condition}
use Rattle.grounding.specs.declared.condition.Beyond.{Beyond}
use Rattle.grounding.specs.declared.condition.Beyond.TheVariants as beyond
use Rattle.grounding.specs.declared.ground.Ground.{Ground}
use Rattle.grounding.specs.declared.match_tree.Node.{Node}
use Rattle.grounding.specs.declared.match_tree.MatchTree.{MatchTree}
use Rattle.grounding.specs.declared.watch_lists.WatchLists.{WatchLists}
use Rattle.grounding.specs.Conditions.{literals_in, decided_by, can_of, can_hold_at}
use Rattle.grounding.specs.Ground.{task_in, atoms_in}
use Rattle.grounding.specs.MatchNodes.{met, left_out, found, numbers_in, literals_at, agrees_at, AgreesWith, IsMet, IsTree, IsTreeOf}
use Rattle.grounding.specs.MatchTree.{row_in, nodes_of, numbers_of, filed_in, AreRows, AreMatched}
use Rattle.grounding.specs.WatchLists.{times, filed_below, row_of, filed, IsRequiredBy, AreWatched}
use Rattle.grounding.proofs.FiledNumbers.{times-is, times-filter, sorted-same, numbers-rise, filed-fewer, filter-none, filter-append, length-filter_le}
use Rattle.grounding.proofs.GroundLemmas.{named, schema-of, condition-at}
use Rattle.grounding.proofs.StepLemmas.{kept-is_instance, step-named, applies}
use Rattle.grounding.proofs.TreeLemmas.{found-later}
use Rattle.grounding.proofs.WatchLemmas.{item-at}
use Rattle.model.specs.NumberedLiterals.{agrees}
use Rattle.model.specs.StaticallyFalse.{kept_instances}
use Rattle.model.specs.Grounding.{ground_step, applicable_numbers}
use Rattle.model.proofs.ListLemmas.{drop-here}

-- ---- the trees of all lists

row-last : (rows : List (Vec Node)) (v : Vec Node) (a : ℕ) → a < length rows + 1 → (row_in (rows ++ v ∷ []) a ≡ row_in rows a × (a < length rows)) ⊎ ((a ≡ length rows) × (row_in (rows ++ v ∷ []) a ≡ v.items))
row-last [] v zero below = inr (refl, refl)
row-last [] v (suc a) below = absurd (omega (arith, below))
row-last (r ∷ rows) v zero below = inl (refl, omega arith)
row-last (r ∷ rows) v (suc a) below = elim (row-last rows v a (omega (arith, below))) [
  | inl before ↦ inl (before.0, omega (arith, before.1))
  | inr last ↦ inr (omega (arith, last.0), last.1)
]

module _ (width : ℕ) (conditions : List Condition) (row : ℕ → List ℕ) where
  pub rows-none : (rows : List (Vec Node)) → rows ≡ [] → AreRows width conditions row 0 rows
  rows-none rows none = record { wide = ap length none; trees = λ a below. absurd (omega (arith, below)) }

  pub rows-more : (count : ℕ) (old new : List (Vec Node)) (v : Vec Node) → new ≡ old ++ v ∷ [] → AreRows width conditions row count old
      → IsTreeOf width conditions (λ bits. get_or bits count false ≡ true) (row count) v.items → AreRows width conditions row (count + 1) new
  rows-more count old new v is so tree = record {
    wide = omega (arith, ap length is, length-append old (v ∷ []), so.wide);
    trees = λ a below.
        elim (row-last old v a (omega (arith, below, so.wide))) [
          | inl before ↦
              subst (IsTreeOf width conditions (λ bits. get_or bits a false ≡ true) (row a)) (sym (ap (λ l. row_in l a) is ∙ before.0)) (so.trees a (omega (arith, before.1, so.wide)))
          | inr last ↦
              let at : a ≡ count = last.0 ∙ so.wide in
              subst (IsTreeOf width conditions (λ bits. get_or bits a false ≡ true) (row a)) (sym (ap (λ l. row_in l a) is ∙ last.1))
              (subst (λ k. IsTreeOf width conditions (λ bits. get_or bits k false ≡ true) (row k) v.items) (sym at) tree)
        ];
  }

filed-moved : (new old : ℕ → List ℕ) (count : ℕ) → ((a : ℕ) → a < count → IsPermutation (old a) (new a)) → IsPermutation (filed_below old count) (filed_below new count)
filed-moved new old zero same = IsPermutation-refl []
filed-moved new old (suc n) same =
    IsPermutation-append (filed_below old n) (filed_below new n) (old n) (new n) (filed-moved new old n (λ a below. same a (omega (arith, below)))) (same n (omega arith))

pub matched : (width : ℕ) (conditions : List Condition) (lists : WatchLists) (tree : MatchTree) → AreWatched width conditions (length conditions) lists
    → AreRows width conditions (row_of lists) width tree.rows.items → IsTreeOf width conditions (AgreesWith []) lists.unwatched.items tree.unwatched.items → AreMatched width conditions tree
matched width conditions lists tree are rows unwatched = record {
  wide = rows.wide;
  few = omega (arith, length_permutation (filed lists) (filed_in tree) moved, are.few);
  each = λ n. times-is n (filed lists) (filed_in tree) moved ∙ are.each n;
  rows = λ a below. (rows.trees a below).tree;
  required = λ a below. All-permutation (IsRequiredBy conditions a) (row_of lists a) (numbers_of tree a) ((rows.trees a below).same) (are.rows a);
  unwatched = unwatched.tree;
  unwatched_within = All-permutation (λ n. n < length conditions) lists.unwatched.items (numbers_in tree.unwatched.items) unwatched.same are.unwatched;
}
  where
    moved : IsPermutation (filed lists) (filed_in tree)
    moved =
        subst (λ k. IsPermutation (filed_below (row_of lists) k ++ lists.unwatched.items) (filed_in tree)) (sym are.wide)
        (subst (λ k. IsPermutation (filed_below (row_of lists) width ++ lists.unwatched.items) (filed_below (numbers_of tree) k ++ numbers_in tree.unwatched.items)) (sym rows.wide)
        (IsPermutation-append (filed_below (row_of lists) width) (filed_below (numbers_of tree) width) lists.unwatched.items (numbers_in tree.unwatched.items)
        (filed-moved (numbers_of tree) (row_of lists) width (λ a below. (rows.trees a below).same)) unwatched.same))

-- ---- what is found by the trees

not_agreed : (b : Beyond) → decided_by b false ≡ Some false
not_agreed beyond.Nothing = refl
not_agreed beyond.Never = refl
not_agreed beyond.Refuted = refl
not_agreed beyond.Formula = refl

not_held : (b : Beyond) (agreed : Bool) → can_of b ≡ false → decided_by b agreed ≡ Some false
not_held beyond.Never agreed never = refl
not_held beyond.Refuted agreed never = refl
not_held beyond.Nothing agreed never = absurd (true≢false never)
not_held beyond.Formula agreed never = absurd (true≢false never)

-- a test that is stronger than another keeps of what that keeps what it keeps of all
filter-twice : (p q : ℕ → Bool) (xs : List ℕ) → All (λ n. q n ≡ false → p n ≡ false) xs → filter p (filter q xs) ≡ filter p xs
filter-twice p q [] all = refl
filter-twice p q (x ∷ xs) all =
    let rest = filter-twice p q xs (λ k d lt. all (suc k) d (omega (arith, lt))) in
    by_test (q x) (λ off. all 0 x (omega arith) off) rest
  where
    by_test : (b : Bool) → (b ≡ false → p x ≡ false) → filter p (filter q xs) ≡ filter p xs → filter p (cond b (x ∷ filter q xs) (filter q xs)) ≡ cond (p x) (x ∷ filter p xs) (filter p xs)
    by_test true stronger rest = ap (λ l. cond (p x) (x ∷ l) l) rest
    by_test false stronger rest = rest ∙ sym (ap (λ b. cond b (x ∷ filter p xs) (filter p xs)) (stronger refl))

-- one row more of those whose numbers pass a test
pub row-more : (p : ℕ → Bool) (row : ℕ → List ℕ) (a : ℕ) (before more : List ℕ) → before ≡ filter p (filed_below row a) → more ≡ filter p (row a) → before ++ more ≡ filter p (filed_below row (a + 1))
row-more p row a before more is here =
    let next : a + 1 ≡ suc a = omega arith in
    (λ j. is j ++ here j) ∙ sym (filter-append p (filed_below row a) (row a)) ∙ ap (λ n. filter p (filed_below row n)) (sym next)

-- one node more
pub found-next : (bits : List Bool) (nodes : List Node) (i : ℕ) (node : Node) → slice_get nodes i ≡ Some node
    → found bits 0 (drop i nodes) ≡ met node ++ found bits 0 (drop (i + (1 + left_out bits node)) nodes)
found-next bits nodes i node at =
    let there : i + 1 + left_out bits node ≡ i + (1 + left_out bits node) = omega arith in
    ap (found bits 0) (drop-here nodes i node at)
    ∙ ap (λ l. met node ++ l) (found-later bits (left_out bits node) (drop (i + 1) nodes) ∙ ap (found bits 0) (drop-twice (i + 1) (left_out bits node) nodes ∙ ap (λ n. drop n nodes) there))
  where
    drop-none : (k : ℕ) → drop {A = Node} k [] ≡ []
    drop-none zero = refl
    drop-none (suc k) = refl

    drop-twice : (m n : ℕ) (xs : List Node) → drop n (drop m xs) ≡ drop (m + n) xs
    drop-twice zero n xs = let there : n ≡ zero + n = omega arith in ap (λ k. drop k xs) there
    drop-twice (suc m) n [] = drop-none n ∙ sym (drop-none (suc m + n))
    drop-twice (suc m) n (x ∷ xs) = let there : suc (m + n) ≡ suc m + n = omega arith in drop-twice m n xs ∙ ap (λ k. drop k (x ∷ xs)) there

module _ (g : Ground) (bits : List Bool) (long : length bits ≡ length (atoms_in g)) where
  abbrev pub passes : ℕ → Bool
  passes number = is_some (ground_step (task_in g) (atoms_in g) bits number)

  pub kept-many : length g.conditions.items ≡ length (kept_instances (task_in g))
  kept-many = omega (arith, g.preconditions.as_long, ap length g.numbering.kept)

  -- what a condition decides is whether its instance is applicable
  pub decided : (n : ℕ) (within : n < length g.conditions.items) (c : Condition) → slice_get g.conditions.items n ≡ Some c → (answer : Bool) → decided_by c.beyond (agrees_at g.conditions.items bits n) ≡ Some answer
      → passes n ≡ answer
  decided n within c at answer reported =
      let t = task_in g in
      let i = named t n (omega (arith, within, kept-many)) in
      let s = schema-of t i.0 (kept-is_instance t n i.0 i.1) in
      let literals : literals_at g.conditions.items n ≡ literals_in c = ap (λ o. option_map_or literals_in o []) at in
      applies t (atoms_in g) bits n i.0 i.1 s.0 s.1
      ∙ (condition-at g n i.0 i.1 c (sym (get_or_from_slice_get g.conditions.items n c c at)) s.0 s.1).decided bits answer long
      (subst (λ ls. decided_by c.beyond (list_all (agrees bits) ls) ≡ Some answer) literals reported)

  -- an instance whose literals are not all true is not applicable
  not_met : (n : ℕ) → n < length g.conditions.items → agrees_at g.conditions.items bits n ≡ false → passes n ≡ false
  not_met n within off =
      let c = item-at g.conditions.items n within in
      decided n within c.0 c.1 false (ap (decided_by c.0.beyond) off ∙ not_agreed c.0.beyond)

  -- nor is one that may hold nowhere
  not_may : (n : ℕ) → n < length g.conditions.items → can_hold_at g.conditions.items n ≡ false → passes n ≡ false
  not_may n within never =
      let c = item-at g.conditions.items n within in
      let may : can_of c.0.beyond ≡ false = sym (ap (λ o. option_map_or (λ (d : Condition). can_of d.beyond) o false) c.1) ∙ never in
      decided n within c.0 c.1 false (not_held c.0.beyond (agrees_at g.conditions.items bits n) may)

  -- nor is one that wants an atom that is false
  not_passed : (a n : ℕ) → get_or bits a false ≡ false → IsRequiredBy g.conditions.items a n → passes n ≡ false
  not_passed a n off required =
      let c = item-at g.conditions.items n required.0 in
      not_met n required.0 (ap (λ o. list_all (agrees bits) (option_map_or literals_in o [])) c.1 ∙ required.1 c.0 c.1 bits off)

  -- what a tree finds and passes is what passes of its numbers
  tree-passed : (given : List Bool → Type 0) (numbers : List ℕ) (nodes : List Node) → IsTree (length (atoms_in g)) g.conditions.items given numbers nodes → given bits
      → All (λ n. n < length g.conditions.items) numbers → filter passes (found bits 0 nodes) ≡ filter passes numbers
  tree-passed given numbers nodes tree is within =
      ap (filter passes) (tree.right bits is) ∙ filter-twice passes (agrees_at g.conditions.items bits) numbers (λ k d lt. not_met (get_or numbers k d) (within k d lt))

  tree-met : (given : List Bool → Type 0) (numbers : List ℕ) (nodes : List Node) → IsTree (length (atoms_in g)) g.conditions.items given numbers nodes → given bits
      → All (λ n. n < length g.conditions.items) numbers → All (IsMet g.conditions.items bits) (found bits 0 nodes)
  tree-met given numbers nodes tree is within =
      subst (All (IsMet g.conditions.items bits)) (sym (tree.right bits is))
      (λ k d lt. (All-filter (agrees_at g.conditions.items bits) (λ n. n < length g.conditions.items) numbers within k d lt, filter_passes (agrees_at g.conditions.items bits) numbers k d lt))

  tree-few : (given : List Bool → Type 0) (numbers : List ℕ) (nodes : List Node) → IsTree (length (atoms_in g)) g.conditions.items given numbers nodes → given bits
      → length (found bits 0 nodes) ≤ length numbers
  tree-few given numbers nodes tree is = omega (arith, ap length (tree.right bits is), length-filter_le (agrees_at g.conditions.items bits) numbers)

  abbrev row : ℕ → List ℕ
  row = numbers_of g.tree

  row-numbers : (a : ℕ) → a < length (atoms_in g) → All (λ n. n < length g.conditions.items) (row a)
  row-numbers a below k d within = (g.matched.required a below k d within).0

  -- the tree of an atom that is true
  module _ (a : ℕ) (below : a < length (atoms_in g)) (on : get_or bits a false ≡ true) where
    pub row-passed : (nodes : List Node) → nodes ≡ nodes_of g.tree a → filter passes (found bits 0 nodes) ≡ filter passes (row a)
    row-passed nodes is =
        ap (λ l. filter passes (found bits 0 l)) is
        ∙ tree-passed (λ bits. get_or bits a false ≡ true) (row a) (nodes_of g.tree a) (g.matched.rows a below) on (row-numbers a below)

    pub row-met : (nodes : List Node) → nodes ≡ nodes_of g.tree a → All (IsMet g.conditions.items bits) (found bits 0 nodes)
    row-met nodes is =
        subst (λ l. All (IsMet g.conditions.items bits) (found bits 0 l)) (sym is)
        (tree-met (λ bits. get_or bits a false ≡ true) (row a) (nodes_of g.tree a) (g.matched.rows a below) on (row-numbers a below))

    row-few : (nodes : List Node) → nodes ≡ nodes_of g.tree a → length (found bits 0 nodes) ≤ length (row a)
    row-few nodes is = omega (arith, ap (λ l. length (found bits 0 l)) is, tree-few (λ bits. get_or bits a false ≡ true) (row a) (nodes_of g.tree a) (g.matched.rows a below) on)

    -- what was found so far and the next tree's fit in room for all
    pub row-fits : (before : List ℕ) (nodes : List Node) → before ≡ filter passes (filed_below row a) → nodes ≡ nodes_of g.tree a → length before + length (found bits 0 nodes) ≤ length g.conditions.items
    row-fits before nodes is are =
        let rest = length g.tree.rows.items - (a + 1) in
        let next : a + 1 ≡ suc a = omega arith in
        let whole : a + 1 + rest ≡ length g.tree.rows.items = omega (arith, g.matched.wide, below) in
        omega (
          arith,
          ap length is,
          length-filter_le passes (filed_below row a),
          row-few nodes are,
          length-append (filed_below row a) (row a),
          ap (λ n. length (filed_below row n)) next,
          filed-fewer row (a + 1) rest,
          ap (λ n. length (filed_below row n)) whole,
          length-append (filed_below row (length g.tree.rows.items)) (numbers_in g.tree.unwatched.items),
          g.matched.few,
        )

  pub unwatched-met : All (IsMet g.conditions.items bits) (found bits 0 g.tree.unwatched.items)
  unwatched-met = tree-met (AgreesWith []) (numbers_in g.tree.unwatched.items) g.tree.unwatched.items g.matched.unwatched refl g.matched.unwatched_within

  pub unwatched-fit : (a : ℕ) (before : List ℕ) → a ≡ length (atoms_in g) → before ≡ filter passes (filed_below row a) → length before + length (found bits 0 g.tree.unwatched.items) ≤ length g.conditions.items
  unwatched-fit a before end is =
      let whole : a ≡ length g.tree.rows.items = omega (arith, g.matched.wide, end) in
      omega (
        arith,
        ap length is,
        length-filter_le passes (filed_below row a),
        tree-few (AgreesWith []) (numbers_in g.tree.unwatched.items) g.tree.unwatched.items g.matched.unwatched refl,
        ap (λ n. length (filed_below row n)) whole,
        length-append (filed_below row (length g.tree.rows.items)) (numbers_in g.tree.unwatched.items),
        g.matched.few,
      )

  none_in_row : (a : ℕ) → a < length (atoms_in g) → get_or bits a false ≡ false → [] ≡ filter passes (row a)
  none_in_row a below off = sym (filter-none passes (row a) (λ k d within. not_passed a (get_or (row a) k d) off (g.matched.required a below k d within)))

  skipped : (a more : ℕ) → a + more ≤ length (atoms_in g) → ((k : ℕ) → a ≤ k → k < a + more → get_or bits k false ≡ false) → filter passes (filed_below row a) ≡ filter passes (filed_below row (a + more))
  skipped a zero few off = let same : a ≡ a + 0 = omega arith in ap (λ n. filter passes (filed_below row n)) same
  skipped a (suc more) few off =
      let next : suc (a + more) ≡ a + suc more = omega arith in
      skipped a more (omega (arith, few)) (λ k above below. off k above (omega (arith, below)))
      ∙ sym (append-nil (filter passes (filed_below row (a + more))))
      ∙ ap (λ l. filter passes (filed_below row (a + more)) ++ l) (none_in_row (a + more) (omega (arith, few)) (off (a + more) (omega arith) (omega arith)))
      ∙ sym (filter-append passes (filed_below row (a + more)) (row (a + more))) ∙ ap (λ n. filter passes (filed_below row n)) next

  -- the trees of atoms that are false have none that passes
  pub rows-skipped : (a b : ℕ) (before : List ℕ) → IsNext bits a b → before ≡ filter passes (filed_below row a) → before ≡ filter passes (filed_below row b)
  rows-skipped a b before next is =
      let there : a + (b - a) ≡ b = omega (arith, next.above) in
      is ∙ skipped a (b - a) (omega (arith, there, next.within, long)) (λ k above below. next.none_between k above (omega (arith, below, there))) ∙ ap (λ n. filter passes (filed_below row n)) there

  -- of what is applicable all numbers are filed
  all_filed : (n : ℕ) → (if passes n then times n (filter (can_hold_at g.conditions.items) (range_with_len 0 (length g.conditions.items))) else zero)
      ≡ (if passes n then times n (range_with_len 0 (length g.conditions.items)) else zero)
  all_filed n = by_test (passes n) refl
    where
      all : List ℕ
      all = range_with_len 0 (length g.conditions.items)

      may_hold : passes n ≡ true → can_hold_at g.conditions.items n ≡ true
      may_hold holds =
          let i = step-named (task_in g) (atoms_in g) bits n holds in
          let within = slice_get_within (kept_instances (task_in g)) n i.0 i.1 in
          elim (can_hold_at g.conditions.items n) as (λ b. can_hold_at g.conditions.items n ≡ b → b ≡ true) [
            | true ↦ λ _. refl
            | false ↦ λ never. absurd (true≢false (sym holds ∙ not_may n (omega (arith, within, kept-many)) never))
          ] refl

      by_test : (b : Bool) → passes n ≡ b → (if b then times n (filter (can_hold_at g.conditions.items) all) else zero) ≡ (if b then times n all else zero)
      by_test false fails = refl
      by_test true holds = times-filter (can_hold_at g.conditions.items) n all ∙ ap (λ b. if b then times n all else zero) (may_hold holds)

  -- in order, they are those that are applicable
  pub found-sorted : (a : ℕ) (before all sorted : List ℕ) → a ≡ length (atoms_in g) → before ≡ filter passes (filed_below row a) → all ≡ before ++ filter passes (found bits 0 g.tree.unwatched.items)
      → IsPermutation all sorted → IsSorted nat_cmp sorted → sorted ≡ applicable_numbers (task_in g) (atoms_in g) bits
  found-sorted a before all sorted end is are moved order =
      let count = length (kept_instances (task_in g)) in
      let whole : a ≡ length g.tree.rows.items = omega (arith, g.matched.wide, end) in
      let last : filter passes (found bits 0 g.tree.unwatched.items) ≡ filter passes (numbers_in g.tree.unwatched.items) =
      tree-passed (AgreesWith []) (numbers_in g.tree.unwatched.items) g.tree.unwatched.items g.matched.unwatched refl g.matched.unwatched_within in
      let same : all ≡ filter passes (filed_in g.tree) =
      are ∙ (λ j. (is ∙ ap (λ n. filter passes (filed_below row n)) whole) j ++ last j) ∙ sym (filter-append passes (filed_below row (length g.tree.rows.items)) (numbers_in g.tree.unwatched.items)) in
      sorted-same all sorted (filter passes (range_with_len 0 count)) moved order (numbers-rise passes count)
      (λ n. ap (times n) same ∙ times-filter passes n (filed_in g.tree) ∙ ap (λ k. if passes n then k else zero) (g.matched.each n) ∙ all_filed n
      ∙ ap (λ m. if passes n then times n (range_with_len 0 m) else zero) kept-many ∙ sym (times-filter passes n (range_with_len 0 count)))

-- ---- going on by one node

pub all-first : (P : ℕ → Type 0) (xs ys : List ℕ) → All P (xs ++ ys) → All P xs
all-first P [] ys all = All-nil P
all-first P (x ∷ xs) ys all = All-cons P x xs (all 0 x (omega arith)) (all-first P xs ys (λ k d lt. all (suc k) d (omega (arith, lt))))

pub all-rest : (P : ℕ → Type 0) (xs ys : List ℕ) → All P (xs ++ ys) → All P ys
all-rest P [] ys all = all
all-rest P (x ∷ xs) ys all = all-rest P xs ys (λ k d lt. all (suc k) d (omega (arith, lt)))

pub walked : (p : ℕ → Bool) (old new whole now here rest : List ℕ) → new ≡ old ++ filter p here → now ≡ here ++ rest → old ++ filter p now ≡ whole → new ++ filter p rest ≡ whole
walked p old new whole now here rest is next all =
    ap (λ l. l ++ filter p rest) is ∙ append_assoc old (filter p here) (filter p rest) ∙ ap (λ l. old ++ l) (sym (filter-append p here rest) ∙ ap (filter p) (sym next)) ∙ all
