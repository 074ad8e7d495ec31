-- The lines of the found states, and what they say of each.
use Rattle.std.proofs.Common.{◌≡◌, ◌∙◌, ℕ, zero, suc, ◌+◌, ◌<◌, Bool, true, false, List, [], ◌∷◌, ◌++◌, length, map, take, Option, None, Some, inl, inr, refl, sym, ap, arith}
use Rattle.std.specs.Prelude.{◌⊎◌, ◌&&◌, slice_get, Contains, if◌then◌else◌}
use Rattle.std.specs.List.{cons_option, filter_map, list_all}
use Rattle.std.proofs.lemmas.Bool.{true≢false}
use Rattle.std.proofs.lemmas.List.{length-map, map-append}
use Rattle.search.specs.declared.nodes.Node.{Node}
use Rattle.search.specs.declared.nodes.NodeStatus.{NodeStatus}
use Rattle.search.specs.declared.nodes.NodeStatus.TheVariants.{Unexpanded, Reopened, Expanded, Dead}
use Rattle.search.specs.Outcome.{is_expanded, is_expanded_status, is_dead_status, is_marked_dead, line_of, lines_of, IsCut}
use Rattle.search.specs.Outcome as search
use Rattle.certificate.specs.declared.states.Listed.{Listed}
use Rattle.certificate.specs.ListedSets.{Marked, lines_with}
use Rattle.certificate.specs.CertificateParts.{listed_of}
use Rattle.solver.specs.Listing.{by_all, mark_of_line, state_line}
use Rattle.certificate_definitions.specs.Evidence as evidence
use Rattle.certificate_definitions.specs.Evidence.{of_all, bare}
use Rattle.certificate_definitions.specs.Certificates.{StateLine, has_basis, is_dead_by_landmark}
use Rattle.model.specs.Claims.{Mark, expanded, cut, dead, Line}
use Rattle.model.proofs.ListLemmas.{Contains-cases, Contains-none, Contains-got}

-- ---- what is said of a state

abbrev mark_by : Bool → Bool → ℕ → Mark
mark_by is_expanded is_dead value = if is_expanded then expanded else (if is_dead then dead else cut value)

opened_by : (e d : Bool) (value : ℕ) → mark_by e d value ≡ expanded → e ≡ true
opened_by true d value is = refl
opened_by false true value is = absurd (cc)
opened_by false false value is = absurd (cc)

cut_by : (e d : Bool) (value rest : ℕ) → mark_by e d value ≡ cut rest → (e ≡ false) × (d ≡ false) × (value ≡ rest)
cut_by true d value rest is = absurd (cc)
cut_by false true value rest is = absurd (cc)
cut_by false false value rest is = (refl, refl, cc)

cut_is : (e d : Bool) (value : ℕ) → e ≡ false → d ≡ false → mark_by e d value ≡ cut value
cut_is e d value waits alive = λ i. mark_by (waits i) (alive i) value

dead_by : (e d : Bool) (value : ℕ) → (e ≡ true → d ≡ false) → d ≡ true → mark_by e d value ≡ dead
dead_by true d value alive reported = absurd (true≢false (sym reported ∙ alive refl))
dead_by false d value alive reported = ap (λ b. mark_by false b value) reported

module _ {S : Type 0} (value : S → ℕ) (is_dead : S → Bool) where
  -- an open line is that of an expanded state
  pub expanded_of_open : (s : S) (node : Node) → search.mark_of value is_dead s node ≡ expanded → is_expanded node ≡ true
  expanded_of_open s node is = opened_by (is_expanded node) (is_dead s) (value s) is

  -- a cut is that of a state which waits, with its value
  pub waits_of_cut : (s : S) (node : Node) (rest : ℕ) → search.mark_of value is_dead s node ≡ cut rest → IsCut is_dead s node × (value s ≡ rest)
  waits_of_cut s node rest is = let (waits, alive, same) = cut_by (is_expanded node) (is_dead s) (value s) rest is in ((waits, alive), same)

  pub cut_of_waits : (s : S) (node : Node) → IsCut is_dead s node → search.mark_of value is_dead s node ≡ cut (value s)
  cut_of_waits s node waits = cut_is (is_expanded node) (is_dead s) (value s) waits.0 waits.1

  -- a state that is reported dead, and so was not expanded, is said to be
  pub dead_of_reported : (s : S) (node : Node) → (is_expanded node ≡ true → is_dead s ≡ false) → is_dead s ≡ true → search.mark_of value is_dead s node ≡ dead
  dead_of_reported s node alive reported = dead_by (is_expanded node) (is_dead s) (value s) alive reported

  -- what is said of an expanded state, of one that is marked dead, and of one that waits
  abbrev line_by : Node → Bool → Bool → ℕ → Marked
  line_by node is_expanded reported estimate = record { cost = node.cost; mark = by_all (mark_by is_expanded reported estimate) }

  pub expanded_listed : (s : S) (node : Node) → node.status ≡ Expanded → record { cost = node.cost; mark = evidence.expanded } ≡ mark_of_line (line_of value is_dead s node)
  expanded_listed s node is = sym (ap (λ (status : NodeStatus). line_by node (is_expanded_status status) (is_dead s) (value s)) is)

  pub dead_listed : (s : S) (node : Node) → node.status ≡ Dead → is_marked_dead node ≡ is_dead s → record { cost = node.cost; mark = evidence.dead of_all } ≡ mark_of_line (line_of value is_dead s node)
  dead_listed s node is marked =
      let reported : is_dead s ≡ true = sym marked ∙ ap is_dead_status is in
      sym (λ i. line_by node (is_expanded_status (is i)) (reported i) (value s))

  pub waiting_listed : (s : S) (node : Node) (rest : ℕ) → (node.status ≡ Unexpanded) ⊎ (node.status ≡ Reopened) → is_marked_dead node ≡ is_dead s → (IsCut is_dead s node → rest ≡ value s)
      → record { cost = node.cost; mark = evidence.cut of_all rest } ≡ mark_of_line (line_of value is_dead s node)
  waiting_listed s node rest waits marked is =
      let unexpanded : is_expanded node ≡ false = elim waits [
        | inl is ↦ ap is_expanded_status is
        | inr is ↦ ap is_expanded_status is
      ] in
      let unmarked : is_marked_dead node ≡ false = elim waits [
        | inl is ↦ ap is_dead_status is
        | inr is ↦ ap is_dead_status is
      ] in
      let alive : is_dead s ≡ false = sym marked ∙ unmarked in
      ap (λ (n : ℕ). record { cost = node.cost; mark = evidence.cut of_all n }) (is (unexpanded, alive)) ∙ sym (λ i. line_by node (unexpanded i) (alive i) (value s))

  -- ---- the lines

  -- a line is that of a found state
  pub found_line : (states : List S) (nodes : List Node) (line : Line S) → Contains (lines_of value is_dead states nodes) line
      → (k : ℕ) × (s : S) × (n : Node) × (slice_get states k ≡ Some s) × (slice_get nodes k ≡ Some n) × (line ≡ line_of value is_dead s n)
  found_line [] nodes line at = absurd (Contains-none line at)
  found_line (s ∷ states) [] line at = absurd (Contains-none line at)
  found_line (s ∷ states) (n ∷ nodes) line at =
      elim (Contains-cases (line_of value is_dead s n) (lines_of value is_dead states nodes) line at) [
        | inl is ↦ (0, s, n, refl, refl, sym is)
        | inr later ↦ let (k, s', n', there, here, is) = found_line states nodes line later in (suc k, s', n', there, here, is)
      ]

  pub length-lines : (states : List S) (nodes : List Node) → length nodes ≡ length states → length (lines_of value is_dead states nodes) ≡ length states
  length-lines [] nodes one = refl
  length-lines (s ∷ states) [] one = absurd (omega (arith, one))
  length-lines (s ∷ states) (node ∷ nodes) one = ap suc (length-lines states nodes (omega (arith, one)))

  -- those of one state more
  pub lines_more : (states : List S) (nodes : List Node) (i : ℕ) (s : S) (node : Node) → slice_get states i ≡ Some s → slice_get nodes i ≡ Some node
      → lines_of value is_dead (take (suc i) states) (take (suc i) nodes) ≡ lines_of value is_dead (take i states) (take i nodes) ++ line_of value is_dead s node ∷ []
  lines_more [] nodes i s node at_s at_n = absurd (cc)
  lines_more (x ∷ states) [] i s node at_s at_n = absurd (cc)
  lines_more (x ∷ states) (n ∷ nodes) zero s node at_s at_n =
      let same_state : x ≡ s = cc in
      let same_node : n ≡ node = cc in
      λ i. line_of value is_dead (same_state i) (same_node i) ∷ []
  lines_more (x ∷ states) (n ∷ nodes) (suc i) s node at_s at_n = ap (λ l. line_of value is_dead x n ∷ l) (lines_more states nodes i s node at_s at_n)

  -- the line of a found state is among them
  pub line_at : (states : List S) (nodes : List Node) (k : ℕ) (s : S) (node : Node) → slice_get states k ≡ Some s → slice_get nodes k ≡ Some node
      → slice_get (lines_of value is_dead states nodes) k ≡ Some (line_of value is_dead s node)
  line_at [] nodes k s node at_s at_n = absurd (cc)
  line_at (x ∷ states) [] k s node at_s at_n = absurd (cc)
  line_at (x ∷ states) (n ∷ nodes) zero s node at_s at_n =
      let same_state : x ≡ s = cc in
      let same_node : n ≡ node = cc in
      λ i. Some (line_of value is_dead (same_state i) (same_node i))
  line_at (x ∷ states) (n ∷ nodes) (suc k) s node at_s at_n = line_at states nodes k s node at_s at_n

  pub line_among : (states : List S) (nodes : List Node) (k : ℕ) (s : S) (node : Node) → slice_get states k ≡ Some s → slice_get nodes k ≡ Some node
      → Contains (lines_of value is_dead states nodes) (line_of value is_dead s node)
  line_among states nodes k s node at_s at_n = Contains-got (lines_of value is_dead states nodes) k (line_of value is_dead s node) (line_at states nodes k s node at_s at_n)

pub node_at : (nodes : List Node) (k : ℕ) → k < length nodes → (node : Node) × (slice_get nodes k ≡ Some node)
node_at [] k below = absurd (omega (arith, below))
node_at (node ∷ nodes) zero below = (node, refl)
node_at (n ∷ nodes) (suc k) below = node_at nodes k (omega (arith, below))

-- ---- the marks

-- the role alone is that of the found state
pub bare-by_all : (mark : Mark) → bare (by_all mark) ≡ mark
bare-by_all expanded = refl
bare-by_all (cut rest) = refl
bare-by_all dead = refl

-- none rests on a landmark value
no_landmark : (mark : Mark) → is_dead_by_landmark (by_all mark) ≡ None
no_landmark expanded = refl
no_landmark (cut rest) = refl
no_landmark dead = refl

pub none-dead_by : (lines : List (Line (List Bool))) → filter_map (λ (l : StateLine). is_dead_by_landmark l.mark) (map state_line lines) ≡ []
none-dead_by [] = refl
none-dead_by (line ∷ lines) = λ i. cons_option (no_landmark line.mark i) (none-dead_by lines i)

-- so there is what each rests on
there_is : (count : ℕ) (mark : Mark) → has_basis count (by_all mark) ≡ true
there_is count expanded = refl
there_is count (cut rest) = refl
there_is count dead = refl

pub have_bases : (count : ℕ) (lines : List (Line (List Bool))) → list_all (λ (l : StateLine). has_basis count l.mark) (map state_line lines) ≡ true
have_bases count [] = refl
have_bases count (line ∷ lines) = λ i. there_is count line.mark i && have_bases count lines i

module _ (value : List Bool → ℕ) (is_dead : List Bool → Bool) where
  -- the lines of the marks and the states are those of the found states
  pub lines_of_marks : (states : List (List Bool)) (nodes : List Node)
      → lines_with (map mark_of_line (lines_of value is_dead states nodes)) states ≡ map state_line (lines_of value is_dead states nodes)
  lines_of_marks [] nodes = refl
  lines_of_marks (s ∷ states) [] = refl
  lines_of_marks (s ∷ states) (node ∷ nodes) = ap (λ lines. state_line (line_of value is_dead s node) ∷ lines) (lines_of_marks states nodes)

  pub as_many_marks : (marks : List Listed) (states : List (List Bool)) (nodes : List Node) → length nodes ≡ length states
      → map listed_of marks ≡ map mark_of_line (lines_of value is_dead states nodes) → length marks ≡ length states
  as_many_marks marks states nodes one are =
      sym (length-map marks listed_of) ∙ ap length are ∙ length-map (lines_of value is_dead states nodes) mark_of_line ∙ length-lines value is_dead states nodes one

  plus_one : (k : ℕ) → k + 1 ≡ suc k
  plus_one k = omega arith

  -- one mark more
  pub marks_next : (marks new : List Listed) (mark : Listed) (states : List (List Bool)) (nodes : List Node) (i : ℕ) (s : List Bool) (node : Node)
      → map listed_of marks ≡ map mark_of_line (lines_of value is_dead (take i states) (take i nodes)) → new ≡ marks ++ mark ∷ [] → listed_of mark ≡ mark_of_line (line_of value is_dead s node)
      → slice_get states i ≡ Some s → slice_get nodes i ≡ Some node → map listed_of new ≡ map mark_of_line (lines_of value is_dead (take (i + 1) states) (take (i + 1) nodes))
  marks_next marks new mark states nodes i s node so_far pushed is at_s at_n =
      ap (map listed_of) pushed ∙ map-append listed_of marks (mark ∷ [])
      ∙ (λ j. so_far j ++ is j ∷ [])
      ∙ sym (ap (λ k. map mark_of_line (lines_of value is_dead (take k states) (take k nodes))) (plus_one i)
      ∙ ap (map mark_of_line) (lines_more value is_dead states nodes i s node at_s at_n)
      ∙ map-append mark_of_line (lines_of value is_dead (take i states) (take i nodes)) (line_of value is_dead s node ∷ []))
