-- The roles of found states, one after another.
use Rattle.std.proofs.Common.{◌≡◌, ◌∙◌, ℕ, zero, suc, ◌+◌, Bool, true, false, List, [], ◌∷◌, ◌++◌, map, take, Some, inl, inr, sym, ap, arith}
use Rattle.std.specs.Prelude.{◌⊎◌, slice_get, if◌then◌else◌}
use Rattle.std.proofs.lemmas.List.{map-append}
use Rattle.model.specs.Claims.{Mark, expanded, cut, dead}
use Rattle.certificate.specs.declared.states.Listed.{Listed}
use Rattle.search.specs.declared.nodes.Node.{Node}
use Rattle.search.specs.declared.nodes.NodeStatus.{NodeStatus}
use Rattle.search.specs.declared.nodes.NodeStatus.TheVariants.{Unexpanded, Reopened, Expanded, Dead}
use Rattle.search.specs.Outcome.{is_expanded, is_expanded_status, is_dead_status, is_marked_dead, line_of, lines_of, IsCut}
use Rattle.line_evidence.specs.Roles.{Role, role_of, role_of_line}

abbrev mark_by : Bool → Bool → ℕ → Mark
mark_by is_expanded is_dead value = if is_expanded then expanded else (if is_dead then dead else cut value)

module _ {S : Type 0} (value : S → ℕ) (is_dead : S → Bool) where
  -- what is said of an expanded state, of one that is marked dead, and of one that waits
  abbrev role_by : Node → Bool → Bool → ℕ → Role
  role_by node is_expanded reported estimate = record { cost = node.cost; mark = mark_by is_expanded reported estimate }

  pub expanded_role : (s : S) (node : Node) → node.status ≡ Expanded → record { cost = node.cost; mark = expanded } ≡ role_of_line (line_of value is_dead s node)
  expanded_role s node is = sym (ap (λ (status : NodeStatus). role_by node (is_expanded_status status) (is_dead s) (value s)) is)

  pub dead_role : (s : S) (node : Node) → node.status ≡ Dead → is_marked_dead node ≡ is_dead s → record { cost = node.cost; mark = dead } ≡ role_of_line (line_of value is_dead s node)
  dead_role s node is marked =
      let reported : is_dead s ≡ true = sym marked ∙ ap is_dead_status is in
      sym (λ i. role_by node (is_expanded_status (is i)) (reported i) (value s))

  pub waiting_role : (s : S) (node : Node) (rest : ℕ) → (node.status ≡ Unexpanded) ⊎ (node.status ≡ Reopened) → is_marked_dead node ≡ is_dead s → (IsCut is_dead s node → rest ≡ value s)
      → record { cost = node.cost; mark = cut rest } ≡ role_of_line (line_of value is_dead s node)
  waiting_role s node rest waits marked is =
      let unexpanded : is_expanded node ≡ false = elim waits [
        | inl is ↦ ap is_expanded_status is
        | inr is ↦ ap is_expanded_status is
      ] in
      let unmarked : is_marked_dead node ≡ false = elim waits [
        | inl is ↦ ap is_dead_status is
        | inr is ↦ ap is_dead_status is
      ] in
      let alive : is_dead s ≡ false = sym marked ∙ unmarked in
      ap (λ (n : ℕ). record { cost = node.cost; mark = cut n }) (is (unexpanded, alive)) ∙ sym (λ i. role_by node (unexpanded i) (alive i) (value s))

  -- the lines of one state more
  lines_more : (states : List S) (nodes : List Node) (i : ℕ) (s : S) (node : Node) → slice_get states i ≡ Some s → slice_get nodes i ≡ Some node
      → lines_of value is_dead (take (suc i) states) (take (suc i) nodes) ≡ lines_of value is_dead (take i states) (take i nodes) ++ line_of value is_dead s node ∷ []
  lines_more [] nodes i s node at_s at_n = absurd (cc)
  lines_more (x ∷ states) [] i s node at_s at_n = absurd (cc)
  lines_more (x ∷ states) (n ∷ nodes) zero s node at_s at_n =
      let same_state : x ≡ s = cc in
      let same_node : n ≡ node = cc in
      λ i. line_of value is_dead (same_state i) (same_node i) ∷ []
  lines_more (x ∷ states) (n ∷ nodes) (suc i) s node at_s at_n = ap (λ l. line_of value is_dead x n ∷ l) (lines_more states nodes i s node at_s at_n)

  plus_one : (k : ℕ) → k + 1 ≡ suc k
  plus_one k = omega arith

  -- one mark more
  pub roles_next : (marks new : List Listed) (mark : Listed) (states : List S) (nodes : List Node) (i : ℕ) (s : S) (node : Node)
      → map role_of marks ≡ map role_of_line (lines_of value is_dead (take i states) (take i nodes)) → new ≡ marks ++ mark ∷ [] → role_of mark ≡ role_of_line (line_of value is_dead s node)
      → slice_get states i ≡ Some s → slice_get nodes i ≡ Some node → map role_of new ≡ map role_of_line (lines_of value is_dead (take (i + 1) states) (take (i + 1) nodes))
  roles_next marks new mark states nodes i s node so_far pushed is at_s at_n =
      ap (map role_of) pushed ∙ map-append role_of marks (mark ∷ [])
      ∙ (λ j. so_far j ++ is j ∷ [])
      ∙ sym (ap (λ k. map role_of_line (lines_of value is_dead (take k states) (take k nodes))) (plus_one i)
      ∙ ap (map role_of_line) (lines_more states nodes i s node at_s at_n)
      ∙ map-append role_of_line (lines_of value is_dead (take i states) (take i nodes)) (line_of value is_dead s node ∷ []))
