-- The worked examples of tables.
use Rattle.std.specs.Prelude.{◌≡◌, ℕ, zero, suc, ◌<◌, Bool, true, false, IsTrue, pos, ◌≤ℤ◌, ℤ, List, [], ◌∷◌, length, slice_get, Some, if◌then◌else◌, All, refl}
use Rattle.std.specs.List.{list_all, filter_map}
use Rattle.std.specs.FinSet.{from_list, contains-from_list}
use Rattle.std.specs.Int.Signed.{le_z_yes}
use Rattle.std.proofs.Common.{◌∙◌, true≢false, sym, ap, subst, arith}
use Rattle.std.proofs.lemmas.Bool.{false_from_ne_true}
use Rattle.std.proofs.lemmas.Int.{ints}
use Rattle.std.proofs.lemmas.List.Elements.{All-cons, All-nil}
use Rattle.model.specs.Task.{Atom, Task, Instance}
use Rattle.model.specs.Meaning.{Change, cost_of}
use Rattle.model.specs.StaticallyFalse.{kept_instances}
use Rattle.model.specs.NumberedAtoms.{occurs_in}
use Rattle.model.specs.NumberedLiterals.{literals_of_instance}
use Rattle.model.specs.Grounding.{bits_of_state}
use Rattle.model.proofs.Atoms.{atoms_total}
use Rattle.model.proofs.GroundingComputes.{counting, counting-is}
use Rattle.lower_bounds.specs.FairPotentials.{nothing}
use Rattle.lower_bounds.specs.PotentialExamples.{hop_task, hop_atoms, when_task, when_atoms, token_task, token_atoms}
use Rattle.lower_bounds.proofs.PotentialExampleProofs.{hop, leap, hops_kept, the_one, one_kept, fore, back, moves_kept}
use Rattle.lower_bounds.specs.TableFunctions.{TableFunction, value, functions_of, dead_ends_of, has_numbered_fluents}
use Rattle.lower_bounds.specs.FairTables.{conditional_change, is_closed, all_lose, is_asked, IsFairAcross, IsFairAt, IsFairAtGoals, IsFair, IsDeadFair, AreFairAt, IsFirstUnfairAt}
use Rattle.lower_bounds.specs.TableExamples.{AreTablesJudged, AreTasksJudged, on_the_walk, never_at_a, never_at_b, here_or_there, to_c, hop_by_hop, only_tables, x, y}
use Rattle.lower_bounds.proofs.TableLowerBound.{has-numbered, numbered-has}

pub tables_are_judged : AreTablesJudged
tables_are_judged = record {
  agreed = refl;
  disagreed = refl;
  false_disagreed = refl;
  of_others = refl;
  two_places = refl;
  one_place = refl;
  nowhere = refl;
  without_rows = refl;
  without_tables = refl;
  load_loses = refl;
  drive_loses = refl;
  back_loses = refl;
  loaded_back_gains = refl;
  gain_pays = refl;
  without_gain = refl;
  untouched_loses = refl;
  lamp_off = refl;
  lamp_on = refl;
  dark_lamp_on = refl;
  load_is_closed = refl;
  drive_is_closed = refl;
  add_wins = refl;
  not_closed = refl;
  drop_contradicted = refl;
  drop_open = refl;
  contradicted_is_closed = refl;
  contradicted_loses = refl;
  open_is_not_closed = refl;
  may_go_out = refl;
  may_go_on = refl;
  never_goes_out = refl;
  goal_gives = refl;
  constant_counts = refl;
  any_goal_gives = refl;
  goal_shut_out = refl;
  begins_at = refl;
  with_constant = refl;
  no_row = refl;
  one_without_row = refl;
  sell = record { by_value = refl; by_dead_ends = refl };
  break = record { by_value = refl; by_dead_ends = refl };
  stay_broken = record { by_value = refl; by_dead_ends = refl };
  glue = record { by_value = refl; by_dead_ends = refl };
  broken_is_dead = refl;
  whole_is_not_dead = refl;
  sold_gives_nothing = refl;
}

-- ---- instances, in a form that computes

module _ (task : Task) (atoms : List Atom) (h : TableFunction) where
  abbrev across : ℕ → Instance → List Change → Type 0
  across allowed i changes = IsFairAcross allowed (length atoms) h (literals_of_instance task atoms i) (filter_map (conditional_change task atoms) changes)

  abbrev closed : Instance → Bool
  closed i = list_all (is_closed (literals_of_instance task atoms i) (filter_map (conditional_change task atoms) (counting task i))) h.tables

  abbrev lost : Instance → ℤ
  lost i = all_lose (length atoms) h (literals_of_instance task atoms i) (filter_map (conditional_change task atoms) (counting task i))

  is_fair : (allowed : ℕ) (i : Instance) → closed i ≡ true → lost i ≤ℤ pos allowed → IsFairAt allowed task atoms h i
  is_fair allowed i closes within = subst (across allowed i) (sym (counting-is task i)) (record { closed = closes; within = within })

  loses_more : (allowed : ℕ) (i : Instance) (more : ℤ) → lost i ≡ more → (more ≤ℤ pos allowed → ⊥) → IsFairAt allowed task atoms h i → ⊥
  loses_more allowed i more loses too_much fair =
      let computed : IsFairAcross allowed (length atoms) h (literals_of_instance task atoms i) (filter_map (conditional_change task atoms) (counting task i)) = subst (across allowed i) (counting-is task i) fair in
      too_much (subst (λ z. z ≤ℤ pos allowed) loses computed.within)

  leads_out : (allowed : ℕ) (i : Instance) → closed i ≡ false → IsFairAt allowed task atoms h i → ⊥
  leads_out allowed i not_closed fair =
      let computed : IsFairAcross allowed (length atoms) h (literals_of_instance task atoms i) (filter_map (conditional_change task atoms) (counting task i)) = subst (across allowed i) (counting-is task i) fair in
      true≢false (sym computed.closed ∙ not_closed)

  -- the first instance is not fair
  first_is_unfair : (asked : Instance → Bool) (allowance : Instance → ℕ) (first : Instance) (rest : List Instance) → kept_instances task ≡ first ∷ rest → asked first ≡ true
      → (IsFairAt (allowance first) task atoms h first → ⊥) → IsFirstUnfairAt asked allowance task atoms h 0
  first_is_unfair asked allowance first rest kept is unfair = record {
    instance = first;
    named = ap (λ l. slice_get l 0) kept ∙ refl;
    is_asked = is;
    unfair = unfair;
    earlier = λ n i below _ _. absurd (omega arith);
  }

at_most : (n m : ℕ) → m < n → pos n ≤ℤ pos m → ⊥
at_most n m below h = absurd (omega (arith, ints))

-- ---- the walk

abbrev AreHopsAsked : (Instance → ℕ) → TableFunction → Instance → Type 0
AreHopsAsked allowance h i = IsTrue (is_asked hop_task hop_atoms h.tables i) → IsFairAt (allowance i) hop_task hop_atoms h i

hops : (allowance : Instance → ℕ) (h : TableFunction) → AreHopsAsked allowance h (hop 0 1) → AreHopsAsked allowance h (hop 1 2) → AreHopsAsked allowance h leap
    → All (AreHopsAsked allowance h) (kept_instances hop_task)
hops allowance h first second leaps =
    let P = AreHopsAsked allowance h in
    subst (All P) (sym hops_kept) (All-cons P (hop 0 1) (hop 1 2 ∷ leap ∷ []) first (All-cons P (hop 1 2) (leap ∷ []) second (All-cons P leap [] leaps (All-nil P))))

abbrev shut_out : (h : TableFunction) (i : Instance) → is_asked hop_task hop_atoms h.tables i ≡ false → AreHopsAsked (cost_of hop_task) h i
shut_out h i out asked = absurd (true≢false (sym asked ∙ out))

walk-fair : IsFair hop_task hop_atoms (on_the_walk (pos 6) (pos 3) (pos 0))
walk-fair =
    let h = on_the_walk (pos 6) (pos 3) (pos 0) in
    record {
      instances = hops (cost_of hop_task) h (λ _. is_fair hop_task hop_atoms h 3 (hop 0 1) refl (le_z_yes tt)) (λ _. is_fair hop_task hop_atoms h 3 (hop 1 2) refl (le_z_yes tt))
          (λ _. is_fair hop_task hop_atoms h 10 leap refl (le_z_yes tt));
      goals = record { within = λ _. le_z_yes tt };
    }

abbrev steep : TableFunction
steep = on_the_walk (pos 6) (pos 4) (pos 0)

second-unfair : IsFirstUnfairAt (is_asked hop_task hop_atoms steep.tables) (cost_of hop_task) hop_task hop_atoms steep 1
second-unfair = record {
  instance = hop 1 2;
  named = ap (λ l. slice_get l 1) hops_kept ∙ refl;
  is_asked = refl;
  unfair = loses_more hop_task hop_atoms steep 3 (hop 1 2) (pos 4) refl (at_most 4 3 (omega arith));
  earlier = λ n i below named _. first n i below (sym (ap (λ l. slice_get l n) hops_kept) ∙ named);
}
  where
    first : (n : ℕ) (i : Instance) → n < 1 → slice_get (hop 0 1 ∷ hop 1 2 ∷ leap ∷ []) n ≡ Some i → IsFairAt (cost_of hop_task i) hop_task hop_atoms steep i
    first zero i below named =
        let same : hop 0 1 ≡ i = cc in
        subst (λ j. IsFairAt (cost_of hop_task j) hop_task hop_atoms steep j) same (is_fair hop_task hop_atoms steep 3 (hop 0 1) refl (le_z_yes tt))
    first (suc n) i below named = absurd (omega arith)

never_at_a-fair : IsFair hop_task hop_atoms never_at_a
never_at_a-fair = record {
  instances = hops (cost_of hop_task) never_at_a (shut_out never_at_a (hop 0 1) refl) (λ _. is_fair hop_task hop_atoms never_at_a 3 (hop 1 2) refl (le_z_yes tt)) (shut_out never_at_a leap refl);
  goals = record { within = λ _. le_z_yes tt };
}

-- ---- the token

moves : (asked : Instance → Bool) (allowance : Instance → ℕ) (h : TableFunction) → IsFairAt (allowance fore) token_task token_atoms h fore → IsFairAt (allowance back) token_task token_atoms h back
    → IsFairAtGoals token_task token_atoms h → AreFairAt asked allowance token_task token_atoms h
moves asked allowance h fore_fair back_fair goals =
    let P = λ (i : Instance). IsTrue (asked i) → IsFairAt (allowance i) token_task token_atoms h i in
    record { instances = subst (All P) (sym moves_kept) (All-cons P fore (back ∷ []) (λ _. fore_fair) (All-cons P back [] (λ _. back_fair) (All-nil P))); goals = goals }

-- no row satisfies the goal
none_meets : (here there : ℤ) → IsFairAtGoals token_task token_atoms (here_or_there here there)
none_meets here there = record { within = λ out. absurd (true≢false out) }

token-dead_fair : IsDeadFair token_task token_atoms (here_or_there (pos 1) (pos 1))
token-dead_fair =
    let h = here_or_there (pos 1) (pos 1) in
    moves (is_asked token_task token_atoms h.tables) nothing h (is_fair token_task token_atoms h 0 fore refl (le_z_yes tt)) (is_fair token_task token_atoms h 0 back refl (le_z_yes tt)) (none_meets (pos 1) (pos 1))

fore-fair : IsFair token_task token_atoms (here_or_there (pos 1) (pos 0))
fore-fair =
    let h = here_or_there (pos 1) (pos 0) in
    moves (is_asked token_task token_atoms h.tables) (cost_of token_task) h (is_fair token_task token_atoms h 1 fore refl (le_z_yes tt)) (is_fair token_task token_atoms h 1 back refl (le_z_yes tt)) (none_meets (pos 1) (pos 0))

-- ---- a condition that may or may not hold

one : (h : TableFunction) → IsFairAt 1 when_task when_atoms h the_one → IsFairAtGoals when_task when_atoms h → IsFair when_task when_atoms h
one h fair goals =
    let P = λ (i : Instance). IsTrue (is_asked when_task when_atoms h.tables i) → IsFairAt (cost_of when_task i) when_task when_atoms h i in
    record { instances = subst (All P) (sym one_kept) (All-cons P the_one [] (λ _. fair) (All-nil P)); goals = goals }

-- ---- atoms without a number

pub y-unnumbered : has_numbered_fluents token_task (x ∷ []) (from_list (y ∷ [])) ≡ false
y-unnumbered =
    false_from_ne_true (has_numbered_fluents token_task (x ∷ []) (from_list (y ∷ []))) (λ all.
    let there : occurs_in (x ∷ []) y ≡ true = has-numbered token_task (x ∷ []) (from_list (y ∷ [])) all y refl (contains-from_list atoms_total (y ∷ []) y ∙ refl) in
    true≢false (sym there))

x-numbered : has_numbered_fluents token_task (x ∷ []) (from_list (x ∷ [])) ≡ true
x-numbered = numbered-has token_task (x ∷ []) (from_list (x ∷ [])) (λ q is there. sym (contains-from_list atoms_total (x ∷ []) q) ∙ there)

x-bits : bits_of_state (x ∷ []) (from_list (x ∷ [])) ≡ true ∷ []
x-bits = ap (λ b. b ∷ []) (contains-from_list atoms_total (x ∷ []) x ∙ refl)

-- ---- several values

abbrev first : TableFunction
first = record (dead_ends_of hop_by_hop) { place = 0 }

abbrev second : TableFunction
second = record (dead_ends_of hop_by_hop) { place = 1 }

hop_by_hop-fair : All (IsFair hop_task hop_atoms) (functions_of hop_by_hop)
hop_by_hop-fair =
    let P = IsFair hop_task hop_atoms in
    All-cons P first (second ∷ []) (fair first (is_fair hop_task hop_atoms first 3 (hop 0 1) refl (le_z_yes tt)) (is_fair hop_task hop_atoms first 3 (hop 1 2) refl (le_z_yes tt))
    (is_fair hop_task hop_atoms first 10 leap refl (le_z_yes tt)) (record { within = λ _. le_z_yes tt }))
    (All-cons P second [] (fair second (is_fair hop_task hop_atoms second 3 (hop 0 1) refl (le_z_yes tt)) (is_fair hop_task hop_atoms second 3 (hop 1 2) refl (le_z_yes tt))
    (is_fair hop_task hop_atoms second 10 leap refl (le_z_yes tt)) (record { within = λ _. le_z_yes tt })) (All-nil P))
  where
    fair : (h : TableFunction) → IsFairAt 3 hop_task hop_atoms h (hop 0 1) → IsFairAt 3 hop_task hop_atoms h (hop 1 2) → IsFairAt 10 hop_task hop_atoms h leap → IsFairAtGoals hop_task hop_atoms h
        → IsFair hop_task hop_atoms h
    fair h a b c goals = record { instances = hops (cost_of hop_task) h (λ _. a) (λ _. b) (λ _. c); goals = goals }

no_dead_ends-fair : IsDeadFair hop_task hop_atoms (dead_ends_of hop_by_hop)
no_dead_ends-fair =
    let h = dead_ends_of hop_by_hop in
    record {
      instances = hops nothing h (λ _. is_fair hop_task hop_atoms h 0 (hop 0 1) refl (le_z_yes tt)) (λ _. is_fair hop_task hop_atoms h 0 (hop 1 2) refl (le_z_yes tt))
          (λ _. is_fair hop_task hop_atoms h 0 leap refl (le_z_yes tt));
      goals = record { within = λ _. le_z_yes tt };
    }

-- ---- all of them

pub tasks_are_judged : AreTasksJudged
tasks_are_judged = record {
  walk_is_fair = walk-fair;
  walk_begins_at = refl;
  first_hop_is_unfair =
      let h = on_the_walk (pos 7) (pos 3) (pos 0) in
      first_is_unfair hop_task hop_atoms h (is_asked hop_task hop_atoms h.tables) (cost_of hop_task) (hop 0 1) (hop 1 2 ∷ leap ∷ []) hops_kept refl
      (loses_more hop_task hop_atoms h 3 (hop 0 1) (pos 4) refl (at_most 4 3 (omega arith)));
  second_hop_is_unfair = second-unfair;
  left_at_goal = λ fair. at_most 1 0 (omega arith) (fair.within refl);
  hop_leads_out =
      first_is_unfair hop_task hop_atoms never_at_b (is_asked hop_task hop_atoms never_at_b.tables) (cost_of hop_task) (hop 0 1) (hop 1 2 ∷ leap ∷ []) hops_kept refl
      (leads_out hop_task hop_atoms never_at_b 3 (hop 0 1) refl);
  hop_is_shut_out = refl;
  without_row_is_fair = never_at_a-fair;
  without_row = refl;
  with_row = refl;
  token_is_dead_fair = token-dead_fair;
  token_is_dead = refl;
  no_row_meets_goal = refl;
  row_meets_goal = λ fair. at_most 1 0 (omega arith) (fair.within refl);
  fore_costs_one = fore-fair;
  fore_is_dead_unfair =
      let h = here_or_there (pos 1) (pos 0) in
      first_is_unfair token_task token_atoms h (is_asked token_task token_atoms h.tables) nothing fore (back ∷ []) moves_kept refl
      (loses_more token_task token_atoms h 0 fore (pos 1) refl (at_most 1 0 (omega arith)));
  open_is_fair =
      let h = to_c (0 ∷ 1 ∷ []) ((0 ∷ 1 ∷ []) ∷ []) in
      one h (is_fair when_task when_atoms h 1 the_one refl (le_z_yes tt)) (record { within = λ _. le_z_yes tt });
  open_leads_out =
      let h = to_c (0 ∷ 1 ∷ []) [] in
      first_is_unfair when_task when_atoms h (is_asked when_task when_atoms h.tables) (cost_of when_task) the_one [] one_kept refl (leads_out when_task when_atoms h 1 the_one refl);
  contradicted_is_fair =
      let h = to_c (0 ∷ 1 ∷ 2 ∷ []) [] in
      one h (is_fair when_task when_atoms h 1 the_one refl (le_z_yes tt)) (record { within = λ _. le_z_yes tt });
  not_contradicted =
      let h = to_c (0 ∷ 1 ∷ 2 ∷ []) ((2 ∷ []) ∷ []) in
      first_is_unfair when_task when_atoms h (is_asked when_task when_atoms h.tables) (cost_of when_task) the_one [] one_kept refl (leads_out when_task when_atoms h 1 the_one refl);
  back_is_shut_out = refl;
  fore_is_asked = refl;
  unnumbered = ap (λ b. if b then value (only_tables (pos 5) []) (bits_of_state (x ∷ []) (from_list (y ∷ []))) else 0) y-unnumbered;
  all_numbered = ap (λ b. if b then value (only_tables (pos 5) []) (bits_of_state (x ∷ []) (from_list (x ∷ []))) else 0) x-numbered ∙ ap (value (only_tables (pos 5) [])) x-bits ∙ refl;
  hop_by_hop_is_fair = record { values = hop_by_hop-fair; dead_ends = no_dead_ends-fair };
  greatest_at_a = refl;
  each_at_b = refl;
  greatest_at_b = refl;
  no_dead_ends = refl;
}
