use Rattle.std.proofs.Common.{◌≡◌, ◌∙◌, ◌≤◌, ℕ, Bool, List, length, sym, ap, subst, arith}
use Rattle.std.specs.Prelude.{count_by}
use Rattle.std.proofs.lemmas.List.Sums.{count_by-le-length}
use Rattle.grounding.specs.Ground.{task_in, atoms_in}
use Rattle.search_spaces.specs.GroundListing.{listed_states}
use Rattle.search_spaces.specs.Reachable.{AreReachable}
use Rattle.search_spaces.specs.SearchSpace.{class_in, ground_in, system_of}
use Rattle.search_spaces.specs.declared.ground_listing.GroundListing.{GroundListing}
use Rattle.search_spaces.proofs.TaskLemmas.{task_costs_at_least, as_many_reachable, classes_reach_alike}
use Rattle.model.specs.Task.{Atom}
use Rattle.model.specs.Grounding.{ground_system}
use Rattle.search.specs.OpenList.{IsLeastSum}
use Rattle.search.specs.Outcome.{is_expanded, lines_of}
use Rattle.solver.specs.Said.{is_expanded_line, IsListing}
use Rattle.solver.proofs.PauseLemmas.{bound_holds, count-open, distinct, found_listing, listed_count, reachable}
use Rattle.solver.proofs.searched.say_progress.Goals as goal

pub returns : goal.returns
returns g c =
    let space = c.args.setting.space in
    let known = ground_in space in
    let task = task_in known in
    let atoms = atoms_in known in
    let numbered = c.requires.space.atoms in
    let sound = c.requires.sound in
    let estimate = sound.value in
    let is_dead = sound.is_dead in
    let t = system_of space in
    let class_of = class_in space in
    let p = c.args.search.now.progress in
    let search = sound.between.0 in
    let admissible = sound.admissible in
    let reports = sound.reports in
    let least = subst (IsLeastSum p.open_list) c.in-Some.is c.bound.ensures in
    let costs = bound_holds t class_of estimate is_dead listed_states p search (classes_reach_alike space c.requires.space) admissible reports sound.between.1 c.in-Some.bound least in
    let count : length (listed_states p.store) ≡ c.len-listed.result = ap (λ (s : GroundListing). length (listed_states s)) (sym c.store.ensures) ∙ sym c.len-listed.ensures in
    let found : AreReachable t c.len-listed.result =
    (listed_states p.store, distinct t class_of estimate is_dead listed_states p search, reachable t class_of estimate is_dead listed_states p search, count) in
    let few : c.expanded_in-expanded.result ≤ c.len-listed.result =
    omega (arith, c.expanded_in-expanded.ensures, count_by-le-length is_expanded c.nodes.result.now, ap length c.nodes.ensures, search.one_each, count) in
    let lines = lines_of estimate is_dead (listed_states p.store) p.nodes.items in
    let listing = found_listing t class_of estimate is_dead listed_states p search (classes_reach_alike space c.requires.space) admissible reports sound.between.1 c.in-Some.bound least in
    let expanded_count : count_by is_expanded_line lines ≡ c.expanded_in-expanded.result =
    count-open estimate is_dead (listed_states p.store) p.nodes.items search.one_each ∙ sym (c.expanded_in-expanded.ensures ∙ ap (count_by is_expanded) c.nodes.ensures) in
    let limits = c.args.setting.limits in
    c.say.ensures.said task limits.seconds limits.states limits.instances (
      task_costs_at_least task atoms numbered c.in-Some.bound costs,
      as_many_reachable task atoms numbered c.len-listed.result found,
      few,
      (
        lines,
        subst (λ (known : List Atom). IsListing (ground_system task known) c.in-Some.bound lines) numbered listing,
        listed_count t class_of estimate is_dead listed_states p search ∙ count,
        expanded_count,
      ),
    )
