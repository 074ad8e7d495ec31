use Rattle.std.proofs.Common.{rules, ◌≡◌, ◌∙◌, true, false, length, map, sym, ap, subst}
use Rattle.std.specs.List.{list_all}
use Rattle.std.proofs.lemmas.List.{length-map}
use Rattle.grounding.specs.Ground.{atoms_in}
use Rattle.symmetries_definitions.specs.Orbits.{keeps_atoms}
use Rattle.model.proofs.Tests.{passes_not, passes_whole, passes_map}
use Rattle.symmetries.specs.declared.exchange.Exchange.{Exchange}
use Rattle.symmetries.specs.Exchange.{exchange_of}
use Rattle.symmetries.specs.NumberPairs.{swap_in, swaps_in}
use Rattle.symmetries.specs.Runs.{swap_in_runs, swaps_in_runs}
use Rattle.symmetries.specs.Apart.{AreAllWithin}
use Rattle.symmetries.specs.Lowest.{AreAllNeighbours}
use Rattle.symmetries.proofs.Kept.{made_whole, made_within}
use Rattle.symmetries.proofs.representatives.Representatives.new.Goals as goal

pub returns-in-None-clause-kept : goal.returns-in-None-clause-kept
returns-in-None-clause-kept c =
    let atoms = atoms_in c.args.ground.now in
    let e = c.exchange-item.result in
    let fails : false ≡ keeps_atoms atoms (exchange_of e) = search rules in
    passes_not (λ (x : Exchange). keeps_atoms atoms (exchange_of x)) c.args.exchanges.now c.loop-exchange.exchange-index e c.loop-exchange-test.true c.exchange-item.is (sym fails)
    ∙ sym (passes_map (keeps_atoms atoms) exchange_of c.args.exchanges.now)

pub neighbours-requires : goal.neighbours-requires
neighbours-requires c =
    let g = c.args.ground.now in
    let exchanges = c.args.exchanges.now in
    let kept : list_all (keeps_atoms (atoms_in g)) (map exchange_of exchanges) ≡ true =
    passes_map (keeps_atoms (atoms_in g)) exchange_of exchanges
    ∙ sym (passes_whole (λ (x : Exchange). keeps_atoms (atoms_in g) (exchange_of x)) exchanges c.loop-exchange.exchange-index c.loop-exchange-test.false c.loop-exchange.invariant.kept) in
    let made = made_whole (atoms_in g) exchanges c.loop-exchange.exchange-index c.loop-exchange.swaps.items c.loop-exchange-test.false c.loop-exchange.invariant.made in
    subst (λ width. AreAllWithin width (swaps_in c.as_slice.result.now)) (sym c.width.ensures)
    (subst (λ l. AreAllWithin (length (atoms_in g)) (swaps_in l)) (sym c.as_slice.ensures.value) (made_within g exchanges c.loop-exchange.swaps.items made kept))

pub invariant_of-result : goal.invariant_of-result
invariant_of-result c =
    let atoms = atoms_in c.args.ground.now in
    let exchanges = c.args.exchanges.now in
    let swaps = c.loop-exchange.swaps.items in
    let runs = c.in_ok-runs.runs.items in
    let found = c.in_ok-neighbours.neighbours.items in
    let same : swaps_in_runs runs ≡ swaps_in swaps = c.in_ok-runs.ensures ∙ ap swaps_in c.as_slice-2.ensures.value in
    record {
      kept =
          passes_map (keeps_atoms atoms) exchange_of exchanges
          ∙ sym (passes_whole (λ (x : Exchange). keeps_atoms atoms (exchange_of x)) exchanges c.loop-exchange.exchange-index c.loop-exchange-test.false c.loop-exchange.invariant.kept);
      made = same ∙ made_whole atoms exchanges c.loop-exchange.exchange-index swaps c.loop-exchange-test.false c.loop-exchange.invariant.made;
      apart =
          subst (λ l. AreAllNeighbours l found) (sym same)
          (subst (λ l. AreAllNeighbours (swaps_in l) found) c.as_slice.ensures.value c.in_ok-neighbours.ensures.all);
      each =
          c.in_ok-neighbours.ensures.each ∙ ap length c.as_slice.ensures.value
          ∙ sym (length-map swaps swap_in) ∙ ap length (sym same) ∙ length-map runs swap_in_runs;
    }
