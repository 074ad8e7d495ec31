use Rattle.std.proofs.Common.{◌≡◌, ◌∙◌, ◌+◌, [], ◌∷◌, ◌++◌, true, length, sym, ap, subst, arith}
use Rattle.std.proofs.lemmas.List.{length_push}
use Rattle.symmetries.specs.NumberPairs.{swaps_in, AreBelow}
use Rattle.symmetries.specs.Apart.{is_in, pairs_at}
use Rattle.symmetries.specs.Lowest.{may_move_at, AreNoted, AreLowest, AreAllNeighbours}
use Rattle.symmetries.proofs.ApartLemmas.{these_pairs, these_below}
use Rattle.symmetries.proofs.NeighbourLemmas.{written_back, are_neighbours, neighbours_more, noted_more}
use Rattle.symmetries.proofs.neighbours.neighbours.Goals as goal

pub neighbours_of-lowest-requires : goal.neighbours_of-lowest-requires
neighbours_of-lowest-requires c =
    subst (λ width. AreBelow width c.as_slice.result.now) (sym (ap length c.deref.ensures.value ∙ c.loop-number.invariant.wide))
    (these_below c.args.swaps.now c.loop-number.number c.index-swaps-number.result c.as_slice.result.now c.loop-number-test.true c.index-swaps-number.is c.as_slice.ensures.value
    c.args.width c.requires)

pub note-requires : goal.note-requires
note-requires c =
    subst (λ width. AreBelow width c.as_slice-in-loop-number.result.now) (sym (ap length c.deref_mut.ensures.value ∙ c.loop-number.invariant.wide))
    (these_below c.args.swaps.now c.loop-number.number c.index-swaps-number-in-loop-number.result c.as_slice-in-loop-number.result.now c.loop-number-test.true
    c.index-swaps-number-in-loop-number.is c.as_slice-in-loop-number.ensures.value c.args.width c.requires)

pub loop-number-preserved : goal.loop-number-preserved
loop-number-preserved c =
    let swaps = swaps_in c.args.swaps.now in
    let number = c.loop-number.number in
    let old = c.loop-number.noted.items in
    let new = c.note.new.noted in
    let lowest = c.neighbours_of-lowest.result in
    let started : c.deref_mut.result.now ≡ old = c.deref_mut.ensures.value in
    let read : c.deref.result.now ≡ old = c.deref.ensures.value in
    let long : length new ≡ length old = c.note.ensures.wide ∙ ap length started in
    let kept = written_back c.loop-number.noted.len old new (long ∙ sym (omega (arith, c.loop-number.noted.ok.0))) in
    let pushed : c.push.new.self.items ≡ c.loop-number.all.items ++ lowest ∷ [] = c.in_ok-push.ensures.items in
    let here = these_pairs c.args.swaps.now number c.index-swaps-number.result c.as_slice.result.now c.loop-number-test.true c.index-swaps-number.is c.as_slice.ensures.value in
    let there = these_pairs c.args.swaps.now number c.index-swaps-number-in-loop-number.result c.as_slice-in-loop-number.result.now c.loop-number-test.true
    c.index-swaps-number-in-loop-number.is c.as_slice-in-loop-number.ensures.value in
    let found : AreLowest old (pairs_at swaps number) number lowest.numbers.items lowest.from =
    subst (λ l. AreLowest l (pairs_at swaps number) number lowest.numbers.items lowest.from) read
    (subst (λ l. AreLowest c.deref.result.now l number lowest.numbers.items lowest.from) (sym here) c.neighbours_of-lowest.ensures) in
    record {
      wide = ap length kept ∙ long ∙ c.loop-number.invariant.wide;
      noted =
          subst (AreNoted swaps (number + 1)) (sym kept)
          (noted_more swaps old new number c.loop-number.invariant.noted (λ atom n. subst (λ l. may_move_at l atom n ≡ true → may_move_at new atom n ≡ true) started (c.note.ensures.kept atom n))
          (λ atom at. c.note.ensures.noted atom (ap (λ l. is_in l atom) (sym there) ∙ at)));
      all =
          subst (AreAllNeighbours swaps) (sym pushed)
          (neighbours_more swaps c.loop-number.all.items number lowest c.loop-number.invariant.each c.loop-number.invariant.all
          (are_neighbours swaps old number lowest c.loop-number.invariant.noted found));
      each = ap length pushed ∙ length_push c.loop-number.all.items lowest ∙ ap (λ n. n + 1) c.loop-number.invariant.each;
    }
