use Rattle.std.proofs.Common.{◌≡◌, ◌∙◌, ◌≤◌, ◌+◌, [], ap, map, get_or, length, take, drop, sym, subst, arith}
use Rattle.std.specs.Prelude.{slice_get}
use Rattle.std.proofs.lemmas.List.{length-map, drop-drop}
use Rattle.grounding_instances.specs.Numbering.{task_in, atoms_in, instances_in}
use Rattle.grounding_instances.specs.KeptChanges.{effect_of}
use Rattle.model.specs.Task.{Instance}
use Rattle.grounding.specs.Changes.{AreChangesOf}
use Rattle.grounding.specs.NumberedEffects.{effects_of_instance}
use Rattle.grounding.proofs.KeptRows.{one, one-at, enough, first-is, rest-is}
use Rattle.grounding.proofs.ChangeLemmas.{effect-fits}
use Rattle.grounding.proofs.InPlaceLemmas.{so_far-none, so_far-more, so_far-end}
use Rattle.grounding.proofs.StepLemmas.{kept-is_instance}
use Rattle.grounding.proofs.parts.changes_of_all.Goals as goal

pub loop-count-init : goal.loop-count-init
loop-count-init c =
    let n = c.args.numbering.now in
    record {
      within = omega arith;
      left = ap (map effect_of) c.as_slice-all.ensures.value ∙ c.requires.effects [];
      found = so_far-none (AreChangesOf (task_in n) (atoms_in n)) (instances_in n) c.new-found.result.items c.new-found.ensures.items;
    }

pub split_at-requires-in-loop-count : goal.split_at-requires-in-loop-count
split_at-requires-in-loop-count c =
    let n = c.args.numbering.now in
    let k = c.loop-count.count-index in
    let counts = c.as_slice-counts.result.now in
    subst (λ l. get_or counts k 0 ≤ length l) (sym c.split_at.ensures.back)
    (enough (task_in n) (atoms_in n) (instances_in n) counts (c.as_slice-counts.ensures.value ∙ c.requires.counts []) k c.loop-count-test.true (drop c.loop-count.begin c.as_slice-all.result.now) c.loop-count.invariant.left)

pub counting_changes-requires : goal.counting_changes-requires
counting_changes-requires c j e at =
    let n = c.args.numbering.now in
    let t = task_in n in
    let k = c.loop-count.count-index in
    let counts = c.as_slice-counts.result.now in
    let are = c.as_slice-counts.ensures.value ∙ c.requires.counts [] in
    let left = drop c.loop-count.begin c.as_slice-all.result.now in
    let i = one t (atoms_in n) (instances_in n) counts are k c.loop-count-test.true left c.loop-count.invariant.left in
    let there = one-at t (atoms_in n) (instances_in n) counts are k c.loop-count-test.true left c.loop-count.invariant.left in
    let is : map effect_of c.split_at-in-loop-count.result.0.now ≡ effects_of_instance t (atoms_in n) i =
    ap (map effect_of) (c.split_at-in-loop-count.ensures.front ∙ ap (take (get_or counts k 0)) c.split_at.ensures.back)
    ∙ first-is t (atoms_in n) (instances_in n) counts are k c.loop-count-test.true left c.loop-count.invariant.left in
    effect-fits t (atoms_in n) i j e (ap (λ l. slice_get l j) (sym is) ∙ at) n.statics.task.now.well_typed
    (kept-is_instance t k i (ap (λ l. slice_get l k) (sym n.kept) ∙ there))

pub loop-count-preserved : goal.loop-count-preserved
loop-count-preserved c =
    let n = c.args.numbering.now in
    let t = task_in n in
    let k = c.loop-count.count-index in
    let counts = c.as_slice-counts.result.now in
    let are = c.as_slice-counts.ensures.value ∙ c.requires.counts [] in
    let begin = c.loop-count.begin in
    let all = c.as_slice-all.result.now in
    let i = one t (atoms_in n) (instances_in n) counts are k c.loop-count-test.true (drop begin all) c.loop-count.invariant.left in
    let there = one-at t (atoms_in n) (instances_in n) counts are k c.loop-count-test.true (drop begin all) c.loop-count.invariant.left in
    let is : map effect_of c.split_at-in-loop-count.result.0.now ≡ effects_of_instance t (atoms_in n) i =
    ap (map effect_of) (c.split_at-in-loop-count.ensures.front ∙ ap (take (get_or counts k 0)) c.split_at.ensures.back)
    ∙ first-is t (atoms_in n) (instances_in n) counts are k c.loop-count-test.true (drop begin all) c.loop-count.invariant.left in
    record {
      within = omega (arith, c.split_at.ensures.back_len, c.split_at-in-loop-count.ensures.back_len, c.split_at-in-loop-count.ensures.front_len, c.loop-count.invariant.within);
      left = ap (map effect_of) (sym (drop-drop (get_or counts k 0) begin all))
          ∙ rest-is t (atoms_in n) (instances_in n) counts are k c.loop-count-test.true (drop begin all) c.loop-count.invariant.left;
      found = so_far-more (AreChangesOf t (atoms_in n)) (instances_in n) c.loop-count.found.items c.push.new.self.items k i c.in_ok-counting_changes.field-0 there
          c.in_ok-push.ensures.items (record { effects = c.in_ok-counting_changes.ensures.effects ∙ is; compiled = c.in_ok-counting_changes.ensures.compiled }) c.loop-count.invariant.found;
    }

pub returns : goal.returns
returns c =
    let n = c.args.numbering.now in
    let as_many : length c.as_slice-counts.result.now ≡ length (instances_in n) =
    ap length (c.as_slice-counts.ensures.value ∙ c.requires.counts []) ∙ length-map (instances_in n) (λ (i : Instance). length (effects_of_instance (task_in n) (atoms_in n) i)) in
    so_far-end (AreChangesOf (task_in n) (atoms_in n)) (instances_in n) c.loop-count.found.items c.loop-count.count-index
    (omega (arith, c.loop-count-test.false, as_many)) (omega (arith, c.loop-count.auto.count-index-end, as_many)) c.loop-count.invariant.found
