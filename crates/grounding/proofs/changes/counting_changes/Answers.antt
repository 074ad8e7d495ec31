use Rattle.std.proofs.Common.{◌≡◌, ◌∙◌, ◌++◌, ◌∷◌, [], List, None, Some, ap, map, sym}
use Rattle.std.specs.Prelude.{slice_get}
use Rattle.std.proofs.lemmas.List.{map_push, take_all}
use Rattle.grounding_instances.specs.Numbering.{task_in, atoms_in}
use Rattle.grounding_instances.specs.KeptChanges.{effect_of}
use Rattle.grounding_instances.proofs.KeptLemmas.{mapped-more}
use Rattle.grounding.specs.declared.changes.CountingChange.{CountingChange}
use Rattle.grounding.specs.Changes.{effect_in}
use Rattle.grounding.proofs.GroundLemmas.{got-mapped, compiled-more}
use Rattle.grounding.proofs.changes.counting_changes.Goals as goal

pub loop-change-init : goal.loop-change-init
loop-change-init c = record {
  effects = ap (map effect_in) c.in_ok-found.ensures.items;
  compiled = λ k d at.
      let nowhere : slice_get {X = CountingChange} [] k ≡ Some d = ap (λ (l : List CountingChange). slice_get l k) (sym c.in_ok-found.ensures.items) ∙ at in
      let never : None ≡ Some d = nowhere in
      absurd (cc);
}

pub counting_change-requires : goal.counting_change-requires
counting_change-requires c =
    c.requires c.loop-change.change-index (effect_of c.change-item.result)
    (got-mapped effect_of c.args.changes.now c.loop-change.change-index c.change-item.result c.loop-change-test.true c.change-item.is)

pub loop-change-preserved : goal.loop-change-preserved
loop-change-preserved c =
    let n = c.args.numbering.now in
    let last = c.in_ok-counting_change.field-0 in
    record {
      effects = ap (map effect_in) c.in_ok-push.ensures.items ∙ map_push effect_in c.loop-change.found.items last
          ∙ (λ j. c.loop-change.invariant.effects j ++ c.in_ok-counting_change.ensures.effect j ∷ [])
          ∙ mapped-more effect_of c.args.changes.now c.loop-change.change-index c.change-item.result c.loop-change-test.true c.change-item.is;
      compiled = compiled-more (task_in n) (atoms_in n) c.loop-change.found.items c.push.new.self.items last c.in_ok-push.ensures.items c.loop-change.invariant.compiled c.in_ok-counting_change.ensures.compiled;
    }

pub returns-clause-effects : goal.returns-clause-effects
returns-clause-effects c = c.loop-change.invariant.effects ∙ ap (map effect_of) (take_all c.loop-change.change-index c.args.changes.now c.loop-change-test.false)
