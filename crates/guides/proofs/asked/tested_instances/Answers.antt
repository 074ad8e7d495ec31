use Rattle.std.proofs.Common.{◌≡◌, ◌∙◌, ℕ, ◌<◌, Bool, true, false, [], ◌∷◌, ◌++◌, length, Some, sym, ap, subst, arith}
use Rattle.std.specs.Prelude.{All, slice_get}
use Rattle.std.proofs.lemmas.List.Elements.{All-push}
use Rattle.std.proofs.lemmas.Option.{slice_get_within}
use Rattle.grounding.specs.Ground.{atoms_in, task_in}
use Rattle.model.specs.Task.{Instance}
use Rattle.model.specs.StaticallyFalse.{kept_instances}
use Rattle.lower_bounds.specs.FairTables.{is_asked}
use Rattle.lower_bounds.specs.TableFunctions.{is_among}
use Rattle.guides.proofs.AskedLemmas.{asked-with, asked-without, later-with, later-without}
use Rattle.guides.proofs.asked.tested_instances.Goals as goal
use Rattle.guides.proofs.asked.tested_instances.Goals.{then-is_asked+in_ok-push, else-is_asked}

pub loop-number-preserved : goal.loop-number-preserved
loop-number-preserved c =
    let task = task_in c.args.ground.now in
    let kept = kept_instances task in
    let said : Instance → Bool = is_asked task (atoms_in c.args.ground.now) [] in
    let old = c.loop-number.asked.items in
    let number = c.loop-number.number in
    let within : number < length kept = omega (arith, c.loop-number-test.true, c.instance_count-number-end.ensures) in
    elim c.if-is_asked.branch [
      | then-is_asked+in_ok-push w ↦
          let items : c.if-is_asked.asked.items ≡ old ++ number ∷ [] = ap (λ v. v.items) w.asked-is ∙ w.in_ok-push.ensures.items in
          let is : (i : Instance) → slice_get kept number ≡ Some i → said i ≡ true = λ i at. sym (c.is_asked.ensures i at) ∙ w.if-is_asked.true in
          record {
            kept = subst (All (λ (k : ℕ). k < length kept)) (sym items) (All-push (λ (k : ℕ). k < length kept) old number c.loop-number.invariant.kept within);
            asked = λ k i below at. ap (λ xs. is_among xs k) items ∙ asked-with kept said old number c.loop-number.invariant.asked c.loop-number.invariant.later is k i below at;
            later = λ k past. ap (λ xs. is_among xs k) items ∙ later-with kept said old number c.loop-number.invariant.asked c.loop-number.invariant.later k past;
          }
      | else-is_asked w ↦
          let items : c.if-is_asked.asked.items ≡ old = ap (λ v. v.items) w.asked-is in
          let isnt : (i : Instance) → slice_get kept number ≡ Some i → said i ≡ false = λ i at. sym (c.is_asked.ensures i at) ∙ w.if-is_asked.false in
          record {
            kept = subst (All (λ (k : ℕ). k < length kept)) (sym items) c.loop-number.invariant.kept;
            asked = λ k i below at. ap (λ xs. is_among xs k) items ∙ asked-without kept said old number c.loop-number.invariant.asked c.loop-number.invariant.later isnt k i below at;
            later = λ k past. ap (λ xs. is_among xs k) items ∙ later-without kept said old number c.loop-number.invariant.asked c.loop-number.invariant.later k past;
          }
    ]

pub returns-clause-asked : goal.returns-clause-asked
returns-clause-asked c = λ number i at.
    let within = slice_get_within (kept_instances (task_in c.args.ground.now)) number i at in
    c.loop-number.invariant.asked number i (omega (arith, within, c.loop-number-test.false, c.instance_count-number-end.ensures)) at
