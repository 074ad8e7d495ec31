use Rattle.std.proofs.Common.{◌≡◌, ◌∙◌, Bool, true, false, not, refl, ap, sym}
use Rattle.std.specs.Prelude.{◌||◌}
use Rattle.std.specs.Option.{option_map_or}
use Rattle.grounding.specs.Ground.{atoms_in, task_in}
use Rattle.model.specs.ConditionalChanges.{instance_requires_unnumbered}
use Rattle.guides.proofs.asked.is_asked.Goals as goal

or_none : (b : Bool) → (b || false) ≡ b
or_none true = refl
or_none false = refl

pub returns : goal.returns
returns c = λ i at.
    let unnumbered = instance_requires_unnumbered (task_in c.args.ground.now) (atoms_in c.args.ground.now) in
    ap not (c.requires_unnumbered.ensures ∙ ap (λ o. option_map_or unnumbered o false) at ∙ sym (or_none (unnumbered i)))
