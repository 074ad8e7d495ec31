use Rattle.std.proofs.Common.{◌∙◌, sym}
use Rattle.packed_state.specs.Packed.{bits_of}
use Rattle.grounding.specs.Changes.{conditional_of}
use Rattle.explain_goals.proofs.GrownLemmas.{change-grown}
use Rattle.explain_goals.proofs.reached.add_change.Goals as goal

pub returns : goal.returns
returns c =
    change-grown (conditional_of c.args.change.now) (bits_of c.args.set.now) (bits_of c.add.new.set) c.add.result (sym c.may_add.ensures ∙ c.if-not-may_add.false) c.add.ensures
