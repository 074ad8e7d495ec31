use Rattle.std.proofs.Common.{◌∙◌, ap, map}
use Rattle.std.specs.Option.{option_map}
use Rattle.std.specs.Global.{Vec}
use Rattle.typing.specs.Refusals.{refusal_of}
use Rattle.typing.specs.Walk.{earlier}
use Rattle.typing.specs.Refusals.{TaskRefusal}
use Rattle.typing.proofs.walk.FoundFaults.add.Goals as goal

pub returns : goal.returns
returns c = λ i. record {
  least = (c.keep_least.ensures.least ∙ ap (λ o. earlier (option_map refusal_of o) (refusal_of c.args.fault)) c.list.ensures.least) i;
  listed = (ap (λ (v : Vec TaskRefusal). map refusal_of v.items) c.keep_least.ensures.listed ∙ c.list.ensures.listed) i;
}
