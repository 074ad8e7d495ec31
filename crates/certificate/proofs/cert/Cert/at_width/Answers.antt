use Rattle.std.proofs.Common.{length, refl, sym, ap, ◌∙◌, subst}
use Rattle.std.specs.Prelude.{IsTrue}
use Rattle.std.proofs.lemmas.List.{length-map}
use Rattle.certificate_definitions.specs.Certificates.{keeps_limits}
use Rattle.packed_state.specs.Sets.{at_width}
use Rattle.packed_state.specs.PooledView.{pooled_states}
use Rattle.certificate.proofs.NumbersLemmas.{all_below, same_certificate}
use Rattle.certificate.proofs.cert.Cert.at_width.Goals as goal

pub widened-requires : goal.widened-requires
widened-requires c = record { within = all_below c.args.self c.args.width c.requires }

pub from_parts-requires-clause-limits : goal.from_parts-requires-clause-limits
from_parts-requires-clause-limits c =
    subst (λ k. IsTrue (keeps_limits k)) (sym (same_certificate c.args.self c.args.width c.requires (record { marks = c.args.self.states.marks; sets = c.in_ok-sets.sets }) refl c.in_ok-sets.ensures.sets)) c.args.self.within_limits

pub from_parts-requires-clause-marked : goal.from_parts-requires-clause-marked
from_parts-requires-clause-marked c =
    c.args.self.marked ∙ sym (length-map (pooled_states c.args.self.states.sets) (at_width c.args.width)) ∙ ap length (sym c.in_ok-sets.ensures.sets)

pub returns-clause-same : goal.returns-clause-same
returns-clause-same c = c.from_parts.ensures.certificate ∙ same_certificate c.args.self c.args.width c.requires (record { marks = c.args.self.states.marks; sets = c.in_ok-sets.sets }) refl c.in_ok-sets.ensures.sets
