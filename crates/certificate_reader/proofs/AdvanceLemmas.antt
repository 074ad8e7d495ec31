-- What is reported for the next line of a text is reported by its reader.
use Rattle.std.proofs.Common.{◌≡◌, ◌≢◌, ℕ, List, ◌++◌, Option, refl, sym, ◌∙◌, subst}
use Rattle.std.specs.Prelude.{Err}
use Rattle.certificate_definitions.specs.CertificateText.{TextLine}
use Rattle.certificate_definitions.specs.CertificateMachine.{ended}
use Rattle.certificate_reader.specs.declared.reader.CertReader.{CertReader}
use Rattle.certificate_reader.specs.declared.fault.NextFault.{NextFault}
use Rattle.certificate_reader.specs.declared.fault.NextFault.TheVariants as next
use Rattle.certificate_reader.specs.declared.fault.TextFault.TheVariants.{Form, Version, Truncated, Limit}
use Rattle.certificate_reader.specs.declared.stage.Stage.{Stage}
use Rattle.certificate_reader.specs.declared.stage.Stage.TheVariants as stage
use Rattle.certificate_reader.specs.Stages.{place_of}
use Rattle.certificate_reader.specs.Next.{IsNext}
use Rattle.certificate_reader.specs.Reader.{HasRead, IsAdvance, source_of, waits_in}
use Rattle.certificate_reader.proofs.ReaderLemmas.{come_unless_ended, prompt_unless_ended}

not_ended : (at : Stage) → at ≢ stage.Ended → place_of at ≢ ended
not_ended stage.Version may_continue same = absurd (cc same)
not_ended (stage.Claim v) may_continue same = absurd (cc same)
not_ended (stage.Constants v) may_continue same = absurd (cc same)
not_ended (stage.Body b) may_continue same = absurd (cc same)
not_ended stage.Ended may_continue same = absurd (may_continue refl)

module _ {R : Type 0} (remaining : R → Option (List ℕ)) (old new : CertReader R) (stays : new.position ≡ old.position) (may_continue : old.position.stage ≢ stage.Ended) (before : List TextLine) (read : HasRead old before) where
  pub fault_stated : (fault : NextFault) → IsNext (place_of old.position.stage) (waits_in old) (waits_in new) (remaining (source_of old)) (remaining (source_of new)) (Err fault)
      → IsAdvance remaining old new before (Err fault)
  fault_stated (next.Text Truncated) (bytes, consumed, at_end, faulty) = (bytes, consumed, at_end, faulty before read.place (not_ended old.position.stage may_continue))
  fault_stated (next.Text Form) (bytes, consumed, faulty, prompt) = (bytes, consumed, faulty before read.place, prompt_unless_ended old.position.stage may_continue (waits_in old) bytes prompt)
  fault_stated (next.Text Version) (bytes, consumed, faulty, prompt) = (bytes, consumed, faulty before read.place, prompt_unless_ended old.position.stage may_continue (waits_in old) bytes prompt)
  fault_stated (next.Text Limit) (bytes, consumed, faulty, prompt) = (bytes, consumed, faulty before read.place, prompt_unless_ended old.position.stage may_continue (waits_in old) bytes prompt)
  fault_stated next.Device unready = record {
    bytes = unready.grown.bytes;
    consumed = unready.grown.consumed;
    waits = unready.grown.appended;
    nothing = come_unless_ended new.position.stage (waits_in new) (subst (λ at. at.stage ≢ stage.Ended) (sym stays) may_continue) ∙ unready.unready;
  }
  fault_stated next.NoMemory reported = tt
