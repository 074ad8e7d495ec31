use Rattle.std.proofs.Common.{◌∙◌, map, ap, sym}
use Rattle.std.proofs.lemmas.List.{take_all}
use Rattle.certificate_definitions.specs.CertificateText.{differ}
use Rattle.certificate_reader.specs.Lines.{name_of}
use Rattle.certificate_reader.proofs.ExchangedRead.{new_name, known_name}
use Rattle.certificate_reader.proofs.exchanged.differ.Goals as goal

pub loop-name-preserved : goal.loop-name-preserved
loop-name-preserved c =
    let next = new_name c.args.names.now c.loop-name.name-index c.name-item.result c.loop-name-test.true c.name-item.is c.loop-name.seen.keys c.loop-name.invariant.seen
    c.in_ok-name.name (c.in_ok-name.ensures ∙ c.deref.ensures.value) c.insert.new.self.keys c.in_ok-is_new.ensures.keys (sym c.in_ok-is_new.ensures.added ∙ c.if-not-is_new.false) c.loop-name.invariant.different in
    record { seen = next.0; different = next.1 }

pub returns-then-not-is_new : goal.returns-then-not-is_new
returns-then-not-is_new c =
    known_name c.args.names.now c.loop-name.name-index c.name-item.result c.loop-name-test.true c.name-item.is c.loop-name.seen.keys c.loop-name.invariant.seen
    c.in_ok-name.name (c.in_ok-name.ensures ∙ c.deref.ensures.value) (sym c.in_ok-is_new.ensures.added ∙ c.if-not-is_new.true)

pub returns : goal.returns
returns c =
    sym (ap (λ l. differ (map name_of l)) (sym (take_all c.loop-name.name-index c.args.names.now c.loop-name-test.false)) ∙ c.loop-name.invariant.different)
