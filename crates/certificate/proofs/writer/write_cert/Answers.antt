use Rattle.std.proofs.Common.{◌≡◌, ℕ, ◌∙◌, ◌++◌, List, [], ap, map, subst}
use Rattle.std.specs.Io.KnownBytes.{Appends}
use Rattle.std.specs.List.{flat_map}
use Rattle.std.specs.Prelude.{OnOk}
use Rattle.task.specs.Task.{task_of}
use Rattle.devices.specs.Devices.{AppendsBeginning}
use Rattle.certificate_definitions.specs.CertificateText.{last, whole_line}
use Rattle.certificate_definitions.specs.Certificates.{several_of}
use Rattle.certificate_definitions.specs.CertificateNames.{certificate_text}
use Rattle.landmark_zones.specs.Landmarks.{landmarks_of}
use Rattle.certificate.specs.CertificateParts.{exchange_in}
use Rattle.certificate.specs.Evidence.{constants_in, evidence_of, parts_text}
use Rattle.certificate.specs.Gathering.{IsPassedOn, swap_line}
use Rattle.certificate.proofs.WholeText.{head, head_of, exchanges_text, atoms_text, states_text, last_text, to_exchanges, to_atoms, to_parts, to_states, by_exchanges, by_atoms, by_parts, by_states, head_held, part_held, part_begun, last_begun, last_held, all_begun, all_where_ok}
use Rattle.certificate.specs.Certificate.{certificate_of}
use Rattle.certificate.proofs.writer.write_cert.Goals as goal
use Rattle.certificate.proofs.writer.write_cert.Goals.{After-write_exchanges, In_ok-add_head, In_ok-write_exchanges, In_ok-write_atoms, After-write_parts, In_ok-write_parts, In_ok-write_states, In_ok-add_last}
use Rattle.certificate.proofs.writer.write_cert.Given.{Over}

-- what is written out or buffered after the first lines, the exchanges, the atoms, the parts, the states and the last line
first : (g : Over) (c : In_ok-add_head g) → IsPassedOn (g.W.Sink.taken c.args.out.now) (g.W.Sink.taken c.args.out.now) [] c.add_head.new.text.items
    (head_of (certificate_of c.args.cert.now))
first g c =
    head_held (g.W.Sink.taken c.args.out.now) c.new-held.result.items _ (head_of (certificate_of c.args.cert.now)) c.new-held.ensures.items
    (c.in_ok-add_head.ensures ∙ (λ i. c.new-held.result.items ++ head (c.version.ensures i) (c.claim.ensures i) (constants_in (c.version.ensures i) (c.evidence.ensures.evidence i))))

-- the written exchanges are the certificate's
exchanges_are : (g : Over) (c : After-write_exchanges g)
    → flat_map (swap_line (task_of c.args.task.now)) (map exchange_in c.exchanges.result.now) ≡ exchanges_text (task_of c.args.task.now) (certificate_of c.args.cert.now)
exchanges_are g c = ap (flat_map (swap_line (task_of c.args.task.now))) c.exchanges.ensures.exchanges

exchanged : (g : Over) (c : In_ok-write_exchanges g)
    → flat_map (swap_line (task_of c.args.task.now)) (map exchange_in c.exchanges.result.now) ≡ exchanges_text (task_of c.args.task.now) (certificate_of c.args.cert.now)
    → IsPassedOn (g.W.Sink.taken c.args.out.now) (g.W.Sink.taken c.args.out.now) [] c.add_head.new.text.items
    (head_of (certificate_of c.args.cert.now))
    → IsPassedOn (g.W.Sink.taken c.args.out.now) (g.W.Sink.taken c.write_exchanges.new.out) [] c.write_exchanges.new.held.items
    (to_exchanges (task_of c.args.task.now) (certificate_of c.args.cert.now))
exchanged g c are first =
    part_held _ _ _ (head_of (certificate_of c.args.cert.now)) first (g.W.Sink.taken c.write_exchanges.new.out) _ (exchanges_text (task_of c.args.task.now) (certificate_of c.args.cert.now))
    (subst (IsPassedOn _ _ _ _) are c.in_ok-write_exchanges.ensures.text)

second : (g : Over) (c : In_ok-write_atoms g) → IsPassedOn (g.W.Sink.taken c.args.out.now) (g.W.Sink.taken c.write_exchanges.new.out) [] c.write_exchanges.new.held.items
    (to_exchanges (task_of c.args.task.now) (certificate_of c.args.cert.now))
    → IsPassedOn (g.W.Sink.taken c.args.out.now) (g.W.Sink.taken c.write_atoms.new.out) [] c.write_atoms.new.held.items
    (to_atoms (task_of c.args.task.now) (certificate_of c.args.cert.now))
second g c first =
    part_held _ _ _ (to_exchanges (task_of c.args.task.now) (certificate_of c.args.cert.now)) first (g.W.Sink.taken c.write_atoms.new.out) _ (atoms_text (task_of c.args.task.now) (certificate_of c.args.cert.now)) c.in_ok-write_atoms.ensures.text

-- the written parts are the certificate's
parts_are : (g : Over) (c : After-write_parts g) → parts_text (evidence_of c.evidence-2.result.now) (landmarks_of c.evidence-2.result.now.landmarks) ≡ parts_text (several_of (certificate_of c.args.cert.now)) (certificate_of c.args.cert.now).landmarks
parts_are g c = λ i. parts_text (c.evidence-2.ensures.evidence i) (c.evidence-2.ensures.landmarks i)

third : (g : Over) (c : In_ok-write_parts g) → parts_text (evidence_of c.evidence-2.result.now) (landmarks_of c.evidence-2.result.now.landmarks) ≡ parts_text (several_of (certificate_of c.args.cert.now)) (certificate_of c.args.cert.now).landmarks
    → IsPassedOn (g.W.Sink.taken c.args.out.now) (g.W.Sink.taken c.write_atoms.new.out) [] c.write_atoms.new.held.items
    (to_atoms (task_of c.args.task.now) (certificate_of c.args.cert.now))
    → IsPassedOn (g.W.Sink.taken c.args.out.now) (g.W.Sink.taken c.write_parts.new.out) [] c.write_parts.new.held.items
    (to_parts (task_of c.args.task.now) (certificate_of c.args.cert.now))
third g c are second =
    part_held _ _ _ (to_atoms (task_of c.args.task.now) (certificate_of c.args.cert.now)) second (g.W.Sink.taken c.write_parts.new.out) _ (parts_text (several_of (certificate_of c.args.cert.now)) (certificate_of c.args.cert.now).landmarks)
    (subst (IsPassedOn _ _ _ _) are c.in_ok-write_parts.ensures.text)

fourth : (g : Over) (c : In_ok-write_states g) → IsPassedOn (g.W.Sink.taken c.args.out.now) (g.W.Sink.taken c.write_parts.new.out) [] c.write_parts.new.held.items
    (to_parts (task_of c.args.task.now) (certificate_of c.args.cert.now))
    → IsPassedOn (g.W.Sink.taken c.args.out.now) (g.W.Sink.taken c.write_states.new.out) [] c.write_states.new.held.items
    (to_states (task_of c.args.task.now) (certificate_of c.args.cert.now))
fourth g c third =
    part_held _ _ _ (to_parts (task_of c.args.task.now) (certificate_of c.args.cert.now)) third (g.W.Sink.taken c.write_states.new.out) _ (states_text (certificate_of c.args.cert.now)) c.in_ok-write_states.ensures.text

whole : (g : Over) (c : In_ok-add_last g) → IsPassedOn (g.W.Sink.taken c.args.out.now) (g.W.Sink.taken c.write_states.new.out) [] c.write_states.new.held.items
    (to_states (task_of c.args.task.now) (certificate_of c.args.cert.now))
    → IsPassedOn (g.W.Sink.taken c.args.out.now) (g.W.Sink.taken c.write_states.new.out) [] c.add_last.new.text.items
    (certificate_text (task_of c.args.task.now) (certificate_of c.args.cert.now))
whole g c fourth =
    let task = task_of c.args.task.now in
    let cert = certificate_of c.args.cert.now in
    last_held _ _ _ (to_states task cert) fourth _ (certificate_text task cert) (last_text cert) (by_states task cert)
    (◌∙◌ {A = List ℕ} c.in_ok-add_last.ensures (ap (λ n. c.write_states.new.held.items ++ whole_line (last n)) c.line_count.ensures))

pub returns-in_err-write_exchanges-clause-beginning : goal.returns-in_err-write_exchanges-clause-beginning
returns-in_err-write_exchanges-clause-beginning g c =
    let task = task_of c.args.task.now in
    let cert = certificate_of c.args.cert.now in
    let at = goal.at.returns-in_err-write_exchanges-clause-beginning g c in
    part_begun _ _ _ (head_of cert) (first g at.In_ok-add_head) _ (certificate_text task cert) (exchanges_text task cert) _ (by_exchanges task cert)
    (subst (λ text. AppendsBeginning (g.W.Sink.taken c.args.out.now) (g.W.Sink.taken c.write_exchanges.new.out) (c.add_head.new.text.items ++ text)) (exchanges_are g at.After-write_exchanges) c.write_exchanges.ensures.beginning)

pub returns-in_err-write_atoms-clause-beginning : goal.returns-in_err-write_atoms-clause-beginning
returns-in_err-write_atoms-clause-beginning g c =
    let task = task_of c.args.task.now in
    let cert = certificate_of c.args.cert.now in
    let at = goal.at.returns-in_err-write_atoms-clause-beginning g c in
    part_begun _ _ _ (to_exchanges task cert) (exchanged g at.In_ok-write_exchanges (exchanges_are g at.After-write_exchanges) (first g at.In_ok-add_head)) _ (certificate_text task cert) (atoms_text task cert) _ (by_atoms task cert)
    c.write_atoms.ensures.beginning

pub returns-in_err-write_parts-clause-beginning : goal.returns-in_err-write_parts-clause-beginning
returns-in_err-write_parts-clause-beginning g c =
    let task = task_of c.args.task.now in
    let cert = certificate_of c.args.cert.now in
    let at = goal.at.returns-in_err-write_parts-clause-beginning g c in
    part_begun _ _ _ (to_atoms task cert) (second g at.In_ok-write_atoms (exchanged g at.In_ok-write_exchanges (exchanges_are g at.After-write_exchanges) (first g at.In_ok-add_head))) _ (certificate_text task cert) (parts_text (several_of cert) cert.landmarks) _ (by_parts task cert)
    (subst (λ text. AppendsBeginning (g.W.Sink.taken c.write_atoms.new.out) (g.W.Sink.taken c.write_parts.new.out) (c.write_atoms.new.held.items ++ text)) (parts_are g at.After-write_parts) c.write_parts.ensures.beginning)

pub returns-in_err-write_states-clause-beginning : goal.returns-in_err-write_states-clause-beginning
returns-in_err-write_states-clause-beginning g c =
    let task = task_of c.args.task.now in
    let cert = certificate_of c.args.cert.now in
    let at = goal.at.returns-in_err-write_states-clause-beginning g c in
    part_begun _ _ _ (to_parts task cert) (third g at.In_ok-write_parts (parts_are g at.After-write_parts) (second g at.In_ok-write_atoms (exchanged g at.In_ok-write_exchanges (exchanges_are g at.After-write_exchanges) (first g at.In_ok-add_head)))) _ (certificate_text task cert) (states_text cert) _ (by_states task cert)
    c.write_states.ensures.beginning

pub returns-in_err-add_last-clause-beginning : goal.returns-in_err-add_last-clause-beginning
returns-in_err-add_last-clause-beginning g c =
    let task = task_of c.args.task.now in
    let cert = certificate_of c.args.cert.now in
    let at = goal.at.returns-in_err-add_last-clause-beginning g c in
    last_begun _ _ _ (to_states task cert)
    (fourth g at.In_ok-write_states (third g at.In_ok-write_parts (parts_are g at.After-write_parts) (second g at.In_ok-write_atoms (exchanged g at.In_ok-write_exchanges (exchanges_are g at.After-write_exchanges) (first g at.In_ok-add_head)))))
    (certificate_text task cert) (last_text cert) (by_states task cert)

pub returns-clause-text : goal.returns-clause-text
returns-clause-text g c =
    let at = goal.at.returns-clause-text g c in
    all_where_ok _ _ _ (certificate_text (task_of c.args.task.now) (certificate_of c.args.cert.now))
    (whole g at.In_ok-add_last (fourth g at.In_ok-write_states (third g at.In_ok-write_parts (parts_are g at.After-write_parts) (second g at.In_ok-write_atoms (exchanged g at.In_ok-write_exchanges (exchanges_are g at.After-write_exchanges) (first g at.In_ok-add_head))))))
    _ c.write_all.result
    (subst (λ bytes. OnOk c.write_all.result (Appends (g.W.Sink.taken c.write_states.new.out) (g.W.Sink.taken c.write_all.new.sink) bytes)) c.as_slice.ensures.value c.write_all.ensures.ok)

pub returns-clause-beginning : goal.returns-clause-beginning
returns-clause-beginning g c =
    let at = goal.at.returns-clause-beginning g c in
    all_begun _ _ _ (certificate_text (task_of c.args.task.now) (certificate_of c.args.cert.now))
    (whole g at.In_ok-add_last (fourth g at.In_ok-write_states (third g at.In_ok-write_parts (parts_are g at.After-write_parts) (second g at.In_ok-write_atoms (exchanged g at.In_ok-write_exchanges (exchanges_are g at.After-write_exchanges) (first g at.In_ok-add_head))))))
    _
    (subst (AppendsBeginning (g.W.Sink.taken c.write_states.new.out) (g.W.Sink.taken c.write_all.new.sink)) c.as_slice.ensures.value c.write_all.ensures.beginning)
