use Rattle.std.proofs.Common.{◌≡◌, ◌∙◌, Bool, false, true, ap, length, map, sym}
use Rattle.std.specs.Prelude.{◌&&◌}
use Rattle.std.specs.List.{list_all}
use Rattle.std.proofs.lemmas.List.{length-map}
use Rattle.task.specs.TaskParts.{atom_of}
use Rattle.landmark_zones.specs.Landmarks.{landmarks_of}
use Rattle.certificate_definitions.specs.Certificates.{Certificate, StateLine, has_basis}
use Rattle.certificate_reader.specs.Lines.{line_of}
use Rattle.certificate.specs.declared.header.Header.{Header}
use Rattle.certificate.specs.CertificateParts.{certificate_with_lines, keeps_exchange_limits, keeps_item_limits}
use Rattle.certificate.specs.Evidence.{evidence_of, is_evidence}
use Rattle.certificate.proofs.LimitsLemmas.{in_turn}
use Rattle.certificate.proofs.limits.keeps_limits.Goals as goal

-- the parts of the limits
abbrev evidence_kept : Certificate → Header → Bool
evidence_kept c h = is_evidence c.version (length c.atoms) (evidence_of h.evidence) (landmarks_of h.evidence.landmarks)

abbrev based : Certificate → Bool
based c = list_all (λ (l : StateLine). has_basis (length c.landmarks.values) l.mark) c.lines

pub returns-then-not-keeps_item_limits : goal.returns-then-not-keeps_item_limits
returns-then-not-keeps_item_limits c =
    let h = c.args.header.now in
    let cert = certificate_with_lines h (map line_of c.args.lines.now) in
    let items : keeps_item_limits cert ≡ false = sym c.keeps_item_limits.ensures ∙ c.if-not-keeps_item_limits.true in
    sym (in_turn cert ∙ (λ i. items i && evidence_kept cert h && keeps_exchange_limits cert && based cert))

pub returns-then-not-keep_limits : goal.returns-then-not-keep_limits
returns-then-not-keep_limits c =
    let h = c.args.header.now in
    let cert = certificate_with_lines h (map line_of c.args.lines.now) in
    let items : keeps_item_limits cert ≡ true = sym c.keeps_item_limits.ensures ∙ c.if-not-keeps_item_limits.false in
    let count : length cert.atoms ≡ c.len.result = length-map h.atoms.keys atom_of ∙ sym c.len.ensures.len in
    let evidence : evidence_kept cert h ≡ false =
    ap (λ n. is_evidence cert.version n (evidence_of h.evidence) (landmarks_of h.evidence.landmarks)) count ∙ sym c.keep_limits.ensures ∙ c.if-not-keep_limits.true in
    sym (in_turn cert ∙ (λ i. items i && evidence i && keeps_exchange_limits cert && based cert))

pub returns-then-not-keeps_exchange_limits : goal.returns-then-not-keeps_exchange_limits
returns-then-not-keeps_exchange_limits c =
    let h = c.args.header.now in
    let cert = certificate_with_lines h (map line_of c.args.lines.now) in
    let items : keeps_item_limits cert ≡ true = sym c.keeps_item_limits.ensures ∙ c.if-not-keeps_item_limits.false in
    let count : length cert.atoms ≡ c.len.result = length-map h.atoms.keys atom_of ∙ sym c.len.ensures.len in
    let evidence : evidence_kept cert h ≡ true =
    ap (λ n. is_evidence cert.version n (evidence_of h.evidence) (landmarks_of h.evidence.landmarks)) count ∙ sym c.keep_limits.ensures ∙ c.if-not-keep_limits.false in
    let exchanges : keeps_exchange_limits cert ≡ false = sym c.keeps_exchange_limits.ensures ∙ c.if-not-keeps_exchange_limits.true in
    sym (in_turn cert ∙ (λ i. items i && evidence i && exchanges i && based cert))

pub returns : goal.returns
returns c =
    let h = c.args.header.now in
    let cert = certificate_with_lines h (map line_of c.args.lines.now) in
    let items : keeps_item_limits cert ≡ true = sym c.keeps_item_limits.ensures ∙ c.if-not-keeps_item_limits.false in
    let count : length cert.atoms ≡ c.len.result = length-map h.atoms.keys atom_of ∙ sym c.len.ensures.len in
    let evidence : evidence_kept cert h ≡ true =
    ap (λ n. is_evidence cert.version n (evidence_of h.evidence) (landmarks_of h.evidence.landmarks)) count ∙ sym c.keep_limits.ensures ∙ c.if-not-keep_limits.false in
    let exchanges : keeps_exchange_limits cert ≡ true = sym c.keeps_exchange_limits.ensures ∙ c.if-not-keeps_exchange_limits.false in
    let bases : based cert ≡ c.have_bases.result = ap (λ n. list_all (λ (l : StateLine). has_basis n l.mark) cert.lines) (sym c.value_count.ensures) ∙ sym c.have_bases.ensures in
    sym (in_turn cert ∙ (λ i. items i && evidence i && exchanges i && bases i))
