use Rattle.std.proofs.Common.{rules, sym, ◌∙◌}
use Rattle.certificate_reader.specs.Stages.{format_of}
use Rattle.certificate_reader.specs.Words.{text_in}
use Rattle.certificate_reader.proofs.LandmarksRead.{no_negated_in_zone, no_zone, no_zones, zone_is_read}
use Rattle.certificate_reader.proofs.landmark_lines.zone_line.Goals as goal

pub returns-then-not-has_landmarks : goal.returns-then-not-has_landmarks
returns-then-not-has_landmarks c = no_zones c.args.rest.now (format_of c.args.format) (sym c.has_landmarks.ensures ∙ c.if-not-has_landmarks.true)

pub returns-in_default : goal.returns-in_default
returns-in_default c =
    no_negated_in_zone c.args.rest.now (format_of c.args.format) c.requires.few c.in_ok-atoms.atoms.items (text_in c.in_ok-atoms.left) c.in_ok-atoms.ensures
    (rw c.in_default.is at c.in_ok-negated.ensures.none)

pub returns-then-not-is_zone : goal.returns-then-not-is_zone
returns-then-not-is_zone c =
    let (rising, splits) = rw c.in-Some.is at c.in_ok-negated.ensures.some in
    no_zone c.args.rest.now (format_of c.args.format) c.requires.few c.in_ok-atoms.atoms.items (text_in c.in_ok-atoms.left) c.in_ok-atoms.ensures c.in-Some.negated.items rising splits
    (search rules)

pub returns : goal.returns
returns c =
    let (rising, splits) = rw c.in-Some.is at c.in_ok-negated.ensures.some in
    zone_is_read c.args.rest.now (format_of c.args.format) c.requires.few c.in_ok-atoms.atoms.items (text_in c.in_ok-atoms.left) c.in_ok-atoms.ensures c.in-Some.negated.items rising splits
    (sym c.has_landmarks.ensures ∙ c.if-not-has_landmarks.false) (search rules)
