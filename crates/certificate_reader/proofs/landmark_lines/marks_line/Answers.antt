use Rattle.std.proofs.Common.{rules, map, sym, ◌∙◌}
use Rattle.landmark_zones.specs.Landmarks.{share_of}
use Rattle.certificate_reader.specs.Stages.{format_of}
use Rattle.certificate_reader.proofs.LandmarksRead.{marks_are_read, no_marks, no_shares_in_marks, no_value}
use Rattle.certificate_reader.proofs.landmark_lines.marks_line.Goals as goal

pub returns-then-not-has_landmarks : goal.returns-then-not-has_landmarks
returns-then-not-has_landmarks c = no_marks c.args.rest.now (format_of c.args.format) (sym c.has_landmarks.ensures ∙ c.if-not-has_landmarks.true)

pub returns-in_default : goal.returns-in_default
returns-in_default c = no_shares_in_marks c.args.rest.now (format_of c.args.format) (rw c.in_default.is at c.in_ok-shares.ensures.none)

pub returns-then-not-is_value : goal.returns-then-not-is_value
returns-then-not-is_value c =
    let (may, splits) = rw c.in-Some.is at c.in_ok-shares.ensures.some in
    no_value c.args.rest.now (format_of c.args.format) (map share_of c.in-Some.shares.items) may splits (search rules)

pub returns : goal.returns
returns c =
    let (_, splits) = rw c.in-Some.is at c.in_ok-shares.ensures.some in
    marks_are_read c.args.rest.now (format_of c.args.format) (sym c.has_landmarks.ensures ∙ c.if-not-has_landmarks.false) (map share_of c.in-Some.shares.items) splits
    (search rules) c.requires.short
