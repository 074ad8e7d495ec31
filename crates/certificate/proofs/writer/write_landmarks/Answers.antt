use Rattle.std.proofs.Common.{[]}
use Rattle.std.specs.List.{flat_map}
use Rattle.landmark_zones.specs.Landmarks.{landmarks_of}
use Rattle.certificate.specs.Gathering.{value_line, zone_line}
use Rattle.certificate.proofs.GatheringLemmas.{passed_beginning, passed_nothing, then_begun, then_where_ok}
use Rattle.certificate.proofs.writer.write_landmarks.Goals as goal

pub returns-in_err-write_zones-clause-beginning : goal.returns-in_err-write_zones-clause-beginning
returns-in_err-write_zones-clause-beginning g c =
    let l = landmarks_of c.args.landmarks.now in
    let before = g.W.Sink.taken c.args.out.now in
    let held = c.args.held.now.items in
    passed_beginning before before held held [] (passed_nothing before held) (g.W.Sink.taken c.write_zones.new.out) (flat_map zone_line l.zones) (flat_map value_line l.values)
    c.write_zones.ensures.beginning

pub returns-clause-text : goal.returns-clause-text
returns-clause-text g c =
    let l = landmarks_of c.args.landmarks.now in
    then_where_ok c.write_values.result _ _ _ c.args.held.now.items _ _ (flat_map zone_line l.zones) (flat_map value_line l.values) c.in_ok-write_zones.ensures.text c.write_values.ensures.text

pub returns-clause-beginning : goal.returns-clause-beginning
returns-clause-beginning g c =
    let l = landmarks_of c.args.landmarks.now in
    then_begun _ _ _ c.args.held.now.items _ (flat_map zone_line l.zones) (flat_map value_line l.values) c.in_ok-write_zones.ensures.text c.write_values.ensures.beginning
