use Rattle.std.proofs.Common.{[], ◌++◌, map, subst}
use Rattle.std.specs.List.{flat_map}
use Rattle.devices.specs.Devices.{AppendsBeginning}
use Rattle.table_rows.specs.Tables.{table_of}
use Rattle.landmark_zones.specs.Landmarks.{landmarks_of}
use Rattle.certificate.specs.Gathering.{IsPassedOn, landmarks_text, table_text}
use Rattle.certificate.proofs.GatheringLemmas.{passed_beginning, passed_nothing, then_begun, then_where_ok}
use Rattle.certificate.proofs.evidence.Evidence.write_parts.Goals as goal
use Rattle.certificate.proofs.evidence.Evidence.write_parts.Goals.{In_ok-write_tables}
use Rattle.certificate.proofs.evidence.Evidence.write_parts.Given.{Over}

-- the lines of the tables are written out or buffered
tabled : (g : Over) (c : In_ok-write_tables g)
    → IsPassedOn (g.W.Sink.taken c.args.out.now) (g.W.Sink.taken c.write_tables.new.out) c.args.held.now.items c.write_tables.new.held.items (flat_map table_text (map table_of c.args.self.now.tables.items))
tabled g c =
    subst (λ ts. IsPassedOn (g.W.Sink.taken c.args.out.now) (g.W.Sink.taken c.write_tables.new.out) c.args.held.now.items c.write_tables.new.held.items (flat_map table_text (map table_of ts)))
    c.deref.ensures.value c.in_ok-write_tables.ensures.text

pub returns-in_err-write_tables-clause-beginning : goal.returns-in_err-write_tables-clause-beginning
returns-in_err-write_tables-clause-beginning g c =
    let e = c.args.self.now in
    let before = g.W.Sink.taken c.args.out.now in
    let held = c.args.held.now.items in
    passed_beginning before before held held [] (passed_nothing before held) (g.W.Sink.taken c.write_tables.new.out) (flat_map table_text (map table_of e.tables.items)) (landmarks_text (landmarks_of e.landmarks))
    (subst (λ ts. AppendsBeginning before (g.W.Sink.taken c.write_tables.new.out) (held ++ flat_map table_text (map table_of ts))) c.deref.ensures.value c.write_tables.ensures.beginning)

pub returns-clause-text : goal.returns-clause-text
returns-clause-text g c =
    let e = c.args.self.now in
    then_where_ok c.write_landmarks.result _ _ _ c.args.held.now.items _ _ (flat_map table_text (map table_of e.tables.items)) (landmarks_text (landmarks_of e.landmarks))
    (tabled g (goal.at.returns-clause-text g c).In_ok-write_tables) c.write_landmarks.ensures.text

pub returns-clause-beginning : goal.returns-clause-beginning
returns-clause-beginning g c =
    let e = c.args.self.now in
    then_begun _ _ _ c.args.held.now.items _ (flat_map table_text (map table_of e.tables.items)) (landmarks_text (landmarks_of e.landmarks))
    (tabled g (goal.at.returns-clause-beginning g c).In_ok-write_tables) c.write_landmarks.ensures.beginning
