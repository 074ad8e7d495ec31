use Rattle.std.proofs.Common.{◌≡◌, ◌∙◌, ◌<◌, ◌≤◌, [], length, map, get_or, sym, ap, subst, arith}
use Rattle.std.specs.Prelude.{IsTrue, nat_le}
use Rattle.std.specs.List.{list_all}
use Rattle.std.proofs.lemmas.Bool.{ltb-true}
use Rattle.std.proofs.lemmas.List.{length-map}
use Rattle.std.proofs.lemmas.Option.{slice_get-get_or}
use Rattle.packed_state.specs.Packed.{bits_of}
use Rattle.lower_bounds.specs.LandmarkFunctions.{value}
use Rattle.lower_bounds.specs.LandmarkLaws.{is_zone_over}
use Rattle.landmark_zones.specs.Landmarks.{landmarks_of, share_of}
use Rattle.landmarks.proofs.FairnessLemmas.{few-of}
use Rattle.tables.proofs.ValueLemmas.{worth-is}
use Rattle.tables.specs.Several.{several_of}
use Rattle.cert_checker.specs.GroundEvidence.{landmark_in}
use Rattle.cert_checker.proofs.EvidenceLemmas.{function_of, value_none, value_rows, value_with}
use Rattle.cert_checker.proofs.checker.evidence.GroundEvidence.is_worth_by.Goals as goal
use Rattle.cert_checker.proofs.checker.evidence.GroundEvidence.is_worth_by.Goals.{After-value-shares}

pub value-shares-requires : goal.value-shares-requires
value-shares-requires c = ltb-true c.args.number (length (landmarks_of c.args.self.now.landmarks.now).values) c.requires.there

-- the shares of the value
is_it : (c : After-value-shares) → landmark_in c.args.self.now c.args.number ≡ function_of (several_of c.args.self.now.common).tables (landmarks_of c.args.self.now.landmarks.now) (map share_of c.value-shares.result.now)
is_it c =
    let tables = (several_of c.args.self.now.common).tables in
    value_with tables (landmarks_of c.args.self.now.landmarks.now) c.args.number (map share_of c.value-shares.result.now) (record { landmarks = []; tables = tables }) c.value-shares.ensures

pub returns-then-not-has_rows-clause-worth : goal.returns-then-not-has_rows-clause-worth
returns-then-not-has_rows-clause-worth c =
    let l = landmarks_of c.args.self.now.landmarks.now in
    let tables = (several_of c.args.self.now.common).tables in
    let number = c.args.number in
    let bits = bits_of c.args.state.now in
    let within = ltb-true number (length l.values) c.requires.there in
    let is = value_with tables l number (get_or l.values number []) (record { landmarks = []; tables = tables }) (slice_get-get_or l.values number [] within) in
    let none = ap (λ h. value h bits) is ∙ value_none (function_of tables l (get_or l.values number [])) bits (sym c.has_rows.ensures.rows ∙ c.if-not-has_rows.true) in
    worth-is c.args.least (value (landmark_in c.args.self.now number) bits) (λ some. omega (arith, some, none))

pub is_worth-requires-clause-over : goal.is_worth-requires-clause-over
is_worth-requires-clause-over c =
    subst (λ n. IsTrue (list_all (is_zone_over n) (landmarks_of c.args.self.now.landmarks.now).zones)) (sym c.requires.state) c.args.self.now.over

pub is_worth-requires-clause-few : goal.is_worth-requires-clause-few
is_worth-requires-clause-few c =
    let most = few-of (landmarks_of c.args.self.now.landmarks.now).values c.args.number 67108864 (map share_of c.value-shares.result.now) c.value-shares.ensures c.args.self.now.few in
    omega (arith, most, length-map c.value-shares.result.now share_of)

pub returns-clause-worth : goal.returns-clause-worth
returns-clause-worth c =
    let bits = bits_of c.args.state.now in
    let here = (goal.at.returns-clause-worth c).After-value-shares in
    let those = function_of (several_of c.args.self.now.common).tables (landmarks_of c.args.self.now.landmarks.now) (map share_of c.value-shares.result.now) in
    let is = ap (λ h. value h bits) (is_it here) ∙ value_rows those bits (sym c.has_rows.ensures.rows ∙ c.if-not-has_rows.false) in
    c.is_worth.ensures ∙ ap (nat_le c.args.least) (sym is)
