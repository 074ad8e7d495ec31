use Rattle.std.proofs.Common.{◌≤◌, length, sym, subst}
use Rattle.std.specs.Prelude.{IsTrue}
use Rattle.std.specs.List.{list_all}
use Rattle.grounding.specs.Ground.{task_in, atoms_in}
use Rattle.certificate.specs.Certificate.{certificate_of}
use Rattle.lower_bounds.specs.LandmarkLines.{NumberedLandmarks, share_count}
use Rattle.lower_bounds.specs.LandmarkLaws.{is_zone_over}
use Rattle.tables.specs.Several.{width_of}
use Rattle.cert_checker.proofs.LandmarkFaultsLemmas.{few_shares, zones_over}
use Rattle.cert_checker.proofs.PackedListingLemmas.{numbered_after}
use Rattle.cert_checker.proofs.checker.evidence.GroundEvidence.fair.Goals as goal

pub check_landmarks-requires-clause-tables : goal.check_landmarks-requires-clause-tables
check_landmarks-requires-clause-tables c = c.in_ok-common.ensures.weights.tables

pub invariant_of-result : goal.invariant_of-result
invariant_of-result c =
    let cert = certificate_of c.args.cert.now in
    let width = length (atoms_in c.args.grounded.now) in
    let after = numbered_after (task_in c.args.grounded.now) (atoms_in c.args.grounded.now) cert c.requires.fluent c.requires.numbered in
    let is = sym c.evidence.ensures.landmarks in
    record {
      over = subst (λ (l : NumberedLandmarks). IsTrue (list_all (is_zone_over (width_of c.in_ok-common.common)) l.zones)) is
          (subst (λ n. IsTrue (list_all (is_zone_over n) cert.landmarks.zones)) (sym c.in_ok-common.ensures.weights.dead_ends.as_many) (zones_over cert width c.args.cert.now.within_limits after));
      few = subst (λ (l : NumberedLandmarks). share_count l.values ≤ 67108864) is (few_shares cert c.args.cert.now.within_limits);
    }

pub returns-clause-evidence : goal.returns-clause-evidence
returns-clause-evidence c = record { common = c.in_ok-common.ensures.weights; landmarks = c.evidence.ensures.landmarks }
