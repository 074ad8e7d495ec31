-- The bytes are the shares so far followed by the rest.
use Rattle.std.proofs.Common.{◌≡◌, Some, map}
use Rattle.std.specs.Prelude.{IsTrue}
use Rattle.std.specs.List.{list_all}
use Rattle.landmark_zones.specs.Landmarks.{share_of}
use Rattle.certificate_reader.specs.Words.{may_be_share, shares_then, text_in}
use Rattle.certificate_reader.proofs.NumbersRead.{bytes_left}
use Rattle.certificate_reader.proofs.landmark_lines.shares.Given as goal

abbrev pub invariant-words : goal.invariant-words
invariant-words l = record {
  read : shares_then (map share_of l.shares.items) (text_in l.left) ≡ Some l.fn.rest;
  may_be : IsTrue (list_all may_be_share (map share_of l.shares.items));
}

abbrev pub decreases-words : goal.decreases-words
decreases-words l = bytes_left (text_in l.left)
