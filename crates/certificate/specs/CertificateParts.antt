-- The parts of the code's certificates, in the model's terms.
use Rattle.std.specs.Prelude.{Bool, ◌&&◌, nat_le, List, length, map}
use Rattle.std.specs.List.{list_all}
use Rattle.std.specs.Global.{Vec}
use Rattle.task.specs.declared.atoms.ObjectId.{ObjectId}
use Rattle.task.specs.TaskParts.{atom_of}
use Rattle.packed_state.specs.PooledView.{pooled_states}
use Rattle.symmetries_definitions.specs.Exchanges.{Exchange}
use Rattle.symmetries.specs.ObjectPairs.{pairs_in}
use Rattle.certificate_definitions.specs.Certificates.{Certificate, StateLine, are_exchanges, is_claim, is_state_line}
use Rattle.landmark_zones.specs.Landmarks.{landmarks_of}
use Rattle.certificate_reader.specs.Lines.{claim_of, mark_of, version_of}
use Rattle.certificate.specs.declared.header.Header.{Header}
use Rattle.certificate.specs.declared.states.Listed.{Listed}
use Rattle.certificate.specs.declared.states.States.{States}
use Rattle.certificate.specs.Evidence.{evidence_of}
use Rattle.certificate.specs.ListedSets.{Marked, lines_with}

abbrev pub listed_of : Listed → Marked
listed_of listed = record { cost = listed.cost; mark = mark_of listed.mark }

abbrev pub exchange_in : Vec (ObjectId × ObjectId) → Exchange
exchange_in pairs = pairs_in pairs.items

-- the certificate with this header and these lines
abbrev pub certificate_with_lines : Header → List StateLine → Certificate
certificate_with_lines header lines = record {
  version = version_of header.version;
  claim = claim_of header.claim;
  exchanges = map exchange_in header.exchanges.items;
  atoms = map atom_of header.atoms.keys;
  values = (evidence_of header.evidence).values;
  dead_ends = (evidence_of header.evidence).dead_ends;
  tables = (evidence_of header.evidence).tables;
  landmarks = landmarks_of header.evidence.landmarks;
  lines = lines;
}

-- its lines are those of the marks and sets
abbrev pub certificate_with : Header → States → Certificate
certificate_with header states = certificate_with_lines header (lines_with (map listed_of states.marks.items) (pooled_states states.sets))

-- the limits of its claim, its atoms and its lines, each by itself
abbrev pub keeps_item_limits : Certificate → Bool
keeps_item_limits c =
    is_claim c.claim && nat_le (length c.atoms) 1048576 && nat_le (length c.lines) 16777216 && list_all (is_state_line c.version (length c.atoms)) c.lines

-- the limits of its exchanges
abbrev pub keeps_exchange_limits : Certificate → Bool
keeps_exchange_limits c = are_exchanges c.version c.exchanges && nat_le (length c.exchanges) 1048576
