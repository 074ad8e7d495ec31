use Rattle.std.proofs.Common.{◌≡◌, map, take}
use Rattle.packed_state.specs.PooledView.{pooled_states, pooled_width}
use Rattle.packed_state.specs.Sets.{set_of}
use Rattle.certificate_definitions.specs.Certificates.{StateLine}
use Rattle.certificate_reader.specs.Lines.{line_of}
use Rattle.certificate.specs.CertificateParts.{listed_of}
use Rattle.certificate.specs.ListedSets.{marked}
use Rattle.certificate.proofs.listing.states_of.Given as goal

-- the states so far are those of the lines so far
abbrev pub invariant-loop-line : goal.invariant-loop-line
invariant-loop-line l = record {
  width : pooled_width l.states.sets ≡ l.atom_count;
  sets : pooled_states l.states.sets ≡ map (λ (line : StateLine). set_of l.atom_count line.atoms) (take l.line-index (map line_of l.lines));
  marks : map listed_of l.states.marks.items ≡ map marked (take l.line-index (map line_of l.lines));
}
