-- The parts of a text, by what follows their first word.
use Rattle.std.proofs.Common.{◌≡◌, ℕ, true, false, List, [], ◌∷◌, codes, length, Option, Some, refl, sym, ap, ◌∙◌, subst, arith}
use Rattle.std.specs.Prelude.{◌&&◌, ◌<◌, ◌==◌, ℤ, IsTrue, Err, Result, nat_le}
use Rattle.std.specs.List.{list_all}
use Rattle.std.specs.Str.{bytes_eq}
use Rattle.std.proofs.lemmas.Slice.Eq.{bytes_eq-Decides}
use Rattle.std.proofs.lemmas.Bool.{and_parts, eqb-true, le-leb}
use Rattle.lower_bounds.specs.TableFunctions.{Row}
use Rattle.lower_bounds.specs.LandmarkLines.{zone, value}
use Rattle.certificate_definitions.specs.Certificates.{is_weight, are_weights, has_tables, rise}
use Rattle.certificate_definitions.specs.CertificateText.{scope, row, tabled, landmark_line, Part, Format, TextLine, version, claims, constant, swapped, atom, part, listed, last}
use Rattle.certificate_reader.specs.declared.part_line.PartLine.{PartLine}
use Rattle.certificate_reader.specs.declared.fault.NextFault.{NextFault}
use Rattle.certificate_reader.specs.declared.fault.NextFault.TheVariants.{Text, NoMemory}
use Rattle.certificate_reader.specs.declared.fault.TextFault.TheVariants as fault
use Rattle.certificate_reader.specs.Parsing.{IsParsedAfter}
use Rattle.certificate_reader.specs.Parts.{IsPartParsed}
use Rattle.certificate_reader.specs.Words.{IsLeading, IsPartReadAs, IsReadAs, is_state_word, then_numbers, then_weights}
use Rattle.certificate_reader.proofs.WeightsRead.{one_leading}
use Rattle.certificate_reader.proofs.LinesRead.{is_no_mark, unlike, weights_lead, weights_within}

-- ---- tables

module _ (rest : List ℕ) (f : Format) where
  only_scope : ((s : List ℕ) → IsPartReadAs (codes "table") rest f (tabled (scope s)) → ⊥) → (p : Part) → IsPartReadAs (codes "table") rest f p → ⊥
  only_scope never (tabled (scope s)) read = never s read
  only_scope never (tabled (row r)) read = unlike (codes "row") (codes "table") refl read.head
  only_scope never (landmark_line (zone z)) read = unlike (codes "zone") (codes "table") refl read.head
  only_scope never (landmark_line (value shares)) read = unlike (codes "marks") (codes "table") refl read.head

  only_row : ((r : Row) → IsPartReadAs (codes "row") rest f (tabled (row r)) → ⊥) → (p : Part) → IsPartReadAs (codes "row") rest f p → ⊥
  only_row never (tabled (scope s)) read = unlike (codes "table") (codes "row") refl read.head
  only_row never (tabled (row r)) read = never r read
  only_row never (landmark_line (zone z)) read = unlike (codes "zone") (codes "row") refl read.head
  only_row never (landmark_line (value shares)) read = unlike (codes "marks") (codes "row") refl read.head

  -- a version without tables has neither line
  pub no_scopes : has_tables f.version ≡ false → (p : Part) → IsPartReadAs (codes "table") rest f p → ⊥
  no_scopes none = only_scope (λ s read. absurd (cc (sym none ∙ (and_parts (has_tables f.version) _ read.within).0)))

  pub no_rows : has_tables f.version ≡ false → (p : Part) → IsPartReadAs (codes "row") rest f p → ⊥
  no_rows none = only_row (λ r read. absurd (cc (sym none ∙ (and_parts (has_tables f.version) _ read.within).0)))

  pub no_scope : ((atoms : List ℕ) → IsTrue (rise f.atoms 0 atoms) → then_numbers atoms ≡ Some rest → ⊥) → (p : Part) → IsPartReadAs (codes "table") rest f p → ⊥
  no_scope never = only_scope (λ s read.
      never s (and_parts (rise f.atoms 0 s) (nat_le 1 (length s)) (and_parts (has_tables f.version) (rise f.atoms 0 s && nat_le 1 (length s)) read.within).1).0 read.following)

  pub scope_is_read : has_tables f.version ≡ true → (atoms : List ℕ) → IsTrue (rise f.atoms 0 atoms) → then_numbers atoms ≡ Some rest → IsPartReadAs (codes "table") rest f (tabled (scope atoms))
  scope_is_read has [] rising splits = absurd (cc splits)
  scope_is_read has (n ∷ atoms) rising splits =
      let some : nat_le 1 (length (n ∷ atoms)) ≡ true = le-leb 1 (length (n ∷ atoms)) (omega arith) in
      record { head = refl; following = splits; within = (λ i. has i && (rising i && some i)) }

  row_parts : (r : Row) → IsPartReadAs (codes "row") rest f (tabled (row r)) → IsTrue (are_weights f.weights r.weights) × IsTrue (rise f.atoms 0 r.atoms)
  row_parts r read =
      and_parts (are_weights f.weights r.weights) (rise f.atoms 0 r.atoms) (and_parts (has_tables f.version) (are_weights f.weights r.weights && rise f.atoms 0 r.atoms) read.within).1

  row_leads : (r : Row) → IsPartReadAs (codes "row") rest f (tabled (row r)) → IsLeading (Some rest) f.weights r.weights (then_numbers r.atoms)
  row_leads r read = weights_lead (Some rest) f.weights r.weights (then_numbers r.atoms) (row_parts r read).0 read.following

  pub no_weights_in_row : ((w : List ℤ) (following : Option (List ℕ)) → IsLeading (Some rest) f.weights w following → ⊥) → (p : Part) → IsPartReadAs (codes "row") rest f p → ⊥
  no_weights_in_row never = only_row (λ r read. never r.weights (then_numbers r.atoms) (row_leads r read))

  module _ (w : List ℤ) (following : Option (List ℕ)) (is : IsLeading (Some rest) f.weights w following) where
    row_is : (r : Row) → IsPartReadAs (codes "row") rest f (tabled (row r)) → (w ≡ r.weights) × (following ≡ then_numbers r.atoms)
    row_is r read = one_leading (Some rest) f.weights w r.weights following (then_numbers r.atoms) is (row_leads r read)

    pub too_few_weights : length w < f.weights → (p : Part) → IsPartReadAs (codes "row") rest f p → ⊥
    too_few_weights fewer = only_row (λ r read.
        let long = eqb-true (length r.weights) f.weights (and_parts (length r.weights == f.weights) (list_all is_weight r.weights) (row_parts r read).0).0 in
        absurd (omega (arith, fewer, ap length (row_is r read).0, long)))

    pub no_numbers_in_row : ((atoms : List ℕ) → IsTrue (rise f.atoms 0 atoms) → then_numbers atoms ≡ following → ⊥) → (p : Part) → IsPartReadAs (codes "row") rest f p → ⊥
    no_numbers_in_row never = only_row (λ r read. never r.atoms (row_parts r read).1 (sym (row_is r read).1))

    pub row_is_read : has_tables f.version ≡ true → (length w < f.weights → ⊥) → (atoms : List ℕ) → IsTrue (rise f.atoms 0 atoms) → then_numbers atoms ≡ following
        → IsPartReadAs (codes "row") rest f (tabled (row (record { weights = w; atoms = atoms })))
    row_is_read has whole atoms rising splits = record {
      head = refl;
      following = ap (then_weights w) splits ∙ is.splits;
      within = (λ i. has i && (weights_within (Some rest) f.weights w following is whole i && rising i));
    }

-- ---- any part

-- what is reported for a word and its rest is reported for their bytes
pub part_parsed_as : (word own rest : List ℕ) (f : Format) (r : Result PartLine NextFault) → bytes_eq word own ≡ true → IsPartParsed own rest f r → IsPartParsed word rest f r
part_parsed_as word own rest f r is reported = subst (λ word. IsPartParsed word rest f r) (sym ((bytes_eq-Decides word own).0 is)) reported

-- a word that begins no part
pub no_part : (word rest : List ℕ) (f : Format) → bytes_eq word (codes "row") ≡ false → bytes_eq word (codes "table") ≡ false → bytes_eq word (codes "zone") ≡ false → bytes_eq word (codes "marks") ≡ false
    → (p : Part) → IsPartReadAs word rest f p → ⊥
no_part word rest f no_row no_table no_zone no_marks (tabled (scope s)) read = unlike word (codes "table") no_table (sym read.head)
no_part word rest f no_row no_table no_zone no_marks (tabled (row r)) read = unlike word (codes "row") no_row (sym read.head)
no_part word rest f no_row no_table no_zone no_marks (landmark_line (zone z)) read = unlike word (codes "zone") no_zone (sym read.head)
no_part word rest f no_row no_table no_zone no_marks (landmark_line (value shares)) read = unlike word (codes "marks") no_marks (sym read.head)

-- a word that begins no other line begins a part, or no line at all
module _ (word rest : List ℕ) (f : Format) (no_state : is_state_word word ≡ false) (no_atom : bytes_eq word (codes "atom") ≡ false) (no_swap : bytes_eq word (codes "swap") ≡ false)
    (no_end : bytes_eq word (codes "end") ≡ false) (no_claim : bytes_eq word (codes "claim") ≡ false) (no_constant : bytes_eq word (codes "constant") ≡ false)
    (no_version : bytes_eq word (codes "pddl-cert") ≡ false) where
  no_line : ((p : Part) → IsPartReadAs word rest f p → ⊥) → (line : TextLine) → IsReadAs word rest f line → ⊥
  no_line never (version w) read = unlike word (codes "pddl-cert") no_version (sym read.head)
  no_line never (claims claim) read = unlike word (codes "claim") no_claim (sym read.head)
  no_line never (constant k) read = unlike word (codes "constant") no_constant (sym read.head)
  no_line never (swapped names) read = unlike word (codes "swap") no_swap (sym read.head)
  no_line never (atom a) read = unlike word (codes "atom") no_atom (sym read.head)
  no_line never (part p) read = never p (record { head = read.head; following = read.following; within = read.within })
  no_line never (listed l) read = is_no_mark word no_state l.mark read.head
  no_line never (last n) read = unlike word (codes "end") no_end (sym read.head)

  pub reported_as_part : (why : NextFault) → IsPartParsed word rest f (Err why) → IsParsedAfter word rest f (Err why)
  reported_as_part (Text fault.Form) never = (no_line never, λ same n is reported. unlike word (codes "pddl-cert") no_version same)
  reported_as_part NoMemory reported = tt
  reported_as_part _ reported = absurd reported
