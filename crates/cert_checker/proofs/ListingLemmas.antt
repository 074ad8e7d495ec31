-- The lines of a text, read one after another, to its end.
use Rattle.std.proofs.Common.{◌≡◌, ℕ, ◌+◌, ◌-◌, ◌<◌, ◌≤◌, Bool, true, false, List, [], ◌∷◌, ◌++◌, map, length, get_or, Option, None, Some, refl, sym, ap, ◌∙◌, subst, append-nil, length-append, arith}
use Rattle.std.specs.Prelude.{Ok, All, AllPairs, Contains, ◌≢◌}
use Rattle.std.specs.List.{filter_map, list_all}
use Rattle.std.specs.Option.{option_map_or}
use Rattle.std.proofs.lemmas.Bool.{and_parts}
use Rattle.std.proofs.lemmas.List.{length-map}
use Rattle.std.proofs.lemmas.List.Elements.{All-map}
use Rattle.packed_state.specs.Sets.{set_of}
use Rattle.task.specs.TaskParts.{atom_of}
use Rattle.model.specs.Task.{Atom, Task}
use Rattle.model.specs.Claims.{Claim}
use Rattle.lower_bounds.specs.TableFunctions as model
use Rattle.lower_bounds.specs.TableFunctions.{Row, is_among}
use Rattle.table_rows.specs.Tables.{table_of}
use Rattle.table_rows.proofs.TableLemmas.{rows-distinct, rows-of-scope}
use Rattle.certificate_definitions.specs.Certificates.{Certificate, StateLine, rise}
use Rattle.certificate_definitions.specs.CertificateChecking.{IsCut}
use Rattle.certificate_reader.specs.declared.line.CertLine.{CertLine}
use Rattle.certificate_reader.specs.Lines.{claim_of, text_line_of, version_of}
use Rattle.certificate_definitions.specs.CertificateText.{WeightedAtom, NamedCertificate, TextLine, AreWhole, BeginCertificate, atom, claims, constant, last, listed, swapped, part, most_atoms, text_lines, text_of, version}
use Rattle.certificate_definitions.specs.CertificateNames.{AllName, IsTextOf, exchange_said}
use Rattle.certificate_reader.specs.declared.reader.CertReader.{CertReader}
use Rattle.certificate_reader.specs.Reader.{IsAnswer, has_failed, lines_read}
use Rattle.model.proofs.ListLemmas.{Contains-here, Contains-there}
use Rattle.certificate.specs.ListedSets.{Marked, line_with, lines_with, marked}
use Rattle.certificate_definitions.specs.CertificateLines.{parts_given}
use Rattle.cert_checker.proofs.TableParts.{by_kind, parts_with, tables_among}
use Rattle.landmark_zones.specs.Landmarks.{landmarks_of}
use Rattle.certificate_definitions.specs.Parts.{no_parts}
use Rattle.cert_checker.specs.Given.{atoms_given, shares_in, table_line_in, zone_in, is_body, names_given, states_given, swaps_given, values_given, dead_ends_given}
use Rattle.certificate.specs.declared.states.Listed.{Listed}
use Rattle.cert_checker.specs.Listed.{HaveListed, IsFit}
use Rattle.certificate.specs.CertificateParts.{listed_of, exchange_in}
use Rattle.certificate.specs.Evidence.{evidence_of}
use Rattle.certificate.specs.declared.header.Header.{Header}
use Rattle.cert_checker.specs.Taking.{HasTaken}
use Rattle.cert_checker.specs.Reading.{IsAt, IsBegun, IsListedSoFar, IsRead}
use Rattle.certificate.proofs.SetsLemmas.{numbers_back}
use Rattle.cert_checker.proofs.GivenLemmas.{begin_front}
use Rattle.cert_checker.proofs.LimitsLemmas.{ordered_parts, tables_in_limits}
use Rattle.cert_checker.proofs.PlacedLemmas.{atoms_of_text, body_follows, few_atoms_reported, fit_there, named_length, states_of_text, swaps_of_text, parts_of_text}
use Rattle.cert_checker.proofs.ReadingLemmas.{at_last, at_next, few_read, have_begun}

-- there are as many atoms as lines that give one
names_length : (task : Task) (lines : List TextLine) (atoms : List Atom) → AllName task (names_given lines) atoms → length (atoms_given lines) ≡ length atoms
names_length task lines atoms named = sym (length-map (atoms_given lines) (λ (a : WeightedAtom). a.atom)) ∙ named_length task (names_given lines) atoms named

-- ---- lines, by marks and sets

lines_back : (width : ℕ) (lines : List StateLine) → list_all (λ (l : StateLine). rise width 0 l.atoms) lines ≡ true
    → lines_with (map marked lines) (map (λ (l : StateLine). set_of width l.atoms) lines) ≡ lines
lines_back width [] rising = refl
lines_back width (l ∷ lines) rising =
    let (here, more) = and_parts (rise width 0 l.atoms) (list_all (λ (l : StateLine). rise width 0 l.atoms) lines) rising in
    let line : line_with (marked l) (set_of width l.atoms) ≡ l = λ i. record { cost = l.cost; mark = l.mark; atoms = numbers_back width l.atoms here i } in
    let rest = lines_back width lines more in
    λ i. line i ∷ rest i

-- the lines after the first three
abbrev body_of : NamedCertificate → List TextLine
body_of c = map (λ names. swapped names) c.swaps ++ map (λ a. atom a) c.atoms ++ map (λ p. part p) c.parts ++ map (λ l. listed l) c.lines ++ last (length c.lines) ∷ []

version_occurs : (c : NamedCertificate) → Contains (text_lines c) (version c.version)
version_occurs c = Contains-here (version c.version) (claims c.claim ∷ constant c.constants ∷ body_of c)

claim_occurs : (c : NamedCertificate) → Contains (text_lines c) (claims c.claim)
claim_occurs c =
    Contains-there (version c.version) (claims c.claim ∷ constant c.constants ∷ body_of c) (claims c.claim) (Contains-here (claims c.claim) (constant c.constants ∷ body_of c))

constant_occurs : (c : NamedCertificate) → Contains (text_lines c) (constant c.constants)
constant_occurs c =
    Contains-there (version c.version) (claims c.claim ∷ constant c.constants ∷ body_of c) (constant c.constants)
    (Contains-there (claims c.claim) (constant c.constants ∷ body_of c) (constant c.constants) (Contains-here (constant c.constants) (body_of c)))

module _ {R : Type 0} (remaining : R → Option (List ℕ)) (task : Task) (first now : CertReader R) (header : Header) where
  abbrev claim : Claim
  claim = claim_of header.claim

  abbrev atoms : List Atom
  atoms = map atom_of header.atoms.keys

  whole_begins : (lines : List TextLine) → AreWhole lines → BeginCertificate lines
  whole_begins lines whole = ([], subst AreWhole (sym (append-nil lines)) whole)

  pub few_begun : (next : Option CertLine) → IsBegun remaining task first now header next → length atoms ≤ most_atoms
  few_begun (Some line) (before, at, reported, no_state, body) =
      let few = few_atoms_reported before (begin_front before (text_line_of line) (have_begun remaining first now (before ++ text_line_of line ∷ []) at)) in
      let same = names_length task before atoms reported.named in
      omega (arith, few, same)
  few_begun None (lines, over, reported, no_state) =
      let few = few_atoms_reported lines (whole_begins lines over.whole) in
      let same = names_length task lines atoms reported.named in
      omega (arith, few, same)

  module _ (width : ℕ) (marks : List Marked) (sets : List (List Bool)) where
    -- nothing is listed yet
    nothing : marks ≡ [] → sets ≡ [] → (lines : List TextLine) → states_given lines ≡ [] → HaveListed lines claim width marks sets
    nothing no_marks no_sets lines none_reported = record {
      rising = ap (list_all (λ (l : StateLine). rise width 0 l.atoms)) none_reported;
      marks_are = no_marks ∙ ap (map marked) (sym none_reported);
      allowed = λ is_none. subst (All (λ (l : StateLine). ¬ IsCut l.mark)) (sym none_reported) (λ k d within. absurd (omega (arith, within)));
      sets_are = no_sets ∙ ap (map (λ (l : StateLine). set_of width l.atoms)) (sym none_reported);
    }

    pub none_listed : marks ≡ [] → sets ≡ [] → (next : Option CertLine) → IsBegun remaining task first now header next → IsListedSoFar remaining task first now header width marks sets next
    none_listed no_marks no_sets (Some line) (before, at, reported, no_state, body) = (before, at, reported, nothing no_marks no_sets before no_state, body)
    none_listed no_marks no_sets None (lines, over, reported, no_state) = (lines, over, reported, nothing no_marks no_sets lines no_state)

    -- the next line can be listed
    pub fit_next : (line : CertLine) → width ≡ length atoms → IsListedSoFar remaining task first now header width marks sets (Some line) → IsFit width sets (text_line_of line)
    fit_next line wide (before, at, reported, have, body) =
        subst (λ n. IsFit n sets (text_line_of line)) (names_length task before atoms reported.named ∙ sym wide)
        (fit_there before (text_line_of line) (have_begun remaining first now (before ++ text_line_of line ∷ []) at) sets
        (ap length have.sets_are ∙ length-map (states_given before) (λ (l : StateLine). set_of width l.atoms)))

    -- the text is read to its end
    abbrev certificate : Certificate
    certificate = record {
      version = version_of header.version;
      claim = claim;
      exchanges = map exchange_in header.exchanges.items;
      atoms = atoms;
      values = (evidence_of header.evidence).values;
      dead_ends = (evidence_of header.evidence).dead_ends;
      tables = (evidence_of header.evidence).tables;
      landmarks = landmarks_of header.evidence.landmarks;
      lines = lines_with marks sets;
    }

    pub read_whole : IsListedSoFar remaining task first now header width marks sets None → IsRead remaining task first now certificate
    read_whole (lines, over, reported, have) = by_certificate over.whole
      where
        states_are : lines_with marks sets ≡ states_given lines
        states_are = (λ i. lines_with (have.marks_are i) (have.sets_are i)) ∙ lines_back width (states_given lines) have.rising

        by_certificate : AreWhole lines → IsRead remaining task first now certificate
        by_certificate (c, keeps, are) =
            let version_is = reported.one_version c.version (subst (λ lines. Contains lines (version c.version)) are (version_occurs c)) in
            let given = reported.given c.constants (subst (λ lines. Contains lines (constant c.constants)) are (constant_occurs c)) in
            let atoms_are : atoms_given lines ≡ c.atoms = ap atoms_given (sym are) ∙ atoms_of_text c in
            let tables = header.evidence.tables.items in
            let same : c.parts ≡ parts_given lines = sym (parts_of_text c) ∙ ap parts_given are in
            let is_text : IsTextOf task (text_of lines) certificate = record {
              said = c;
              text = record { within = keeps; lines = ap text_of (sym are) };
              version = sym version_is;
              claim = sym (reported.one_claim c.claim (subst (λ lines. Contains lines (claims c.claim)) are (claim_occurs c)));
              exchanges = reported.exchanged ∙ ap (map (exchange_said task)) (ap swaps_given (sym are) ∙ swaps_of_text c);
              atoms = subst (λ (said : List WeightedAtom). AllName task (map (λ a. a.atom) said) atoms) (ap atoms_given (sym are) ∙ atoms_of_text c) reported.named;
              values = given.values ∙ (λ i. values_given (version_is i) c.constants (atoms_are i));
              dead_ends = given.dead_ends ∙ (λ i. dead_ends_given (version_is i) c.constants (atoms_are i));
              parts = by_kind no_parts c.parts (ordered_parts c keeps)
                  ∙ (λ i. parts_with ((ap (filter_map table_line_in) same ∙ tables_among lines ∙ sym reported.tables) i) ((ap (filter_map zone_in) same ∙ sym reported.landmarks.zones) i)
                  ((ap (filter_map shares_in) same ∙ sym reported.landmarks.values) i));
              lines = sym (states_are ∙ ap states_given (sym are) ∙ states_of_text c);
            } in
            record {
              text = text_of lines;
              consumed = over.consumed;
              at_end = over.at_end;
              is_text = is_text;
              lines = lines;
              text_is = refl;
              right = reported.right;
              fluent = reported.fluent;
              distinct = reported.distinct;
              tables = tables_in_limits task (text_of lines) certificate is_text
                  (All-map (λ (t : model.Table). All (λ (r : Row). list_all (is_among t.scope) r.atoms ≡ true) t.rows) table_of tables (λ k d below. rows-of-scope (get_or tables k d)));
              rows_distinct = All-map (λ (t : model.Table). AllPairs (λ (q r : Row). q.atoms ≢ r.atoms) t.rows) table_of tables (λ k d below. rows-distinct (get_or tables k d));
              allowed = λ is_none. subst (All (λ (l : StateLine). ¬ IsCut l.mark)) (sym states_are) (have.allowed is_none);
            }

    -- what follows a line that was taken
    module _ (before : List TextLine) (line : TextLine) (at : IsAt remaining first now (before ++ line ∷ [])) (reported : HasTaken task (before ++ line ∷ []) header)
        (have : HaveListed (before ++ line ∷ []) claim width marks sets) (body : is_body line ≡ true) (next : CertReader R) (going : has_failed next ≡ false) where
      pub so_far_next : (answer : Option CertLine) → IsAnswer remaining now next (before ++ line ∷ []) (Ok answer) → IsListedSoFar remaining task first next header width marks sets answer
      so_far_next (Some other) handed =
          let there = at_next remaining first now (before ++ line ∷ []) at next (text_line_of other) handed going in (
            before ++ line ∷ [],
            there,
            reported,
            have,
            body_follows before line (text_line_of other) (have_begun remaining first next ((before ++ line ∷ []) ++ text_line_of other ∷ []) there) body,
          )
      so_far_next None over = (before ++ line ∷ [], at_last remaining first now (before ++ line ∷ []) at next over, reported, have)

      pub fewer_left : (answer : Option CertLine) → IsAnswer remaining now next (before ++ line ∷ []) (Ok answer)
          → (70000000 - lines_read next) + option_map_or (λ (line : CertLine). 1) answer 0 < (70000000 - lines_read now) + 1
      fewer_left (Some other) handed =
          omega (arith, at.read.count, handed.read.count, length-append (before ++ line ∷ []) (text_line_of other ∷ []), few_read remaining first now (before ++ line ∷ []) at)
      fewer_left None over = omega (arith, at.read.count, over.read.count, few_read remaining first now (before ++ line ∷ []) at)

-- there is a mark for each set
pub as_many_listed : {R : Type 0} (remaining : R → Option (List ℕ)) (task : Task) (first now : CertReader R) (header : Header) (width : ℕ) (marks : List Listed)
    (sets : List (List Bool)) → IsListedSoFar remaining task first now header width (map listed_of marks) sets None → length marks ≡ length sets
as_many_listed remaining task first now header width marks sets (lines, over, reported, have) =
    sym (length-map marks listed_of) ∙ ap length have.marks_are ∙ length-map (states_given lines) marked
    ∙ sym (length-map (states_given lines) (λ (l : StateLine). set_of width l.atoms)) ∙ sym (ap length have.sets_are)
