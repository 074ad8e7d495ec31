-- What lines of tables give.
use Rattle.std.proofs.Common.{◌≡◌, ◌∙◌, ℕ, ◌+◌, true, false, true≢false, List, [], ◌∷◌, ◌++◌, map, length, Some, refl, sym, ap, subst, append_assoc, append-nil, arith}
use Rattle.std.specs.Prelude.{◌&&◌, ◌==◌, nat_le, nat_lt, Bool, Contains}
use Rattle.std.specs.List.{filter_map, flat_map, list_all, range_with_len}
use Rattle.std.proofs.lemmas.Bool.{and_parts, eqb-true, ltb-true}
use Rattle.std.proofs.lemmas.List.{length-map, map-append}
use Rattle.std.proofs.lemmas.List.Elements.{All-contains, All-nil, filter_map-append}
use Rattle.std.proofs.lemmas.List.FromFn.{length-range_with_len}
use Rattle.std.proofs.lemmas.Grind.{flat_map-append}
use Rattle.model.specs.Task.{Task}
use Rattle.model.proofs.ListLemmas.{Contains-here, Contains-there}
use Rattle.lower_bounds.specs.TableFunctions as model
use Rattle.lower_bounds.specs.TableFunctions.{Row, SeveralValues, is_among}
use Rattle.table_rows.specs.Tables.{table_of, weight_count_of}
use Rattle.table_rows.specs.declared.by_atoms.Added.TheVariants.{New}
use Rattle.table_rows.specs.declared.table.Table.{Table}
use Rattle.certificate_definitions.specs.Certificates.{are_weights, has_tables, is_weight, rise}
use Rattle.certificate_definitions.specs.CertificateText.{Part, TableLine, scope, row, TextLine, version, claims, constant, swapped, atom, tabled, landmark_line, part, listed, last, Beginning, BeginCertificate, format_in, head_lines, is_line, is_weight_count, most_atoms}
use Rattle.certificate_definitions.specs.Parts.{PartCounts, counts_after, has_room, how_many, is_table_line, may_follow, most_rows, no_parts}
use Rattle.certificate_definitions.specs.CertificateNames.{table_lines, value_count}
use Rattle.certificate_definitions.specs.CertificateMachine.{Body, CertificatePlace, at_version, at_claim, at_constant, in_body, ended, atom_follows, atom_more, next_place, part_follows, part_more}
use Rattle.certificate_definitions.specs.CertificateChecking.{EndInTable, IsWrongAfter, is_of_scope, not_of_scope, repeated_row, not_fluent, repeated_atom, repeated_state, cut_not_allowed}
use Rattle.certificate_definitions.proofs.Beginnings.{body_lines, parts_of_body}
use Rattle.certificate_definitions.proofs.Machine.{ComesBefore, IsBody, Keeps, body_of, never, no_states, only_where}
use Rattle.certificate_definitions.proofs.PartLemmas.{none_yet}
use Rattle.certificate_definitions.specs.CertificateLines.{parts_given}
use Rattle.certificate.specs.declared.header.Header.{Header}
use Rattle.task.specs.TaskParts.{atom_of}
use Rattle.lower_bounds.specs.LandmarkLines.{zone, value, NumberedLandmarks}
use Rattle.landmark_zones.specs.Landmarks.{landmarks_of, with_value, with_zone}
use Rattle.certificate_reader.specs.Lines.{claim_of, version_of}
use Rattle.certificate.specs.declared.evidence.Evidence.{Evidence}
use Rattle.certificate.specs.CertificateParts.{exchange_in}
use Rattle.certificate.specs.Evidence.{evidence_of, potential_of}
use Rattle.cert_checker.specs.declared.refusal.Refusal.{Refusal}
use Rattle.cert_checker.specs.declared.refusal.Refusal.TheVariants as refusal
use Rattle.cert_checker.specs.declared.refusal.RefusalCode.TheVariants.{CertForm, Repeated}
use Rattle.cert_checker.specs.Given.{Heading, HaveGiven, atoms_given, table_in, table_line_in, tables_given, value_given}
use Rattle.cert_checker.specs.Tabled.{AreWeighed, HaveWeights, IsAddedToLast, IsFitHead, IsPartRefused, IsPartTaken, IsRowRefused, with_scope, with_tables}
use Rattle.cert_checker.specs.Taking.{HasTaken, IsWrongNow, heading_of}
use Rattle.cert_checker.proofs.GivenLemmas.{placed, reported_tables, reported_value, reported_zone}
use Rattle.cert_checker.proofs.LimitsLemmas.{few_constants, one_constant_more}
use Rattle.cert_checker.proofs.TableParts.{as_parts, counts_of_tables, only_tables, tables_among, zones_none}
use Rattle.cert_checker.proofs.TableLinesLemmas.{one_end, rising_few, rising_from, rows_of_one}

-- ---- the position of a table line

-- it comes after these first lines, which list no state
pub record FollowsTables (before : List TextLine) (t : TableLine) : Type 0 where
  pub beginning : Beginning
  pub keeps : Keeps beginning
  pub lines_are : before ≡ head_lines beginning
  pub no_states : beginning.states ≡ []
  pub line_is : is_line (format_in beginning) (part (tabled t)) ≡ true
  pub follows : may_follow (counts_after no_parts beginning.parts) (tabled t) ≡ true
  pub room : has_room (counts_after no_parts beginning.parts) (tabled t) ≡ true

pub follows_tables : (before : List TextLine) (t : TableLine) → BeginCertificate (before ++ part (tabled t) ∷ []) → FollowsTables before t
follows_tables before t begun = let at = placed before (part (tabled t)) begun in by_place at.place at.occurs at.next at.leads
  where
    of_body : (b : Body) → IsBody b before → (next : CertificatePlace) → next_place (in_body b) (part (tabled t)) ≡ Some next → FollowsTables before t
    of_body b body next leads =
        let g : Beginning = body.beginning in
        let c : Body = body_of g in
        let p : Part = tabled t in
        let leads_on : next_place (in_body c) (part p) ≡ Some next = subst (λ b. next_place (in_body b) (part p) ≡ Some next) (sym body.body_is) leads in
        let (holds, _) = only_where (part_follows p c && has_room c.parts p && is_line c.format (part p)) (in_body (part_more p c)) next leads_on in
        let (counts, is) = and_parts (part_follows p c && has_room c.parts p) (is_line c.format (part p)) holds in
        let (place, room) = and_parts (part_follows p c) (has_room c.parts p) counts in
        let (empty, follows) = and_parts (c.states == 0) (may_follow c.parts p) place in
        record { beginning = g; keeps = body.keeps; lines_are = body.lines_are; no_states = no_states g.states (eqb-true c.states 0 empty); line_is = is; follows = follows; room = room }

    by_place : (place : CertificatePlace) → ComesBefore place before → (next : CertificatePlace) → next_place place (part (tabled t)) ≡ Some next → FollowsTables before t
    by_place at_version are next leads = never next leads
    by_place (at_claim v) are next leads = never next leads
    by_place (at_constant v) are next leads = never next leads
    by_place (in_body b) body next leads = of_body b body next leads
    by_place ended are next leads = never next leads

-- ---- one more line

module _ (task : Task) (before : List TextLine) (heading : Heading) (reported : HaveGiven task before heading) where
  module _ (t : TableLine) (at : FollowsTables before t) where
    abbrev opening : Beginning
    opening = at.beginning

    abbrev further : List TextLine
    further = body_lines opening.swaps opening.atoms opening.parts opening.states

    lines_of_tables : opening.parts ≡ as_parts (flat_map table_lines heading.evidence.tables)
    lines_of_tables =
        let given : parts_given before ≡ opening.parts = ap parts_given at.lines_are ∙ parts_of_body opening.swaps opening.atoms opening.parts opening.states in
        only_tables no_parts opening.parts at.keeps.in_order (zones_none (counts_after no_parts opening.parts) t at.follows)
        ∙ ap (λ parts. as_parts (filter_map table_line_in parts)) (sym given) ∙ ap as_parts (tables_among before ∙ sym reported.tables)

    count_is : is_weight_count opening.version (length opening.constants) ≡ true
    count_is = (and_parts (is_weight_count opening.version (length opening.constants)) (list_all is_weight opening.constants) at.keeps.constants_are).0

    -- there is a constant for each value and one for dead ends
    as_many_values : length heading.evidence.values + 1 ≡ length opening.constants
    as_many_values =
        let v = opening.version in
        let k = opening.constants in
        let version_is = reported.one_version v (subst (λ lines. Contains lines (version v)) (sym at.lines_are) (Contains-here (version v) (claims opening.claim ∷ constant k ∷ further))) in
        let there : Contains before (constant k) = subst (λ lines. Contains lines (constant k)) (sym at.lines_are)
        (Contains-there (version v) (claims opening.claim ∷ constant k ∷ further) (constant k)
        (Contains-there (claims opening.claim) (constant k ∷ further) (constant k) (Contains-here (constant k) further))) in
        let count = value_count heading.version (length k) in
        let many : length heading.evidence.values ≡ count = ap length (reported.given k there).values ∙ length-map (range_with_len 0 count) (value_given k (atoms_given before)) ∙ length-range_with_len 0 count in
        ap (λ n. n + 1) (many ∙ ap (λ v. value_count v (length k)) version_is)
        ∙ one_constant_more v (length k) (and_parts (has_tables v) (is_table_line (format_in opening) t) at.line_is).0 count_is

  -- ---- a scope

  scope_is_right : (s : List ℕ) (line : TextLine) (number : ℕ) → IsWrongAfter task before line number → line ≡ part (tabled (scope s)) → ⊥
  scope_is_right s line number (not_of_scope r atoms rows ends other) same = absurd (cc same)
  scope_is_right s line number (repeated_row r atoms rows ends of_scope there) same = absurd (cc same)
  scope_is_right s line number (not_fluent a none_is) same = absurd (cc same)
  scope_is_right s line number (repeated_atom a is there) same = absurd (cc same)
  scope_is_right s line number (repeated_state l there) same = absurd (cc same)
  scope_is_right s line number (cut_not_allowed l new cut there) same = absurd (cc same)

  pub reported_scope : (s : List ℕ)
      → HaveGiven task (before ++ part (tabled (scope s)) ∷ []) (record { version = heading.version; claim = heading.claim; exchanges = heading.exchanges; atoms = heading.atoms; evidence = with_scope heading.evidence s; landmarks = heading.landmarks })
  reported_scope s =
      let table : model.Table = record { scope = s; rows = [] } in
      reported_tables task before heading reported (scope s) (heading.evidence.tables ++ table ∷ [])
      (flat_map-append table_lines heading.evidence.tables (table ∷ []) ∙ ap (λ lines. lines ++ scope s ∷ []) reported.tables)
      (λ number wrong. scope_is_right s (part (tabled (scope s))) number wrong refl)

  -- ---- a row

  module _ (front : List model.Table) (t : model.Table) (tables_are : heading.evidence.tables ≡ front ++ t ∷ []) where
    abbrev lines : List TableLine
    lines = flat_map table_lines front

    -- the lines end in the last table
    given_end : tables_given before ≡ lines ++ scope t.scope ∷ map row t.rows
    given_end =
        sym reported.tables ∙ ap (flat_map table_lines) tables_are ∙ flat_map-append table_lines front (t ∷ []) ∙ ap (λ more. lines ++ more) (append-nil (scope t.scope ∷ map row t.rows))

    rows_of_lines : (rows : List Row) → map part (as_parts (map row rows)) ≡ map (λ (r : Row). part (tabled (row r))) rows
    rows_of_lines [] = refl
    rows_of_lines (r ∷ rows) = ap (λ lines. part (tabled (row r)) ∷ lines) (rows_of_lines rows)

    end_in_table : (r : TableLine) → FollowsTables before r → EndInTable before t.scope t.rows
    end_in_table r at =
        let g : Beginning = at.beginning in
        let first_three : List TextLine → List TextLine = λ lines. version g.version ∷ claims g.claim ∷ constant g.constants ∷ lines in
        let lines_are : g.parts ≡ as_parts (lines ++ scope t.scope ∷ map row t.rows) = lines_of_tables r at ∙ ap as_parts (reported.tables ∙ given_end) in
        let heads : List TextLine = map swapped g.swaps ++ map atom g.atoms in
        let table : List TextLine = part (tabled (scope t.scope)) ∷ map (λ (r : Row). part (tabled (row r))) t.rows in (
          first_three (heads ++ map part (as_parts lines)),
          at.lines_are
              ∙ (λ i. first_three (body_lines g.swaps g.atoms (lines_are i) (at.no_states i)))
              ∙ ap first_three (append-nil (heads ++ map part (as_parts (lines ++ scope t.scope ∷ map row t.rows)))
              ∙ ap (λ lines. heads ++ lines) (ap (map part) (map-append (λ (t : TableLine). tabled t) lines (scope t.scope ∷ map row t.rows))
              ∙ map-append part (as_parts lines) (as_parts (scope t.scope ∷ map row t.rows)) ∙ ap (λ rows. map part (as_parts lines) ++ part (tabled (scope t.scope)) ∷ rows) (rows_of_lines t.rows))
              ∙ sym (append_assoc heads (map part (as_parts lines)) table)),
        )

    tables_of_rows : (rows : List Row) → tables_given (map (λ (r : Row). part (tabled (row r))) rows) ≡ map row rows
    tables_of_rows [] = refl
    tables_of_rows (r ∷ rows) = ap (λ lines. row r ∷ lines) (tables_of_rows rows)

    -- and in no other
    only_end : (atoms : List ℕ) (rows : List Row) → EndInTable before atoms rows → (atoms ≡ t.scope) × (rows ≡ t.rows)
    only_end atoms rows (others, ends) =
        let table : List TextLine = part (tabled (scope atoms)) ∷ map (λ (r : Row). part (tabled (row r))) rows in
        one_end (tables_given others) lines atoms t.scope rows t.rows
        (sym (ap tables_given ends ∙ filter_map-append table_in others table ∙ ap (λ rows. tables_given others ++ scope atoms ∷ rows) (tables_of_rows rows)) ∙ given_end)

    module _ (r : Row) (of_scope : is_of_scope t.scope r.atoms ≡ true) (new : ((q : Row) → Contains t.rows q → q.atoms ≡ r.atoms → ⊥)) where
      row_is_right : (line : TextLine) (number : ℕ) → IsWrongAfter task before line number → line ≡ part (tabled (row r)) → ⊥
      row_is_right line number (not_of_scope q atoms rows ends other) same =
          let here : q ≡ r = cc in
          let (scope_is, _) = only_end atoms rows ends in
          true≢false (sym of_scope ∙ (λ i. is_of_scope (sym scope_is i) (sym here i).atoms) ∙ other)
      row_is_right line number (repeated_row q atoms rows ends of_table (p, there, p_is)) same =
          let here : q ≡ r = cc in
          let (_, rows_are) = only_end atoms rows ends in
          new p (subst (λ rows. Contains rows p) rows_are there) (p_is ∙ ap (λ (q : Row). q.atoms) here)
      row_is_right line number (not_fluent a none_is) same = absurd (cc same)
      row_is_right line number (repeated_atom a is there) same = absurd (cc same)
      row_is_right line number (repeated_state l there) same = absurd (cc same)
      row_is_right line number (cut_not_allowed l first cut there) same = absurd (cc same)

      lines_more : flat_map table_lines (front ++ record { scope = t.scope; rows = t.rows ++ r ∷ [] } ∷ []) ≡ tables_given before ++ row r ∷ []
      lines_more =
          let table : model.Table = record { scope = t.scope; rows = t.rows ++ r ∷ [] } in
          flat_map-append table_lines front (table ∷ []) ∙ ap (λ more. lines ++ more) (append-nil (scope t.scope ∷ map row table.rows))
          ∙ ap (λ rows. lines ++ scope t.scope ∷ rows) (map-append row t.rows (r ∷ []))
          ∙ sym (append_assoc lines (scope t.scope ∷ map row t.rows) (row r ∷ [])) ∙ ap (λ lines. lines ++ row r ∷ []) (sym given_end)

  pub reported_row : (r : Row) (tables : List model.Table) → IsAddedToLast heading.evidence.tables tables r New
      → HaveGiven task (before ++ part (tabled (row r)) ∷ []) (record { version = heading.version; claim = heading.claim; exchanges = heading.exchanges; atoms = heading.atoms; evidence = with_tables heading.evidence tables; landmarks = heading.landmarks })
  reported_row r tables it =
      let differs : (q : Row) → Contains it.before.rows q → q.atoms ≡ r.atoms → ⊥ = λ q there same. All-contains (λ (q : Row). q.atoms ≡ r.atoms → ⊥) it.before.rows q it.added.differs there same in
      reported_tables task before heading reported (row r) tables
      (ap (flat_map table_lines) (it.new_are ∙ ap (λ t. it.front ++ t ∷ []) it.added.put) ∙ lines_more it.front it.before it.old_are r it.added.of_scope differs)
      (λ number wrong. row_is_right it.front it.before it.old_are r it.added.of_scope differs (part (tabled (row r))) number wrong refl)

  pub row_is_wrong : (r : Row) (number : ℕ) → BeginCertificate (before ++ part (tabled (row r)) ∷ []) → number ≡ length before + 1 → (e : Refusal) → IsRowRefused heading.evidence.tables r number e
      → IsWrongNow task before (part (tabled (row r))) e
  row_is_wrong r number begun at (refusal.Line CertForm line) (line_is, tables, it) =
      (line_is ∙ at, not_of_scope r it.before.scope it.before.rows (end_in_table it.front it.before it.old_are (row r) (follows_tables before (row r) begun)) it.added.not_of_scope)
  row_is_wrong r number begun at (refusal.Line Repeated line) (line_is, tables, it) =
      let (k, q, below, is, same) = it.added.same in (
        line_is ∙ at,
        repeated_row r it.before.scope it.before.rows (end_in_table it.front it.before it.old_are (row r) (follows_tables before (row r) begun)) it.added.of_scope (q, (k, below, is), same),
      )
  row_is_wrong r number begun at refusal.NoMemory wrong = tt
  row_is_wrong r number begun at _ wrong = absurd wrong

-- ---- any part

module _ (task : Task) (before : List TextLine) (header : Header) (reported : HasTaken task before header) where
  abbrev heading_with : SeveralValues → NumberedLandmarks → Heading
  heading_with evidence landmarks = record {
    version = version_of header.version;
    claim = claim_of header.claim;
    exchanges = map exchange_in header.exchanges.items;
    atoms = map atom_of header.atoms.keys;
    evidence = evidence;
    landmarks = landmarks;
  }

  -- together with the part the lines have given this evidence
  given_with : (p : Part) (evidence : Evidence) (values : SeveralValues) (landmarks : NumberedLandmarks) → evidence_of evidence ≡ values → landmarks_of evidence.landmarks ≡ landmarks
      → HaveGiven task (before ++ part p ∷ []) (heading_with values landmarks) → HaveGiven task (before ++ part p ∷ []) (heading_with (evidence_of evidence) (landmarks_of evidence.landmarks))
  given_with p evidence values landmarks values_are landmarks_are given =
      subst (λ values. HaveGiven task (before ++ part p ∷ []) (heading_with values (landmarks_of evidence.landmarks))) (sym values_are)
      (subst (λ landmarks. HaveGiven task (before ++ part p ∷ []) (heading_with values landmarks)) (sym landmarks_are) given)

  pub reported_part : (p : Part) (evidence : Evidence) → IsPartTaken header.evidence evidence p → HaveGiven task (before ++ part p ∷ []) (heading_with (evidence_of evidence) (landmarks_of evidence.landmarks))
  reported_part (tabled (scope s)) evidence (values, landmarks) =
      given_with (tabled (scope s)) evidence (with_scope (evidence_of header.evidence) s) (landmarks_of header.evidence.landmarks) values landmarks (reported_scope task before (heading_of header) reported s)
  reported_part (tabled (row r)) evidence (it, landmarks) =
      given_with (tabled (row r)) evidence (with_tables (evidence_of header.evidence) it.tables) (landmarks_of header.evidence.landmarks) it.evidence landmarks
      (reported_row task before (heading_of header) reported r it.tables it.added)
  reported_part (landmark_line (zone z)) evidence (values, landmarks) =
      given_with (landmark_line (zone z)) evidence (evidence_of header.evidence) (with_zone (landmarks_of header.evidence.landmarks) z) values landmarks (reported_zone task before (heading_of header) reported z)
  reported_part (landmark_line (value s)) evidence (values, landmarks) =
      given_with (landmark_line (value s)) evidence (evidence_of header.evidence) (with_value (landmarks_of header.evidence.landmarks) s) values landmarks (reported_value task before (heading_of header) reported s)

module _ (task : Task) (before : List TextLine) (heading : Heading) (reported : HaveGiven task before heading) where
  pub part_is_wrong : (p : Part) (number : ℕ) → BeginCertificate (before ++ part p ∷ []) → number ≡ length before + 1 → (e : Refusal) → IsPartRefused heading.evidence.tables p number e
      → IsWrongNow task before (part p) e
  part_is_wrong (tabled (row r)) number begun at e wrong = row_is_wrong task before heading reported r number begun at e wrong
  part_is_wrong (tabled (scope s)) number begun at refusal.NoMemory wrong = tt
  part_is_wrong (tabled (scope s)) number begun at _ wrong = absurd wrong
  part_is_wrong (landmark_line l) number begun at refusal.NoMemory wrong = tt
  part_is_wrong (landmark_line l) number begun at _ wrong = absurd wrong

-- ---- lines that fit

module _ (task : Task) (before : List TextLine) (header : Header) (reported : HasTaken task before header) where
  values_length : length (heading_of header).evidence.values ≡ length header.evidence.values.items
  values_length = length-map header.evidence.values.items potential_of

  pub fit_head : (line : TextLine) → AreWeighed header.evidence → BeginCertificate (before ++ line ∷ []) → IsFitHead header.evidence line
  fit_head (version v) weighed begun = tt
  fit_head (claims claim) weighed begun = tt
  fit_head (constant k) weighed begun = tt
  fit_head (swapped names) weighed begun = tt
  fit_head (atom a) weighed begun = tt
  fit_head (listed l) weighed begun = tt
  fit_head (last count) weighed begun = tt
  fit_head (part (landmark_line l)) weighed begun = tt
  fit_head (part (tabled (scope s))) weighed begun =
      let at = follows_tables before (scope s) begun in
      let n = length at.beginning.atoms in
      let (_, is) = and_parts (has_tables at.beginning.version) (is_table_line (format_in at.beginning) (scope s)) at.line_is in
      let (rises, _) = and_parts (rise n 0 s) (nat_le 1 (length s)) is in
      record {
        rising = rising_from n 0 s rises;
        few = omega (arith, rising_few n 0 s rises (omega arith), at.keeps.few_atoms);
        few_values = omega (arith, as_many_values task before (heading_of header) reported (scope s) at, few_constants at.beginning.version (length at.beginning.constants) (count_is task before (heading_of header) reported (scope s) at), values_length);
      }
  fit_head (part (tabled (row r))) weighed begun =
      let at = follows_tables before (row r) begun in
      let n = length at.beginning.atoms in
      let tables = header.evidence.tables.items in
      let many : ℕ = length at.beginning.constants in
      let (_, is) = and_parts (has_tables at.beginning.version) (is_table_line (format_in at.beginning) (row r)) at.line_is in
      let (weights, rises) = and_parts (are_weights many r.weights) (rise n 0 r.atoms) is in
      let long : length r.weights ≡ many = eqb-true (length r.weights) many (and_parts (length r.weights == many) (list_all is_weight r.weights) weights).0 in
      let lines_are = lines_of_tables task before (heading_of header) reported (row r) at in
      let counts = ap (counts_after no_parts) lines_are ∙ counts_of_tables (map table_of tables) in
      let some = ap (λ (c : PartCounts). c.tables) counts ∙ length-map tables table_of in
      let all_rows = ap (λ (c : PartCounts). c.rows) counts in
      let so_far = counts_after no_parts at.beginning.parts in
      let begun_is = ltb-true 0 so_far.tables (and_parts (nat_lt 0 so_far.tables) (so_far.zones == 0) at.follows).0 in
      let room_is = ltb-true (counts_after no_parts at.beginning.parts).rows most_rows at.room in
      let values = as_many_values task before (heading_of header) reported (row r) at in
      let same : length header.evidence.values.items + 1 ≡ length r.weights = omega (arith, values, values_length, long) in
      record {
        some = omega (arith, some, begun_is);
        rising = rising_from n 0 r.atoms rises;
        weights = λ k d below. weighed k d below ∙ same;
        room = λ k d below. omega (arith, rows_of_one tables k d below, all_rows, room_is);
      }

-- ---- weights of rows

-- a line that comes before all tables
abbrev pub is_early : TextLine → Bool
is_early (version v) = false
is_early (claims claim) = false
is_early (constant k) = true
is_early (swapped names) = false
is_early (atom a) = true
is_early (part p) = false
is_early (listed l) = false
is_early (last count) = false

none_given : (before : List TextLine) (line : TextLine) → is_early line ≡ true → BeginCertificate (before ++ line ∷ []) → tables_given (before ++ line ∷ []) ≡ []
none_given before line early begun =
    let at = placed before line begun in
    filter_map-append table_in before (line ∷ []) ∙ (λ i. by_line line early at.place at.occurs at.next at.leads i ++ alone line early i)
  where
    alone : (line : TextLine) → is_early line ≡ true → tables_given (line ∷ []) ≡ []
    alone (version v) early = refl
    alone (claims claim) early = refl
    alone (constant k) early = refl
    alone (swapped names) early = absurd (true≢false (sym early))
    alone (atom a) early = refl
    alone (part p) early = absurd (true≢false (sym early))
    alone (listed l) early = refl
    alone (last count) early = refl

    none_before : (b : Body) → IsBody b before → (a : _) (next : CertificatePlace) → next_place (in_body b) (atom a) ≡ Some next → tables_given before ≡ []
    none_before b body a next leads =
        let g : Beginning = body.beginning in
        let (holds, _) = only_where (atom_follows b && nat_lt b.format.atoms most_atoms && is_line b.format (atom a)) (in_body (atom_more b)) next leads in
        let (counts, _) = and_parts (atom_follows b && nat_lt b.format.atoms most_atoms) (is_line b.format (atom a)) holds in
        let (follows, _) = and_parts (atom_follows b) (nat_lt b.format.atoms most_atoms) counts in
        let (first, _) = and_parts (how_many b.parts == 0) (b.states == 0) follows in
        let none : how_many (counts_after no_parts g.parts) ≡ 0 = ap (λ (b : Body). how_many b.parts) body.body_is ∙ eqb-true (how_many b.parts) 0 first in
        sym (tables_among before) ∙ ap (filter_map table_line_in) (ap parts_given body.lines_are ∙ parts_of_body g.swaps g.atoms g.parts g.states ∙ none_yet g.parts none)

    by_line : (line : TextLine) → is_early line ≡ true → (place : CertificatePlace) → ComesBefore place before → (next : CertificatePlace) → next_place place line ≡ Some next → tables_given before ≡ []
    by_line (version v) early place are next leads = absurd (true≢false (sym early))
    by_line (claims claim) early place are next leads = absurd (true≢false (sym early))
    by_line (swapped names) early place are next leads = absurd (true≢false (sym early))
    by_line (part p) early place are next leads = absurd (true≢false (sym early))
    by_line (listed l) early place are next leads = absurd (true≢false (sym early))
    by_line (last count) early place are next leads = absurd (true≢false (sym early))
    by_line line early at_version are next leads = ap tables_given are
    by_line line early (at_claim v) are next leads = ap tables_given are
    by_line line early (at_constant v) (claim, is, are) next leads = ap tables_given are
    by_line (constant k) early (in_body b) body next leads = never next leads
    by_line (atom a) early (in_body b) body next leads = none_before b body a next leads
    by_line (constant k) early ended are next leads = never next leads
    by_line (atom a) early ended are next leads = never next leads

no_tables_there : (tables : List Table) → flat_map table_lines (map table_of tables) ≡ [] → tables ≡ []
no_tables_there [] none = refl
no_tables_there (t ∷ tables) none = absurd (cc none)

-- before there are tables, rows may have any number of weights
pub weighed_early : (task : Task) (before : List TextLine) (line : TextLine) (header : Header) → is_early line ≡ true → BeginCertificate (before ++ line ∷ []) → HasTaken task (before ++ line ∷ []) header
    → AreWeighed header.evidence
weighed_early task before line header early begun reported =
    let count = length header.evidence.values.items + 1 in
    subst (HaveWeights count) (sym (no_tables_there header.evidence.tables.items (reported.tables ∙ none_given before line early begun))) (All-nil (λ (t : Table). weight_count_of t ≡ count))
