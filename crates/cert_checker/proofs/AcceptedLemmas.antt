-- What is so of a text that is accepted: no line of it is at fault.
use Rattle.std.proofs.Common.{◌≡◌, ◌≢◌, ℕ, suc, ◌+◌, ◌≤◌, ◌⊎◌, inl, inr, ⊎_elim, Bool, true, true≢false, List, [], ◌∷◌, ◌++◌, codes, map, length, length-append, Option, Some, refl, sym, ap, ◌∙◌, subst, append_assoc, append-nil, arith}
use Rattle.std.specs.Prelude.{◌&&◌, nat_le, nat_lt, IsTrue, AllPairs, Contains}
use Rattle.std.specs.Fmt.{decimal}
use Rattle.std.specs.List.{filter_map, flat_map, list_all}
use Rattle.std.proofs.lemmas.Bool.{and_parts, false≢true, ltb-true}
use Rattle.std.proofs.lemmas.List.{append_cancel_left, map-append}
use Rattle.std.proofs.lemmas.List.Elements.{All-contains, Contains-append_left, Contains-append_right, Contains-append_cases, filter_map-append}
use Rattle.std.proofs.lemmas.List.Folds.{list_all-append}
use Rattle.model.specs.Task.{Atom, Task, Instance}
use Rattle.model.specs.WellTyped.{is_atom}
use Rattle.model.specs.Fluents.{is_fluent}
use Rattle.model.specs.Meaning.{State}
use Rattle.model.specs.Claims.{Claim, Allows, Line, none}
use Rattle.certificate_definitions.specs.Evidence.{expanded, bare}
use Rattle.model.proofs.ListLemmas.{Contains-cases, Contains-filter_map, Contains-here, Contains-map, Contains-none, Contains-there, map-Contains}
use Rattle.lower_bounds.specs.TableFunctions.{Row, Table, is_among}
use Rattle.certificate_definitions.specs.Certificates.{Version, one, two, three, four, Certificate, IsClosedFor, StateLine, are_weights, has_tables, is_row, is_table, rise, state_of_line}
use Rattle.certificate_definitions.specs.CertificateText.{NamedAtom, WeightedAtom, TableLine, scope, row, NamedCertificate, TextLine, version, claims, constant, swapped, atom, tabled, part, listed, last, AreWhole, BeginCertificate, HasLine, IsFaultAfter, IsOneTooMany, IsOtherVersion, other_version, malformed, too_long, trailing, cut_short, too_many, format_of, is_line, keeps_text_limits, line_text, longest_line, most_atoms, most_states, most_swaps, text_lines, text_of, version_number, whole_line}
use Rattle.certificate_definitions.specs.Parts.{Part, has_room}
use Rattle.certificate_definitions.specs.CertificateNames.{AllName, IsTextOf, Names, table_lines}
use Rattle.certificate_definitions.specs.CertificateChecking.{EndInTable, HasAtom, HasRow, IsAccepted, IsCut, IsLineFault, IsWrongAfter, IsWrongHere, is_of_scope, not_of_scope, repeated_row, not_fluent, repeated_atom, repeated_state, cut_not_allowed}
use Rattle.certificate_definitions.specs.CertificateMachine.{CertificatePlace, at_version, at_claim, at_constant, in_body, ended, swap_follows, swap_more, atom_follows, atom_more, next_place, part_follows, part_more, state_follows, state_more}
use Rattle.certificate_definitions.proofs.Beginnings.{body_lines}
use Rattle.certificate_definitions.proofs.Machine.{end_of_whole, followed, never, only_where, place_of_beginning}
use Rattle.certificate_definitions.proofs.TooMany.{IsTooManyAt, a_swap, an_atom, a_part, a_state, too_many_at}
use Rattle.certificate_reader.specs.Stages.{IsWithin}
use Rattle.certificate_reader.proofs.NumbersRead.{same_number}
use Rattle.certificate_reader.proofs.OneLine.{one_line}
use Rattle.certificate_reader.proofs.PlaceRead.{few_atoms, leads_line}
use Rattle.cert_checker.specs.Given.{atom_in, atoms_given, names_given, state_in, states_given, table_in, table_line_in, tables_given}
use Rattle.cert_checker.proofs.TableParts.{tables_among, tables_of_parts}
use Rattle.cert_checker.proofs.NamesLemmas.{one_named}
use Rattle.cert_checker.proofs.PlacedLemmas.{atoms_of_text, states_of_text, parts_of_text}
use Rattle.cert_checker.proofs.SplitLemmas.{end_within, few_atoms_kept, few_weights_kept, first_line, kept_lines, line_is_first, line_short, nothing_there, split_off, text_push, within_after}

-- ---- lists

module _ {X : Type 0} (R : X → X → Type 0) where
  first_apart : (x : X) (rest : List X) (y : X) → AllPairs R (x ∷ rest) → Contains rest y → R x y
  first_apart x rest y pairs (k, below, is) = subst (R x) is (pairs 0 (suc k) y (omega arith) (omega (arith, below)))

  -- what holds of all pairs holds of one that comes before another
  apart : (xs ys : List X) (x y : X) → AllPairs R (xs ++ y ∷ ys) → Contains xs x → R x y
  apart [] ys x y pairs there = absurd (Contains-none x there)
  apart (z ∷ xs) ys x y pairs there =
      ⊎_elim (λ same. subst (λ z. R z y) same (first_apart z (xs ++ y ∷ ys) y pairs (Contains-append_right xs (y ∷ ys) y (Contains-here y ys))))
      (λ later. apart xs ys x y (λ i j d below within. pairs (suc i) (suc j) d (omega (arith, below)) (omega (arith, within))) later) (Contains-cases z xs x there)

passes_there : {X : Type 0} (test : X → Bool) (xs : List X) (x : X) → list_all test xs ≡ true → Contains xs x → test x ≡ true
passes_there test [] x all there = absurd (Contains-none x there)
passes_there test (y ∷ xs) x all there =
    let (here, more) = and_parts (test y) (list_all test xs) all in
    ⊎_elim (λ same. ap test (sym same) ∙ here) (λ later. passes_there test xs x more later) (Contains-cases y xs x there)

-- ---- names

-- the atom that one of the names names, and those of the names before it
record IsNamedAfter (task : Task) (names : List NamedAtom) (name : NamedAtom) (atoms : List Atom) : Type 0 where
  front : List Atom
  here : Atom
  following : List Atom
  are : atoms ≡ front ++ here ∷ following
  named : AllName task names front
  is : Names task name here

named_after : (task : Task) (names more : List NamedAtom) (name : NamedAtom) (atoms : List Atom) → AllName task (names ++ name ∷ more) atoms → IsNamedAfter task names name atoms
named_after task [] more name [] are = absurd are
named_after task [] more name (a ∷ atoms) (is, are) = record { front = []; here = a; following = atoms; are = refl; named = tt; is = is }
named_after task (n ∷ names) more name [] are = absurd are
named_after task (n ∷ names) more name (a ∷ atoms) (is, are) =
    let rest = named_after task names more name atoms are in
    record {
      front = a ∷ rest.front;
      here = rest.here;
      following = rest.following;
      are = ap (λ atoms. a ∷ atoms) rest.are;
      named = (is, rest.named);
      is = rest.is;
    }

named_among : (task : Task) (names : List NamedAtom) (atoms : List Atom) (name : NamedAtom) → AllName task names atoms → Contains names name → (a : Atom) × Contains atoms a × Names task name a
named_among task [] atoms name are there = absurd (Contains-none name there)
named_among task (n ∷ names) [] name are there = absurd are
named_among task (n ∷ names) (a ∷ atoms) name (here, are) there =
    ⊎_elim (λ same. (a, Contains-here a atoms, subst (λ name. Names task name a) same here))
    (λ later. let (b, occurs, is) = named_among task names atoms name are later in (b, Contains-there a atoms b occurs, is)) (Contains-cases n names name there)

-- ---- a row and its table

-- one of the tables has this scope, and this row after those
record HasTable (tables : List Table) (atoms : List ℕ) (rows : List Row) (r : Row) : Type 0 where
  table : Table
  there : Contains tables table
  scope_is : table.scope ≡ atoms
  following : List Row
  rows_are : table.rows ≡ rows ++ r ∷ following

table_parts : (s t : TableLine) (xs ys : List TableLine) → s ∷ xs ≡ t ∷ ys → (s ≡ t) × (xs ≡ ys)
table_parts s t xs ys same = (cc same, cc same)

scope_same : (a b : List ℕ) → scope a ≡ scope b → a ≡ b
scope_same a b same = cc same

row_same : (q r : Row) → row q ≡ row r → q ≡ r
row_same q r same = cc same

-- the lines of tables begin with a scope
no_row_first : (tables : List Table) (r : Row) (more : List TableLine) → flat_map table_lines tables ≡ row r ∷ more → ⊥
no_row_first [] r more same = absurd (cc same)
no_row_first (t ∷ tables) r more same = absurd (cc (table_parts (scope t.scope) (row r) (map row t.rows ++ flat_map table_lines tables) more same).0)

-- rows that end before the next scope are those of one table
rows_there : (own rows : List Row) (tables : List Table) (r : Row) (more : List TableLine) → map row own ++ flat_map table_lines tables ≡ map row rows ++ row r ∷ more
    → (following : List Row) × (own ≡ rows ++ r ∷ following)
rows_there [] [] tables r more same = absurd (no_row_first tables r more same)
rows_there [] (p ∷ rows) tables r more same = absurd (no_row_first tables p (map row rows ++ row r ∷ more) same)
rows_there (q ∷ own) [] tables r more same =
    let here = row_same q r (table_parts (row q) (row r) (map row own ++ flat_map table_lines tables) more same).0 in
    (own, ap (λ q. q ∷ own) here)
rows_there (q ∷ own) (p ∷ rows) tables r more same =
    let (first, rest) = table_parts (row q) (row p) (map row own ++ flat_map table_lines tables) (map row rows ++ row r ∷ more) same in
    let here = row_same q p first in
    let (following, are) = rows_there own rows tables r more rest in
    (following, (λ i. here i ∷ are i))

-- a scope after a table's rows is of a later table
past_rows : (own : List Row) (rest front : List TableLine) (atoms : List ℕ) (more : List TableLine) → map row own ++ rest ≡ front ++ scope atoms ∷ more
    → (left : List TableLine) × (rest ≡ left ++ scope atoms ∷ more)
past_rows [] rest front atoms more same = (front, same)
past_rows (q ∷ own) rest [] atoms more same = absurd (cc (table_parts (row q) (scope atoms) (map row own ++ rest) more same).0)
past_rows (q ∷ own) rest (t ∷ front) atoms more same = past_rows own rest front atoms more (table_parts (row q) t (map row own ++ rest) (front ++ scope atoms ∷ more) same).1

-- the rows after a scope are those of its table
table_there : (tables : List Table) (front : List TableLine) (atoms : List ℕ) (rows : List Row) (r : Row) (more : List TableLine)
    → flat_map table_lines tables ≡ front ++ scope atoms ∷ (map row rows ++ row r ∷ more) → HasTable tables atoms rows r
table_there [] [] atoms rows r more same = absurd (cc same)
table_there [] (t ∷ front) atoms rows r more same = absurd (cc same)
table_there (t ∷ tables) [] atoms rows r more same =
    let (first, rest) = table_parts (scope t.scope) (scope atoms) (map row t.rows ++ flat_map table_lines tables) (map row rows ++ row r ∷ more) same in
    let (following, are) = rows_there t.rows rows tables r more rest in
    record { table = t; there = Contains-here t tables; scope_is = scope_same t.scope atoms first; following = following; rows_are = are }
table_there (t ∷ tables) (f ∷ front) atoms rows r more same =
    let following : List TableLine = map row rows ++ row r ∷ more in
    let rest = (table_parts (scope t.scope) f (map row t.rows ++ flat_map table_lines tables) (front ++ scope atoms ∷ following) same).1 in
    let (left, splits) = past_rows t.rows (flat_map table_lines tables) front atoms following rest in
    let at = table_there tables left atoms rows r more splits in
    record { table = at.table; there = Contains-there t tables at.table at.there; scope_is = at.scope_is; following = at.following; rows_are = at.rows_are }

tables_of_rows : (rows : List Row) → tables_given (map (λ (r : Row). part (tabled (row r))) rows) ≡ map row rows
tables_of_rows [] = refl
tables_of_rows (r ∷ rows) = ap (λ lines. row r ∷ lines) (tables_of_rows rows)

-- ---- one claim

-- a line of a text is one of the first three, or comes after them
first_three : (said : NamedCertificate) (line : TextLine) → Contains (text_lines said) line
    → ((version said.version ≡ line) ⊎ ((claims said.claim ≡ line) ⊎ (constant said.constants ≡ line))) ⊎ Contains (body_lines said.swaps said.atoms said.parts said.lines ++ last (length said.lines) ∷ []) line
first_three said line there =
    ⊎_elim (λ same. inl (inl same))
    (λ later. ⊎_elim (λ same. inl (inr (inl same))) (λ others. ⊎_elim (λ same. inl (inr (inr same))) (λ body. inr body) (Contains-cases (constant said.constants) body line others))
    (Contains-cases (claims said.claim) (constant said.constants ∷ body) line later))
    (Contains-cases (version said.version) (claims said.claim ∷ constant said.constants ∷ body) line there)
  where
    body : List TextLine
    body = body_lines said.swaps said.atoms said.parts said.lines ++ last (length said.lines) ∷ []

-- and after them only exchanges, atoms, tables, states and the end come
module _ (said : NamedCertificate) (line : TextLine) (no_swap : (names : List (List ℕ)) → swapped names ≡ line → ⊥) (no_atom : (a : WeightedAtom) → atom a ≡ line → ⊥) (no_part : (p : Part) → part p ≡ line → ⊥) (no_state : (l : StateLine) → listed l ≡ line → ⊥)
    (no_end : (count : ℕ) → last count ≡ line → ⊥) where
  not_after : Contains (body_lines said.swaps said.atoms said.parts said.lines ++ last (length said.lines) ∷ []) line → ⊥
  not_after there =
      ⊎_elim (λ body. ⊎_elim (λ front. ⊎_elim (λ first. ⊎_elim (λ among. let (names, _, is) = map-Contains swapped said.swaps line among in no_swap names is)
      (λ among. let (a, _, is) = map-Contains atom said.atoms line among in no_atom a is) (Contains-append_cases (map swapped said.swaps) (map atom said.atoms) line first))
      (λ among. let (p, _, is) = map-Contains part said.parts line among in no_part p is) (Contains-append_cases (map swapped said.swaps ++ map atom said.atoms) (map part said.parts) line front))
      (λ among. let (l, _, is) = map-Contains listed said.lines line among in no_state l is)
      (Contains-append_cases ((map swapped said.swaps ++ map atom said.atoms) ++ map part said.parts) (map listed said.lines) line body))
      (λ end. ⊎_elim (λ same. no_end (length said.lines) same) (λ nowhere. Contains-none line nowhere) (Contains-cases (last (length said.lines)) [] line end))
      (Contains-append_cases (body_lines said.swaps said.atoms said.parts said.lines) (last (length said.lines) ∷ []) line there)

claim_same : (c d : Claim) → claims c ≡ claims d → c ≡ d
claim_same c d same = cc same

claim_there : (said : NamedCertificate) (d : Claim) → Contains (text_lines said) (claims d) → said.claim ≡ d
claim_there said d there =
    ⊎_elim (λ first. ⊎_elim (λ same. absurd (cc same)) (λ second. ⊎_elim (claim_same said.claim d) (λ same. absurd (cc same)) second) first)
    (λ later. absurd (not_after said (claims d) (λ names same. absurd (cc same)) (λ a same. absurd (cc same)) (λ t same. absurd (cc same)) (λ l same. absurd (cc same)) (λ n same. absurd (cc same)) later))
    (first_three said (claims d) there)

-- ---- no line says what is wrong of the task

abbrev line_at : Task → Certificate → StateLine → Line State
line_at task c l = record { state = state_of_line task c l; cost = l.cost; mark = bare l.mark }

module _ (task : Task) (c : Certificate) (closed : IsClosedFor task c) (text : List ℕ) (is : IsTextOf task text c) where
  module _ (before after : List TextLine) where
    atom_after : (a : WeightedAtom) → text_lines is.said ≡ before ++ atom a ∷ after → IsNamedAfter task (names_given before) a.atom c.atoms
    atom_after a splits =
        named_after task (names_given before) (names_given after) a.atom c.atoms
        (subst (λ names. AllName task names c.atoms)
        (ap (map (λ (a : WeightedAtom). a.atom)) (sym (atoms_of_text is.said) ∙ ap atoms_given splits ∙ filter_map-append atom_in before (atom a ∷ after))
        ∙ map-append (λ (a : WeightedAtom). a.atom) (atoms_given before) (a ∷ atoms_given after)) is.atoms)

    is_fluent_atom : (a : WeightedAtom) → text_lines is.said ≡ before ++ atom a ∷ after → (b : Atom) × Names task a.atom b × IsTrue (is_atom task b) × IsTrue (is_fluent task b.predicate)
    is_fluent_atom a splits =
        let at = atom_after a splits in
        let among : Contains c.atoms at.here = subst (λ atoms. Contains atoms at.here) (sym at.are) (Contains-append_right at.front (at.here ∷ at.following) at.here (Contains-here at.here at.following)) in
        let (typed, changes) = and_parts (is_atom task at.here) (is_fluent task at.here.predicate)
        (All-contains (λ (a : Atom). IsTrue (is_atom task a && is_fluent task a.predicate)) c.atoms at.here closed.atoms_are_fluent among) in
        (at.here, at.is, typed, changes)

    no_repeat : (a : WeightedAtom) → text_lines is.said ≡ before ++ atom a ∷ after → HasAtom before a.atom → ⊥
    no_repeat a splits (earlier, there, same) =
        let at = atom_after a splits in
        let reported : Contains (names_given before) a.atom = subst (Contains (names_given before)) same
        (Contains-map (λ (a : WeightedAtom). a.atom) (atoms_given before) earlier (Contains-filter_map atom_in before (atom earlier) earlier there refl)) in
        let (b, among, named) = named_among task (names_given before) at.front a.atom at.named reported in
        apart (λ (a b : Atom). a ≢ b) at.front at.following b at.here (subst (AllPairs (λ (a b : Atom). a ≢ b)) at.are closed.atoms_are_distinct) among (one_named task a.atom b at.here named at.is)

    tables_said : flat_map table_lines c.tables ≡ tables_given (text_lines is.said)
    tables_said =
        sym (tables_of_parts (flat_map table_lines c.tables) c.landmarks.zones c.landmarks.values) ∙ ap (filter_map table_line_in) (sym is.parts ∙ sym (parts_of_text is.said)) ∙ tables_among (text_lines is.said)

    table_after : (r : Row) (atoms : List ℕ) (rows : List Row) → text_lines is.said ≡ before ++ part (tabled (row r)) ∷ after → EndInTable before atoms rows → HasTable c.tables atoms rows r
    table_after r atoms rows splits (front, ends) =
        let more : List TableLine = tables_given after in
        let lines : List TextLine = map (λ (r : Row). part (tabled (row r))) rows in
        let last_table : tables_given before ≡ tables_given front ++ scope atoms ∷ map row rows =
        ap tables_given ends ∙ filter_map-append table_in front (part (tabled (scope atoms)) ∷ lines) ∙ ap (λ lines. tables_given front ++ scope atoms ∷ lines) (tables_of_rows rows) in
        table_there c.tables (tables_given front) atoms rows r more
        (tables_said ∙ ap tables_given splits ∙ filter_map-append table_in before (part (tabled (row r)) ∷ after)
        ∙ ap (λ lines. lines ++ row r ∷ more) last_table ∙ append_assoc (tables_given front) (scope atoms ∷ map row rows) (row r ∷ more))

    of_scope : (r : Row) (atoms : List ℕ) (rows : List Row) → HasTable c.tables atoms rows r → is_of_scope atoms r.atoms ≡ true
    of_scope r atoms rows at =
        let count : ℕ = length c.atoms in
        let weights : ℕ = length c.values + 1 in
        let t : Table = at.table in
        let table_is = passes_there (λ t. has_tables c.version && is_table count weights t) c.tables t closed.tables_are_over_atoms at.there in
        let (_, keeps) = and_parts (has_tables c.version) (is_table count weights t) table_is in
        let (_, rows_are) = and_parts (rise count 0 t.scope && nat_le 1 (length t.scope)) (list_all (is_row count weights t.scope) t.rows) keeps in
        let among : Contains t.rows r = subst (λ rows. Contains rows r) (sym at.rows_are) (Contains-append_right rows (r ∷ at.following) r (Contains-here r at.following)) in
        let row_is = passes_there (is_row count weights t.scope) t.rows r rows_are among in
        let (_, of_table) = and_parts (are_weights weights r.weights && rise count 0 r.atoms) (list_all (is_among t.scope) r.atoms) row_is in
        subst (λ atoms. is_of_scope atoms r.atoms ≡ true) at.scope_is of_table

    no_row_twice : (r : Row) (atoms : List ℕ) (rows : List Row) → HasTable c.tables atoms rows r → HasRow rows r.atoms → ⊥
    no_row_twice r atoms rows at (q, among, same) =
        let distinct : AllPairs (λ (q r : Row). q.atoms ≢ r.atoms) at.table.rows =
        All-contains (λ (t : Table). AllPairs (λ (q r : Row). q.atoms ≢ r.atoms) t.rows) c.tables at.table closed.rows_are_distinct at.there in
        apart (λ (q r : Row). q.atoms ≢ r.atoms) rows at.following q r (subst (AllPairs (λ (q r : Row). q.atoms ≢ r.atoms)) at.rows_are distinct) among same

    lines_after : (l : StateLine) → text_lines is.said ≡ before ++ listed l ∷ after → c.lines ≡ states_given before ++ l ∷ states_given after
    lines_after l splits = sym is.lines ∙ sym (states_of_text is.said) ∙ ap states_given splits ∙ filter_map-append state_in before (listed l ∷ after)

    no_state_twice : (l k : StateLine) → text_lines is.said ≡ before ++ listed l ∷ after → Contains before (listed k) → k.atoms ≡ l.atoms → ⊥
    no_state_twice l k splits there same =
        apart (λ (k l : Line State). k.state ≢ l.state) (map (line_at task c) (states_given before)) (map (line_at task c) (states_given after)) (line_at task c k) (line_at task c l)
        (subst (AllPairs (λ (k l : Line State). k.state ≢ l.state))
        (ap (map (line_at task c)) (lines_after l splits) ∙ map-append (line_at task c) (states_given before) (l ∷ states_given after)) closed.states_are_distinct)
        (Contains-map (line_at task c) (states_given before) k (Contains-filter_map state_in before (listed k) k there refl))
        (ap (λ (numbers : List ℕ). state_of_line task c (record { cost = 0; mark = expanded; atoms = numbers })) same)

    no_cut : (l : StateLine) → text_lines is.said ≡ before ++ listed l ∷ after → IsCut l.mark → Contains before (claims none) → ⊥
    no_cut l splits (basis, rest, cut_is) there =
        let is_none : c.claim ≡ none = sym is.claim
        ∙ claim_there is.said none (subst (λ lines. Contains lines (claims none)) (sym splits) (Contains-append_left before (listed l ∷ after) (claims none) there)) in
        let among : Contains c.lines l = subst (λ lines. Contains lines l) (sym (lines_after l splits)) (Contains-append_right (states_given before) (l ∷ states_given after) l (Contains-here l (states_given after))) in
        let allowed = closed.listing_is_closed.cuts_allowed (line_at task c l) rest (Contains-map (line_at task c) c.lines l among) (ap bare cut_is) in
        subst (λ claim. Allows claim (l.cost + rest)) is_none allowed

    not_wrong : (line : TextLine) (number : ℕ) → text_lines is.said ≡ before ++ line ∷ after → IsWrongAfter task before line number → ⊥
    not_wrong line number splits (not_of_scope r atoms rows ends other) = false≢true (sym other ∙ of_scope r atoms rows (table_after r atoms rows splits ends))
    not_wrong line number splits (repeated_row r atoms rows ends of_table twice) = no_row_twice r atoms rows (table_after r atoms rows splits ends) twice
    not_wrong line number splits (not_fluent a none_is) = none_is (is_fluent_atom a splits)
    not_wrong line number splits (repeated_atom a named there) = no_repeat a splits there
    not_wrong line number splits (repeated_state l (k, there, same)) = no_state_twice l k splits there same
    not_wrong line number splits (cut_not_allowed l first cut there) = no_cut l splits cut there

-- ---- no line is at fault

no_line : (bytes line : List ℕ) → bytes ≡ [] → HasLine bytes line → ⊥
no_line bytes line nothing (following, splits, single, few) = nothing_there line following (sym nothing ∙ splits ∙ append_assoc line (10 ∷ []) following)

nothing_after : (line : TextLine) (next : CertificatePlace) → next_place ended line ≡ Some next → ⊥
nothing_after (version v) next leads = never next leads
nothing_after (claims claim) next leads = never next leads
nothing_after (constant k) next leads = never next leads
nothing_after (swapped names) next leads = never next leads
nothing_after (atom a) next leads = never next leads
nothing_after (part p) next leads = never next leads
nothing_after (listed l) next leads = never next leads
nothing_after (last count) next leads = never next leads

-- a line that leads on is within the limits
within_limits : (place next : CertificatePlace) (line : TextLine) → IsWithin place → next_place place line ≡ Some next → IsTooManyAt place (line_text line) → ⊥
within_limits (in_body b) next line within leads (a_swap names no_atom none_yet empty full is same) =
    let here : line ≡ swapped names = one_line b.format (few_atoms (in_body b) within) line (swapped names) (leads_line (in_body b) within line next leads) is same in
    let leads_on : next_place (in_body b) (swapped names) ≡ Some next = subst (λ line. next_place (in_body b) line ≡ Some next) here leads in
    let (holds, _) = only_where (swap_follows b && nat_lt b.swaps most_swaps && is_line b.format (swapped names)) (in_body (swap_more b)) next leads_on in
    let (counts, _) = and_parts (swap_follows b && nat_lt b.swaps most_swaps) (is_line b.format (swapped names)) holds in
    omega (arith, full, ltb-true b.swaps most_swaps (and_parts (swap_follows b) (nat_lt b.swaps most_swaps) counts).1)
within_limits (in_body b) next line within leads (an_atom a none_yet empty full is same) =
    let here : line ≡ atom a = one_line b.format (few_atoms (in_body b) within) line (atom a) (leads_line (in_body b) within line next leads) is same in
    let leads_on : next_place (in_body b) (atom a) ≡ Some next = subst (λ line. next_place (in_body b) line ≡ Some next) here leads in
    let (holds, _) = only_where (atom_follows b && nat_lt b.format.atoms most_atoms && is_line b.format (atom a)) (in_body (atom_more b)) next leads_on in
    let (counts, _) = and_parts (atom_follows b && nat_lt b.format.atoms most_atoms) (is_line b.format (atom a)) holds in
    omega (arith, full, ltb-true b.format.atoms most_atoms (and_parts (atom_follows b) (nat_lt b.format.atoms most_atoms) counts).1)
within_limits (in_body b) next line within leads (a_part p empty follows full is same) =
    let here : line ≡ part p = one_line b.format (few_atoms (in_body b) within) line (part p) (leads_line (in_body b) within line next leads) is same in
    let leads_on : next_place (in_body b) (part p) ≡ Some next = subst (λ line. next_place (in_body b) line ≡ Some next) here leads in
    let (holds, _) = only_where (part_follows p b && has_room b.parts p && is_line b.format (part p)) (in_body (part_more p b)) next leads_on in
    let (counts, _) = and_parts (part_follows p b && has_room b.parts p) (is_line b.format (part p)) holds in
    absurd (true≢false (sym (and_parts (part_follows p b) (has_room b.parts p) counts).1 ∙ full))
within_limits (in_body b) next line within leads (a_state l full based is same) =
    let here : line ≡ listed l = one_line b.format (few_atoms (in_body b) within) line (listed l) (leads_line (in_body b) within line next leads) is same in
    let leads_on : next_place (in_body b) (listed l) ≡ Some next = subst (λ line. next_place (in_body b) line ≡ Some next) here leads in
    let (holds, _) = only_where (state_follows l b && nat_lt b.states most_states && is_line b.format (listed l)) (in_body (state_more b)) next leads_on in
    let (counts, _) = and_parts (state_follows l b && nat_lt b.states most_states) (is_line b.format (listed l)) holds in
    omega (arith, full, ltb-true b.states most_states (and_parts (state_follows l b) (nat_lt b.states most_states) counts).1)
within_limits at_version next line within leads over = over
within_limits (at_claim v) next line within leads over = over
within_limits (at_constant v) next line within leads over = over
within_limits ended next line within leads over = over

first_same : (a b : TextLine) (xs ys : List TextLine) → a ∷ xs ≡ b ∷ ys → a ≡ b
first_same a b xs ys same = cc same

module _ (said : NamedCertificate) (keeps : IsTrue (keeps_text_limits said)) (before : List TextLine) where
  -- after the last line nothing is at fault
  no_fault_at_end : text_lines said ≡ before ++ [] → (bytes : List ℕ) → bytes ≡ [] → (number : ℕ) → IsFaultAfter before bytes number → ⊥
  no_fault_at_end splits bytes nothing number (other_version line has is) = no_line bytes line nothing has
  no_fault_at_end splits bytes nothing number (malformed line has nowhere this few) = no_line bytes line nothing has
  no_fault_at_end splits bytes nothing number (too_long front rest are long single) =
      omega (arith, long, length-append front rest, ap length (sym are ∙ nothing))
  no_fault_at_end splits bytes nothing number (trailing whole some) = some nothing
  no_fault_at_end splits bytes nothing number (cut_short not_whole single few) = not_whole (said, keeps, splits ∙ append-nil before)
  no_fault_at_end splits bytes nothing number (too_many line has over) = no_line bytes line nothing has

  -- and where a line follows, it is the one that may
  module _ (l : TextLine) (more : List TextLine) (splits : text_lines said ≡ before ++ l ∷ more) where
    begun : BeginCertificate (before ++ l ∷ [])
    begun = (more, (said, keeps, splits ∙ sym (append_assoc before (l ∷ []) more)))

    begun_before : BeginCertificate before
    begun_before = (l ∷ more, (said, keeps, splits))

    keeps_here : IsTrue (is_line (format_of said) l)
    keeps_here =
        let test : TextLine → Bool = is_line (format_of said) in
        let all = sym (list_all-append test before (l ∷ more)) ∙ ap (list_all test) (sym splits) ∙ kept_lines said keeps in
        (and_parts (test l) (list_all test more) (and_parts (list_all test before) (list_all test (l ∷ more)) all).1).0

    line_is : (bytes line : List ℕ) → bytes ≡ text_of (l ∷ more) → HasLine bytes line → line_text l ≡ line
    line_is bytes line are has = line_is_first (format_of said) (few_atoms_kept said keeps) bytes line l more keeps_here are has

    -- the lines after the first
    abbrev after_version : List TextLine
    after_version = claims said.claim ∷ constant said.constants ∷ body_lines said.swaps said.atoms said.parts said.lines ++ last (length said.lines) ∷ []

    this_version : IsOtherVersion before (line_text l) → ⊥
    this_version (empty, n, is, not_one, not_two, not_three, not_four, same) =
        let here : version said.version ≡ l = first_same (version said.version) l after_version more (splits ∙ ap (λ lines. lines ++ l ∷ more) empty) in
        by_version said.version (append_cancel_left (codes "pddl-cert ") (decimal (version_number said.version)) (decimal n) (ap line_text here ∙ same))
      where
        by_version : (v : Version) → decimal (version_number v) ≡ decimal n → ⊥
        by_version one digits = not_one (same_number n 1 is refl (sym digits))
        by_version two digits = not_two (same_number n 2 is refl (sym digits))
        by_version three digits = not_three (same_number n 3 is refl (sym digits))
        by_version four digits = not_four (same_number n 4 is refl (sym digits))

    not_too_many : IsOneTooMany before (line_text l) → ⊥
    not_too_many over =
        let (place, at) = place_of_beginning before begun_before in
        let (next, leads) = followed before place at l begun in
        within_limits place next l (within_after before place at) leads (too_many_at before place at (line_text l) over)

    not_whole_yet : AreWhole before → ⊥
    not_whole_yet whole =
        let (next, leads) = followed before ended (end_of_whole before whole) l begun in
        nothing_after l next leads

    no_fault_at_line : (bytes : List ℕ) → bytes ≡ text_of (l ∷ more) → (number : ℕ) → IsFaultAfter before bytes number → ⊥
    no_fault_at_line bytes are number (other_version line has is) = this_version (subst (IsOtherVersion before) (sym (line_is bytes line are has)) is)
    no_fault_at_line bytes are number (malformed line has nowhere this few) = nowhere (l, begun, line_is bytes line are has)
    no_fault_at_line bytes are number (too_long front rest splits long single) =
        let short : length (line_text l) ≤ longest_line = line_short (format_of said) (few_atoms_kept said keeps) (few_weights_kept said keeps) l keeps_here in
        single (end_within front rest (line_text l) (text_of more) (sym splits ∙ are ∙ first_line l more) (omega (arith, long, short)))
    no_fault_at_line bytes are number (trailing whole some) = not_whole_yet whole
    no_fault_at_line bytes are number (cut_short not_whole single few) =
        single (subst (λ bytes. Contains bytes 10) (sym (are ∙ first_line l more)) (Contains-append_right (line_text l) (10 ∷ text_of more) 10 (Contains-here 10 (text_of more))))
    no_fault_at_line bytes are number (too_many line has over) = not_too_many (subst (IsOneTooMany before) (sym (line_is bytes line are has)) over)

  no_text_fault : (rest : List TextLine) → text_lines said ≡ before ++ rest → (bytes : List ℕ) → bytes ≡ text_of rest → (number : ℕ) → IsFaultAfter before bytes number → ⊥
  no_text_fault [] splits = no_fault_at_end splits
  no_text_fault (l ∷ more) splits = no_fault_at_line l more splits

-- no line of a text that is accepted is at fault
pub accepted_has_no_fault : (task : Task) (text : List ℕ) (plan : Option (List Instance)) → IsAccepted task text plan → (number line : ℕ) → IsLineFault task text number line → ⊥
accepted_has_no_fault task text plan accepted number line fault =
    ⊎_elim (no_text_fault said keeps fault.before left.0 left.1 fault.bytes left.2 number) no_wrong fault.at_fault
  where
    said : NamedCertificate
    said = accepted.is_text.said

    keeps : IsTrue (keeps_text_limits said)
    keeps = accepted.is_text.text.within

    left : (rest : List TextLine) × (text_lines said ≡ fault.before ++ rest) × (fault.bytes ≡ text_of rest)
    left = split_off said keeps fault.before fault.bytes fault.begins (sym accepted.is_text.text.lines ∙ fault.splits)

    no_wrong : IsWrongHere task fault.before fault.bytes number → ⊥
    no_wrong (wrong, more, are, begun, is_wrong) =
        let joined : text_of fault.before ++ fault.bytes ≡ text_of (fault.before ++ wrong ∷ []) ++ more =
        ap (λ bytes. text_of fault.before ++ bytes) are ∙ sym (append_assoc (text_of fault.before) (whole_line wrong) more) ∙ ap (λ text. text ++ more) (sym (text_push fault.before wrong)) in
        let (rest, splits, _) = split_off said keeps (fault.before ++ wrong ∷ []) more begun (sym accepted.is_text.text.lines ∙ fault.splits ∙ joined) in
        not_wrong task accepted.certificate accepted.closed text accepted.is_text fault.before rest wrong number
        (splits ∙ append_assoc fault.before (wrong ∷ []) rest) is_wrong
