-- A line is parsed by its first word and what follows it.
use Rattle.std.proofs.Common.{◌≡◌, ℕ, ◌+◌, true, false, not, List, [], ◌∷◌, codes, map, arith, Option, None, Some, refl, sym, ap, ◌∙◌, subst}
use Rattle.std.specs.Prelude.{◌≢◌, ◌&&◌, ◌==◌, ◌≤◌, ℤ, length, nat_le, is_some, Result, Ok, Err, IsTrue}
use Rattle.std.specs.List.{list_all}
use Rattle.std.proofs.lemmas.Bool.{and_parts, eqb-true, leb-true}
use Rattle.std.specs.Borrow.{Bor}
use Rattle.std.specs.Fmt.{decimal}
use Rattle.std.specs.Str.{bytes_eq}
use Rattle.std.proofs.lemmas.Slice.Eq.{bytes_eq-Decides}
use Rattle.certificate_definitions.specs.Certificates.{Version, one, two, three, four, is_number, is_mark, is_weight, are_weights, has_exchanges, has_landmarks, has_tables, rise}
use Rattle.lower_bounds.specs.LandmarkLines.{Share, zone, value, is_share, is_zone, is_value, most_zones}
use Rattle.lower_bounds.specs.TableFunctions.{is_among}
use Rattle.certificate_definitions.specs.Evidence.{of_all, dead}
use Rattle.model.specs.PlanWriting.{is_lower_name}
use Rattle.certificate_reader.specs.declared.line.CertLine.{CertLine}
use Rattle.certificate_reader.specs.declared.line.Version as code
use Rattle.certificate_reader.specs.declared.line.Version.TheVariants.{One, Two, Three, Four}
use Rattle.certificate_reader.specs.Lines.{text_line_of, version_of}
use Rattle.certificate_definitions.specs.CertificateText.{WeightedAtom, scope, row, tabled, landmark_line, Part, is_part, Format, TextLine, version, claims, constant, swapped, atom, part, listed, last, are_exchanged, are_paired, differ, is_weight_count, is_line, line_text, longest_line, version_number}
use Rattle.certificate_reader.specs.declared.fault.NextFault.{NextFault}
use Rattle.certificate_reader.specs.declared.fault.NextFault.TheVariants.{Text, NoMemory}
use Rattle.certificate_reader.specs.declared.fault.TextFault.TheVariants as fault
use Rattle.certificate_reader.specs.Parsing.{IsParsed, IsParsedAfter}
use Rattle.certificate_reader.specs.Words.{IsFirstWord, IsReadAs, atom_rest, numbers_then, shares_then, then_negated, then_numbers, then_weights, then_words, line_head, line_rest, part_rest, text_in, with_rest}
use Rattle.certificate_reader.proofs.LandmarksRead.{value_within}
use Rattle.certificate_reader.proofs.WordLemmas.{one_first}
use Rattle.certificate_reader.proofs.LineLemmas.{head_is_word, line_splits, some_same}
use Rattle.certificate_reader.proofs.LinesRead.{is_no_mark, is_no_part, no_atom, unlike}
use Rattle.certificate_reader.proofs.NumbersRead.{version_is_number}

-- ---- the first line

pub is_version : (rest : List ℕ) (number : ℕ) (w : Version) → number ≡ version_number w → decimal number ≡ rest
    → (f : Format) → IsReadAs (codes "pddl-cert") rest f (version w)
is_version rest number w is same f = record { head = refl; following = ap (λ n. Some (decimal n)) (sym is) ∙ ap Some same; within = refl }

pub no_version : (rest : List ℕ) → ((n : ℕ) → IsTrue (is_number n) → decimal n ≡ rest → ⊥)
    → (f : Format) (line : TextLine) → IsReadAs (codes "pddl-cert") rest f line → ⊥
no_version rest never f (version w) read = never (version_number w) (version_is_number w) (some_same (decimal (version_number w)) rest read.following)
no_version rest never f (claims claim) read = unlike (codes "claim") (codes "pddl-cert") refl read.head
no_version rest never f (constant k) read = unlike (codes "constant") (codes "pddl-cert") refl read.head
no_version rest never f (swapped names) read = unlike (codes "swap") (codes "pddl-cert") refl read.head
no_version rest never f (atom a) read = unlike (codes "atom") (codes "pddl-cert") refl read.head
no_version rest never f (part p) read = is_no_part (codes "pddl-cert") refl p read.head
no_version rest never f (listed l) read = is_no_mark (codes "pddl-cert") refl l.mark read.head
no_version rest never f (last n) read = unlike (codes "end") (codes "pddl-cert") refl read.head

-- a version that is not 1 has dead ends
pub has_dead_ends : (version : code.Version) → version ≢ One → IsTrue (is_mark (version_of version) (dead of_all))
has_dead_ends One other = absurd (other refl)
has_dead_ends Two other = refl
has_dead_ends Three other = refl
has_dead_ends Four other = refl

-- ---- invalid lines

-- what follows a word is not a valid line, and the word is not that of the first line
pub malformed : (word rest : List ℕ) (f : Format) → bytes_eq word (codes "pddl-cert") ≡ false
    → ((line : TextLine) → IsReadAs word rest f line → ⊥) → IsParsedAfter word rest f (Err (Text fault.Form))
malformed word rest f other never = (never, λ same n is reported. unlike word (codes "pddl-cert") other same)

-- something follows
pub may_continue : (following : Option (Bor (List ℕ))) → is_some following ≡ true → (bytes : List ℕ) × (text_in following ≡ Some bytes)
may_continue None some = absurd (cc some)
may_continue (Some bytes) some = (bytes.now, refl)

-- ---- the line of an atom

pub malformed_atom : (rest : List ℕ) (f : Format) → ((a : WeightedAtom) → IsReadAs (codes "atom") rest f (atom a) → ⊥) → IsParsedAfter (codes "atom") rest f (Err (Text fault.Form))
malformed_atom rest f never = malformed (codes "atom") rest f refl (no_atom rest f never)

-- ---- any line

-- what is reported for a word and its rest is reported for their bytes
pub parsed_as : (word own rest : List ℕ) (f : Format) (r : Result CertLine NextFault) → bytes_eq word own ≡ true
    → IsParsedAfter own rest f r → IsParsedAfter word rest f r
parsed_as word own rest f r is reported = subst (λ word. IsParsedAfter word rest f r) (sym ((bytes_eq-Decides word own).0 is)) reported

-- what is reported for a word and its rest is reported for the bytes that consist of them
whole : (bytes word rest : List ℕ) (f : Format) → IsFirstWord bytes word (Some rest) → (r : Result CertLine NextFault) → IsParsedAfter word rest f r → IsParsed bytes f r
whole bytes word rest f first (Ok line) read =
    (line_splits (text_line_of line) ∙ (λ i. with_rest (read.head i) (read.following i)) ∙ sym first.splits, read.within)
whole bytes word rest f first (Err (Text fault.Version)) (head, (n, is, not_one, not_two, not_three, not_four, same)) =
    (n, is, not_one, not_two, not_three, not_four, (λ i. with_rest (sym head i) (Some (same i))) ∙ sym first.splits)
whole bytes word rest f first (Err (Text fault.Form)) (never, other) = (
  λ line within same.
      let both = one_first (line_head line) word (line_rest line) (Some rest) (head_is_word line) first.is_word (sym (line_splits line) ∙ same ∙ first.splits) in
      never line (record { head = both.0; following = both.1; within = within }),
  λ n is same.
      let both = one_first (codes "pddl-cert") word (Some (decimal n)) (Some rest) refl first.is_word (same ∙ first.splits) in
      other (sym both.0) n is (some_same (decimal n) rest both.1),
)
whole bytes word rest f first (Err NoMemory) reported = tt
whole bytes word rest f first _ reported = reported

pub parsed_whole : (bytes word : List ℕ) (following : Option (Bor (List ℕ))) (rest : Bor (List ℕ)) (f : Format) (r : Result CertLine NextFault)
    → IsFirstWord bytes word (text_in following) → following ≡ Some rest → IsParsedAfter word rest.now f r → IsParsed bytes f r
parsed_whole bytes word following rest f r first is reported =
    whole bytes word rest.now f (subst (λ following. IsFirstWord bytes word (text_in following)) is first) r reported

-- ---- a single word

weights_then : (weights : List ℤ) (rest : List ℕ) → then_weights weights (Some rest) ≡ None → ⊥
weights_then [] rest none = absurd (cc none)
weights_then (w ∷ weights) rest none = absurd (cc none)

some_weights : (weights : List ℤ) (others : Option (List ℕ)) → 1 ≤ length weights → then_weights weights others ≡ None → ⊥
some_weights [] others some none = absurd (omega (arith, some))
some_weights (w ∷ weights) others some none = absurd (cc none)

some_numbers : (numbers : List ℕ) → 1 ≤ length numbers → then_numbers numbers ≡ None → ⊥
some_numbers [] some none = absurd (omega (arith, some))
some_numbers (n ∷ numbers) some none = absurd (cc none)

some_names : (names : List (List ℕ)) → 2 ≤ length names → then_words names None ≡ None → ⊥
some_names [] some none = absurd (omega (arith, some))
some_names (name ∷ names) some none = absurd (cc none)

some_literals : (atoms negated : List ℕ) → 1 ≤ length atoms + length negated → numbers_then atoms (then_negated negated) ≡ None → ⊥
some_literals [] [] some none = absurd (omega (arith, some))
some_literals [] (n ∷ negated) some none = absurd (cc none)
some_literals (n ∷ atoms) negated some none = absurd (cc none)

some_shares : (shares : List Share) → 1 ≤ length shares → shares_then shares None ≡ None → ⊥
some_shares [] some none = absurd (omega (arith, some))
some_shares (s ∷ shares) some none = absurd (cc none)

constants_count : (v : Version) (n : ℕ) → is_weight_count v n ≡ true → 1 ≤ n
constants_count one n is = omega (arith, eqb-true n 1 is)
constants_count two n is = omega (arith, eqb-true n 2 is)
constants_count three n is = omega (arith, leb-true 2 n (and_parts (nat_le 2 n) (nat_le n 33) is).0)
constants_count four n is = omega (arith, leb-true 2 n (and_parts (nat_le 2 n) (nat_le n 33) is).0)

part_has_rest : (f : Format) → 1 ≤ f.weights → (p : Part) → IsTrue (is_part f p) → part_rest p ≡ None → ⊥
part_has_rest f some (tabled (scope s)) is none =
    some_numbers s (leb-true 1 (length s) (and_parts (rise f.atoms 0 s) (nat_le 1 (length s)) (and_parts (has_tables f.version) (rise f.atoms 0 s && nat_le 1 (length s)) is).1).1) none
part_has_rest f some (tabled (row r)) is none =
    let weights = (and_parts (are_weights f.weights r.weights) (rise f.atoms 0 r.atoms) (and_parts (has_tables f.version) (are_weights f.weights r.weights && rise f.atoms 0 r.atoms) is).1).0 in
    let count = eqb-true (length r.weights) f.weights (and_parts (length r.weights == f.weights) (list_all is_weight r.weights) weights).0 in
    some_weights r.weights (then_numbers r.atoms) (omega (arith, some, count)) none
part_has_rest f some (landmark_line (zone z)) is none =
    let literals = (and_parts (rise f.atoms 0 z.atoms && rise f.atoms 0 z.negated) (nat_le 1 (length z.atoms + length z.negated)) (and_parts (rise f.atoms 0 z.atoms && rise f.atoms 0 z.negated && nat_le 1 (length z.atoms + length z.negated)) (list_all (λ number. not (is_among z.atoms number)) z.negated) (and_parts (has_landmarks f.version) (is_zone f.atoms z) is).1).0).1 in
    some_literals z.atoms z.negated (leb-true 1 (length z.atoms + length z.negated) literals) none
part_has_rest f some (landmark_line (value shares)) is none =
    let front = (and_parts (rise most_zones 0 (map (λ (s : Share). s.zone) shares) && nat_le 1 (length shares)) (list_all is_share shares) (value_within f shares is).1).0 in
    some_shares shares (leb-true 1 (length shares) (and_parts (rise most_zones 0 (map (λ (s : Share). s.zone) shares)) (nat_le 1 (length shares)) front).1) none

-- each line has another word after its first one
has_rest : (f : Format) → 1 ≤ f.weights → (line : TextLine) → IsTrue (is_line f line) → line_rest line ≡ None → ⊥
has_rest f some (version v) is none = absurd (cc none)
has_rest f some (claims claim) is none = absurd (cc none)
has_rest f some (constant k) is none =
    some_weights k None (constants_count f.version (length k) (and_parts (is_weight_count f.version (length k)) (list_all is_weight k) is).0) none
has_rest f some (swapped names) is none =
    some_names names (leb-true 2 (length names) (and_parts (nat_le 2 (length names)) (are_paired names) (and_parts (nat_le 2 (length names) && are_paired names) (differ names)
    (and_parts (nat_le 2 (length names) && are_paired names && differ names) (list_all is_lower_name names)
    (and_parts (has_exchanges f.version) (are_exchanged names) (and_parts (has_exchanges f.version && are_exchanged names) (nat_le (length (line_text (swapped names))) longest_line) is).0).1).0).0).0) none
has_rest f some (atom a) is none = weights_then a.weights (atom_rest a.atom) none
has_rest f some (part p) is none = part_has_rest f some p is none
has_rest f some (listed l) is none = absurd (cc none)
has_rest f some (last n) is none = absurd (cc none)

pub no_line_of_a_word : (bytes word : List ℕ) (following : Option (List ℕ)) (f : Format) → 1 ≤ f.weights → IsFirstWord bytes word following → following ≡ None
    → IsParsed bytes f (Err (Text fault.Form))
no_line_of_a_word bytes word following f some first alone = (
  λ line is same.
      has_rest f some line is
      ((one_first (line_head line) word (line_rest line) following (head_is_word line) first.is_word (sym (line_splits line) ∙ same ∙ first.splits)).1 ∙ alone),
  λ n is same. absurd (cc ((one_first (codes "pddl-cert") word (Some (decimal n)) following refl first.is_word (same ∙ first.splits)).1 ∙ alone)),
)
