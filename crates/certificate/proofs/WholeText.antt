-- The text of a certificate in six parts: the first lines, the exchanges, the atoms, the parts, the states and the last line.
use Rattle.std.proofs.Common.{refl, ◌≡◌, ℕ, List, [], ◌∷◌, ◌++◌, length, map, Option, sym, ap, ◌∙◌, subst, append_assoc, append-nil}
use Rattle.std.specs.Io.KnownBytes.{Appends}
use Rattle.std.specs.List.{flat_map}
use Rattle.std.specs.Prelude.{ℤ, Result, Ok, Err, OnOk}
use Rattle.std.proofs.lemmas.Grind.{flat_map-append}
use Rattle.std.proofs.lemmas.List.Folds.{flat_map-map}
use Rattle.devices.specs.Devices.{AppendsBeginning}
use Rattle.model.specs.Task.{Task}
use Rattle.model.specs.Claims.{Claim}
use Rattle.lower_bounds.specs.TableFunctions.{Table}
use Rattle.certificate_definitions.specs.Certificates.{Version, Certificate, several_of}
use Rattle.lower_bounds.specs.LandmarkLines as marks
use Rattle.lower_bounds.specs.LandmarkLines.{LandmarkLine, NumberedLandmarks, lines_of}
use Rattle.certificate_definitions.specs.CertificateText.{TableLine, tabled, landmark_line, part, row, atom, claims, constant, last, listed, swapped, version, whole_line}
use Rattle.certificate_definitions.specs.CertificateNames.{certificate_text, constants_of, named_exchange, parts_of, table_lines}
use Rattle.certificate.specs.Evidence.{parts_text}
use Rattle.certificate.specs.Gathering.{IsPassedOn, atom_line, atoms_weighed, landmarks_text, scope_line, state_line, swap_line, table_text}
use Rattle.certificate.proofs.GatheringLemmas.{passed_nothing, passed_held, passed_then, passed_partly, passed_beginning, passed_all}

-- ---- the parts

abbrev pub head : Version → Claim → List ℤ → List ℕ
head v claim k = whole_line (version v) ++ whole_line (claims claim) ++ whole_line (constant k)

abbrev pub head_of : Certificate → List ℕ
head_of c = head c.version c.claim (constants_of c)

abbrev pub exchanges_text : Task → Certificate → List ℕ
exchanges_text task c = flat_map (swap_line task) c.exchanges

abbrev pub atoms_text : Task → Certificate → List ℕ
atoms_text task c = flat_map atom_line (atoms_weighed task c)

abbrev pub states_text : Certificate → List ℕ
states_text c = flat_map state_line c.lines

abbrev pub last_text : Certificate → List ℕ
last_text c = whole_line (last (length c.lines))

-- the text up to the last exchange, to the last atom, to the last part, and to the last state
abbrev pub to_exchanges : Task → Certificate → List ℕ
to_exchanges task c = head_of c ++ exchanges_text task c

abbrev pub to_atoms : Task → Certificate → List ℕ
to_atoms task c = to_exchanges task c ++ atoms_text task c

abbrev pub to_parts : Task → Certificate → List ℕ
to_parts task c = to_atoms task c ++ parts_text (several_of c) c.landmarks

abbrev pub to_states : Task → Certificate → List ℕ
to_states task c = to_parts task c ++ states_text c

-- the lines of tables
abbrev table_line : TableLine → List ℕ
table_line l = whole_line (part (tabled l))

of_tables : (tables : List Table) → flat_map table_line (flat_map table_lines tables) ≡ flat_map table_text tables
of_tables [] = refl
of_tables (t ∷ tables) =
    flat_map-append table_line (table_lines t) (flat_map table_lines tables)
    ∙ (λ i. (scope_line t.scope ++ flat_map-map table_line (λ r. row r) t.rows i) ++ of_tables tables i)

-- the lines of zones, and those of landmark values
abbrev landmark_text : LandmarkLine → List ℕ
landmark_text l = whole_line (part (landmark_line l))

of_landmarks : (l : NumberedLandmarks) → flat_map landmark_text (lines_of l) ≡ landmarks_text l
of_landmarks l =
    flat_map-append landmark_text (map (λ z. marks.zone z) l.zones) (map (λ s. marks.value s) l.values)
    ∙ (λ i. flat_map-map landmark_text (λ z. marks.zone z) l.zones i ++ flat_map-map landmark_text (λ s. marks.value s) l.values i)

-- the lines of all parts
of_parts : (tables : List Table) (l : NumberedLandmarks)
    → flat_map (λ p. whole_line (part p)) (map (λ (t : TableLine). tabled t) (flat_map table_lines tables) ++ map (λ (k : LandmarkLine). landmark_line k) (lines_of l))
    ≡ flat_map table_text tables ++ landmarks_text l
of_parts tables l =
    flat_map-append (λ p. whole_line (part p)) (map (λ (t : TableLine). tabled t) (flat_map table_lines tables)) (map (λ (k : LandmarkLine). landmark_line k) (lines_of l))
    ∙ (λ i. flat_map-map (λ p. whole_line (part p)) (λ (t : TableLine). tabled t) (flat_map table_lines tables) i ++ flat_map-map (λ p. whole_line (part p)) (λ (k : LandmarkLine). landmark_line k) (lines_of l) i)
    ∙ (λ i. of_tables tables i ++ of_landmarks l i)

-- ---- the parts one after another

module _ (task : Task) (c : Certificate) where
  pub by_states : certificate_text task c ≡ to_states task c ++ last_text c
  by_states =
      let names = map (named_exchange task) c.exchanges in
      let swaps = map (λ n. swapped n) names in
      let atoms = map (λ a. atom a) (atoms_weighed task c) in
      let parts = map (λ p. part p) (parts_of c) in
      let states = map (λ l. listed l) c.lines in
      let end = last (length c.lines) ∷ [] in
      let swaps_are : flat_map whole_line swaps ≡ exchanges_text task c =
      flat_map-map whole_line (λ n. swapped n) names ∙ flat_map-map (λ n. whole_line (swapped n)) (named_exchange task) c.exchanges in
      let atoms_are : flat_map whole_line atoms ≡ atoms_text task c = flat_map-map whole_line (λ a. atom a) (atoms_weighed task c) in
      let parts_are : flat_map whole_line parts ≡ parts_text (several_of c) c.landmarks =
      flat_map-map whole_line (λ p. part p) (parts_of c) ∙ of_parts c.tables c.landmarks in
      let states_are : flat_map whole_line states ≡ states_text c = flat_map-map whole_line (λ l. listed l) c.lines in
      let body : flat_map whole_line ((((swaps ++ atoms) ++ parts) ++ states) ++ end) ≡ (((exchanges_text task c ++ atoms_text task c) ++ parts_text (several_of c) c.landmarks) ++ states_text c) ++ last_text c =
      flat_map-append whole_line (((swaps ++ atoms) ++ parts) ++ states) end
      ∙ (λ i. flat_map-append whole_line ((swaps ++ atoms) ++ parts) states i ++ append-nil (last_text c) i)
      ∙ (λ i. (flat_map-append whole_line (swaps ++ atoms) parts i ++ states_are i) ++ last_text c)
      ∙ (λ i. ((flat_map-append whole_line swaps atoms i ++ parts_are i) ++ states_text c) ++ last_text c)
      ∙ (λ i. (((swaps_are i ++ atoms_are i) ++ parts_text (several_of c) c.landmarks) ++ states_text c) ++ last_text c) in
      ap (λ xs. whole_line (version c.version) ++ (whole_line (claims c.claim) ++ (whole_line (constant (constants_of c)) ++ xs))) body
      ∙ one_by_one (whole_line (version c.version)) (whole_line (claims c.claim)) (whole_line (constant (constants_of c))) (exchanges_text task c) (atoms_text task c) (parts_text (several_of c) c.landmarks) (states_text c) (last_text c)
    where
      one_by_one : (v k z e a t s l : List ℕ) → v ++ (k ++ (z ++ ((((e ++ a) ++ t) ++ s) ++ l))) ≡ ((((((v ++ k) ++ z) ++ e) ++ a) ++ t) ++ s) ++ l
      one_by_one v k z e a t s l = simp append_assoc

  pub by_parts : certificate_text task c ≡ to_parts task c ++ (states_text c ++ last_text c)
  by_parts = by_states ∙ append_assoc (to_parts task c) (states_text c) (last_text c)

  pub by_atoms : certificate_text task c ≡ to_atoms task c ++ (parts_text (several_of c) c.landmarks ++ (states_text c ++ last_text c))
  by_atoms = by_parts ∙ append_assoc (to_atoms task c) (parts_text (several_of c) c.landmarks) (states_text c ++ last_text c)

  pub by_exchanges : certificate_text task c ≡ to_exchanges task c ++ (atoms_text task c ++ (parts_text (several_of c) c.landmarks ++ (states_text c ++ last_text c)))
  by_exchanges = by_atoms ∙ append_assoc (to_exchanges task c) (atoms_text task c) (parts_text (several_of c) c.landmarks ++ (states_text c ++ last_text c))

-- ---- what is written out, and what is a prefix of the text, after each part

pub head_held : (before : Option (List ℕ)) (held held_after text : List ℕ) → held ≡ [] → held_after ≡ held ++ text → IsPassedOn before before [] held_after text
head_held before held held_after text none is = passed_held before before [] [] [] (passed_nothing before []) held_after text (is ∙ ap (λ xs. xs ++ text) none)

module _ (before now : Option (List ℕ)) (held front : List ℕ) (passed : IsPassedOn before now [] held front) where
  pub part_held : (after : Option (List ℕ)) (held_after piece : List ℕ) → IsPassedOn now after held held_after piece → IsPassedOn before after [] held_after (front ++ piece)
  part_held after held_after piece then = passed_then before now [] held front passed after held_after piece then

  -- a prefix of the next piece is written
  pub part_begun : (after : Option (List ℕ)) (whole piece later : List ℕ) → whole ≡ (front ++ piece) ++ later → AppendsBeginning now after (held ++ piece) → AppendsBeginning before after whole
  part_begun after whole piece later is begun =
      subst (AppendsBeginning before after) (sym (append_assoc front piece later) ∙ sym is) (passed_beginning before now [] held front passed after piece later begun)

  -- nothing more is written
  pub last_begun : (whole later : List ℕ) → whole ≡ front ++ later → AppendsBeginning before now whole
  last_begun whole later is = subst (AppendsBeginning before now) (sym is) (passed_partly before now [] held front passed later)

  pub last_held : (held_after whole later : List ℕ) → whole ≡ front ++ later → held_after ≡ held ++ later → IsPassedOn before now [] held_after whole
  last_held held_after whole later is more = subst (IsPassedOn before now [] held_after) (sym is) (passed_held before now [] held front passed held_after later more)

  -- the whole buffer is written, or a prefix of it
  pub all_begun : (after : Option (List ℕ)) → AppendsBeginning now after held → AppendsBeginning before after front
  all_begun after begun =
      subst (AppendsBeginning before after) (append-nil front) (passed_beginning before now [] held front passed after [] [] (subst (AppendsBeginning now after) (sym (append-nil held)) begun))

  pub all_where_ok : {T E : Type 0} (after : Option (List ℕ)) (r : Result T E) → OnOk r (Appends now after held) → OnOk r (Appends before after front)
  all_where_ok after (Ok value) taken = passed_all before now [] held front passed after taken
  all_where_ok after (Err error) taken = tt
