-- The first lines of a text determine its content.
use Rattle.std.proofs.Common.{◌≡◌, ℕ, List, [], ◌∷◌, ◌++◌, map, length, Option, None, Some, refl, sym, ap, ◌∙◌}
use Rattle.std.specs.Prelude.{ℤ}
use Rattle.std.specs.List.{filter_map}
use Rattle.std.proofs.lemmas.List.Elements.{filter_map-append}
use Rattle.model.specs.Claims.{Claim}
use Rattle.certificate_definitions.specs.Certificates.{Version, StateLine}
use Rattle.certificate_definitions.specs.CertificateLines.{swap_in, atom_in, part_in, state_in}
use Rattle.certificate_definitions.specs.CertificateText.{WeightedAtom, Part, NamedCertificate, TextLine, version, claims, constant, swapped, atom, part, listed, last, text_lines, Beginning, head_lines}

-- ---- the lines of one kind

abbrev pub count_in : TextLine → Option ℕ
count_in (last count) = Some count
count_in (version v) = None
count_in (claims claim) = None
count_in (constant k) = None
count_in (swapped names) = None
count_in (atom a) = None
count_in (part p) = None
count_in (listed l) = None

-- the lines after the constants
abbrev pub body_lines : List (List (List ℕ)) → List WeightedAtom → List Part → List StateLine → List TextLine
body_lines swaps atoms parts states = map swapped swaps ++ map atom atoms ++ map part parts ++ map listed states

pub swaps_of_body : (swaps : List (List (List ℕ))) (atoms : List WeightedAtom) (parts : List Part) (states : List StateLine) → filter_map swap_in (body_lines swaps atoms parts states) ≡ swaps
swaps_of_body [] [] [] [] = refl
swaps_of_body [] [] [] (l ∷ states) = swaps_of_body [] [] [] states
swaps_of_body [] [] (p ∷ parts) states = swaps_of_body [] [] parts states
swaps_of_body [] (a ∷ atoms) parts states = swaps_of_body [] atoms parts states
swaps_of_body (names ∷ swaps) atoms parts states = ap (λ swaps. names ∷ swaps) (swaps_of_body swaps atoms parts states)

pub atoms_of_body : (swaps : List (List (List ℕ))) (atoms : List WeightedAtom) (parts : List Part) (states : List StateLine) → filter_map atom_in (body_lines swaps atoms parts states) ≡ atoms
atoms_of_body [] [] [] [] = refl
atoms_of_body [] [] [] (l ∷ states) = atoms_of_body [] [] [] states
atoms_of_body [] [] (p ∷ parts) states = atoms_of_body [] [] parts states
atoms_of_body [] (a ∷ atoms) parts states = ap (λ atoms. a ∷ atoms) (atoms_of_body [] atoms parts states)
atoms_of_body (names ∷ swaps) atoms parts states = atoms_of_body swaps atoms parts states

pub parts_of_body : (swaps : List (List (List ℕ))) (atoms : List WeightedAtom) (parts : List Part) (states : List StateLine) → filter_map part_in (body_lines swaps atoms parts states) ≡ parts
parts_of_body [] [] [] [] = refl
parts_of_body [] [] [] (l ∷ states) = parts_of_body [] [] [] states
parts_of_body [] [] (p ∷ parts) states = ap (λ parts. p ∷ parts) (parts_of_body [] [] parts states)
parts_of_body [] (a ∷ atoms) parts states = parts_of_body [] atoms parts states
parts_of_body (names ∷ swaps) atoms parts states = parts_of_body swaps atoms parts states

pub states_of_body : (swaps : List (List (List ℕ))) (atoms : List WeightedAtom) (parts : List Part) (states : List StateLine) → filter_map state_in (body_lines swaps atoms parts states) ≡ states
states_of_body [] [] [] [] = refl
states_of_body [] [] [] (l ∷ states) = ap (λ states. l ∷ states) (states_of_body [] [] [] states)
states_of_body [] [] (p ∷ parts) states = states_of_body [] [] parts states
states_of_body [] (a ∷ atoms) parts states = states_of_body [] atoms parts states
states_of_body (names ∷ swaps) atoms parts states = states_of_body swaps atoms parts states

pub counts_of_body : (swaps : List (List (List ℕ))) (atoms : List WeightedAtom) (parts : List Part) (states : List StateLine) → filter_map count_in (body_lines swaps atoms parts states) ≡ []
counts_of_body [] [] [] [] = refl
counts_of_body [] [] [] (l ∷ states) = counts_of_body [] [] [] states
counts_of_body [] [] (p ∷ parts) states = counts_of_body [] [] parts states
counts_of_body [] (a ∷ atoms) parts states = counts_of_body [] atoms parts states
counts_of_body (names ∷ swaps) atoms parts states = counts_of_body swaps atoms parts states

-- ---- one prefix

first_lines : (u v : Version) (c d : Claim) (j k : List ℤ) (xs ys : List TextLine) → version u ∷ claims c ∷ constant j ∷ xs ≡ version v ∷ claims d ∷ constant k ∷ ys
    → (u ≡ v) × (c ≡ d) × (j ≡ k)
first_lines u v c d j k xs ys same = (cc same, cc same, cc same)

pub one_beginning : (g h : Beginning) → head_lines g ≡ head_lines h → g ≡ h
one_beginning g h same =
    let (versions, claim, constants) = first_lines g.version h.version g.claim h.claim g.constants h.constants (body_lines g.swaps g.atoms g.parts g.states) (body_lines h.swaps h.atoms h.parts h.states) same in
    let swaps = sym (swaps_of_body g.swaps g.atoms g.parts g.states) ∙ ap (filter_map swap_in) same ∙ swaps_of_body h.swaps h.atoms h.parts h.states in
    let atoms = sym (atoms_of_body g.swaps g.atoms g.parts g.states) ∙ ap (filter_map atom_in) same ∙ atoms_of_body h.swaps h.atoms h.parts h.states in
    let parts = sym (parts_of_body g.swaps g.atoms g.parts g.states) ∙ ap (filter_map part_in) same ∙ parts_of_body h.swaps h.atoms h.parts h.states in
    let states = sym (states_of_body g.swaps g.atoms g.parts g.states) ∙ ap (filter_map state_in) same ∙ states_of_body h.swaps h.atoms h.parts h.states in
    λ i. record { version = versions i; claim = claim i; constants = constants i; swaps = swaps i; atoms = atoms i; parts = parts i; states = states i }

-- ---- and whole texts

abbrev pub beginning_of : NamedCertificate → Beginning
beginning_of c = record { version = c.version; claim = c.claim; constants = c.constants; swaps = c.swaps; atoms = c.atoms; parts = c.parts; states = c.lines }

-- the last line is not in a prefix
not_last : (count : ℕ) → ◌≡◌ {A = List ℕ} (count ∷ []) [] → ⊥
not_last count same = absurd (cc same)

pub no_beginning_is_whole : (c : NamedCertificate) (g : Beginning) → text_lines c ≡ head_lines g → ⊥
no_beginning_is_whole c g same =
    not_last (length c.lines)
    (sym (filter_map-append count_in (head_lines (beginning_of c)) (last (length c.lines) ∷ []) ∙ ap (λ counts. counts ++ length c.lines ∷ []) (counts_of_body c.swaps c.atoms c.parts c.lines))
    ∙ ap (filter_map count_in) same ∙ counts_of_body g.swaps g.atoms g.parts g.states)

-- the lines determine the certificate
pub one_whole_text : (c d : NamedCertificate) → text_lines c ≡ text_lines d → c ≡ d
one_whole_text c d same =
    let end_of : NamedCertificate → List TextLine = λ c. last (length c.lines) ∷ [] in
    let (versions, claim, constants) = first_lines c.version d.version c.claim d.claim c.constants d.constants
    (body_lines c.swaps c.atoms c.parts c.lines ++ end_of c) (body_lines d.swaps d.atoms d.parts d.lines ++ end_of d) same in
    let swaps_read : (c : NamedCertificate) → filter_map swap_in (text_lines c) ≡ c.swaps =
    λ c. filter_map-append swap_in (body_lines c.swaps c.atoms c.parts c.lines) (end_of c) ∙ nothing_more (filter_map swap_in (body_lines c.swaps c.atoms c.parts c.lines)) ∙ swaps_of_body c.swaps c.atoms c.parts c.lines in
    let atoms_read : (c : NamedCertificate) → filter_map atom_in (text_lines c) ≡ c.atoms =
    λ c. filter_map-append atom_in (body_lines c.swaps c.atoms c.parts c.lines) (end_of c) ∙ nothing_more (filter_map atom_in (body_lines c.swaps c.atoms c.parts c.lines)) ∙ atoms_of_body c.swaps c.atoms c.parts c.lines in
    let parts_read : (c : NamedCertificate) → filter_map part_in (text_lines c) ≡ c.parts =
    λ c. filter_map-append part_in (body_lines c.swaps c.atoms c.parts c.lines) (end_of c) ∙ nothing_more (filter_map part_in (body_lines c.swaps c.atoms c.parts c.lines)) ∙ parts_of_body c.swaps c.atoms c.parts c.lines in
    let states_read : (c : NamedCertificate) → filter_map state_in (text_lines c) ≡ c.lines =
    λ c. filter_map-append state_in (body_lines c.swaps c.atoms c.parts c.lines) (end_of c) ∙ nothing_more (filter_map state_in (body_lines c.swaps c.atoms c.parts c.lines)) ∙ states_of_body c.swaps c.atoms c.parts c.lines in
    let swaps = sym (swaps_read c) ∙ ap (filter_map swap_in) same ∙ swaps_read d in
    let atoms = sym (atoms_read c) ∙ ap (filter_map atom_in) same ∙ atoms_read d in
    let parts = sym (parts_read c) ∙ ap (filter_map part_in) same ∙ parts_read d in
    let states = sym (states_read c) ∙ ap (filter_map state_in) same ∙ states_read d in
    λ i. record { version = versions i; claim = claim i; constants = constants i; swaps = swaps i; atoms = atoms i; parts = parts i; lines = states i }
  where
    nothing_more : {X : Type 0} (xs : List X) → xs ++ [] ≡ xs
    nothing_more [] = refl
    nothing_more (x ∷ xs) = ap (λ xs. x ∷ xs) (nothing_more xs)
