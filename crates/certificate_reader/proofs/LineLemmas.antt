-- Lines by their words.
use Rattle.std.proofs.Common.{◌≡◌, ℕ, Bool, true, false, not, List, [], ◌∷◌, ◌++◌, codes, map, Option, None, Some, refl, sym, ap, ◌∙◌, append_assoc, append-nil, arith}
use Rattle.std.specs.Prelude.{◌&&◌, suc, ℤ, pos, negsuc, IsTrue}
use Rattle.std.specs.Char.{is_ascii_alphabetic}
use Rattle.std.specs.Fmt.{decimal, signed_decimal}
use Rattle.std.specs.List.{flat_map, list_all}
use Rattle.std.specs.Str.Parse.{AllDigits}
use Rattle.std.proofs.lemmas.Bool.{and_parts, leb-true, ltb-true, ne_eqb, eqb-true}
use Rattle.std.proofs.lemmas.Fmt.{decimal_is_IsNumeral}
use Rattle.std.proofs.lemmas.Str.Parse.{tells_digits}
use Rattle.model.specs.Words.{is_name, is_name_byte}
use Rattle.model.specs.PlanWriting.{is_lower_name}
use Rattle.model.specs.Claims.{bound, none}
use Rattle.certificate_definitions.specs.Evidence.{of_all, landmark, LineMark, expanded, cut, dead}
use Rattle.lower_bounds.specs.LandmarkLines.{Share, zone, value, negated_text, number_text, share_text}
use Rattle.lower_bounds.specs.LandmarkLines as landmarks
use Rattle.certificate_definitions.specs.Certificates.{is_number, is_weight}
use Rattle.certificate_definitions.specs.CertificateText.{scope, row, tabled, landmark_line, Part, part_text, TextLine, version, claims, constant, swapped, atom, part, listed, last, after_blank, line_text, weights_text, numbers_text}
use Rattle.certificate_reader.specs.Words.{is_blank, is_word, atom_rest, line_head, line_rest, mark_head, shares_then, then_negated, then_numbers, then_words, with_rest, part_head, part_rest}
use Rattle.certificate_reader.proofs.NumberLemmas.{is_below}
use Rattle.certificate_reader.proofs.WordLemmas.{one_first}

-- ---- what counts as a word

digits_are_word : (digits : List ℕ) → AllDigits 10 digits → IsTrue (is_word digits)
digits_are_word [] all = refl
digits_are_word (digit ∷ digits) all =
    let (here, more) = tells_digits.parts digit digits all in
    ap (λ b. not b && is_word digits) (ne_eqb digit 32 (λ same. omega (arith, same, here.0))) ∙ digits_are_word digits more

pub number_is_word : (n : ℕ) → IsTrue (is_number n) → IsTrue (is_word (decimal n))
number_is_word n is = digits_are_word (decimal n) ((decimal_is_IsNumeral n (let below = is_below n is in omega (arith, below))).0.1)

-- so is a constant or a weight, with its sign
pub weight_is_word : (w : ℤ) → IsTrue (is_weight w) → IsTrue (is_word (signed_decimal w))
weight_is_word (pos n) is = digits_are_word (decimal n) ((decimal_is_IsNumeral n (let most = leb-true n 2147483647 is in omega (arith, most))).0.1)
weight_is_word (negsuc n) is = digits_are_word (decimal (suc n)) ((decimal_is_IsNumeral (suc n) (let most = ltb-true n 2147483647 is in omega (arith, most))).0.1)

-- a byte that passes a test that a blank fails is not a blank
no_blank_byte : (test : ℕ → Bool) → test 32 ≡ false → (byte : ℕ) → test byte ≡ true → not (is_blank byte) ≡ true
no_blank_byte test fails byte passes = by_test (is_blank byte) refl
  where
    by_test : (b : Bool) → is_blank byte ≡ b → not b ≡ true
    by_test false other = refl
    by_test true is = absurd (cc (sym fails ∙ ap test (sym (eqb-true byte 32 is)) ∙ passes))

bytes_are_word : (bytes : List ℕ) → IsTrue (list_all is_name_byte bytes) → IsTrue (is_word bytes)
bytes_are_word [] all = refl
bytes_are_word (byte ∷ bytes) all =
    let (here, more) = and_parts (is_name_byte byte) (list_all is_name_byte bytes) all in
    ap (λ b. b && is_word bytes) (no_blank_byte is_name_byte refl byte here) ∙ bytes_are_word bytes more

name_is_word : (name : List ℕ) → IsTrue (is_name name) → IsTrue (is_word name)
name_is_word [] is = refl
name_is_word (byte ∷ bytes) is =
    let (here, more) = and_parts (is_ascii_alphabetic byte) (list_all is_name_byte bytes) is in
    ap (λ b. b && is_word bytes) (no_blank_byte is_ascii_alphabetic refl byte here) ∙ bytes_are_word bytes more

pub lower_name_is_word : (name : List ℕ) → IsTrue (is_lower_name name) → IsTrue (is_word name)
lower_name_is_word name is = name_is_word name (and_parts _ _ (and_parts _ _ is).0).0

-- ---- a line by its first word and the rest

-- the bytes of some words: a blank before each, and before what follows them
abbrev pub bytes_of : Option (List ℕ) → List ℕ
bytes_of None = []
bytes_of (Some rest) = after_blank rest

listed_splits : (cost : ℕ) (mark : LineMark) (atoms : List ℕ)
    → line_text (listed (record { cost = cost; mark = mark; atoms = atoms }))
    ≡ mark_head mark ++ bytes_of (line_rest (listed (record { cost = cost; mark = mark; atoms = atoms })))
listed_splits cost expanded atoms = refl
listed_splits cost (cut of_all rest) atoms = refl
listed_splits cost (dead of_all) atoms = refl
listed_splits cost (cut (landmark number) rest) atoms = refl
listed_splits cost (dead (landmark number)) atoms = refl

with_bytes : (word : List ℕ) (rest : Option (List ℕ)) → with_rest word rest ≡ word ++ bytes_of rest
with_bytes word None = sym (append-nil word)
with_bytes word (Some rest) = append_assoc word (codes " ") rest

pub words_bytes : {X : Type 0} (text : X → List ℕ) (all : List X) (rest : Option (List ℕ))
    → bytes_of (then_words (map text all) rest) ≡ flat_map (λ (each : X). after_blank (text each)) all ++ bytes_of rest
words_bytes text [] rest = refl
words_bytes text (each ∷ all) rest =
    ap (λ bytes. codes " " ++ bytes) (with_bytes (text each) (then_words (map text all) rest))
    ∙ sym (append_assoc (codes " ") (text each) (bytes_of (then_words (map text all) rest)))
    ∙ ap (λ bytes. after_blank (text each) ++ bytes) (words_bytes text all rest)
    ∙ sym (append_assoc (after_blank (text each)) (flat_map (λ each. after_blank (text each)) all) (bytes_of rest))

atom_parts : (c w p f : List ℕ) → (((c ++ w) ++ codes " (") ++ p) ++ f ++ codes ")" ≡ c ++ (w ++ (codes " " ++ ((codes "(" ++ p) ++ f ++ codes ")")))
atom_parts c w p f = simp append_assoc

alone : (head word : List ℕ) → head ++ codes " " ++ word ≡ head ++ after_blank word
alone head word = append_assoc head (codes " ") word

names_bytes : (names : List (List ℕ)) → bytes_of (then_words names None) ≡ flat_map after_blank names ++ []
names_bytes [] = refl
names_bytes (name ∷ names) =
    ap (λ bytes. codes " " ++ bytes) (with_bytes name (then_words names None))
    ∙ sym (append_assoc (codes " ") name (bytes_of (then_words names None)))
    ∙ ap (λ bytes. after_blank name ++ bytes) (names_bytes names)
    ∙ sym (append_assoc (after_blank name) (flat_map after_blank names) [])

-- words after a first one, in the bytes of a line
pub words_after : {X : Type 0} (text : X → List ℕ) (word : List ℕ) (all : List X)
    → with_rest word (then_words (map text all) None) ≡ word ++ flat_map (λ (each : X). after_blank (text each)) all
words_after text word [] = sym (append-nil word)
words_after text word (each ∷ all) =
    ap (λ rest. word ++ codes " " ++ rest) (words_after text (text each) all)
    ∙ append_assoc word (32 ∷ []) (text each ++ flat_map (λ each. after_blank (text each)) all)

-- the bytes after a zone's atoms
negated_bytes : (negated : List ℕ) → negated_text negated ≡ bytes_of (then_negated negated)
negated_bytes [] = refl
negated_bytes (n ∷ others) = ap (λ bytes. codes " " ++ bytes) (sym (words_after decimal (codes "not") (n ∷ others)))

-- and those of the shares of a value
word_first : (word : List ℕ) (rest : Option (List ℕ)) → bytes_of (Some (with_rest word rest)) ≡ after_blank word ++ bytes_of rest
word_first word rest = ap (λ bytes. codes " " ++ bytes) (with_bytes word rest) ∙ sym (append_assoc (codes " ") word (bytes_of rest))

shares_bytes : (shares : List Share) → flat_map share_text shares ≡ bytes_of (shares_then shares None)
shares_bytes [] = refl
shares_bytes (s ∷ shares) =
    append_assoc (number_text s.zone) (number_text s.weight) (flat_map share_text shares)
    ∙ ap (λ bytes. number_text s.zone ++ (number_text s.weight ++ bytes)) (shares_bytes shares)
    ∙ sym (word_first (decimal s.zone) (Some (with_rest (decimal s.weight) (shares_then shares None)))
    ∙ ap (λ bytes. after_blank (decimal s.zone) ++ bytes) (word_first (decimal s.weight) (shares_then shares None)))

-- the bytes of a part: its first word, and the others
part_bytes : (p : Part) → part_text p ≡ part_head p ++ bytes_of (part_rest p)
part_bytes (tabled (scope atoms)) = ap (λ bytes. codes "table" ++ bytes) (sym (append-nil (numbers_text atoms)) ∙ sym (words_bytes decimal atoms None))
part_bytes (tabled (row r)) =
    append_assoc (codes "row") (weights_text r.weights) (numbers_text r.atoms)
    ∙ ap (λ bytes. codes "row" ++ bytes)
    (ap (λ bytes. weights_text r.weights ++ bytes) (sym (append-nil (numbers_text r.atoms)) ∙ sym (words_bytes decimal r.atoms None))
    ∙ sym (words_bytes signed_decimal r.weights (then_numbers r.atoms)))
part_bytes (landmark_line (zone z)) =
    ap (λ bytes. codes "zone" ++ bytes)
    (ap (λ bytes. landmarks.numbers_text z.atoms ++ bytes) (negated_bytes z.negated) ∙ sym (words_bytes decimal z.atoms (then_negated z.negated)))
part_bytes (landmark_line (value shares)) = ap (λ bytes. codes "marks" ++ bytes) (shares_bytes shares)

-- and those of a line
pub line_bytes : (line : TextLine) → line_text line ≡ line_head line ++ bytes_of (line_rest line)
line_bytes (version v) = refl
line_bytes (claims (bound least)) = refl
line_bytes (claims none) = refl
line_bytes (constant k) = ap (λ bytes. codes "constant" ++ bytes) (sym (append-nil (weights_text k)) ∙ sym (words_bytes signed_decimal k None))
line_bytes (swapped names) = ap (λ bytes. codes "swap" ++ bytes) (sym (append-nil (flat_map after_blank names)) ∙ sym (names_bytes names))
line_bytes (atom a) =
    atom_parts (codes "atom") (weights_text a.weights) a.atom.predicate (flat_map after_blank a.atom.objects)
    ∙ ap (λ bytes. codes "atom" ++ bytes) (sym (words_bytes signed_decimal a.weights (Some (atom_rest a.atom))))
line_bytes (part p) = part_bytes p
line_bytes (listed l) = listed_splits l.cost l.mark l.atoms
line_bytes (last count) = refl

pub line_splits : (line : TextLine) → line_text line ≡ with_rest (line_head line) (line_rest line)
line_splits line = line_bytes line ∙ sym (with_bytes (line_head line) (line_rest line))

mark_is_word : (mark : LineMark) → IsTrue (is_word (mark_head mark))
mark_is_word expanded = refl
mark_is_word (cut of_all rest) = refl
mark_is_word (dead of_all) = refl
mark_is_word (cut (landmark number) rest) = refl
mark_is_word (dead (landmark number)) = refl

part_is_word : (p : Part) → IsTrue (is_word (part_head p))
part_is_word (tabled (scope atoms)) = refl
part_is_word (tabled (row r)) = refl
part_is_word (landmark_line (zone z)) = refl
part_is_word (landmark_line (value shares)) = refl

pub head_is_word : (line : TextLine) → IsTrue (is_word (line_head line))
head_is_word (version v) = refl
head_is_word (claims claim) = refl
head_is_word (constant k) = refl
head_is_word (swapped names) = refl
head_is_word (atom a) = refl
head_is_word (part p) = part_is_word p
head_is_word (listed l) = mark_is_word l.mark
head_is_word (last count) = refl

-- ---- several words

pub then_words_more : (words : List (List ℕ)) (word : List ℕ) (rest : Option (List ℕ))
    → then_words words (Some (with_rest word rest)) ≡ then_words (words ++ word ∷ []) rest
then_words_more [] word rest = refl
then_words_more (first ∷ words) word rest = ap (λ r. Some (with_rest first r)) (then_words_more words word rest)

-- if all bytes are words, so are those after the words already read
pub record IsNext (words done : List (List ℕ)) (bytes : List ℕ) : Type 0 where
  pub word : List ℕ
  pub more : List (List ℕ)
  pub are : words ≡ done ++ word ∷ more
  pub splits : bytes ≡ with_rest word (then_words more None)

pub some_same : (a b : List ℕ) → ◌≡◌ {A = Option (List ℕ)} (Some a) (Some b) → a ≡ b
some_same a b same = cc

pub next_word : (done words : List (List ℕ)) (bytes : List ℕ) → IsTrue (list_all is_word done) → IsTrue (list_all is_word words)
    → then_words done (Some bytes) ≡ then_words words None → IsNext words done bytes
next_word [] [] bytes d w same = absurd (cc same)
next_word [] (word ∷ more) bytes d w same = record { word = word; more = more; are = refl; splits = some_same bytes (with_rest word (then_words more None)) same }
next_word (first ∷ done) [] bytes d w same = absurd (cc same)
next_word (first ∷ done) (word ∷ words) bytes d w same =
    let (d_here, d_more) = and_parts (is_word first) (list_all is_word done) d in
    let (w_here, w_more) = and_parts (is_word word) (list_all is_word words) w in
    let both = one_first first word (then_words done (Some bytes)) (then_words words None) d_here w_here
    (some_same (with_rest first (then_words done (Some bytes))) (with_rest word (then_words words None)) same) in
    let next = next_word done words bytes d_more w_more both.1 in
    record {
      word = next.word;
      more = next.more;
      are = (λ i. sym both.0 i ∷ next.are i);
      splits = next.splits;
    }

-- if all words have been read, they are all of them
pub all_words : (done words : List (List ℕ)) → IsTrue (list_all is_word done) → IsTrue (list_all is_word words)
    → then_words done None ≡ then_words words None → done ≡ words
all_words [] [] d w same = refl
all_words [] (word ∷ words) d w same = absurd (cc same)
all_words (first ∷ done) [] d w same = absurd (cc same)
all_words (first ∷ done) (word ∷ words) d w same =
    let (d_here, d_more) = and_parts (is_word first) (list_all is_word done) d in
    let (w_here, w_more) = and_parts (is_word word) (list_all is_word words) w in
    let both = one_first first word (then_words done None) (then_words words None) d_here w_here
    (some_same (with_rest first (then_words done None)) (with_rest word (then_words words None)) same) in
    let more = all_words done words d_more w_more both.1 in
    λ i. both.0 i ∷ more i
