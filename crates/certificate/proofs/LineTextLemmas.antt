-- The bytes of lines, added piece by piece.
use Rattle.std.proofs.Common.{◌≡◌, ℕ, ◌+◌, ◌<◌, ◌≤◌, List, [], ◌∷◌, ◌++◌, codes, get_or, length, map, take, refl, sym, ap, ◌∙◌, append_assoc, append-nil}
use Rattle.std.specs.Fmt.{digits}
use Rattle.std.specs.List.{flat_map}
use Rattle.std.specs.Result.{OnOk}
use Rattle.std.specs.Prelude.{ℤ, Result, Ok, Err, is_ok, if◌then◌else◌}
use Rattle.std.proofs.lemmas.Grind.{flat_map-append}
use Rattle.std.proofs.lemmas.List.{take_all}
use Rattle.std.proofs.lemmas.List.Folds.{flat_map-map}
use Rattle.task.specs.TaskParts.{object_of}
use Rattle.task.specs.declared.atoms.ObjectId.{ObjectId}
use Rattle.symmetries_definitions.specs.Exchanges.{Exchange, objects_in}
use Rattle.symmetries.specs.ObjectPairs.{pair_of, pairs_in}
use Rattle.model.specs.Claims.{Claim}
use Rattle.model.specs.Task.{Atom, Task}
use Rattle.model.proofs.Pieces.{pieces_more}
use Rattle.lower_bounds.specs.PotentialFunctions.{PotentialFunction}
use Rattle.certificate_definitions.specs.Certificates.{Version, one, two, three, four, StateLine}
use Rattle.model.specs.PlanWriting.{object_name, object_text}
use Rattle.certificate_definitions.specs.CertificateText.{after_blank, claims, constant, line_text, mark_text, version, weights_text, whole_line}
use Rattle.certificate_definitions.specs.CertificateNames.{named_atom, predicate_name, weights_in}
use Rattle.certificate.specs.declared.evidence.WrittenPotentials.{WrittenPotentials}
use Rattle.certificate.specs.Evidence.{potential_of}
use Rattle.certificate.specs.Gathering.{atom_line, number_text, row_line, scope_line, state_line, swap_line, weight_text}

-- the bytes after the last piece was added
pub where_added : {T E : Type 0} (r : Result T E) (new old piece whole : List ℕ) → new ≡ (if is_ok r then old ++ piece else old) → old ++ piece ≡ whole
    → OnOk r (new ≡ whole)
where_added (Ok value) new old piece whole added is = added ∙ is
where_added (Err error) new old piece whole added is = tt

-- the same, with the bytes described differently
pub where_ok : {T E : Type 0} (r : Result T E) (new a b : List ℕ) → OnOk r (new ≡ a) → a ≡ b → OnOk r (new ≡ b)
where_ok (Ok value) new a b is same = is ∙ same
where_ok (Err error) new a b is same = tt

-- a piece, followed by another
pub pieces : (old a b : List ℕ) → (old ++ a) ++ b ≡ old ++ (a ++ b)
pieces old a b = append_assoc old a b

-- the line of each version
pub line_of_one : codes "pddl-cert 1\n" ≡ whole_line (version one)
unfolding digits
line_of_one = refl

pub line_of_two : codes "pddl-cert 2\n" ≡ whole_line (version two)
unfolding digits
line_of_two = refl

pub line_of_three : codes "pddl-cert 3\n" ≡ whole_line (version three)
unfolding digits
line_of_three = refl

pub line_of_four : codes "pddl-cert 4\n" ≡ whole_line (version four)
unfolding digits
line_of_four = refl

-- one weight
pub one_weight_text : (w : ℤ) → weight_text w ≡ weights_text (w ∷ [])
one_weight_text w = sym (append-nil (weight_text w))

-- the weights of values, followed by that of dead ends
pub then_dead_end : (v : Version) (ws : List ℤ) (dead_end : ℤ) → weights_text ws ++ weights_text (weights_in v [] dead_end) ≡ weights_text (weights_in v ws dead_end)
then_dead_end one ws dead_end = append-nil (weights_text ws)
then_dead_end two ws dead_end = sym (flat_map-append weight_text ws (dead_end ∷ []))
then_dead_end three ws dead_end = sym (flat_map-append weight_text ws (dead_end ∷ []))
then_dead_end four ws dead_end = sym (flat_map-append weight_text ws (dead_end ∷ []))

-- one more value, each of which has this number
pub value_more : (of : PotentialFunction → ℤ) (values : List WrittenPotentials) (i : ℕ) (p : WrittenPotentials) → i < length values → p ≡ get_or values i p
    → weights_text (map of (map potential_of (take (i + 1) values))) ≡ weights_text (map of (map potential_of (take i values))) ++ weight_text (of (potential_of p))
value_more of values i p within is =
    flat_map-map weight_text of (map potential_of (take (i + 1) values))
    ∙ pieces_more (λ (q : PotentialFunction). weight_text (of q)) potential_of values i p within is
    ∙ ap (λ bytes. bytes ++ weight_text (of (potential_of p))) (sym (flat_map-map weight_text of (map potential_of (take i values))))

-- all values
pub values_all : (of : PotentialFunction → ℤ) (values : List WrittenPotentials) (i : ℕ) → length values ≤ i → weights_text (map of (map potential_of (take i values))) ≡ weights_text (map of (map potential_of values))
values_all of values i past = ap (λ ps. weights_text (map of (map potential_of ps))) (take_all i values past)

-- bytes added after others
pub added_after : (old front more bytes : List ℕ) → bytes ≡ old ++ front → bytes ++ more ≡ old ++ (front ++ more)
added_after old front more bytes is = ap (λ xs. xs ++ more) is ∙ append_assoc old front more

six : (old a b n c d : List ℕ) → ((((old ++ a) ++ b) ++ (n ++ c)) ++ d) ++ n ≡ old ++ ((a ++ (b ++ n)) ++ ((c ++ d) ++ n))
six old a b n c d = simp append_assoc

pub head_text : (old : List ℕ) (v : Version) (claim : Claim) (k : List ℤ)
    → ((((old ++ whole_line (version v)) ++ line_text (claims claim)) ++ codes "\nconstant") ++ weights_text k) ++ codes "\n"
    ≡ old ++ (whole_line (version v) ++ whole_line (claims claim) ++ whole_line (constant k))
head_text old v claim k = six old (whole_line (version v)) (line_text (claims claim)) (codes "\n") (codes "constant") (weights_text k)

-- the names of objects, as a plan text has them
names_text : (task : Task) (objects : List ℕ) → flat_map (object_text task) objects ≡ flat_map after_blank (map (object_name task) objects)
names_text task [] = refl
names_text task (o ∷ objects) = ap (λ xs. object_text task o ++ xs) (names_text task objects)

seven : (old a w b c d e n : List ℕ) → (((((old ++ a) ++ w) ++ b) ++ c) ++ d) ++ (e ++ n) ≡ old ++ ((((((a ++ w) ++ b) ++ c) ++ d) ++ e) ++ n)
seven old a w b c d e n = simp append_assoc

pub atom_text : (task : Task) (a : Atom) (weights : List ℤ) (old : List ℕ)
    → ((((((old ++ codes "atom") ++ weights_text weights) ++ codes " (") ++ predicate_name task a.predicate) ++ flat_map (object_text task) a.objects) ++ codes ")\n")
    ≡ old ++ atom_line (record { weights = weights; atom = named_atom task a })
atom_text task a weights old =
    ap (λ xs. (((((old ++ codes "atom") ++ weights_text weights) ++ codes " (") ++ predicate_name task a.predicate) ++ xs) ++ codes ")\n") (names_text task a.objects)
    ∙ seven old (codes "atom") (weights_text weights) (codes " (") (predicate_name task a.predicate) (flat_map after_blank (map (object_name task) a.objects)) (codes ")") (codes "\n")

three_pieces : (old a b n : List ℕ) → ((old ++ a) ++ b) ++ n ≡ old ++ ((a ++ b) ++ n)
three_pieces old a b n = simp append_assoc

-- the line of an exchange, and the names of one more pair
pub swap_text : (task : Task) (e : Exchange) (old : List ℕ) → ((old ++ codes "swap") ++ flat_map (object_text task) (objects_in e)) ++ codes "\n" ≡ old ++ swap_line task e
swap_text task e old =
    ap (λ xs. ((old ++ codes "swap") ++ xs) ++ codes "\n") (names_text task (objects_in e))
    ∙ three_pieces old (codes "swap") (flat_map after_blank (map (object_name task) (objects_in e))) (codes "\n")

pub pair_more : (task : Task) (pairs : List (ObjectId × ObjectId)) (i : ℕ) (p : ObjectId × ObjectId) → i < length pairs → p ≡ get_or pairs i p → (old text : List ℕ)
    → text ≡ old ++ flat_map (object_text task) (objects_in (pairs_in (take i pairs)))
    → (text ++ object_text task (object_of p.0)) ++ object_text task (object_of p.1) ≡ old ++ flat_map (object_text task) (objects_in (pairs_in (take (i + 1) pairs)))
pair_more task pairs i p within is old text so_far =
    let name = object_text task in
    let first = flat_map name (objects_in (pairs_in (take i pairs))) in
    ap (λ xs. (xs ++ name (object_of p.0)) ++ name (object_of p.1)) so_far
    ∙ regroup old first (name (object_of p.0)) (name (object_of p.1))
    ∙ ap (λ xs. old ++ xs) (sym (flat_map-append name (objects_in (pairs_in (take i pairs))) (object_of p.0 ∷ object_of p.1 ∷ [])))
    ∙ ap (λ os. old ++ flat_map name os) (sym (pieces_more (λ (pair : ℕ × ℕ). pair.0 ∷ pair.1 ∷ []) pair_of pairs i p within is))
  where
    regroup : (old a b c : List ℕ) → ((old ++ a) ++ b) ++ c ≡ old ++ (a ++ (b ++ (c ++ [])))
    regroup old a b c = append_assoc (old ++ a) b c ∙ append_assoc old a (b ++ c) ∙ ap (λ xs. old ++ (a ++ (b ++ xs))) (sym (append-nil c))

-- the lines of tables
pub scope_text : (numbers old : List ℕ) → ((old ++ codes "table") ++ flat_map number_text numbers) ++ codes "\n" ≡ old ++ scope_line numbers
scope_text numbers old = three_pieces old (codes "table") (flat_map number_text numbers) (codes "\n")

four_pieces : (old a b c n : List ℕ) → (((old ++ a) ++ b) ++ c) ++ n ≡ old ++ (((a ++ b) ++ c) ++ n)
four_pieces old a b c n = simp append_assoc

pub row_text : (weights : List ℤ) (atoms old : List ℕ)
    → (((old ++ codes "row") ++ weights_text weights) ++ flat_map number_text atoms) ++ codes "\n" ≡ old ++ row_line (record { atoms = atoms; weights = weights })
row_text weights atoms old = four_pieces old (codes "row") (weights_text weights) (flat_map number_text atoms) (codes "\n")

pub state_text : (l : StateLine) (old : List ℕ) → ((old ++ mark_text l.mark l.cost) ++ flat_map number_text l.atoms) ++ codes "\n" ≡ old ++ state_line l
state_text l old =
    ap (λ xs. xs ++ codes "\n") (append_assoc old (mark_text l.mark l.cost) (flat_map number_text l.atoms))
    ∙ append_assoc old (mark_text l.mark l.cost ++ flat_map number_text l.atoms) (codes "\n")
