-- The indices at which objects are named, as they are found.
use Rattle.std.proofs.Common.{◌≡◌, ◌∙◌, ℕ, zero, suc, ◌+◌, ◌<◌, ◌≤◌, Bool, true, false, ◌&&◌, ◌||◌, List, [], ◌∷◌, ◌++◌, length, map, take, get_or, Option, None, Some, refl, sym, ap, subst, arith}
use Rattle.std.specs.Prelude.{◌==◌, cond, nat_lt, slice_get, if◌then◌else◌}
use Rattle.std.specs.Global.{Vec}
use Rattle.std.specs.Option.{option_map, option_map_or}
use Rattle.std.proofs.lemmas.Bool.{ltb-true, ltb-false, lt-ltb, and_from, and_right, eq-eqb, eqb-true, or_left, or_right}
use Rattle.std.proofs.lemmas.Bool.Decides.{nat_tests}
use Rattle.std.proofs.lemmas.List.{take_all, take_more, map-append}
use Rattle.std.proofs.lemmas.List.Folds.{list_any-append}
use Rattle.std.proofs.lemmas.Option.{slice_get_within, slice_get_read, slice_get-map}
use Rattle.task.specs.declared.atoms.Atom.{Atom}
use Rattle.task.specs.declared.atoms.ObjectId.{ObjectId}
use Rattle.task.specs.TaskParts.{atom_of, object_of, value_of}
use Rattle.model.specs.Task as task
use Rattle.model.proofs.StaticLemmas.{or_false}
use Rattle.symmetries_definitions.specs.NamedObjects.{named_in_formula}
use Rattle.symmetries.specs.declared.places.PlacesByObject.{PlacesByObject}
use Rattle.symmetries.specs.Named.{is_among}
use Rattle.symmetries.specs.PlacesByObject.{Covers, Indexes, IsAdded, IsAddedAt, functions_of, row_of}
use Rattle.symmetries.proofs.PairLemmas.{flip}

-- ---- rows

-- the rows with one more, empty row
pub row_longer : (rows : List (Vec ℕ)) (row : Vec ℕ) → row.items ≡ [] → (o : ℕ)
    → option_map_or (λ (row : Vec ℕ). row.items) (slice_get (rows ++ row ∷ []) o) [] ≡ option_map_or (λ (row : Vec ℕ). row.items) (slice_get rows o) []
row_longer [] row empty zero = empty
row_longer [] row empty (suc o) = refl
row_longer (first ∷ rows) row empty zero = refl
row_longer (first ∷ rows) row empty (suc o) = row_longer rows row empty o

among_more : (xs : List ℕ) (x n : ℕ) → is_among (xs ++ x ∷ []) n ≡ (is_among xs n || x == n)
among_more xs x n = list_any-append (λ other. other == n) xs (x ∷ []) ∙ ap (λ b. is_among xs n || b) (or_false (x == n))

-- ---- one object after another

pub added_none : (place : ℕ) (t : PlacesByObject) → IsAdded place [] t t
added_none place t = λ o p. sym (or_false (is_among (row_of t o) p))

module _ (place : ℕ) (objects : List ObjectId) (i : ℕ) where
  pub added_more : (d : ObjectId) (old now grown new : PlacesByObject) → i < length objects → IsAdded place (map object_of (take i objects)) old now
      → ((o : ℕ) → row_of grown o ≡ row_of now o)
      → ((o : ℕ) → row_of new o ≡ (if o == object_of (get_or objects i d) then row_of grown o ++ place ∷ [] else row_of grown o))
      → IsAdded place (map object_of (take (i + 1) objects)) old new
  added_more d old now grown new within so same rows = λ o p.
      let x = object_of (get_or objects i d) in
      let before = map object_of (take i objects) in
      ap (λ l. is_among l p) (rows o) ∙ by_test p (row_of grown o) (o == x)
      ∙ ap (λ l. is_among l p || ((o == x) && place == p)) (same o)
      ∙ ap (λ b. b || ((o == x) && place == p)) (so o p)
      ∙ regrouped (is_among (row_of old o) p) (is_among before o) (place == p) (o == x)
      ∙ ap (λ b. is_among (row_of old o) p || (b && place == p))
      (ap (λ b. is_among before o || b) (flip o x) ∙ sym (among_more before x o)
      ∙ ap (λ l. is_among l o) (sym (ap (map object_of) (take_more objects i d within) ∙ map-append object_of (take i objects) (get_or objects i d ∷ []))))
    where
      by_test : (p : ℕ) (row : List ℕ) (b : Bool) → is_among (cond b (row ++ place ∷ []) row) p ≡ (is_among row p || (b && place == p))
      by_test p row true = among_more row place p
      by_test p row false = sym (or_false (is_among row p))

      regrouped : (a b c d : Bool) → ((a || (b && c)) || (d && c)) ≡ (a || ((b || d) && c))
      regrouped true b c d = refl
      regrouped false true true d = refl
      regrouped false true false true = refl
      regrouped false true false false = refl
      regrouped false false c d = refl

  pub added_whole : (old new : PlacesByObject) → length objects ≤ i → IsAdded place (map object_of (take i objects)) old new → IsAdded place (map object_of objects) old new
  added_whole old new past so = subst (λ l. IsAdded place (map object_of l) old new) (take_all i objects past) so

-- ---- one atom after another

module _ (atoms : List task.Atom) (place : ℕ) where
  pub added_by : (a : task.Atom) (objects : List ℕ) (old new : PlacesByObject) → Some a ≡ slice_get atoms place → objects ≡ a.objects → IsAdded place objects old new → IsAddedAt atoms place old new
  added_by a objects old new at is so =
      subst (λ l. IsAdded place l old new) (is ∙ ap (λ o. option_map_or (λ (a : task.Atom). a.objects) o []) at) so

  pub added_nowhere : (t : PlacesByObject) → None ≡ slice_get atoms place → IsAddedAt atoms place t t
  added_nowhere t none = subst (λ l. IsAdded place l t t) (ap (λ o. option_map_or (λ (a : task.Atom). a.objects) o []) none) (added_none place t)

pub added_at : (atoms : List Atom) (place : ℕ) (listed : Atom) (old new : PlacesByObject) → place < length atoms → listed ≡ get_or atoms place listed
    → (objects : List ObjectId) → objects ≡ listed.objects.items → IsAdded place (map object_of objects) old new → IsAddedAt (map atom_of atoms) place old new
added_at atoms place listed old new within at objects is so =
    added_by (map atom_of atoms) place (atom_of listed) (map object_of objects) old new
    (sym (slice_get-map atom_of atoms place ∙ ap (option_map atom_of) (slice_get_read atoms (length atoms) place listed refl within at)))
    (ap (map object_of) is) so

pub function_found : (entries : List (Atom × ℕ)) (place : ℕ) (entry : Atom × ℕ) → Some entry ≡ slice_get entries place
    → Some (atom_of entry.0) ≡ slice_get (functions_of (map value_of entries)) place
function_found entries place entry at =
    ap (option_map (λ (e : Atom × ℕ). atom_of e.0)) at
    ∙ sym (slice_get-map (λ (v : task.FunctionValue). v.function) (map value_of entries) place ∙ ap (option_map (λ (v : task.FunctionValue). v.function)) (slice_get-map value_of entries place) ∙ twice (slice_get entries place))
  where
    twice : (o : Option (Atom × ℕ)) → option_map (λ (v : task.FunctionValue). v.function) (option_map value_of o) ≡ option_map (λ (e : Atom × ℕ). atom_of e.0) o
    twice None = refl
    twice (Some e) = refl

-- the indices below this one are in the rows of the objects of their atoms
abbrev pub CoversBelow : List task.Atom → ℕ → PlacesByObject → Type 0
CoversBelow atoms count t = (place : ℕ) (a : task.Atom) → place < count → slice_get atoms place ≡ Some a → (o : ℕ) → is_among a.objects o ≡ true → is_among (row_of t o) place ≡ true

module _ (atoms : List task.Atom) where
  pub covers_none : (t : PlacesByObject) → CoversBelow atoms 0 t
  covers_none t = λ place a below. absurd (omega (arith, below))

  pub covers_more : (i : ℕ) (old new : PlacesByObject) → CoversBelow atoms i old → IsAddedAt atoms i old new → CoversBelow atoms (i + 1) new
  covers_more i old new so added = λ place a below at o names.
      added o place
      ∙ elim (nat_lt place i) as (λ b. nat_lt place i ≡ b
      → (is_among (row_of old o) place || (is_among (option_map_or (λ (a : task.Atom). a.objects) (slice_get atoms i) []) o && i == place)) ≡ true) [
        | true ↦ λ earlier. or_left (is_among (row_of old o) place) _ (so place a (ltb-true place i earlier) at o names)
        | false ↦ λ last.
            let same : place ≡ i = omega (arith, ltb-false place i last, below) in
            or_right (is_among (row_of old o) place) _
            (and_from (is_among (option_map_or (λ (a : task.Atom). a.objects) (slice_get atoms i) []) o) (i == place)
            (ap (λ x. is_among (option_map_or (λ (a : task.Atom). a.objects) x []) o) (ap (slice_get atoms) (sym same) ∙ at) ∙ names) (eq-eqb i place (sym same)))
      ] refl

  pub covers_all : (i : ℕ) (t : PlacesByObject) → length atoms ≤ i → CoversBelow atoms i t → Covers atoms t
  covers_all i t past so = λ place a at. so place a (omega (arith, past, slice_get_within atoms place a at)) at

-- the formulas below this index are found, and no others
abbrev pub IndexesBelow : List task.Formula → ℕ → PlacesByObject → Type 0
IndexesBelow formulas count t = (o place : ℕ) → is_among (row_of t o) place ≡ (nat_lt place count && option_map_or (λ f. is_among (named_in_formula f) o) (slice_get formulas place) false)

pub indexes_none : (formulas : List task.Formula) (t : PlacesByObject) → ((o : ℕ) → row_of t o ≡ []) → IndexesBelow formulas 0 t
indexes_none formulas t empty o place =
    let past : nat_lt place 0 ≡ false = grind (arith, nat_tests) in
    ap (λ l. is_among l place) (empty o) ∙ sym (ap (λ b. b && option_map_or (λ f. is_among (named_in_formula f) o) (slice_get formulas place) false) past)

module _ (formulas : List task.Formula) (i : ℕ) where
  and_nothing : (b : Bool) → (b && true) ≡ b
  and_nothing true = refl
  and_nothing false = refl

  abbrev names_at : ℕ → ℕ → Bool
  names_at o place = option_map_or (λ f. is_among (named_in_formula f) o) (slice_get formulas place) false

  -- a place is below one more if it was below or is the next one
  below_more : (place : ℕ) (here : Bool) (o : ℕ) → (place ≡ i → here ≡ names_at o place)
      → ((nat_lt place i && names_at o place) || (here && i == place)) ≡ (nat_lt place (i + 1) && names_at o place)
  below_more place here o is =
      elim (nat_lt place i) as (λ b. nat_lt place i ≡ b → ((b && names_at o place) || (here && i == place)) ≡ (nat_lt place (i + 1) && names_at o place)) [
        | true ↦ λ earlier.
            let less = ltb-true place i earlier in
            let other : (i == place) ≡ false = grind (arith, nat_tests) in
            let later : nat_lt place (i + 1) ≡ true = lt-ltb place (i + 1) (omega (arith, less)) in
            (λ j. names_at o place || (here && other j)) ∙ ap (λ b. names_at o place || b) (and_right here false refl) ∙ or_false (names_at o place) ∙ sym (ap (λ b. b && names_at o place) later)
        | false ↦ λ past.
            let above = ltb-false place i past in
            elim (i == place) as (λ b. (i == place) ≡ b → (here && b) ≡ (nat_lt place (i + 1) && names_at o place)) [
              | true ↦ λ same.
                  let at : i ≡ place = eqb-true i place same in
                  let later : nat_lt place (i + 1) ≡ true = lt-ltb place (i + 1) (omega (arith, at)) in
                  and_nothing here ∙ is (sym at) ∙ sym (ap (λ b. b && names_at o place) later)
              | false ↦ λ differs.
                  let beyond : nat_lt place (i + 1) ≡ false = grind (arith, nat_tests) in
                  and_right here false refl ∙ sym (ap (λ b. b && names_at o place) beyond)
            ] refl
      ] refl

  pub indexes_more : (f : task.Formula) (objects : List ObjectId) (old new : PlacesByObject) → slice_get formulas i ≡ Some f → map object_of objects ≡ named_in_formula f
      → IndexesBelow formulas i old → IsAdded i (map object_of objects) old new → IndexesBelow formulas (i + 1) new
  indexes_more f objects old new at named so added o place =
      added o place ∙ ap (λ b. b || (is_among (map object_of objects) o && i == place)) (so o place)
      ∙ below_more place (is_among (map object_of objects) o) o (λ same.
      ap (λ l. is_among l o) named ∙ sym (ap (λ found. option_map_or (λ g. is_among (named_in_formula g) o) found false) (ap (slice_get formulas) same ∙ at)))

  pub indexes_all : (t : PlacesByObject) → length formulas ≤ i → IndexesBelow formulas i t → Indexes formulas t
  indexes_all t past so o place =
      so o place
      ∙ elim (nat_lt place i) as (λ b. nat_lt place i ≡ b → (b && names_at o place) ≡ names_at o place) [
        | true ↦ λ _. refl
        | false ↦ λ beyond. sym (nowhere (slice_get formulas place) refl (ltb-false place i beyond))
      ] refl
    where
      nowhere : (found : Option task.Formula) → slice_get formulas place ≡ found → i ≤ place → option_map_or (λ f. is_among (named_in_formula f) o) found false ≡ false
      nowhere None _ _ = refl
      nowhere (Some f) at above = absurd (let within = slice_get_within formulas place f at in omega (arith, past, within, above))
